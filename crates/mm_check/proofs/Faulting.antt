-- The conditions, one after another.
use Rattle.std.proofs.Common.{◌≡◌, ◌∙◌, ◌+◌, ◌<◌, ◌⊎◌, ℕ, zero, suc, arith, get_or, refl, subst, sym, ⊎_elim}
use Rattle.std.proofs.lemmas.Bool.{cases_order}
use Rattle.mm_types.specs.Faults.{condition_number}
use Rattle.mm_types.specs.Raw.{RawMetamodel}
use Rattle.mm_types.specs.WellFormed.{Applies, IsBefore, IsFirstFault, WellFormed}
use Rattle.mm_types.specs.declared.meta_fault.Condition.{Condition}
use Rattle.mm_types.specs.declared.meta_fault.Condition.TheVariants.{Name, DuplicateName, NoType, Cycle, Bounds, Opposite, BothContain, ContainerBound, Default}
use Rattle.mm_types.specs.declared.meta_fault.Place.{Place}
use Rattle.mm_types.proofs.FaultOrder.{conditions, same_condition}
use Rattle.mm_check.specs.Search.{IsFirstAt, NoneBelow}

number_low : (k : Condition) → condition_number k < 13
number_low Name = omega arith
number_low DuplicateName = omega arith
number_low NoType = omega arith
number_low Cycle = omega arith
number_low Bounds = omega arith
number_low Opposite = omega arith
number_low BothContain = omega arith
number_low ContainerBound = omega arith
number_low Default = omega arith

number_high : (k : Condition) → 4 < condition_number k + 1
number_high Name = omega arith
number_high DuplicateName = omega arith
number_high NoType = omega arith
number_high Cycle = omega arith
number_high Bounds = omega arith
number_high Opposite = omega arith
number_high BothContain = omega arith
number_high ContainerBound = omega arith
number_high Default = omega arith

-- the number of the condition at an index is the index plus 4
pub number_at : (i : ℕ) (d : Condition) → i < 9 → condition_number (get_or conditions i d) ≡ i + 4
number_at zero d h = refl
number_at (suc zero) d h = refl
number_at (suc (suc zero)) d h = refl
number_at (suc (suc (suc zero))) d h = refl
number_at (suc (suc (suc (suc zero)))) d h = refl
number_at (suc (suc (suc (suc (suc zero))))) d h = refl
number_at (suc (suc (suc (suc (suc (suc zero)))))) d h = refl
number_at (suc (suc (suc (suc (suc (suc (suc zero))))))) d h = refl
number_at (suc (suc (suc (suc (suc (suc (suc (suc zero)))))))) d h = refl
number_at (suc (suc (suc (suc (suc (suc (suc (suc (suc i))))))))) d h = absurd (omega arith)

pub none_yet : (raw : RawMetamodel) → NoneBelow raw 4
none_yet raw l q low h = absurd (let high = number_high l in omega arith)

-- a further condition applies nowhere
pub none_more : (raw : RawMetamodel) (k : Condition) (n m : ℕ) → condition_number k ≡ n → m ≡ n + 1 → NoneBelow raw n → ((p : Place) → Applies raw k p → ⊥) → NoneBelow raw m
none_more raw k n m number e none here l q low h = ⊎_elim
    (λ (same : condition_number l ≡ n). here q (subst (λ (j : Condition). Applies raw j q) (same_condition l k (same ∙ sym number)) h))
    (λ (s : (condition_number l < n) ⊎ (n < condition_number l)). ⊎_elim
    (λ (less : condition_number l < n). none l q less h)
    (λ (more : n < condition_number l). omega arith) s)
    (cases_order (condition_number l) n)

pub well_formed : (raw : RawMetamodel) (n : ℕ) → 13 < n + 1 → NoneBelow raw n → WellFormed raw
well_formed raw n high none k p h = none k p (let low = number_low k in omega arith) h

-- the first place of the first condition that applies
pub first_fault : (raw : RawMetamodel) (k : Condition) (p : Place) (n : ℕ) → condition_number k ≡ n → NoneBelow raw n → IsFirstAt raw k p → IsFirstFault raw k p
first_fault raw k p n number none first = record {
  applies = first.applies;
  none_earlier = λ l q h e. ⊎_elim
      (λ (lower : condition_number l < condition_number k). none l q (omega arith) h)
      (λ (s : (l ≡ k) × IsBefore q p). first.none_before q (subst (λ (j : Condition). Applies raw j q) s.0 h) s.1) e;
}
