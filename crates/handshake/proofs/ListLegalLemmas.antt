-- The list of an attribute stays legal if a value is put into it, taken out or moved.
use Rattle.std.proofs.Common.{◌≡◌, ℕ, zero, suc, ◌<◌, ◌≤◌, nat_le, Bool, true, false, ◌&&◌, not, List, [], ◌∷◌, length, insert, remove, slice_get, ℤ, pos, negsuc, IsTrue, if◌then◌else◌, Some, None, refl, sym, ap, ◌∙◌, subst, arith}
use Rattle.std.specs.Prelude.{int_le}
use Rattle.std.specs.List.{AllByRecursion, IsDistinct, list_all}
use Rattle.std.proofs.lemmas.Bool.{and_from, and_parts, false≢true, or_parts}
use Rattle.std.proofs.lemmas.Bool.Decides.{nat_tests}
use Rattle.std.proofs.lemmas.Option.{none-some, same_Some}
use Rattle.mm_types.specs.Ends.{has_value}
use Rattle.mm_types.specs.Lookups as lookups
use Rattle.mm_types.specs.Resolved.{Metamodel}
use Rattle.mm_types.specs.Same.{is_nil, same_value}
use Rattle.mm_types.specs.Shapes.{Shape, is_bounded, is_full_list, shape}
use Rattle.mm_types.specs.declared.limits.TheConstants.{LIST_VALUES}
use Rattle.mm_types.specs.declared.numbers.ClassNo.{ClassNo}
use Rattle.mm_types.specs.declared.numbers.FeatureNo.{FeatureNo}
use Rattle.mm_types.specs.declared.value.Value.{Value}
use Rattle.mm_values.specs.Stored.{Stored, list_changed}
use Rattle.mm_types.specs.Lists.{put_back, values_after_move}
use Rattle.links.specs.LegalSets.{most}
use Rattle.models.specs.Legal.{IsLegalStored, IsUniqueList, is_legal_list, is_legal_value, is_short}
use Rattle.handshake.proofs.CutLinkEndLemmas.{same_value-symmetric}
use Rattle.handshake.proofs.LegalEndLemmas.{bounded-more, length-put, list_all-insert, single-of, taken_out}
use Rattle.doc_loader.proofs.TypedLemmas.{bounded-less}

---------------------------------------------------------------- lists that repeat nothing

all-insert : (P : Value → Type 0) (vs : List Value) (i : ℕ) (v : Value) → AllByRecursion P vs → P v → AllByRecursion P (insert vs i v)
all-insert P vs zero v all here = (here, all)
all-insert P [] (suc i) v all here = (here, tt)
all-insert P (w ∷ ws) (suc i) v all here = (all.0, all-insert P ws i v all.1 here)

all-remove : (P : Value → Type 0) (vs : List Value) (i : ℕ) → AllByRecursion P vs → AllByRecursion P (remove vs i)
all-remove P [] zero all = tt
all-remove P [] (suc i) all = tt
all-remove P (w ∷ ws) zero all = all.1
all-remove P (w ∷ ws) (suc i) all = (all.0, all-remove P ws i all.1)

all-get : (P : Value → Type 0) (vs : List Value) (i : ℕ) (v : Value) → AllByRecursion P vs → slice_get vs i ≡ Some v → P v
all-get P [] i v all h = absurd (none-some v h)
all-get P (w ∷ ws) zero v all h = subst P (same_Some w v h) all.0
all-get P (w ∷ ws) (suc i) v all h = all-get P ws i v all.1 h

abbrev Differs : Value → List Value → Type 0
Differs v vs = AllByRecursion (λ (w : Value). same_value v w ≡ false) vs

distinct-insert : (vs : List Value) (i : ℕ) (v : Value) → IsDistinct same_value vs → Differs v vs → IsDistinct same_value (insert vs i v)
unfolding IsDistinct
distinct-insert vs zero v distinct other = (other, distinct)
distinct-insert [] (suc i) v distinct other = (tt, tt)
distinct-insert (w ∷ ws) (suc i) v distinct other =
    (all-insert (λ x. same_value w x ≡ false) ws i v distinct.0 (same_value-symmetric w v ∙ other.0), distinct-insert ws i v distinct.1 other.1)

distinct-remove : (vs : List Value) (i : ℕ) → IsDistinct same_value vs → IsDistinct same_value (remove vs i)
unfolding IsDistinct
distinct-remove [] zero distinct = tt
distinct-remove [] (suc i) distinct = tt
distinct-remove (w ∷ ws) zero distinct = distinct.1
distinct-remove (w ∷ ws) (suc i) distinct = (all-remove (λ x. same_value w x ≡ false) ws i distinct.0, distinct-remove ws i distinct.1)

-- a value that is taken out differs from the remaining values
removed-differs : (vs : List Value) (i : ℕ) (v : Value) → IsDistinct same_value vs → slice_get vs i ≡ Some v → Differs v (remove vs i)
unfolding IsDistinct
removed-differs [] i v distinct h = absurd (none-some v h)
removed-differs (w ∷ ws) zero v distinct h = subst (λ (x : Value). Differs x ws) (same_Some w v h) distinct.0
removed-differs (w ∷ ws) (suc i) v distinct h = (same_value-symmetric v w ∙ all-get (λ x. same_value w x ≡ false) ws i v distinct.0 h, removed-differs ws i v distinct.1 h)

differs-from : (vs : List Value) (v : Value) → has_value vs v ≡ false → Differs v vs
differs-from [] v h = tt
differs-from (w ∷ ws) v h = let both = or_parts (same_value v w) (has_value ws v) h in (both.0, differs-from ws v both.1)

put_back-cases : (P : List Value → Type 0) (vs : List Value) (to from : ℕ) → P vs → ((v : Value) → slice_get vs from ≡ Some v → P (insert (remove vs from) to v)) → P (values_after_move vs to from)
put_back-cases P vs to from none some =
    elim (slice_get vs from) as (λ q. slice_get vs from ≡ q → P (put_back q vs to from)) [ None ↦ λ _. none | Some v ↦ λ h. some v h ] refl

---------------------------------------------------------------- legal lists

-- a list is legal if each value is legal, there are not too many, and a unique list has no repetitions
record IsLegalList (m : Metamodel) (c : ClassNo) (f : FeatureNo) (vs : List Value) : Type 0 where
  pub all : list_all (is_legal_value m f) vs ≡ true
  pub few : is_bounded (shape m f) (length vs) ≡ true
  pub unique : IsUniqueList (shape m f).is_unique vs

bounded-none : (a : Shape) → is_bounded a 0 ≡ true
bounded-none a = elim (int_le (pos 1) a.upper) as (λ b. int_le (pos 1) a.upper ≡ b → (nat_le 0 LIST_VALUES && (if b then int_le (pos 0) a.upper else true)) ≡ true) [
  | true ↦ λ one. none-below a.upper one
  | false ↦ λ _. refl
] refl
  where
    none-below : (u : ℤ) → int_le (pos 1) u ≡ true → int_le (pos 0) u ≡ true
    none-below (pos k) h = grind (arith, nat_tests)
    none-below (negsuc k) h = absurd (false≢true h)

list-of : (m : Metamodel) (c : ClassNo) (f : FeatureNo) (h : Stored) → IsLegalStored m c f h → IsLegalList m c f h.list
list-of m c f h legal = record { all = (by h.list legal.values).0; few = (by h.list legal.values).1; unique = legal.unique }
  where
    by : (vs : List Value) → IsTrue (is_legal_list m c f vs) → (list_all (is_legal_value m f) vs ≡ true) × (is_bounded (shape m f) (length vs) ≡ true)
    by [] q = (refl, bounded-none (shape m f))
    by (v ∷ vs) q = and_parts (list_all (is_legal_value m f) (v ∷ vs)) _ (and_parts (lookups.has_feature m c f) _ q).1

legal-list : (m : Metamodel) (c : ClassNo) (f : FeatureNo) (vs : List Value) → lookups.has_feature m c f ≡ true → IsLegalList m c f vs → IsTrue (is_legal_list m c f vs)
legal-list m c f [] has legal = refl
legal-list m c f (v ∷ vs) has legal = and_from _ _ has (and_from _ _ legal.all legal.few)

-- the flag of a list is off, whatever is in it
flag-many : (m : Metamodel) (f : FeatureNo) (b : Bool) (vs ws : List Value) → (shape m f).is_single ≡ false
    → b ≡ ((shape m f).is_unsettable && ((shape m f).is_single && not (is_nil vs))) → b ≡ ((shape m f).is_unsettable && ((shape m f).is_single && not (is_nil ws)))
flag-many m f b vs ws many h = h ∙ ap (λ x. (shape m f).is_unsettable && (x && not (is_nil vs))) many ∙ sym (ap (λ x. (shape m f).is_unsettable && (x && not (is_nil ws))) many)

changed-legal : (m : Metamodel) (c : ClassNo) (f : FeatureNo) (h : Stored) (g : List Value → List Value) → (shape m f).is_single ≡ false → lookups.has_feature m c f ≡ true → IsLegalStored m c f h
    → IsLegalList m c f (g h.list) → IsLegalStored m c f (list_changed g h)
changed-legal m c f h g many has legal list =
    record { values = legal-list m c f (g h.list) has list; unique = list.unique; flag = flag-many m f h.flag h.list (g h.list) many legal.flag }

unique-changed : (b : Bool) (vs ws : List Value) → (IsDistinct same_value vs → IsDistinct same_value ws) → IsUniqueList b vs → IsUniqueList b ws
unique-changed true vs ws distinct h = distinct h
unique-changed false vs ws distinct h = tt

unique-insert : (b : Bool) (vs : List Value) (i : ℕ) (v : Value) → (b && has_value vs v) ≡ false → IsUniqueList b vs → IsUniqueList b (insert vs i v)
unique-insert true vs i v new h = distinct-insert vs i v h (differs-from vs v new)
unique-insert false vs i v new h = tt

module _ (m : Metamodel) (c : ClassNo) (f : FeatureNo) (h : Stored) (many : (shape m f).is_single ≡ false) (has : lookups.has_feature m c f ≡ true) (legal : IsLegalStored m c f h) where
  abbrev held : IsLegalList m c f h.list
  held = list-of m c f h legal

  pub insert-legal : (i : ℕ) (v : Value) → lookups.keeps m f v ≡ true → is_short v ≡ true → is_full_list (shape m f) (length h.list) ≡ false → length h.list < most → ((shape m f).is_unique && has_value h.list v) ≡ false
      → IsLegalStored m c f (list_changed (λ vs. insert vs i v) h)
  insert-legal i v keeps short room low new =
      changed-legal m c f h (λ vs. insert vs i v) many has legal (record {
        all = list_all-insert (is_legal_value m f) h.list i v held.all (and_from _ _ keeps short);
        few = subst (λ (n : ℕ). is_bounded (shape m f) n ≡ true) (length-put h.list i v) (bounded-more (shape m f) (length h.list) (length h.list) (omega arith) low room (λ one. absurd (false≢true (sym many ∙ single-of m f one))));
        unique = unique-insert (shape m f).is_unique h.list i v new held.unique;
      })

  pub remove-legal : (i : ℕ) → IsLegalStored m c f (list_changed (λ vs. remove vs i) h)
  remove-legal i =
      changed-legal m c f h (λ vs. remove vs i) many has legal (record {
        all = all-true h.list i held.all;
        few = bounded-less (shape m f) (length (remove h.list i)) (length h.list) (fewer h.list i) held.few;
        unique = unique-changed (shape m f).is_unique h.list (remove h.list i) (distinct-remove h.list i) held.unique;
      })
    where
      all-true : (vs : List Value) (i : ℕ) → list_all (is_legal_value m f) vs ≡ true → list_all (is_legal_value m f) (remove vs i) ≡ true
      all-true [] zero q = refl
      all-true [] (suc i) q = refl
      all-true (w ∷ ws) zero q = (and_parts _ _ q).1
      all-true (w ∷ ws) (suc i) q = let both = and_parts _ _ q in and_from _ _ both.0 (all-true ws i both.1)

      fewer : (vs : List Value) (i : ℕ) → length (remove vs i) ≤ length vs
      fewer [] zero = omega arith
      fewer [] (suc i) = omega arith
      fewer (w ∷ ws) zero = omega arith
      fewer (w ∷ ws) (suc i) = let less = fewer ws i in omega (arith, less)

  pub move-legal : (to from : ℕ) → IsLegalStored m c f (list_changed (λ vs. values_after_move vs to from) h)
  move-legal to from = changed-legal m c f h (λ vs. values_after_move vs to from) many has legal (put_back-cases (IsLegalList m c f) h.list to from held moved)
    where
      moved : (v : Value) → slice_get h.list from ≡ Some v → IsLegalList m c f (insert (remove h.list from) to v)
      moved v at =
          let out = taken_out h.list from v at (is_legal_value m f) held.all in
          let same = sym (length-put (remove h.list from) to v) ∙ out.2 in
          record {
            all = list_all-insert (is_legal_value m f) (remove h.list from) to v out.1 out.0;
            few = subst (λ (n : ℕ). is_bounded (shape m f) n ≡ true) (sym same) held.few;
            unique = unique-changed (shape m f).is_unique h.list (insert (remove h.list from) to v) (λ d. distinct-insert (remove h.list from) to v (distinct-remove h.list from d) (removed-differs h.list from v d at)) held.unique;
          }
