-- Facts about the adapters when one more is attached.
use Rattle.std.proofs.Common.{◌≡◌, ℕ, false, nat_eq, List, [], ◌∷◌, ◌++◌, map, arith}
use Rattle.std.specs.List.{AllByRecursion, IsDistinct, list_any}
use Rattle.std.proofs.lemmas.Bool.{or_parts}
use Rattle.std.proofs.lemmas.Bool.Decides.{nat_tests}
use Rattle.mm_types.specs.declared.numbers.AdapterNo.{AdapterNo}
use Rattle.notice_chain.specs.Listed.{HasDistinctNumbers, Listed, has_no, same_no}

numbers : List Listed → List AdapterNo
numbers rs = map (λ r. r.no) rs

apart-push : (number : AdapterNo) (rs : List Listed) (r : Listed) → AllByRecursion (λ y. same_no number y ≡ false) (numbers rs) → same_no number r.no ≡ false → AllByRecursion (λ y. same_no number y ≡ false) (numbers (rs ++ r ∷ []))
unfolding numbers
apart-push number [] r a h = (h, tt)
apart-push number (s ∷ rs) r a h = (a.0, apart-push number rs r a.1 h)

flipped : (m n : ℕ) → nat_eq m n ≡ false → nat_eq n m ≡ false
flipped m n h = grind (arith, nat_tests)

pub distinct-push : (rs : List Listed) (r : Listed) → HasDistinctNumbers rs → list_any (has_no r.no) rs ≡ false → HasDistinctNumbers (rs ++ r ∷ [])
unfolding IsDistinct numbers
distinct-push [] r d h = (tt, tt)
distinct-push (s ∷ rs) r d h =
    let both = or_parts (has_no r.no s) (list_any (has_no r.no) rs) h in
    (apart-push s.no rs r d.0 (flipped r.no.0 s.no.0 both.0), distinct-push rs r d.1 both.1)
