-- A free slot that moves through a row of pieces.
use Rattle.std.proofs.Common.{◌≡◌, ℕ, ◌+◌, ◌<◌, ◌≢◌, inl, inr, List, [], ◌∷◌, ◌++◌, length, get_or, set, sym, ◌∙◌, ap, subst, arith, add-one, length-set}
use Rattle.std.proofs.lemmas.List.{get_or-set_same, get_or-set_other, get_or_default, length_push}
use Rattle.std.proofs.lemmas.Bool.{cases_eq}
use Rattle.slot_lists.specs.Pieces.{joined_values, HasHole}
use Rattle.slot_lists.proofs.PieceLemmas.{joined_values-lower, joined_values-raise}

pub record HoleAt {T : Type 0} (n h : ℕ) (old cs : List (List T)) : Type 0 where
  pub count : length cs ≡ length old
  pub values : joined_values cs ≡ joined_values old
  pub hole : HasHole n h cs

-- the i-th piece has one value more, and the j-th piece one value less
pub hole-moved : {T : Type 0} (n i j : ℕ) (cs : List (List T)) (ps qs : List T) → i ≢ j → i < length cs → j < length cs → HasHole n i cs → length ps ≡ length (get_or cs i []) + 1 → length qs + 1 ≡ length (get_or cs j []) → HasHole n j (set (set cs j qs) i ps)
hole-moved {T} n i j cs ps qs ne li lj m lp lq =
    let nej : j ≢ i = λ e. ne (sym e) in
    let li' : i < length (set cs j qs) = omega (arith, length-set cs j qs) in
    record {
      hole = rw (get_or-set_other (set cs j qs) i j ps [] nej, get_or-set_same cs j qs [] lj) (lq ∙ m.others j nej);
      others = λ k nk. elim (cases_eq k i) [
        | inl e ↦ rw (e, get_or-set_same (set cs j qs) i ps [] li') (lp ∙ m.hole)
        | inr nei ↦ rw (get_or-set_other (set cs j qs) i k ps [] nei, get_or-set_other cs j k qs [] nk) (m.others k nei)
      ];
    }

-- the first value of the next piece comes into the free slot
pub hole-raised : {T : Type 0} (n h : ℕ) (old cs : List (List T)) (d e : List T) (y : T) (ys ps : List T) → h + 1 < length cs → HoleAt n h old cs → get_or cs (h + 1) d ≡ y ∷ ys → ps ≡ get_or (set cs (h + 1) ys) h e ++ y ∷ [] → HoleAt n (h + 1) old (set (set cs (h + 1) ys) h ps)
hole-raised {T} n h old cs d e y ys ps lt m eq is =
    let next : get_or cs (h + 1) [] ≡ y ∷ ys = get_or_default cs (h + 1) [] d lt ∙ eq in
    let ne : h ≢ h + 1 = omega arith in
    let in_h : h < length cs = omega arith in
    let here : ps ≡ get_or cs h [] ++ y ∷ [] = is ∙ ap (λ (p : List T). p ++ y ∷ []) (get_or-set_other cs (h + 1) h ys e ne ∙ get_or_default cs h e [] in_h) in
    record {
      count = length-set (set cs (h + 1) ys) h ps ∙ length-set cs (h + 1) ys ∙ m.count;
      values = rw (here, add-one) (joined_values-lower cs h y ys (omega arith) (rw add-one at next)) ∙ m.values;
      hole = hole-moved n h (h + 1) cs ps ys ne in_h lt m.hole (ap length here ∙ length_push (get_or cs h []) y) (add-one (length ys) ∙ sym (ap length next));
    }

-- the last value of the piece before comes into the free slot
pub hole-lowered : {T : Type 0} (n h : ℕ) (old cs : List (List T)) (d e : List T) (y : T) (ys ps : List T) → h + 1 < length cs → HoleAt n (h + 1) old cs → get_or cs h d ≡ ys ++ y ∷ [] → ps ≡ y ∷ get_or (set cs h ys) (h + 1) e → HoleAt n h old (set (set cs h ys) (h + 1) ps)
hole-lowered {T} n h old cs d e y ys ps lt m eq is =
    let in_h : h < length cs = omega arith in
    let before : get_or cs h [] ≡ ys ++ y ∷ [] = get_or_default cs h [] d in_h ∙ eq in
    let ne : h + 1 ≢ h = omega arith in
    let here : ps ≡ y ∷ get_or cs (h + 1) [] = is ∙ ap (λ (p : List T). y ∷ p) (get_or-set_other cs h (h + 1) ys e ne ∙ get_or_default cs (h + 1) e [] lt) in
    record {
      count = length-set (set cs h ys) (h + 1) ps ∙ length-set cs h ys ∙ m.count;
      values = rw (here, add-one) (joined_values-raise cs h ys y (omega arith) before) ∙ m.values;
      hole = hole-moved n (h + 1) h cs ps ys ne lt in_h m.hole (ap length here ∙ sym (add-one (length (get_or cs (h + 1) [])))) (sym (length_push ys y) ∙ sym (ap length before));
    }

-- the same, if the index of the free slot has a name of its own
pub hole-lowered_from : {T : Type 0} (n h k : ℕ) (old cs : List (List T)) (d e : List T) (y : T) (ys ps : List T) → h + 1 ≡ k → k < length cs → HoleAt n k old cs → get_or cs h d ≡ ys ++ y ∷ [] → ps ≡ y ∷ get_or (set cs h ys) k e → HoleAt n h old (set (set cs h ys) k ps)
hole-lowered_from {T} n h k old cs d e y ys ps at lt m eq is =
    let P : ℕ → Type 0 = λ j. j < length cs → HoleAt n j old cs → ps ≡ y ∷ get_or (set cs h ys) j e → HoleAt n h old (set (set cs h ys) j ps) in
    subst P at (λ (lt' : h + 1 < length cs) (m' : HoleAt n (h + 1) old cs) (is' : ps ≡ y ∷ get_or (set cs h ys) (h + 1) e). hole-lowered n h old cs d e y ys ps lt' m' eq is') lt m is
