-- The pieces of a list after an edit.
use Rattle.std.proofs.Common.{◌≡◌, ℕ, ◌+◌, ◌-◌, ◌*◌, ◌/◌, ◌%◌, ◌<◌, ◌≤◌, ◌≢◌, inl, inr, List, [], length, get_or, set, sym, ◌∙◌, ap, subst, arith, length-set}
use Rattle.std.proofs.lemmas.List.{get_or-set_same, get_or-set_other, get_or_default}
use Rattle.std.proofs.lemmas.List.Edits.{length-insert, length-remove}
use Rattle.std.proofs.lemmas.Bool.{cases_eq}
use Rattle.std.specs.List.{insert, remove, slice_get}
use Rattle.slot_lists.specs.Places.{Places}
use Rattle.slot_lists.specs.Pieces.{joined_values, IsFilled, HasHole}
use Rattle.slot_lists.specs.Layout.{places_in, IsLaidOut}
use Rattle.slot_lists.proofs.PieceLemmas.{FullBefore, joined_values-insert, joined_values-remove, joined_values-get, length-joined_values}

-- the fields, by the view
pub len-view : {T : Type 0} (cs : List (List T)) (n : ℕ) (v : Places T) → IsLaidOut cs n → places_in cs n ≡ v → length v.items ≡ n
len-view cs n v l e = sym (ap (λ w. length w.items) e) ∙ length-joined_values n cs l.filled l.in_range

pub spare-view : {T : Type 0} (cs : List (List T)) (n : ℕ) (v : Places T) → places_in cs n ≡ v → v.spare ≡ 1024 * length cs - n
spare-view cs n v e = sym (ap (λ w. w.spare) e)

-- the value at p has a piece and an index in it
pub record InPiece {T : Type 0} (cs : List (List T)) (p : ℕ) : Type 0 where
  pub piece : p / 1024 < length cs
  pub place : p % 1024 < length (get_or cs (p / 1024) [])
  pub before : FullBefore (p / 1024) cs

pub in_piece : {T : Type 0} (n p : ℕ) (cs : List (List T)) → IsFilled n cs → n ≤ 1024 * length cs → p < n → InPiece cs p
in_piece n p cs f le lt = record {
  piece = omega arith;
  place = let here = f (p / 1024) in omega arith;
  before = λ j h. let there = f j in omega arith;
}

-- a piece was written
written : {T : Type 0} (cs : List (List T)) (k j : ℕ) (xs : List T) → j ≢ k → get_or (set cs k xs) j [] ≡ get_or cs j []
written cs k j xs ne = get_or-set_other cs k j xs [] ne

pub record Taken {T : Type 0} (n p : ℕ) (cs new : List (List T)) : Type 0 where
  pub hole : HasHole n (p / 1024) new
  pub values : joined_values new ≡ remove (joined_values cs) p
  pub count : length new ≡ length cs

pub taken : {T : Type 0} (n p : ℕ) (cs : List (List T)) (x : List T) → IsFilled n cs → n ≤ 1024 * length cs → p < n → x ≡ get_or cs (p / 1024) x → Taken n p cs (set cs (p / 1024) (remove x (p % 1024)))
taken {T} n p cs x f le lt is =
    let k = p / 1024 in
    let at = in_piece n p cs f le lt in
    let same : x ≡ get_or cs k [] = is ∙ get_or_default cs k x [] at.piece in
    let short = length-remove (get_or cs k []) (p % 1024) at.place in
    rw same
    (record {
      hole = record {
        hole = ap (λ (q : List T). length q + 1) (get_or-set_same cs k (remove (get_or cs k []) (p % 1024)) [] at.piece) ∙ short ∙ f k;
        others = λ j ne. ap length (written cs k j (remove (get_or cs k []) (p % 1024)) ne) ∙ f j;
      };
      values = joined_values-remove cs k (p % 1024) p at.piece at.before at.place (omega arith);
      count = length-set cs k _;
    })

pub record Put {T : Type 0} (n p : ℕ) (v : T) (cs new : List (List T)) : Type 0 where
  pub filled : IsFilled n new
  pub values : joined_values new ≡ insert (joined_values cs) p v
  pub count : length new ≡ length cs

-- there is a free slot in the piece that lacks a value
pub record HasPlace {T : Type 0} (p : ℕ) (x : List T) : Type 0 where
  pub place : p % 1024 ≤ length x
  pub room : length x < 1024

pub has_place : {T : Type 0} (n p : ℕ) (cs : List (List T)) (x : List T) → HasHole n (p / 1024) cs → n ≤ 1024 * length cs → p < n → x ≡ get_or cs (p / 1024) x → HasPlace p x
has_place {T} n p cs x m le lt is =
    let k = p / 1024 in
    let inside : k < length cs = omega arith in
    let same : x ≡ get_or cs k [] = is ∙ get_or_default cs k x [] inside in
    let here = m.hole in
    let long : length x ≡ length (get_or cs k []) = ap length same in
    record { place = omega arith; room = omega arith }

pub put : {T : Type 0} (n p : ℕ) (cs : List (List T)) (x : List T) (v : T) → HasHole n (p / 1024) cs → n ≤ 1024 * length cs → p < n → x ≡ get_or cs (p / 1024) x → Put n p v cs (set cs (p / 1024) (insert x (p % 1024) v))
put {T} n p cs x v m le lt is =
    let k = p / 1024 in
    let inside : k < length cs = omega arith in
    let same : x ≡ get_or cs k [] = is ∙ get_or_default cs k x [] inside in
    let at = has_place n p cs x m le lt is in
    let place : p % 1024 ≤ length (get_or cs k []) = subst (λ (q : List T). p % 1024 ≤ length q) same at.place in
    let long = length-insert (get_or cs k []) (p % 1024) v place in
    let before : FullBefore k cs = λ j h. let there = m.others j (omega arith) in omega arith in
    rw same
    (record {
      filled = λ j. elim (cases_eq j k) [
        | inl e ↦ rw (e, get_or-set_same cs k (insert (get_or cs k []) (p % 1024) v) [] inside) (long ∙ m.hole)
        | inr ne ↦ ap length (written cs k j (insert (get_or cs k []) (p % 1024) v) ne) ∙ m.others j ne
      ];
      values = joined_values-insert cs k (p % 1024) p v inside before place (omega arith);
      count = length-set cs k _;
    })

-- a read at p in the pieces is a read in the list of all values
pub read_at : {T : Type 0} (n p : ℕ) (cs : List (List T)) (x : List T) (v : Places T) → IsLaidOut cs n → places_in cs n ≡ v → p < n → x ≡ get_or cs (p / 1024) x → slice_get x (p % 1024) ≡ slice_get v.items p
read_at n p cs x v l e lt is =
    let at = in_piece n p cs l.filled l.in_range lt in
    let same : x ≡ get_or cs (p / 1024) [] = is ∙ get_or_default cs (p / 1024) x [] at.piece in
    ap (λ q. slice_get q (p % 1024)) same ∙ joined_values-get cs (p / 1024) (p % 1024) p at.piece at.before at.place (omega arith) ∙ ap (λ w. slice_get w.items p) e

pub long_at : {T : Type 0} (n p : ℕ) (cs : List (List T)) (x : List T) → IsLaidOut cs n → p < n → x ≡ get_or cs (p / 1024) x → p % 1024 < length x
long_at {T} n p cs x l lt is =
    let at = in_piece n p cs l.filled l.in_range lt in
    let same : x ≡ get_or cs (p / 1024) [] = is ∙ get_or_default cs (p / 1024) x [] at.piece in
    subst (λ (q : List T). p % 1024 < length q) (sym same) at.place

-- there is a free slot for one more value after the last
pub opened : {T : Type 0} (n : ℕ) (cs : List (List T)) → IsFilled n cs → HasHole (n + 1) (n / 1024) cs
opened n cs f = record {
  hole = let here = f (n / 1024) in omega arith;
  others = λ j ne. let there = f j in omega arith;
}

-- the last value is taken out
pub closed : {T : Type 0} (n m : ℕ) (cs : List (List T)) → n ≡ m + 1 → HasHole n (m / 1024) cs → IsFilled m cs
closed n m cs e h = λ j. elim (cases_eq j (m / 1024)) [
  | inl at ↦ let here = h.hole in rw at (omega arith)
  | inr ne ↦ let there = h.others j ne in omega arith
]

-- the same edits, if the piece that was written has a name
pub taken_as : {T : Type 0} (n p : ℕ) (cs : List (List T)) (x ps : List T) → IsLaidOut cs n → p < n → x ≡ get_or cs (p / 1024) x → ps ≡ remove x (p % 1024) → Taken n p cs (set cs (p / 1024) ps)
taken_as {T} n p cs x ps l lt is e = subst (λ (q : List T). Taken n p cs (set cs (p / 1024) q)) (sym e) (taken n p cs x l.filled l.in_range lt is)

pub put_as : {T : Type 0} (n p : ℕ) (cs : List (List T)) (x ps : List T) (v : T) → HasHole n (p / 1024) cs → n ≤ 1024 * length cs → p < n → x ≡ get_or cs (p / 1024) x → ps ≡ insert x (p % 1024) v → Put n p v cs (set cs (p / 1024) ps)
put_as {T} n p cs x ps v m le lt is e = subst (λ (q : List T). Put n p v cs (set cs (p / 1024) q)) (sym e) (put n p cs x v m le lt is)
