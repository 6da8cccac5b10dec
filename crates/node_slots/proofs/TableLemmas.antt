-- The rows by number after a write to one row, or with one more row.
use Rattle.std.proofs.Common.{◌≡◌, ◌≢◌, ℕ, zero, suc, ◌+◌, ◌<◌, ◌≤◌, ◌⊎◌, List, [], ◌∷◌, ◌++◌, length, get_or, set, Option, Some, None, refl, sym, ap, ◌∙◌, subst, inl, inr, arith}
use Rattle.std.specs.List.{slice_get}
use Rattle.std.proofs.lemmas.Bool.{cases_eq}
use Rattle.std.proofs.lemmas.List.{length-append}
use Rattle.std.proofs.lemmas.Option.{same_Some, slice_get-get_or}
use Rattle.links.proofs.ListLemmas.{slice_get-push, slice_get-push_below}
use Rattle.node_slots.specs.declared.row.Row.{Row}
use Rattle.node_slots.specs.declared.row.RowEdit.{RowEdit}
use Rattle.node_slots.specs.Rows.{AreRowsEdited, AreRowsGrown, AreRowsReordered, IsRowEdited, IsRowGrown, IsRowReordered}
use Rattle.node_slots.specs.Tables.{ArePlaces, Table, place_at, row_index_at, row_from, row_in}
use Rattle.node_slots.proofs.RowLemmas.{row_same, row_unmoved}

slice_get-set : {X : Type 0} (xs : List X) (i : ℕ) (x : X) → i < length xs → slice_get (set xs i x) i ≡ Some x
slice_get-set [] i x lt = absurd (omega (arith, lt))
slice_get-set (y ∷ xs) zero x lt = refl
slice_get-set (y ∷ xs) (suc i) x lt = slice_get-set xs i x (omega (arith, lt))

slice_get-set_other : {X : Type 0} (xs : List X) (i j : ℕ) (x : X) → j ≢ i → slice_get (set xs i x) j ≡ slice_get xs j
slice_get-set_other [] i j x ne = refl
slice_get-set_other (y ∷ xs) zero zero x ne = absurd (ne refl)
slice_get-set_other (y ∷ xs) zero (suc j) x ne = refl
slice_get-set_other (y ∷ xs) (suc i) zero x ne = refl
slice_get-set_other (y ∷ xs) (suc i) (suc j) x ne = slice_get-set_other xs i j x (λ e. ne (ap suc e))

---------------------------------------------------------------- entries of zero

-- one more zero is no index
pub row_index_at-zero : (ps : List ℕ) (n : ℕ) → row_index_at (ps ++ 0 ∷ []) n ≡ row_index_at ps n
row_index_at-zero [] zero = refl
row_index_at-zero [] (suc n) = refl
row_index_at-zero (p ∷ ps) zero = refl
row_index_at-zero (p ∷ ps) (suc n) = row_index_at-zero ps n

---------------------------------------------------------------- a row written

-- the row r that was read at the index k of number n is written as s
module _ (ps : List ℕ) (rs : List Row) (n k : ℕ) (r s : Row) (ok : ArePlaces ps (length rs)) (at : row_index_at ps n ≡ Some k) (read : r ≡ get_or rs k r) where
  abbrev old : Table
  old = record { places = ps; rows = rs }

  abbrev new : Table
  new = record { places = ps; rows = set rs k s }

  pub in_range : k < length rs
  in_range = ok.within n k at

  pub was : row_in old n ≡ Some r
  was = ap (row_from rs) at ∙ slice_get-get_or rs k r in_range ∙ ap Some (sym read)

  pub is_now : row_in new n ≡ Some s
  is_now = ap (row_from (set rs k s)) at ∙ slice_get-set rs k s in_range

  pub others : (m : ℕ) → m ≢ n → row_in new m ≡ row_in old m
  others m ne = elim (row_index_at ps m) as (λ o. row_index_at ps m ≡ o → row_from (set rs k s) o ≡ row_from rs o) [
    | None ↦ λ q. refl
    | Some j ↦ λ q. slice_get-set_other rs k j s (λ e. ne (ok.apart m n k (q ∙ ap Some e) at))
  ] refl

  pub written_edited : (x : RowEdit) → IsRowEdited x (Some r) (Some s) → AreRowsEdited n x (row_in old) (row_in new)
  written_edited x h = record {
    here = subst (λ (o : Option Row). IsRowEdited x o (row_in new n)) (sym was) (subst (λ (o : Option Row). IsRowEdited x (Some r) o) (sym is_now) h);
    others = others;
  }

  pub written_grown : IsRowGrown (Some r) (Some s) → AreRowsGrown (row_in old) (row_in new)
  written_grown h m = elim (cases_eq m n) [
    | inl is ↦ subst (λ i. IsRowGrown (row_in old i) (row_in new i)) (sym is) (subst (λ (o : Option Row). IsRowGrown o (row_in new n)) (sym was) (subst (λ (o : Option Row). IsRowGrown (Some r) o) (sym is_now) h))
    | inr ne ↦ subst (λ (o : Option Row). IsRowGrown (row_in old m) o) (sym (others m ne)) (row_same (row_in old m))
  ]

  pub written_reordered : IsRowReordered (Some r) (Some s) → AreRowsReordered (row_in old) (row_in new)
  written_reordered h m = elim (cases_eq m n) [
    | inl is ↦ subst (λ i. IsRowReordered (row_in old i) (row_in new i)) (sym is) (subst (λ (o : Option Row). IsRowReordered o (row_in new n)) (sym was) (subst (λ (o : Option Row). IsRowReordered (Some r) o) (sym is_now) h))
    | inr ne ↦ subst (λ (o : Option Row). IsRowReordered (row_in old m) o) (sym (others m ne)) (row_unmoved (row_in old m))
  ]

  pub written_more : (P : Option Row → ℕ) → P (Some r) + 1 ≤ P (Some s) → P (row_in old n) + 1 ≤ P (row_in new n)
  written_more P more =
      let before = ap P was in
      let after = ap P is_now in
      omega (arith, before, after)

---------------------------------------------------------------- one more row

-- the number n, which has no row, is given the row r, at the index k
module _ (ps : List ℕ) (rs : List Row) (n k : ℕ) (r : Row) (t : Table) (view : record { places = ps; rows = rs } ≡ t) (ok : ArePlaces ps (length rs)) (in_range : n < length t.places) (none : row_index_at t.places n ≡ None) (last : k ≡ length rs) where
  abbrev qs : List ℕ
  qs = set ps n (k + 1)

  abbrev before : Table
  before = record { places = ps; rows = rs }

  abbrev after : Table
  after = record { places = qs; rows = rs ++ r ∷ [] }

  pub place_made : row_index_at qs n ≡ Some k
  place_made =
      let same = ap (λ (x : Table). length x.places) view in
      let within : n < length ps = omega (arith, same, in_range) in
      let above : k + 1 ≡ suc k = omega arith in
      ap place_at (slice_get-set ps n (k + 1) within ∙ ap Some above)

  place_else : (m : ℕ) → m ≢ n → row_index_at qs m ≡ row_index_at ps m
  place_else m ne = ap place_at (slice_get-set_other ps n m (k + 1) ne)

  -- the index of a number is the new one, or an old one
  from_place : (m j : ℕ) → row_index_at qs m ≡ Some j → ((m ≡ n) × (j ≡ length rs)) ⊎ ((row_index_at ps m ≡ Some j) × (j < length rs))
  from_place m j h = elim (cases_eq m n) [
    | inl is ↦ inl (is, same_Some j k (sym h ∙ ap (row_index_at qs) is ∙ place_made) ∙ last)
    | inr ne ↦ let old = sym (place_else m ne) ∙ h in inr (old, ok.within m j old)
  ]

  pub pushed_places : ArePlaces qs (length (rs ++ r ∷ []))
  pushed_places = record {
    within = λ m j h. elim (from_place m j h) [
      | inl new ↦ let is = new.1 in omega (arith, is, length-append rs (r ∷ []))
      | inr was ↦ let lt = was.1 in omega (arith, lt, length-append rs (r ∷ []))
    ];
    apart = λ l m j a b. elim (from_place l j a) [
      | inl new ↦ elim (from_place m j b) [
        | inl too ↦ new.0 ∙ sym too.0
        | inr was ↦ let is = new.1 in let lt = was.1 in absurd (omega (arith, is, lt))
      ]
      | inr was ↦ elim (from_place m j b) [
        | inl new ↦ let is = new.1 in let lt = was.1 in absurd (omega (arith, is, lt))
        | inr too ↦ ok.apart l m j was.0 too.0
      ]
    ];
  }

  row_kept : (o : Option ℕ) → ((j : ℕ) → o ≡ Some j → j < length rs) → row_from (rs ++ r ∷ []) o ≡ row_from rs o
  row_kept None h = refl
  row_kept (Some j) h = slice_get-push_below rs r j (h j refl)

  here_now : row_in after n ≡ Some r
  here_now = ap (row_from (rs ++ r ∷ [])) (place_made ∙ ap Some last) ∙ slice_get-push rs r

  pub pushed_grown : IsRowGrown None (Some r) → AreRowsGrown (row_in before) (row_in after)
  pushed_grown made m = elim (cases_eq m n) [
    | inl is ↦ subst (λ i. IsRowGrown (row_in before i) (row_in after i)) (sym is) (subst (λ (o : Option Row). IsRowGrown o (row_in after n)) (sym (ap (λ (x : Table). row_in x n) view ∙ ap (row_from t.rows) none)) (subst (λ (o : Option Row). IsRowGrown None o) (sym here_now) made))
    | inr ne ↦
        let same : row_in after m ≡ row_in before m = ap (row_from (rs ++ r ∷ [])) (place_else m ne) ∙ row_kept (row_index_at ps m) (ok.within m) in
        subst (λ (o : Option Row). IsRowGrown (row_in before m) o) (sym same) (row_same (row_in before m))
  ]
