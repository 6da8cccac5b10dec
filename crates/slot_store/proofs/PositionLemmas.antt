-- The position of a value, or of an end, that a search looks for.
use Rattle.std.proofs.Common.{◌≡◌, ℕ, ◌<◌, Bool, true, List, length, get_or, Option, Some, None, is_some, not, refl, sym, ap, ◌∙◌, subst, arith}
use Rattle.std.specs.List.{position, slice_get}
use Rattle.std.proofs.lemmas.Bool.{true≢false}
use Rattle.std.proofs.lemmas.List.Quantifiers.{position-Some}
use Rattle.std.proofs.lemmas.List.Sums.{fails_before_first}
use Rattle.std.proofs.lemmas.Option.{same_Some, slice_get-get_or, slice_get_within}
use Rattle.mm_types.proofs.SameLemmas.{same_end-self, same_end-true}
use Rattle.mm_types.specs.Same.{same_end, same_value}
use Rattle.mm_types.specs.SameValues.{same_value-self, same_value-true}
use Rattle.mm_types.specs.declared.end.End.{End}
use Rattle.mm_types.specs.declared.value.Value.{Value}
use Rattle.links.specs.LegalSets.{IsDistinct}
use Rattle.end_values.specs.EndValues.{is_value}
use Rattle.node_slots.proofs.SlotLemmas.{past_all}
use Rattle.slot_store.specs.CellLinks.{IsOnce}

-- a search by a test that finds equals
module _ {X : Type 0} (same : X → X → Bool) (self : (x : X) → same x x ≡ true) (equal : (x y : X) → same x y ≡ true → x ≡ y) where
  item_at : (xs : List X) (v : X) (i : ℕ) → position (same v) xs ≡ Some i → slice_get xs i ≡ Some v
  item_at xs v i h =
      let at = position-Some (same v) xs i v h in
      slice_get-get_or xs i v at.0 ∙ ap Some (sym (equal v (get_or xs i v) at.1))

  item_lacks : (xs : List X) (v : X) (k : ℕ) → position (same v) xs ≡ None → slice_get xs k ≡ Some v → ⊥
  item_lacks xs v k h at =
      let lt : k < length xs = slice_get_within xs k v at in
      let missed = fails_before_first (same v) xs k v (omega (arith, lt, past_all (same v) xs h)) in
      let is : get_or xs k v ≡ v = same_Some (get_or xs k v) v (sym (slice_get-get_or xs k v lt) ∙ at) in
      true≢false (sym (subst (λ (w : X). same v w ≡ true) (sym is) (self v)) ∙ missed)

  item_is : (xs : List X) (v : X) (k : ℕ) → ((i j : ℕ) (w : X) → slice_get xs i ≡ Some w → slice_get xs j ≡ Some w → i ≡ j) → slice_get xs k ≡ Some v → position (same v) xs ≡ Some k
  item_is xs v k distinct at = elim (position (same v) xs) as (λ o. position (same v) xs ≡ o → o ≡ Some k) [
    | None ↦ λ h. absurd (item_lacks xs v k h at)
    | Some i ↦ λ h. ap Some (distinct i k v (item_at xs v i h) at)
  ] refl

pub position_at : (xs : List Value) (v : Value) (i : ℕ) → position (same_value v) xs ≡ Some i → slice_get xs i ≡ Some v
position_at = item_at same_value same_value-self same_value-true

pub position_lacks : (xs : List Value) (v : Value) (k : ℕ) → position (same_value v) xs ≡ None → slice_get xs k ≡ Some v → ⊥
position_lacks = item_lacks same_value same_value-self same_value-true

-- a value that is found at an index is in the list
pub value_at : (v : Value) (xs : List Value) (i : ℕ) → is_value v (slice_get xs i) ≡ true → slice_get xs i ≡ Some v
value_at v xs i = at (slice_get xs i)
  where
    at : (o : Option Value) → is_value v o ≡ true → o ≡ Some v
    at None h = absurd (true≢false (sym h))
    at (Some w) h = ap Some (sym (same_value-true v w h))

-- in a list without repetitions the value is at the index that is found
pub position_is : (xs : List Value) (v : Value) (k : ℕ) → IsDistinct xs → slice_get xs k ≡ Some v → position (same_value v) xs ≡ Some k
position_is = item_is same_value same_value-self same_value-true

pub end_at : (ds : List End) (e : End) (i : ℕ) → position (same_end e) ds ≡ Some i → slice_get ds i ≡ Some e
end_at = item_at same_end same_end-self same_end-true

pub end_lacks : (ds : List End) (e : End) (k : ℕ) → position (same_end e) ds ≡ None → slice_get ds k ≡ Some e → ⊥
end_lacks = item_lacks same_end same_end-self same_end-true

-- the same for an end
pub end_is : (ds : List End) (e : End) (k : ℕ) → IsOnce ds → slice_get ds k ≡ Some e → position (same_end e) ds ≡ Some k
end_is = item_is same_end same_end-self same_end-true

-- an option that is said to be None is None
pub none_of : (o : Option ℕ) (b : Bool) → is_some o ≡ not b → b ≡ true → o ≡ None
none_of None b is h = refl
none_of (Some i) b is h = absurd (true≢false (is ∙ ap not h))
