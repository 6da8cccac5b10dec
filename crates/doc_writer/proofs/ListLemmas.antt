-- What is asked of the objects at an end, and of what two tests leave of a list.
use Rattle.std.proofs.Common.{◌≡◌, ℕ, ◌+◌, ◌<◌, ◌≤◌, ◌&&◌, ◌||◌, Bool, true, false, cond, List, [], ◌∷◌, length, drop, filter, slice_get, slice_index_or, Option, refl, sym, ap, ◌∙◌}
use Rattle.std.specs.Prelude.{option_and_then}
use Rattle.std.specs.List.{list_any}
use Rattle.std.specs.Option.{option_map_or}
use Rattle.std.proofs.lemmas.List.{drop_all, drop_more}
use Rattle.std.proofs.lemmas.Option.{slice_get-get_or}
use Rattle.mm_types.specs.declared.numbers.ObjectNo.{ObjectNo}
use Rattle.mm_types.specs.declared.value.Value.{Value}
use Rattle.mm_types.specs.declared.value.Value.TheVariants as value
use Rattle.models.specs.Reading.{object_of, objects_of}

any-first : (p : ObjectNo → Bool) (v : Value) (vs : List Value) → list_any p (objects_of (v ∷ vs)) ≡ (option_map_or p (object_of v) false || list_any p (objects_of vs))
any-first p (value.Object o) vs = refl
any-first p _ vs = refl

-- the object at an index, and those after it
any-at : (p : ObjectNo → Bool) (vs : List Value) (k : ℕ) → k < length vs
    → list_any p (objects_of (drop k vs)) ≡ (option_map_or p (option_and_then object_of (slice_get vs k)) false || list_any p (objects_of (drop (k + 1) vs)))
any-at p vs k low =
    ap (λ (ws : List Value). list_any p (objects_of ws)) (drop_more vs k value.Null low)
    ∙ any-first p (slice_index_or vs k value.Null) (drop (k + 1) vs)
    ∙ ap (λ (x : Option Value). option_map_or p (option_and_then object_of x) false || list_any p (objects_of (drop (k + 1) vs))) (sym (slice_get-get_or vs k value.Null low))

pub any-here : (p : ObjectNo → Bool) (vs : List Value) (k : ℕ) (b : Bool) → k < length vs → b ≡ option_map_or p (option_and_then object_of (slice_get vs k)) false → b ≡ true
    → list_any p (objects_of (drop k vs)) ≡ list_any p (objects_of vs) → true ≡ list_any p (objects_of vs)
any-here p vs k b low is holds whole = sym (any-at p vs k low ∙ ap (λ (c : Bool). c || list_any p (objects_of (drop (k + 1) vs))) (sym is ∙ holds)) ∙ whole

pub any-on : (p : ObjectNo → Bool) (vs : List Value) (k : ℕ) (b : Bool) → k < length vs → b ≡ option_map_or p (option_and_then object_of (slice_get vs k)) false → b ≡ false
    → list_any p (objects_of (drop k vs)) ≡ list_any p (objects_of vs) → list_any p (objects_of (drop (k + 1) vs)) ≡ list_any p (objects_of vs)
any-on p vs k b low is other whole = sym (any-at p vs k low ∙ ap (λ (c : Bool). c || list_any p (objects_of (drop (k + 1) vs))) (sym is ∙ other)) ∙ whole

pub any-end : (p : ObjectNo → Bool) (vs : List Value) (k : ℕ) → length vs ≤ k → list_any p (objects_of (drop k vs)) ≡ list_any p (objects_of vs) → false ≡ list_any p (objects_of vs)
any-end p vs k past whole = sym (ap (λ (ws : List Value). list_any p (objects_of ws)) (drop_all k vs past)) ∙ whole

---------------------------------------------------------------- two tests

one-test : {X : Type 0} (q p : X → Bool) (xs : List X) → list_any p (filter q xs) ≡ list_any (λ x. q x && p x) xs
one-test q p [] = refl
one-test q p (x ∷ xs) =
    elim (q x) as (λ b. list_any p (cond b (x ∷ filter q xs) (filter q xs)) ≡ ((b && p x) || list_any (λ y. q y && p y) xs)) [
      | true ↦ ap (λ (c : Bool). p x || c) (one-test q p xs)
      | false ↦ one-test q p xs
    ]

pub two-tests : {X : Type 0} (w q p : X → Bool) (xs : List X) → list_any (λ x. w x && (q x && p x)) xs ≡ list_any p (filter q (filter w xs))
two-tests w q p xs = sym (one-test q p (filter w xs) ∙ one-test w (λ x. q x && p x) xs)
