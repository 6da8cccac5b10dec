-- The values of an end, by the values that are kept for it.
use Rattle.std.proofs.Common.{◌≡◌, ◌&&◌, Bool, true, false, List, [], ◌∷◌, if◌then◌else◌, refl, ℕ, suc, ◌+◌, ◌||◌, not, cond, length, nat_lt, Option, Some, None, option_map, is_some, slice_get, ap, sym, ◌∙◌, arith}
use Rattle.std.specs.Option.{option_map_or}
use Rattle.mm_types.specs.Shapes.{Shape}
use Rattle.models.specs.Model.{attribute_values}
use Rattle.mm_types.specs.Ends.{is_set, shown_values, value_in}
use Rattle.mm_types.specs.Same.{is_nil, same_value}
use Rattle.mm_types.specs.SameValues.{same_value-self}
use Rattle.mm_types.specs.declared.value.Value.{Value}
use Rattle.std.specs.List.{list_any, position_or_len}
use Rattle.std.specs.Str.{bytes_eq}
use Rattle.models.specs.Reading.{Reading, has_uri, resource_named}
use Rattle.models.proofs.PlaceLemmas.{zero-below}
use Rattle.std.proofs.lemmas.Bool.Decides.{nat_tests}

pub value_in_shown : (single : Bool) (v : Value) (vs : List Value) → value_in (shown_values single (v ∷ vs)) 0 ≡ v
value_in_shown true v vs = refl
value_in_shown false v vs = refl

pub is_nil_shown : (vs : List Value) → is_nil (shown_values false vs) ≡ is_nil vs
is_nil_shown vs = refl

-- the values of an attribute, by whether it has its default
pub attribute_values_by : (a : Shape) (vs : List Value) → attribute_values a vs ≡ (if is_nil vs && a.is_single then a.default ∷ [] else vs)
attribute_values_by a [] = refl
attribute_values_by a (v ∷ vs) = refl

-- whether a single attribute is set is read from its own value, if it has one
pub set_by : (a : Shape) (vs : List Value) (flag : Bool) (o : Option Value) → a.is_single ≡ true → a.is_unsettable ≡ false → o ≡ slice_get vs 0
    → option_map_or (λ v. not (same_value v a.default)) o false ≡ is_set a (record { values = shown_values a.is_single (attribute_values a vs); flag = flag })
set_by a [] flag o single plain is =
    ap (λ x. option_map_or (λ v. not (same_value v a.default)) x false) is
    ∙ sym (ap (λ b. if b then (if a.is_unsettable then flag else not (same_value (value_in (shown_values b (if b then a.default ∷ [] else [])) 0) a.default)) else not (is_nil (shown_values b (if b then a.default ∷ [] else [])))) single
    ∙ ap (λ b. if b then flag else not (same_value a.default a.default)) plain ∙ ap not (same_value-self a.default))
set_by a (w ∷ vs) flag o single plain is =
    ap (λ x. option_map_or (λ v. not (same_value v a.default)) x false) is
    ∙ sym (ap (λ b. if b then (if a.is_unsettable then flag else not (same_value (value_in (shown_values b (w ∷ vs)) 0) a.default)) else not (is_nil (shown_values b (w ∷ vs)))) single
    ∙ ap (λ b. if b then flag else not (same_value w a.default)) plain)

---------------------------------------------------------------- the resource of a URI

one-behind : (k n : ℕ) → nat_lt (1 + k) (suc n) ≡ nat_lt k n
one-behind k n = grind (arith, nat_tests)

first-below : {X : Type 0} (p : X → Bool) (xs : List X) → nat_lt (position_or_len p xs) (length xs) ≡ list_any p xs
first-below p [] = refl
first-below p (x ∷ xs) =
    elim (p x) as (λ b. nat_lt (cond (not b) (1 + position_or_len p xs) 0) (suc (length xs)) ≡ (b || list_any p xs)) [ true ↦ zero-below (length xs) | false ↦ one-behind (position_or_len p xs) (length xs) ∙ first-below p xs ]

some-test : {X : Type 0} (f : ℕ → X) (b : Bool) (k : ℕ) → is_some (option_map f (cond b (Some k) None)) ≡ b
some-test f true k = refl
some-test f false k = refl

-- there is a resource of a URI exactly if one has it
pub resource-there : (r : Reading) (u : List ℕ) → is_some (resource_named r u) ≡ has_uri r u
resource-there r u = some-test (λ i. record { 0 = i }) (nat_lt (position_or_len (bytes_eq u) r.uris) (length r.uris)) (position_or_len (bytes_eq u) r.uris) ∙ first-below (bytes_eq u) r.uris
