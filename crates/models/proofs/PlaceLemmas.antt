-- The values at positions of ends, and the positions of values.
use Rattle.std.proofs.Common.{◌≡◌, ◌≤◌, ◌<◌, ◌+◌, ◌||◌, nat_le, nat_lt, pos, not, arith, ℕ, zero, suc, Bool, true, false, cond, IsTrue, List, [], ◌∷◌, length, slice_get, slice_index_or, Option, Some, None, unwrap_or, option_map, option_and_then, if◌then◌else◌, refl, sym, ap, ◌∙◌, subst}
use Rattle.std.specs.Prelude.{int_le, MatchOption, position}
use Rattle.std.specs.List.{All, list_all, position_or_len}
use Rattle.std.specs.Option.{option_map_or}
use Rattle.std.proofs.lemmas.Bool.{and_parts, false≢true}
use Rattle.std.proofs.lemmas.Bool.Decides.{nat_tests}
use Rattle.std.proofs.lemmas.List.Elements.{All-head, All-tail}
use Rattle.std.proofs.lemmas.Option.{none-some, same_Some, slice_get_within}
use Rattle.mm_types.specs.Ends.{first_in, has_value, index_in}
use Rattle.mm_types.specs.Same.{same_value}
use Rattle.mm_types.specs.Shapes.{Shape, is_bounded, shape}
use Rattle.mm_types.specs.declared.end.End.{End}
use Rattle.mm_types.specs.declared.numbers.FeatureNo.{FeatureNo}
use Rattle.mm_types.specs.declared.limits.TheConstants.{LIST_VALUES}
use Rattle.mm_types.specs.declared.numbers.Node.{Node}
use Rattle.mm_types.specs.declared.numbers.Node.TheVariants as node
use Rattle.mm_types.specs.declared.numbers.ObjectNo.{ObjectNo}
use Rattle.mm_types.specs.declared.value.Value.{Value}
use Rattle.mm_types.specs.declared.value.Value.TheVariants as value
use Rattle.mm_values.specs.Values.{ObjectState, object_at, stored_under}
use Rattle.links.specs.Links as links
use Rattle.links.specs.Links.{end}
use Rattle.links.specs.Plans.{Lacks}
use Rattle.mm_types.specs.SameValues.{same_value-self, same_value-true}
use Rattle.models.specs.Legal.{IsLegal, IsLegalObject, is_legal_end, is_legal_list, is_legal_target, takes_proxies}
use Rattle.models.specs.Model.{Model, attribute_values, kept_values, reading}
use Rattle.models.specs.Reading.{Reading, object_of, shape_at}

---------------------------------------------------------------- where a value first is

one-more : (a b : ℕ) → a ≡ b → 1 + a ≡ suc b
one-more a b h = omega arith

index_in-position : (v : Value) (vs : List Value) → position_or_len (same_value v) vs ≡ index_in vs v
index_in-position v [] = refl
index_in-position v (w ∷ ws) =
    elim (same_value v w) as (λ b. cond (not b) (1 + position_or_len (same_value v) ws) 0 ≡ (if b then 0 else suc (index_in ws v))) [ true ↦ refl | false ↦ one-more _ _ (index_in-position v ws) ]

pub zero-below : (n : ℕ) → nat_lt 0 (suc n) ≡ true
zero-below n = grind (arith, nat_tests)

suc-below : (k n : ℕ) → nat_lt (suc k) (suc n) ≡ nat_lt k n
suc-below k n = grind (arith, nat_tests)

index_in-below : (v : Value) (vs : List Value) → nat_lt (index_in vs v) (length vs) ≡ has_value vs v
index_in-below v [] = refl
index_in-below v (w ∷ ws) =
    elim (same_value v w) as (λ b. nat_lt (if b then 0 else suc (index_in ws v)) (suc (length ws)) ≡ (b || has_value ws v)) [
      | true ↦ zero-below (length ws)
      | false ↦ suc-below (index_in ws v) (length ws) ∙ index_in-below v ws
    ]

pub first_in_position : (v : Value) (vs : List Value) → position (same_value v) vs ≡ first_in vs v
first_in_position v vs =
    ap (λ k. cond (nat_lt k (length vs)) (Some k) None) (index_in-position v vs) ∙ ap (λ b. cond b (Some (index_in vs v)) None) (index_in-below v vs)

pub index-at : (vs : List Value) (v : Value) → has_value vs v ≡ true → slice_get vs (index_in vs v) ≡ Some v
index-at [] v h = cc
index-at (w ∷ ws) v h =
    elim (same_value v w) as (λ b. same_value v w ≡ b → (b || has_value ws v) ≡ true → slice_get (w ∷ ws) (if b then 0 else suc (index_in ws v)) ≡ Some v) [
      | true ↦ λ same _. ap Some (sym (same_value-true v w same))
      | false ↦ λ _ later. index-at ws v later
    ] refl h

pub has-at : (vs : List Value) (v : Value) (k : ℕ) → slice_get vs k ≡ Some v → has_value vs v ≡ true
has-at [] v k h = absurd (none-some v h)
has-at (w ∷ ws) v zero h = subst (λ (x : Value). (same_value v x || has_value ws v) ≡ true) (sym (same_Some w v h)) (ap (λ b. b || has_value ws v) (same_value-self v))
has-at (w ∷ ws) v (suc k) h =
    elim (same_value v w) as (λ b. (b || has_value ws v) ≡ true) [ true ↦ refl | false ↦ has-at ws v k h ]

-- in a list without repetitions a position that has a value is the first one
pub first_in-place : (vs : List Value) (v : Value) (q : Option ℕ) → ((j k : ℕ) (w : Value) → slice_get vs j ≡ Some w → slice_get vs k ≡ Some w → j ≡ k)
    → MatchOption q ((k : ℕ) → slice_get vs k ≡ Some v → ⊥) (λ k. slice_get vs k ≡ Some v) → q ≡ first_in vs v
first_in-place vs v None distinct h =
    elim (has_value vs v) as (λ b. has_value vs v ≡ b → None ≡ (if b then Some (index_in vs v) else None)) [
      | true ↦ λ there. absurd (h (index_in vs v) (index-at vs v there))
      | false ↦ λ _. refl
    ] refl
first_in-place vs v (Some k) distinct h =
    let there = has-at vs v k h in
    ap Some (distinct k (index_in vs v) v h (index-at vs v there)) ∙ ap (λ b. if b then Some (index_in vs v) else None) (sym there)

---------------------------------------------------------------- objects and proxies at ends

object-is : (v : Value) (o : ObjectNo) → links.object_of v ≡ Some o → v ≡ value.Object o
object-is (value.Object p) o h = ap value.Object (same_Some p o h)
object-is _ o h = absurd (none-some o h)

-- the object at a position of a reference
pub object_in-is : (s : Model) (e : End) (k : ℕ) → (shape s.metamodel e.feature).is_reference ≡ true → links.object_at s.links e k ≡ option_and_then object_of (slice_get ((reading s).values e) k)
object_in-is s e k reference = rw reference refl

-- the text of the proxy at a position of a reference
pub proxy_in-is : (s : Model) (e : End) (k : ℕ) → (shape s.metamodel e.feature).is_reference ≡ true → links.proxy_at s.links e k ≡ option_and_then links.text_of (slice_get ((reading s).values e) k)
proxy_in-is s e k reference = rw reference refl

-- if an object is found, it is there
pub object-there : (q : Option Value) (o : ObjectNo) → option_and_then links.object_of q ≡ Some o → q ≡ Some (value.Object o)
object-there None o h = absurd (none-some o h)
object-there (Some v) o h = ap Some (object-is v o h)

proxy-is : (r : Reading) (f : FeatureNo) (v : Value) → is_legal_target r f v ≡ true → links.object_of v ≡ None → option_map value.Proxy (links.text_of v) ≡ Some v
proxy-is r f (value.Object o) h none = absurd (none-some o (sym none))
proxy-is r f (value.Proxy t) h none = refl
proxy-is r f _ h none = absurd (false≢true h)

get-proxy : (r : Reading) (e : End) (vs : List Value) (k : ℕ) → list_all (is_legal_target r e.feature) vs ≡ true → option_and_then links.object_of (slice_get vs k) ≡ None
    → option_map value.Proxy (option_and_then links.text_of (slice_get vs k)) ≡ slice_get vs k
get-proxy r e [] k h none = refl
get-proxy r e (v ∷ vs) zero h none = proxy-is r e.feature v (and_parts (is_legal_target r e.feature v) _ h).0 none
get-proxy r e (v ∷ vs) (suc k) h none = get-proxy r e vs k (and_parts (is_legal_target r e.feature v) _ h).1 none

all-legal : (r : Reading) (e : End) (vs : List Value) → IsTrue (is_legal_end r e vs) → list_all (is_legal_target r e.feature) vs ≡ true
all-legal r e [] h = refl
all-legal r e (v ∷ vs) h = (and_parts _ _ (and_parts _ _ h).1).0

-- a value at a reference of a legal model that is no object is a proxy
pub value_in-proxy : (s : Model) (e : End) (k : ℕ) → IsLegal s → (shape s.metamodel e.feature).is_reference ≡ true → links.object_at s.links e k ≡ None
    → option_map value.Proxy (links.proxy_at s.links e k) ≡ slice_get ((reading s).values e) k
value_in-proxy s e k legal reference none = rw reference (get-proxy (reading s) e (end s.links e) k (all-legal (reading s) e (end s.links e) (legal.links.ends e)) none)

get-object : (r : Reading) (e : End) (vs : List Value) (k : ℕ) → takes_proxies (shape_at r e) ≡ false → list_all (is_legal_target r e.feature) vs ≡ true
    → option_map value.Object (option_and_then links.object_of (slice_get vs k)) ≡ slice_get vs k
get-object r e [] k never h = refl
get-object r e (v ∷ vs) zero never h = by v (and_parts (is_legal_target r e.feature v) _ h).0
  where
    by : (w : Value) → is_legal_target r e.feature w ≡ true → option_map value.Object (links.object_of w) ≡ Some w
    by (value.Object o) is = refl
    by (value.Proxy t) is = absurd (false≢true (sym never ∙ is))
    by _ is = absurd (false≢true is)
get-object r e (v ∷ vs) (suc k) never h = get-object r e vs k never (and_parts (is_legal_target r e.feature v) _ h).1

-- a reference that takes no proxies has only objects
pub value_in-objects : (s : Model) (e : End) (k : ℕ) → IsLegal s → (shape s.metamodel e.feature).is_reference ≡ true → takes_proxies (shape s.metamodel e.feature) ≡ false
    → option_map value.Object (links.object_at s.links e k) ≡ slice_get ((reading s).values e) k
value_in-objects s e k legal reference never = rw reference (get-object (reading s) e (end s.links e) k never (all-legal (reading s) e (end s.links e) (legal.links.ends e)))

-- an object or a proxy
abbrev pub is_target : Value → Bool
is_target (value.Object o) = true
is_target (value.Proxy t) = true
is_target _ = false

pub target-legal : (r : Reading) (f : FeatureNo) (v : Value) → is_legal_target r f v ≡ true → is_target v ≡ true
target-legal r f (value.Object o) h = refl
target-legal r f (value.Proxy t) h = refl
target-legal r f _ h = absurd (false≢true h)

none-of : (r : Reading) (e : End) (vs : List Value) (v : Value) → is_target v ≡ false → list_all (is_legal_target r e.feature) vs ≡ true → has_value vs v ≡ false
none-of r e [] v not h = refl
none-of r e (w ∷ ws) v not h =
    let both = and_parts (is_legal_target r e.feature w) _ h in
    elim (same_value v w) as (λ b. same_value v w ≡ b → (b || has_value ws v) ≡ false) [
      | true ↦ λ same. absurd (false≢true (sym not ∙ ap is_target (same_value-true v w same) ∙ target-legal r e.feature w both.0))
      | false ↦ λ _. none-of r e ws v not both.1
    ] refl

-- the position of a value at a reference, and that it is an object or a proxy
pub position-target : (s : Model) (e : End) (v : Value) (q : Option ℕ) → IsLegal s → (shape s.metamodel e.feature).is_reference ≡ true
    → MatchOption q (Lacks s.links e v) (λ k. slice_get (end s.links e) k ≡ Some v) → q ≡ first_in ((reading s).values e) v
position-target s e v q legal reference at = rw reference (first_in-place (end s.links e) v q (legal.links.set.placed.distinct e) at)

same-there : (q : Option Value) (v : Value) → option_map_or (same_value v) q false ≡ true → q ≡ Some v
same-there None v h = absurd (false≢true h)
same-there (Some w) v h = ap Some (sym (same_value-true v w h))

-- a position that has the value
pub position-same : (s : Model) (e : End) (v : Value) (k : ℕ) → IsLegal s → (shape s.metamodel e.feature).is_reference ≡ true
    → option_map_or (same_value v) (slice_get ((reading s).values e) k) false ≡ true → Some k ≡ first_in ((reading s).values e) v
position-same s e v k legal reference same =
    position-target s e v (Some k) legal reference (subst (λ (vs : List Value). slice_get vs k ≡ Some v) (rw reference refl) (same-there (slice_get ((reading s).values e) k) v same))

-- no position of all that there are has it
pub position-nowhere : (s : Model) (e : End) (v : Value) (n : ℕ) → IsLegal s → (shape s.metamodel e.feature).is_reference ≡ true
    → length ((reading s).values e) ≤ n → ((k : ℕ) → k < n → slice_get ((reading s).values e) k ≡ Some v → ⊥) → None ≡ first_in ((reading s).values e) v
position-nowhere s e v n legal reference all none =
    let q : Option ℕ = None in
    position-target s e v q legal reference
    (subst (λ (vs : List Value). (k : ℕ) → slice_get vs k ≡ Some v → ⊥) (rw reference refl)
    (λ k at. none k (let low = slice_get_within ((reading s).values e) k v at in omega (arith, low, all)) at))

pub position-other : (s : Model) (e : End) (v : Value) → IsLegal s → (shape s.metamodel e.feature).is_reference ≡ true → is_target v ≡ false → None ≡ first_in ((reading s).values e) v
position-other s e v legal reference other =
    rw reference (ap (λ b. if b then Some (index_in (end s.links e) v) else None) (sym (none-of (reading s) e (end s.links e) v other (all-legal (reading s) e (end s.links e) (legal.links.ends e)))))

---------------------------------------------------------------- how many there are

bounded-few : (a : Shape) (n : ℕ) → is_bounded a n ≡ true → n ≤ 1000000
bounded-few a n h = let few = (and_parts (nat_le n LIST_VALUES) (if int_le (pos 1) a.upper then int_le (pos n) a.upper else true) h).0 in grind (arith, nat_tests)

list-few : (s : Model) (e : End) (o : Option ObjectState) → IsLegalObject s.metamodel o → length (unwrap_or (option_map (λ x. (stored_under x e.feature).list) o) []) ≤ 1000000
list-few s e None h = omega arith
list-few s e (Some x) h = by (stored_under x e.feature).list (h.1 e.feature).values
  where
    by : (vs : List Value) → IsTrue (is_legal_list s.metamodel x.class e.feature vs) → length vs ≤ 1000000
    by [] h = omega arith
    by (v ∷ vs) h = bounded-few (shape s.metamodel e.feature) (length (v ∷ vs)) (and_parts _ _ (and_parts _ _ h).1).1

pub legal-at : {X : Type 0} (P : Option X → Type 0) (os : List (Option X)) (i : ℕ) → P None → All P os → P (slice_index_or os i None)
legal-at P [] i none all = none
legal-at P (o ∷ os) zero none all = All-head P o os all
legal-at P (o ∷ os) (suc i) none all = legal-at P os i none (All-tail P o os all)

kept-few : (s : Model) (e : End) (n : Node) → IsLegal s → length (kept_values s.values n e.feature) ≤ 1000000
kept-few s e (node.Object o) legal = list-few s e (object_at s.values.objects o) (legal-at (IsLegalObject s.metamodel) s.values.objects o.0 tt legal.objects)
kept-few s e (node.Resource k) legal = omega arith

attribute-few : (a : Shape) (vs : List Value) → length vs ≤ 1000000 → length (attribute_values a vs) ≤ 1000000
attribute-few a [] h = elim a.is_single as (λ b. length (if b then a.default ∷ [] else []) ≤ 1000000) [ true ↦ omega arith | false ↦ omega arith ]
attribute-few a (v ∷ vs) h = h

-- no list of a legal model has more values than any list may have
pub values-few : (s : Model) (e : End) → IsLegal s → length ((reading s).values e) ≤ 1000000
values-few s e legal =
    let a = shape s.metamodel e.feature in
    elim a.is_reference as (λ b. length (if b then end s.links e else attribute_values a (kept_values s.values e.node e.feature)) ≤ 1000000) [
      | true ↦ legal.links.set.placed.few e
      | false ↦ attribute-few a (kept_values s.values e.node e.feature) (kept-few s e e.node legal)
    ]

pub attribute_values-few : (s : Model) (e : End) → IsLegal s → length (attribute_values (shape s.metamodel e.feature) (kept_values s.values e.node e.feature)) ≤ 1000000
attribute_values-few s e legal = attribute-few (shape s.metamodel e.feature) (kept_values s.values e.node e.feature) (kept-few s e e.node legal)

-- the position of the first of a value is one of the list
pub first-below : (vs : List Value) (v : Value) (k : ℕ) → Some k ≡ first_in vs v → k < length vs
first-below vs v k h =
    elim (has_value vs v) as (λ b. has_value vs v ≡ b → Some k ≡ (if b then Some (index_in vs v) else None) → k < length vs) [
      | true ↦ λ there found.
          let is = same_Some k (index_in vs v) found in
          let below = index_in-below v vs ∙ there in
          grind (arith, nat_tests)
      | false ↦ λ _ none. absurd (none-some k (sym none))
    ] refl h

pub first-few : (s : Model) (e : End) (v : Value) (k : ℕ) → IsLegal s → Some k ≡ first_in (attribute_values (shape s.metamodel e.feature) (kept_values s.values e.node e.feature)) v → k < 1000000
first-few s e v k legal h =
    let below = first-below _ v k h in
    let few = attribute_values-few s e legal in
    omega (arith, below, few)
