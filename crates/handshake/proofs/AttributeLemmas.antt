-- The values of ends after an object is made, and after a single attribute is put.
use Rattle.std.proofs.Common.{◌≡◌, ℕ, zero, suc, eqb, nat_eq, Bool, true, false, ◌&&◌, IsTrue, List, [], ◌∷◌, slice_index_or, slice_set, Option, Some, None, unwrap_or, option_map, is_some, if◌then◌else◌, refl, sym, ap, ◌∙◌, subst, arith}
use Rattle.std.specs.List.{AllByRecursion}
use Rattle.std.specs.Ordering.{nat_cmp}
use Rattle.std.specs.FinMap as map
use Rattle.std.proofs.lemmas.Bool.Decides.{nat_tests}
use Rattle.mm_types.proofs.SameLemmas.{same_end-true}
use Rattle.mm_types.specs.Ends.{Held, shown_values}
use Rattle.mm_types.specs.Same.{same_end, same_feature, same_object}
use Rattle.mm_types.specs.Shapes.{Shape, shape}
use Rattle.mm_types.specs.declared.end.End.{End}
use Rattle.mm_types.specs.declared.numbers.ClassNo.{ClassNo}
use Rattle.mm_types.specs.declared.numbers.FeatureNo.{FeatureNo}
use Rattle.mm_types.specs.declared.numbers.Node.{Node}
use Rattle.mm_types.specs.declared.numbers.Node.TheVariants as node
use Rattle.mm_types.specs.declared.numbers.ObjectNo.{ObjectNo}
use Rattle.mm_types.specs.declared.value.Value.{Value}
use Rattle.mm_values.proofs.StoredIn.{get-with_stored, kept, unwrap_or-kept}
use Rattle.mm_values.specs.Stored.{Stored, nothing_stored}
use Rattle.mm_values.specs.Values.{ObjectState, Objects, object_at, put_stored, stored_under, with_list, with_object}
use Rattle.links.specs.Links.{end}
use Rattle.models.specs.Model.{Model, attribute_values, reading}
use Rattle.models.specs.Reading.{at_end, held_at}
use Rattle.handshake.specs.Effects.{model_after}
use Rattle.handshake.specs.declared.change.Change.TheVariants.{Create}
use Rattle.handshake.specs.declared.change_kind.FeatureChange.{FeatureChange}
use Rattle.handshake.proofs.HappenedLemmas.{at-own, happened_at}

-- feature changes lead from one model to another
abbrev pub Replays : Model → List FeatureChange → Model → Type 0
Replays s ts t = (d : End) → happened_at s.metamodel ts d (held_at (reading s) d) ≡ held_at (reading t) d

---------------------------------------------------------------- what an object stores, if there is one

abbrev pub stored_for : FeatureNo → Option ObjectState → Stored
stored_for f None = nothing_stored
stored_for f (Some o) = stored_under o f

-- the values of an end, by its links and its stored list
abbrev pub held_of : Shape → List Value → Stored → Held
held_of a vs h = record { values = shown_values a.is_single (if a.is_reference then vs else attribute_values a h.list); flag = h.flag }

held-stored_for : (a : Shape) (vs : List Value) (f : FeatureNo) (o : Option ObjectState)
    → record { values = shown_values a.is_single (if a.is_reference then vs else attribute_values a (unwrap_or (option_map (λ s. (stored_under s f).list) o) [])); flag = unwrap_or (option_map (λ s. (stored_under s f).flag) o) false } ≡ held_of a vs (stored_for f o)
held-stored_for a vs f None = refl
held-stored_for a vs f (Some o) = refl

-- the same for an end of an object
pub held_at-object : (s : Model) (o : ObjectNo) (f : FeatureNo)
    → held_at (reading s) (at_end (node.Object o) f) ≡ held_of (shape s.metamodel f) (end s.links (at_end (node.Object o) f)) (stored_for f (object_at s.values.objects o))
held_at-object s o f = held-stored_for (shape s.metamodel f) (end s.links (at_end (node.Object o) f)) f (object_at s.values.objects o)

---------------------------------------------------------------- a new object

stored_for-with_object : (f : FeatureNo) (c : ClassNo) (os : Objects) (i : ℕ) → stored_for f (slice_index_or (with_object os c) i None) ≡ stored_for f (slice_index_or os i None)
stored_for-with_object f c [] zero = ap (λ (h : Option Stored). unwrap_or h nothing_stored) (map.get-empty nat_cmp f.0)
stored_for-with_object f c [] (suc i) = refl
stored_for-with_object f c (o ∷ os) zero = refl
stored_for-with_object f c (o ∷ os) (suc i) = stored_for-with_object f c os i

-- after a new object is made, each end has the same values as before
held_at-create : (s : Model) (c : ClassNo) (n : Node) (f : FeatureNo) → held_at (reading (model_after s (Create c))) (at_end n f) ≡ held_at (reading s) (at_end n f)
held_at-create s c (node.Object o) f =
    held_at-object (model_after s (Create c)) o f
    ∙ ap (held_of (shape s.metamodel f) (end s.links (at_end (node.Object o) f))) (stored_for-with_object f c s.values.objects o.0)
    ∙ sym (held_at-object s o f)
held_at-create s c (node.Resource k) f = refl

pub create-replays : (s : Model) (c : ClassNo) → Replays s [] (model_after s (Create c))
create-replays s c d = sym (held_at-create s c d.node d.feature)

---------------------------------------------------------------- a feature of a live object is put

abbrev is_object : Option ObjectState → Bool
is_object o = is_some (option_map (λ (s : ObjectState). s.class) o)

stored_for-put : (f : FeatureNo) (h : Stored) (g : FeatureNo) (o : Option ObjectState) → IsTrue (is_object o) → stored_for g (option_map (put_stored f h) o) ≡ (if same_feature f g then h else stored_for g o)
stored_for-put f h g None live = cc
stored_for-put f h g (Some o) live =
    let turned : eqb g.0 f.0 ≡ same_feature f g = grind (arith, nat_tests) in
    ap (λ (r : Option Stored). unwrap_or r nothing_stored) (get-with_stored o.stored f.0 h g.0)
    ∙ ap (λ b. unwrap_or (if b then kept h else map.get o.stored g.0) nothing_stored) turned
    ∙ elim (same_feature f g) as (λ b. unwrap_or (if b then kept h else map.get o.stored g.0) nothing_stored ≡ (if b then h else stored_under o g)) [ true ↦ unwrap_or-kept h | false ↦ refl ]

pub stored_for-with_list : (os : Objects) (o : ObjectNo) (f : FeatureNo) (h : Stored) (p : ObjectNo) (g : FeatureNo) → IsTrue (is_object (object_at os o))
    → stored_for g (object_at (with_list os o f h) p) ≡ (if same_object o p && same_feature f g then h else stored_for g (object_at os p))
stored_for-with_list os o f h p g live = placed os o.0 p.0 live where
  placed : (os : Objects) (k i : ℕ) → IsTrue (is_object (slice_index_or os k None)) → stored_for g (slice_index_or (slice_set os k (option_map (put_stored f h) (slice_index_or os k None))) i None) ≡ (if nat_eq k i && same_feature f g then h else stored_for g (slice_index_or os i None))
  placed [] k i live = cc
  placed (o ∷ os) zero zero live = stored_for-put f h g o live
  placed (o ∷ os) zero (suc i) live = let other : nat_eq zero (suc i) ≡ false = grind (arith, nat_tests) in rw other refl
  placed (o ∷ os) (suc k) zero live = let other : nat_eq (suc k) zero ≡ false = grind (arith, nat_tests) in rw other refl
  placed (o ∷ os) (suc k) (suc i) live = let same : nat_eq (suc k) (suc i) ≡ nat_eq k i = grind (arith, nat_tests) in rw same (placed os k i live)

-- the model after it
abbrev pub with_put : Model → ObjectNo → FeatureNo → Stored → Model
with_put s o f h = record s { values = record s.values { objects = with_list s.values.objects o f h } }

held_at-put : (s : Model) (o : ObjectNo) (f : FeatureNo) (h : Stored) (n : Node) (g : FeatureNo) → IsTrue (is_object (object_at s.values.objects o))
    → held_at (reading (with_put s o f h)) (at_end n g) ≡ (if same_end (at_end (node.Object o) f) (at_end n g) then held_of (shape s.metamodel g) (end s.links (at_end n g)) h else held_at (reading s) (at_end n g))
held_at-put s o f h (node.Object p) g live =
    let a = shape s.metamodel g in
    let d = at_end (node.Object p) g in
    let there = stored_for g (object_at s.values.objects p) in
    held_at-object (with_put s o f h) p g
    ∙ ap (held_of a (end s.links d)) (stored_for-with_list s.values.objects o f h p g live)
    ∙ elim (same_end (at_end (node.Object o) f) d) as (λ b. held_of a (end s.links d) (if b then h else there) ≡ (if b then held_of a (end s.links d) h else held_at (reading s) d)) [
      | true ↦ refl
      | false ↦ sym (held_at-object s p g)
    ]
held_at-put s o f h (node.Resource k) g live = refl

-- the feature change of an attribute gives the list that is put
pub put-replays : (s : Model) (o : ObjectNo) (f : FeatureNo) (own : List FeatureChange) (h : Stored) → IsTrue (is_some ((reading s).class o)) → AllByRecursion (λ (t : FeatureChange). t.at ≡ at_end (node.Object o) f) own
    → ((vs : List Value) → happened_at s.metamodel own (at_end (node.Object o) f) (held_at (reading s) (at_end (node.Object o) f)) ≡ held_of (shape s.metamodel f) vs h) → Replays s own (with_put s o f h)
put-replays s o f own h live here does d =
    let m = s.metamodel in
    let e = at_end (node.Object o) f in
    elim (same_end e d) as (λ b. same_end e d ≡ b → happened_at m own d (held_at (reading s) d) ≡ (if b then held_of (shape m d.feature) (end s.links d) h else held_at (reading s) d)) [
      | true ↦ λ same. subst (λ (y : End). happened_at m own y (held_at (reading s) y) ≡ held_of (shape m y.feature) (end s.links y) h) (same_end-true e d same) (does (end s.links e))
      | false ↦ λ other. at-own m e d own (held_at (reading s) d) here other
    ] refl
    ∙ sym (held_at-put s o f h d.node d.feature live)
