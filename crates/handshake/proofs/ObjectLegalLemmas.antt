-- What an object keeps stays legal where a list is put, and so do the objects' classes.
use Rattle.std.proofs.Common.{◌≡◌, ℕ, zero, suc, eqb, Bool, true, false, ◌&&◌, [], ◌∷◌, ◌++◌, slice_index_or, slice_set, Option, Some, None, unwrap_or, option_map, if◌then◌else◌, refl, sym, ◌∙◌, subst, arith}
use Rattle.std.specs.List.{IsDistinct}
use Rattle.std.specs.Ordering.{nat_cmp}
use Rattle.std.specs.FinMap as map
use Rattle.std.specs.Option.{option_map_or}
use Rattle.std.proofs.lemmas.Bool.{and_from}
use Rattle.std.proofs.lemmas.Bool.Decides.{nat_tests}
use Rattle.std.proofs.lemmas.Option.{none-some}
use Rattle.mm_types.specs.Lookups as lookups
use Rattle.mm_types.specs.Resolved.{Metamodel}
use Rattle.mm_types.specs.Shapes.{contents_shape, shape, shape_of}
use Rattle.mm_types.specs.declared.feature.Feature.{Feature}
use Rattle.mm_types.specs.declared.feature.Kind.{Kind}
use Rattle.mm_types.specs.declared.feature.Kind.TheVariants.{Attribute, Reference}
use Rattle.mm_types.specs.declared.numbers.ClassNo.{ClassNo}
use Rattle.mm_types.specs.declared.numbers.FeatureNo.{FeatureNo}
use Rattle.mm_types.specs.declared.numbers.ObjectNo.{ObjectNo}
use Rattle.mm_types.specs.declared.value.Value.{Value}
use Rattle.mm_values.specs.Stored.{Stored, is_nothing, nothing_stored}
use Rattle.mm_values.specs.Values.{ObjectState, Objects, put_stored}
use Rattle.mm_values.proofs.StoredIn.{get-with_stored, kept}
use Rattle.models.specs.Legal.{IsLegalObject, IsLegalStored, IsUniqueList, is_short}
use Rattle.handshake.proofs.LegalEndLemmas.{one-bounded}
use Rattle.mm_meta.proofs.ByNameLemmas.{numbered_alike}

---------------------------------------------------------------- what an object keeps

pub flag-off : (a b : Bool) → false ≡ (a && (b && false))
flag-off true true = refl
flag-off true false = refl
flag-off false b = refl

flag-on : (a b : Bool) → b ≡ true → a ≡ (a && (b && true))
flag-on true b h = sym h ∙ sym (and-true b)
  where
    and-true : (b : Bool) → (b && true) ≡ b
    and-true true = refl
    and-true false = refl
flag-on false b h = refl

pub unique-none : (b : Bool) → IsUniqueList b []
unfolding IsDistinct
unique-none true = tt
unique-none false = tt

pub unique-one : (b : Bool) (v : Value) → IsUniqueList b (v ∷ [])
unfolding IsDistinct
unique-one true v = (tt, tt)
unique-one false v = tt

-- an empty list is legal
pub nothing-legal : (m : Metamodel) (c : ClassNo) (f : FeatureNo) → IsLegalStored m c f nothing_stored
nothing-legal m c f = record { values = refl; unique = unique-none (shape m f).is_unique; flag = flag-off (shape m f).is_unsettable (shape m f).is_single }

kept-of_kind : (m : Metamodel) (class : ObjectNo → Option ClassNo) (f : FeatureNo) (x : Feature) (k : Kind) (v : Value)
    → (shape_of m f x k).is_reference ≡ false → lookups.is_of_kind m class (lookups.is_single x) k v ≡ true → lookups.is_of_attribute m (lookups.is_single x) k v ≡ true
kept-of_kind m class f x (Attribute t unique unsettable default) v attribute h = h
kept-of_kind m class f x (Reference target containment opposite) v attribute h = cc

-- a value that an attribute takes may be stored
pub keeps-taken : (m : Metamodel) (class : ObjectNo → Option ClassNo) (f : FeatureNo) (v : Value) → (shape m f).is_reference ≡ false → lookups.takes m class f v ≡ true → lookups.keeps m f v ≡ true
keeps-taken m class f v attribute h = by (lookups.feature m f) attribute h
  where
    by : (q : Option Feature) → (option_map_or (λ g. shape_of m f g g.kind) q (contents_shape m)).is_reference ≡ false
        → option_map_or (λ g. lookups.is_of_kind m class (lookups.is_single g) g.kind v) q (lookups.is_live_object class v) ≡ true
        → option_map_or (λ g. lookups.is_of_attribute m (lookups.is_single g) g.kind v) q false ≡ true
    by None attribute h = cc
    by (Some g) attribute h = kept-of_kind m class f g g.kind v attribute h

-- one value of an attribute's type is legal
pub one-legal : (m : Metamodel) (c : ClassNo) (f : FeatureNo) (v : Value) → (shape m f).is_single ≡ true → lookups.has_feature m c f ≡ true → lookups.keeps m f v ≡ true → is_short v ≡ true
    → IsLegalStored m c f (record { list = v ∷ []; flag = (shape m f).is_unsettable })
one-legal m c f v single has held short =
    record {
      values = and_from _ _ has (and_from _ _ (and_from _ _ (and_from _ _ held short) refl) (one-bounded (shape m f)));
      unique = unique-one (shape m f).is_unique v;
      flag = flag-on (shape m f).is_unsettable (shape m f).is_single single;
    }

-- the list that is stored for it is legal
kept-legal : (m : Metamodel) (c : ClassNo) (f : FeatureNo) (h : Stored) → IsLegalStored m c f h → IsLegalStored m c f (unwrap_or (kept h) nothing_stored)
kept-legal m c f h legal =
    elim (is_nothing h) as (λ b. IsLegalStored m c f (unwrap_or (if b then None else Some h) nothing_stored)) [ true ↦ nothing-legal m c f | false ↦ legal ]

-- a new object stores nothing
pub created : (m : Metamodel) (c : ClassNo) → lookups.is_concrete m c ≡ true → IsLegalObject m (Some (record { class = c; stored = map.empty }))
created m c concrete = (concrete, λ f. subst (λ (h : Option Stored). IsLegalStored m c f (unwrap_or h nothing_stored)) (sym (map.get-empty nat_cmp f.0)) (nothing-legal m c f))

-- an object after a list is put under a feature
pub put-legal : (m : Metamodel) (o : ObjectState) (f : FeatureNo) (h : Stored) → IsLegalObject m (Some o) → IsLegalStored m o.class f h → IsLegalObject m (Some (put_stored f h o))
put-legal m o f h legal held =
    let at : (g : FeatureNo) (b : Bool) → eqb g.0 f.0 ≡ b → IsLegalStored m o.class g (unwrap_or (if b then kept h else map.get o.stored g.0) nothing_stored) =
    λ g b. elim b as (λ b. eqb g.0 f.0 ≡ b → IsLegalStored m o.class g (unwrap_or (if b then kept h else map.get o.stored g.0) nothing_stored)) [
      | true ↦ λ e. subst (λ (k : FeatureNo). IsLegalStored m o.class k (unwrap_or (kept h) nothing_stored)) (numbered_alike f g (grind (arith, nat_tests))) (kept-legal m o.class f h held)
      | false ↦ λ e. legal.1 g
    ] in
    (legal.0, λ g. subst (λ (r : Option Stored). IsLegalStored m o.class g (unwrap_or r nothing_stored)) (sym (get-with_stored o.stored f.0 h g.0)) (at g (eqb g.0 f.0) refl))

-- the object at a number after a list is put that is legal for its class
pub put-at : (m : Metamodel) (o : Option ObjectState) (f : FeatureNo) (h : Stored) → IsLegalObject m o → ((x : ObjectState) → o ≡ Some x → IsLegalStored m x.class f h) → IsLegalObject m (option_map (put_stored f h) o)
put-at m None f h legal held = tt
put-at m (Some o) f h legal held = put-legal m o f h legal (held o refl)

-- the class of the object at a number has a feature that the object has
pub has-of : (m : Metamodel) (o : Option ObjectState) (f : FeatureNo) (x : ObjectState) → o ≡ Some x → option_map_or (λ c. lookups.has_feature m c f) (option_map (λ (s : ObjectState). s.class) o) false ≡ true → lookups.has_feature m x.class f ≡ true
has-of m o f x e has = subst (λ (o : Option ObjectState). option_map_or (λ c. lookups.has_feature m c f) (option_map (λ (s : ObjectState). s.class) o) false ≡ true) e has

---------------------------------------------------------------- the objects after a change

-- a new object leaves the classes of the others as they are
pub class-append : (os ys : Objects) (i : ℕ) (c : ClassNo) → option_map (λ (x : ObjectState). x.class) (slice_index_or os i None) ≡ Some c
    → option_map (λ (x : ObjectState). x.class) (slice_index_or (os ++ ys) i None) ≡ Some c
class-append [] ys i c h = absurd (none-some c h)
class-append (o ∷ os) ys zero c h = h
class-append (o ∷ os) ys (suc i) c h = class-append os ys i c h

pub put-class : (f : FeatureNo) (h : Stored) (o : Option ObjectState) → option_map (λ (x : ObjectState). x.class) (option_map (put_stored f h) o) ≡ option_map (λ (x : ObjectState). x.class) o
put-class f h None = refl
put-class f h (Some x) = refl

-- a put leaves all classes as they are
pub class-put : (f : FeatureNo) (h : Stored) (os : Objects) (k i : ℕ)
    → option_map (λ (x : ObjectState). x.class) (slice_index_or (slice_set os k (option_map (put_stored f h) (slice_index_or os k None))) i None) ≡ option_map (λ (x : ObjectState). x.class) (slice_index_or os i None)
class-put f h [] k i = refl
class-put f h (o ∷ os) zero zero = put-class f h o
class-put f h (o ∷ os) zero (suc i) = refl
class-put f h (o ∷ os) (suc k) zero = refl
class-put f h (o ∷ os) (suc k) (suc i) = class-put f h os k i
