-- In a legal model an object that a node contains lives, its holder is that node, and that node lives.
use Rattle.std.proofs.Common.{◌≡◌, ℕ, zero, suc, ◌<◌, Bool, true, false, cond, ltb, length, List, [], ◌∷◌, flat_map, Option, option_map, Some, None, IsTrue, slice_get, refl, sym, ap, ◌∙◌, subst}
use Rattle.std.specs.Prelude.{is_some}
use Rattle.std.specs.List.{AllByRecursion, list_all}
use Rattle.std.specs.Option.{option_map_or}
use Rattle.std.proofs.lemmas.Bool.{and_parts, eqb-true, false≢true, ltb-false, ltb-true}
use Rattle.std.proofs.lemmas.List.{get_or_past}
use Rattle.std.proofs.lemmas.Option.{none-some, same_Some}
use Rattle.mm_meta.proofs.FeatureListLemmas.{all-append}
use Rattle.mm_meta.proofs.ShapeLemmas.{opposites_are_pairs}
use Rattle.mm_types.specs.Lookups as lookups
use Rattle.mm_types.specs.OfDocument.{IsOfDocument}
use Rattle.mm_types.specs.Resolved.{Metamodel}
use Rattle.mm_types.specs.Same.{is_feature}
use Rattle.mm_types.specs.Shapes.{contents_shape, is_containment, shape, shape_of}
use Rattle.mm_types.specs.declared.feature.DataType.{DataType}
use Rattle.mm_types.specs.declared.feature.DataType.TheVariants.{EString, EInt, ELong, EBoolean, Enum}
use Rattle.mm_types.specs.declared.feature.Feature.{Feature}
use Rattle.mm_types.specs.declared.feature.Kind.{Kind}
use Rattle.mm_types.specs.declared.feature.Kind.TheVariants.{Attribute, Reference}
use Rattle.mm_types.specs.declared.numbers.ClassNo.{ClassNo}
use Rattle.mm_types.specs.declared.numbers.FeatureNo.{FeatureNo}
use Rattle.mm_types.specs.declared.numbers.ObjectNo.{ObjectNo}
use Rattle.mm_types.specs.declared.numbers.Node.{Node}
use Rattle.mm_types.specs.declared.numbers.Node.TheVariants as node
use Rattle.mm_types.specs.declared.end.End.{End}
use Rattle.mm_types.specs.declared.value.Value.{Value}
use Rattle.mm_types.specs.declared.value.Value.TheVariants as value
use Rattle.mm_values.specs.Values.{ObjectState, class_of}
use Rattle.links.proofs.HolderLemmas.{holder_is}
use Rattle.links.specs.Holders.{holder}
use Rattle.links.specs.LegalSets.{AreKinds}
use Rattle.links.specs.Links.{end}
use Rattle.models.specs.Legal.{IsLegal, is_legal_end, is_legal_target, kinds_of}
use Rattle.models.specs.Model.{Model, reading, values_at}
use Rattle.models.specs.Reading.{Reading, all_features_of, at_end, has_feature, is_live, objects_of}
use Rattle.containment.proofs.ForestLemmas.{parts-first}
use Rattle.containment.proofs.HolderLemmas.{container_at, holding_at}
use Rattle.containment.specs.Forest.{contents, parts}

---------------------------------------------------------------- lists

pub all-objects : (P : ObjectNo → Type 0) (vs : List Value) → ((k : ℕ) (c : ObjectNo) → slice_get vs k ≡ Some (value.Object c) → P c) → AllByRecursion P (objects_of vs)
all-objects P [] h = tt
all-objects P (value.Object c ∷ vs) h = (h 0 c refl, all-objects P vs (λ k d q. h (suc k) d q))
all-objects P (v ∷ vs) h = all-objects P vs (λ k d q. h (suc k) d q)

pub all-get : (p : Value → Bool) (vs : List Value) (k : ℕ) (v : Value) → list_all p vs ≡ true → slice_get vs k ≡ Some v → p v ≡ true
all-get p [] k v h at = absurd (none-some v at)
all-get p (w ∷ ws) zero v h at = subst (λ (x : Value). p x ≡ true) (same_Some w v at) (and_parts _ _ h).0
all-get p (w ∷ ws) (suc k) v h at = all-get p ws k v (and_parts _ _ h).1 at

---------------------------------------------------------------- who lives

-- the node is an object that was made
abbrev pub IsMade : Model → Node → Type 0
IsMade s (node.Object o) = o.0 < length s.values.objects
IsMade s (node.Resource k) = Unit {0}

pub live-made : (s : Model) (o : ObjectNo) → is_live (reading s) o ≡ true → o.0 < length s.values.objects
live-made s o live =
    elim (ltb o.0 (length s.values.objects)) as (λ b. ltb o.0 (length s.values.objects) ≡ b → o.0 < length s.values.objects) [
      | true ↦ λ h. ltb-true o.0 (length s.values.objects) h
      | false ↦ λ h.
          let none = get_or_past s.values.objects o.0 None (ltb-false o.0 (length s.values.objects) h) in
          absurd (false≢true (sym (ap (λ (x : Option ObjectState). is_some (option_map (λ (t : ObjectState). t.class) x)) none) ∙ live))
    ] refl

some-of : (p : ClassNo → Bool) (x : Option ClassNo) → option_map_or p x false ≡ true → is_some x ≡ true
some-of p None h = absurd (false≢true h)
some-of p (Some c) h = refl

has-made : (s : Model) (n : Node) (f : FeatureNo) → has_feature (reading s) n f ≡ true → IsMade s n
has-made s (node.Object o) f h = live-made s o (some-of (λ c. lookups.has_feature s.metamodel c f) (class_of s.values o) h)
has-made s (node.Resource k) f h = tt

pub legal-at : (r : Reading) (e : End) (vs : List Value) (k : ℕ) (v : Value) → IsTrue (is_legal_end r e vs) → slice_get vs k ≡ Some v → (has_feature r e.node e.feature ≡ true) × (is_legal_target r e.feature v ≡ true)
legal-at r e [] k v h at = absurd (none-some v at)
legal-at r e (w ∷ ws) k v h at = let two = and_parts _ _ h in (two.0, all-get (is_legal_target r e.feature) (w ∷ ws) k v (and_parts _ _ two.1).0 at)

-- the node of an end that holds something was made
pub end-made : (s : Model) (e : End) (k : ℕ) (v : Value) → IsLegal s → slice_get (end s.links e) k ≡ Some v → IsMade s e.node
end-made s e k v legal at = has-made s e.node e.feature (legal-at (reading s) e (end s.links e) k v (legal.links.ends e) at).0

-- no attribute takes an object
pub object-typed : (m : Metamodel) (single : Bool) (t : DataType) (o : ObjectNo) → lookups.is_attribute_value m single t (value.Object o) ≡ false
object-typed m single EString o = refl
object-typed m single EInt o = refl
object-typed m single ELong o = refl
object-typed m single EBoolean o = refl
object-typed m single (Enum e) o = refl

kind-same : (m : Metamodel) (x y : ObjectNo → Option ClassNo) (single : Bool) (k : Kind) (a b : ObjectNo) → x a ≡ y b → lookups.is_of_kind m x single k (value.Object a) ≡ lookups.is_of_kind m y single k (value.Object b)
kind-same m x y single (Attribute t unique unsettable default) a b q = object-typed m single t a ∙ sym (object-typed m single t b)
kind-same m x y single (Reference target containment opposite) a b q = ap (λ (c : Option ClassNo). option_map_or (λ c. lookups.conforms m c target) c false) q

-- a feature that takes an object takes each object of the same class
pub takes-same : (m : Metamodel) (x y : ObjectNo → Option ClassNo) (f : FeatureNo) (a b : ObjectNo) → x a ≡ y b → lookups.takes m x f (value.Object a) ≡ lookups.takes m y f (value.Object b)
takes-same m x y f a b q = by (lookups.feature m f)
  where
    by : (o : Option Feature) → option_map_or (λ g. lookups.is_of_kind m x (lookups.is_single g) g.kind (value.Object a)) o (lookups.is_live_object x (value.Object a))
        ≡ option_map_or (λ g. lookups.is_of_kind m y (lookups.is_single g) g.kind (value.Object b)) o (lookups.is_live_object y (value.Object b))
    by None = ap (λ (c : Option ClassNo). is_some c) q
    by (Some g) = kind-same m x y (lookups.is_single g) g.kind a b q

-- an object that a feature takes lives
pub taken-live : (m : Metamodel) (class : ObjectNo → Option ClassNo) (f : FeatureNo) (o : ObjectNo) → lookups.takes m class f (value.Object o) ≡ true → is_some (class o) ≡ true
taken-live m class f o = by (lookups.feature m f)
  where
    by_kind : (single : Bool) (k : Kind) → lookups.is_of_kind m class single k (value.Object o) ≡ true → is_some (class o) ≡ true
    by_kind single (Attribute t unique unsettable default) h = absurd (false≢true (sym (object-typed m single t o) ∙ h))
    by_kind single (Reference target containment opposite) h = some-of (λ c. lookups.conforms m c target) (class o) h

    by : (x : Option Feature) → option_map_or (λ g. lookups.is_of_kind m class (lookups.is_single g) g.kind (value.Object o)) x (is_some (class o)) ≡ true → is_some (class o) ≡ true
    by None h = h
    by (Some g) h = by_kind (lookups.is_single g) g.kind h

-- a feature that takes an object is a reference
pub object-reference : (m : Metamodel) (class : ObjectNo → Option ClassNo) (f : FeatureNo) (o : ObjectNo) → lookups.takes m class f (value.Object o) ≡ true → (shape m f).is_reference ≡ true
object-reference m class f o h = by (lookups.feature m f) h
  where
    by_kind : (x : Feature) (k : Kind) → lookups.is_of_kind m class (lookups.is_single x) k (value.Object o) ≡ true → (shape_of m f x k).is_reference ≡ true
    by_kind x (Attribute t unique unsettable default) q = absurd (false≢true (sym (object-typed m (lookups.is_single x) t o) ∙ q))
    by_kind x (Reference target containment opposite) q = refl

    by : (x : Option Feature) → option_map_or (λ g. lookups.is_of_kind m class (lookups.is_single g) g.kind (value.Object o)) x (lookups.is_live_object class (value.Object o)) ≡ true
        → (option_map_or (λ g. shape_of m f g g.kind) x (contents_shape m)).is_reference ≡ true
    by None q = refl
    by (Some x) q = by_kind x x.kind q

-- a feature with legal links is a reference
pub legal-reference : (r : Reading) (f : FeatureNo) (v : Value) → is_legal_target r f v ≡ true → (shape r.metamodel f).is_reference ≡ true
legal-reference r f (value.Object o) h = object-reference r.metamodel r.class f o h
legal-reference r f (value.Proxy t) h = (and_parts (shape r.metamodel f).is_reference _ h).0
legal-reference r f _ h = absurd (false≢true h)

---------------------------------------------------------------- parts

-- an object that was made is held by a node that was made
pub record IsPart (s : Model) (n : Node) (c : ObjectNo) : Type 0 where
  pub whole : IsMade s n
  pub made : c.0 < length s.values.objects
  pub by : End
  pub held : holder s.links (node.Object c) ≡ Some by
  pub here : by.node ≡ n

pub kinds-are : (m : Metamodel) → IsOfDocument m → AreKinds (kinds_of m)
kinds-are m d = record {
  inverse = λ f g h. (opposites_are_pairs m d f g h).back;
  two = λ f g h. (opposites_are_pairs m d f g h).apart;
  one_container = λ f g h. (opposites_are_pairs m d f g h).one_containing;
}

pub contains-itself : (f : FeatureNo) (x : Option FeatureNo) → is_feature f x ≡ true → x ≡ Some f
contains-itself f None h = absurd (false≢true h)
contains-itself f (Some g) h = let same = eqb-true f.0 g.0 h in λ i. Some (record { 0 = sym same i })

-- a feature of a pair with a containment is a reference
pub contains-reference : (m : Metamodel) (f h : FeatureNo) → (shape m f).containing ≡ Some h → (shape m f).is_reference ≡ true
contains-reference m f h = by (lookups.feature m f)
  where
    by_kind : (g : Feature) (k : Kind) → (shape_of m f g k).containing ≡ Some h → (shape_of m f g k).is_reference ≡ true
    by_kind g (Attribute t unique unsettable default) q = absurd (none-some h q)
    by_kind g (Reference target containment opposite) q = refl

    by : (x : Option Feature) → (option_map_or (λ g. shape_of m f g g.kind) x (contents_shape m)).containing ≡ Some h → (option_map_or (λ g. shape_of m f g g.kind) x (contents_shape m)).is_reference ≡ true
    by None q = refl
    by (Some g) q = by_kind g g.kind q

pub values-linked : (s : Model) (e : End) → (shape s.metamodel e.feature).is_reference ≡ true → values_at s e ≡ end s.links e
values-linked s e reference = rw reference refl

module _ (s : Model) (legal : IsLegal s) (n : Node) where
  linked : (f : FeatureNo) → is_containment s.metamodel f ≡ true → (k : ℕ) (c : ObjectNo) → slice_get (values_at s (at_end n f)) k ≡ Some (value.Object c) → slice_get (end s.links (at_end n f)) k ≡ Some (value.Object c)
  linked f contains k c at = ap (λ (vs : List Value). slice_get vs k) (sym (values-linked s (at_end n f) (contains-reference s.metamodel f f (contains-itself f (shape s.metamodel f).containing contains)))) ∙ at

  -- an object at an end of a containment is held through it
  pub holder-at : (f : FeatureNo) → is_containment s.metamodel f ≡ true → (k : ℕ) (c : ObjectNo) → slice_get (values_at s (at_end n f)) k ≡ Some (value.Object c) → holder s.links (node.Object c) ≡ Some (at_end n f)
  holder-at f contains k c at =
      let e = at_end n f in
      let own = contains-itself f (shape s.metamodel f).containing contains in
      let there = linked f contains k c at in
      let l = (legal.links.set.placed.ends e).only k (value.Object c) there in
      let whose = container_at (kinds_of s.metamodel) (kinds-are s.metamodel legal.metamodel) l.0 e (k, value.Object c) (legal.links.kinds l.0 l.1) l.2 in
      holder_is s.links (node.Object c) l.0 e legal.links.set.held l.1 (holding_at l.0 e k c (legal.links.set.placed.sides l.0 l.1) (whose ∙ own) l.2)

  part-at : (f : FeatureNo) → is_containment s.metamodel f ≡ true → (k : ℕ) (c : ObjectNo) → slice_get (values_at s (at_end n f)) k ≡ Some (value.Object c) → IsPart s n c
  part-at f contains k c at =
      let e = at_end n f in
      let may = legal-at (reading s) e (end s.links e) k (value.Object c) (legal.links.ends e) (linked f contains k c at) in
      record {
        whole = has-made s n f may.0;
        made = live-made s c (taken-live s.metamodel (class_of s.values) f c may.1);
        by = e;
        held = holder-at f contains k c at;
        here = refl;
      }

  one-feature : (f : FeatureNo) → AllByRecursion (IsPart s n) (parts (reading s) n (f ∷ []))
  one-feature f =
      let m = s.metamodel in
      let held = λ (g : FeatureNo). objects_of (values_at s (at_end n g)) in
      elim (is_containment m f) as (λ b. is_containment m f ≡ b → AllByRecursion (IsPart s n) (flat_map held (cond b (f ∷ []) []))) [
        | true ↦ λ contains. all-append (IsPart s n) (held f) [] (all-objects (IsPart s n) (values_at s (at_end n f)) (part-at f contains)) tt
        | false ↦ λ _. tt
      ] refl

  all-parts : (fs : List FeatureNo) → AllByRecursion (IsPart s n) (parts (reading s) n fs)
  all-parts [] = tt
  all-parts (f ∷ fs) = subst (λ os. AllByRecursion (IsPart s n) os) (sym (parts-first (reading s) n f fs)) (all-append (IsPart s n) (parts (reading s) n (f ∷ [])) (parts (reading s) n fs) (one-feature f) (all-parts fs))

  -- each object that a node contains is a part of it
  pub contents-parts : AllByRecursion (IsPart s n) (contents (reading s) n)
  contents-parts = all-parts (all_features_of (reading s) n)
