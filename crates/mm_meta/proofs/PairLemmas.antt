-- A reference with an opposite, and its opposite, in a metamodel of a document.
use Rattle.std.proofs.Common.{◌≡◌, ◌∙◌, ℕ, List, Bool, true, false, Option, Some, None, ap, length, refl, subst, sym}
use Rattle.std.specs.Prelude.{is_some, option_and_then, option_map, slice_get, unwrap_or}
use Rattle.std.specs.Option.{option_map_or}
use Rattle.std.proofs.lemmas.Option.{option_and_then_some}
use Rattle.mm_types.specs.Graph.{by_class}
use Rattle.mm_types.specs.Lookups.{feature, is_single, kind_opposite, opposite}
use Rattle.mm_types.specs.OfDocument.{IsOfDocument}
use Rattle.mm_types.specs.Raw.{RawMetamodel}
use Rattle.mm_types.specs.Resolved.{Metamodel, class_named, class_no, feature_no, own_named, own_of, own_position, resolved_feature, resolved_kind, resolved_metamodel, target_named}
use Rattle.mm_types.specs.WellFormed.{WellFormed, feature_at, is_containment, opposite_name, test_feature_at}
use Rattle.mm_types.specs.declared.feature.Feature.{Feature}
use Rattle.mm_types.specs.declared.feature.Kind.TheVariants.{Reference}
use Rattle.mm_types.specs.declared.numbers.FeatureNo.{FeatureNo}
use Rattle.mm_types.specs.declared.raw.RawFeature.{RawFeature}
use Rattle.mm_types.specs.declared.raw.RawKind.{RawKind}
use Rattle.mm_types.specs.declared.raw.RawKind.TheVariants as written
use Rattle.mm_types.proofs.Opposing.{own_at_first}
use Rattle.mm_types.proofs.Pairing.{HasOpposite, NameEachOther, has_opposite, not_both_contain, other_way, single_container}
use Rattle.mm_types.proofs.Unique.{unique_names}
use Rattle.mm_meta.proofs.PlaceLemmas.{IsDeclared, declared_at, number_of}

-- f and g are two references, each of which has the other as its opposite and the other's owner as its type; at most one of them is a
-- containment, and then the other is single
pub record AreOpposites (m : Metamodel) (f g : FeatureNo) : Type 0 where
  pub near : Feature
  pub far : Feature
  pub near_contains : Bool
  pub far_contains : Bool
  pub near_here : feature m f ≡ Some near
  pub far_here : feature m g ≡ Some far
  pub near_kind : near.kind ≡ Reference far.owner near_contains (Some g)
  pub far_kind : far.kind ≡ Reference near.owner far_contains (Some f)
  pub apart : (g.0 ≡ f.0) → ⊥
  pub one_contains : near_contains ≡ true → far_contains ≡ true → ⊥
  pub near_single : far_contains ≡ true → is_single near ≡ true
  pub far_single : near_contains ≡ true → is_single far ≡ true

-- a reference whose type is class d, and whose opposite is the feature at index j there
resolved_reference : (raw : RawMetamodel) (type_name name : List ℕ) (k : RawKind) (d j : ℕ) (g : FeatureNo) → class_named raw.classes type_name ≡ Some d → opposite_name k ≡ Some name
    → own_position raw.classes d name ≡ Some j → slice_get (by_class (own_of raw.classes) d) j ≡ Some g.0
    → resolved_kind raw type_name k ≡ Reference (class_no d) (is_containment k) (Some g)
resolved_reference raw t name (written.Attribute unique unsettable default) d j g type names at number = cc
resolved_reference raw t name (written.Reference containment opposite) d j g type names at number =
    let target : target_named raw.classes t ≡ d = ap (λ (o : Option ℕ). unwrap_or o (length raw.classes)) type in
    ap (λ (e : ℕ). Reference (class_no e) containment (option_map feature_no (option_and_then (own_named raw.classes e) opposite))) target
    ∙ (ap (λ (o : Option (List ℕ)). Reference (class_no d) containment (option_map feature_no (option_and_then (own_named raw.classes d) o))) names
    ∙ (ap (λ (o : Option ℕ). Reference (class_no d) containment (option_map feature_no (option_and_then (slice_get (by_class (own_of raw.classes) d)) o))) at
    ∙ ap (λ (o : Option ℕ). Reference (class_no d) containment (option_map feature_no o)) number))

-- the resolved form of one of two references that name each other
near_resolved : (raw : RawMetamodel) → WellFormed raw → (c i d j : ℕ) (p : NameEachOther raw c i d j) (g : FeatureNo) → IsDeclared raw d j p.far g
    → resolved_kind raw p.near.type_name p.near.kind ≡ Reference (class_no d) (is_containment p.near.kind) (Some g)
near_resolved raw well c i d j p g far =
    resolved_reference raw p.near.type_name p.far.name p.near.kind d j g p.near_type p.near_names
    (own_at_first raw (unique_names raw well) d j p.far p.far_here) far.number

-- two indexes with one number are one index
one_place : (raw : RawMetamodel) → WellFormed raw → (c i d j : ℕ) (r s : RawFeature) (f g : FeatureNo) → IsDeclared raw c i r f → IsDeclared raw d j s g → g.0 ≡ f.0 → (d ≡ c) × (j ≡ i)
one_place raw well c i d j r s f g here there same =
    let x : feature (resolved_metamodel raw) g ≡ Some (resolved_feature raw c r) = ap (slice_get (resolved_metamodel raw).features) same ∙ here.resolves in
    let y = there.resolves in
    let features : resolved_feature raw d s ≡ resolved_feature raw c r = cc in
    let class : d ≡ c = ap (λ (z : Feature). z.owner.0) features in
    let name : s.name ≡ r.name = ap (λ (z : Feature). z.name) features in
    (class, unique_names raw well c j i s r (subst (λ (e : ℕ). feature_at raw e j ≡ Some s) class there.here) here.here name)

paired : (raw : RawMetamodel) → WellFormed raw → (c i d j : ℕ) (p : NameEachOther raw c i d j) (f g : FeatureNo) → IsDeclared raw c i p.near f → IsDeclared raw d j p.far g
    → AreOpposites (resolved_metamodel raw) f g
paired raw well c i d j p f g near far = record {
  near = resolved_feature raw c p.near;
  far = resolved_feature raw d p.far;
  near_contains = is_containment p.near.kind;
  far_contains = is_containment p.far.kind;
  near_here = near.resolves;
  far_here = far.resolves;
  near_kind = near_resolved raw well c i d j p g far;
  far_kind = near_resolved raw well d j c i (other_way raw c i d j p) f near;
  apart = λ e. p.apart (one_place raw well c i d j p.near p.far f g near far e);
  one_contains = not_both_contain raw well c i d j p;
  near_single = single_container raw well c i d j p;
  far_single = single_container raw well d j c i (other_way raw c i d j p);
}

names_one : (raw : RawMetamodel) (type_name : List ℕ) (k : RawKind) (g : FeatureNo) → kind_opposite (resolved_kind raw type_name k) ≡ Some g → is_some (opposite_name k) ≡ true
names_one raw t (written.Attribute unique unsettable default) g is = cc
names_one raw t (written.Reference containment None) g is = cc
names_one raw t (written.Reference containment (Some name)) g is = refl

pub opposite_is : (m : Metamodel) (f g : FeatureNo) → AreOpposites m f g → opposite m f ≡ Some g
opposite_is m f g p = ap (option_and_then (λ (x : Feature). kind_opposite x.kind)) p.near_here ∙ ap kind_opposite p.near_kind

one_value : {X : Type 0} (o : Option X) (x y : X) → o ≡ Some x → o ≡ Some y → x ≡ y
one_value o x y a b = cc

-- the opposite that a reference has is the one that the document names
pair_at : (raw : RawMetamodel) → WellFormed raw → (c i : ℕ) (r : RawFeature) (f g : FeatureNo) → IsDeclared raw c i r f → HasOpposite raw c i → opposite (resolved_metamodel raw) f ≡ Some g
    → AreOpposites (resolved_metamodel raw) f g
pair_at raw well c i r f g here h is =
    let p : NameEachOther raw c i h.class h.index = h.each_other in
    let near_is : r ≡ p.near = one_value (feature_at raw c i) r p.near here.here p.near_here in
    let n = number_of raw h.class h.index p.far p.far_here in
    let both : AreOpposites (resolved_metamodel raw) f n.0 = paired raw well c i h.class h.index p f n.0 (subst (λ (s : RawFeature). IsDeclared raw c i s f) near_is here) n.1 in
    let number : n.0 ≡ g = one_value (opposite (resolved_metamodel raw) f) n.0 g (opposite_is (resolved_metamodel raw) f n.0 both) is in
    subst (λ (e : FeatureNo). AreOpposites (resolved_metamodel raw) f e) number both

pair_in : (raw : RawMetamodel) → WellFormed raw → (f g : FeatureNo) → opposite (resolved_metamodel raw) f ≡ Some g → AreOpposites (resolved_metamodel raw) f g
pair_in raw well f g is =
    option_and_then_some (λ (x : Feature). kind_opposite x.kind) (feature (resolved_metamodel raw) f) g is (λ x here opposite_of_x.
    let d = declared_at raw f x here in
    let same : x ≡ resolved_feature raw d.0 d.2 = one_value (feature (resolved_metamodel raw) f) x (resolved_feature raw d.0 d.2) here d.3.resolves in
    let names : kind_opposite (resolved_kind raw d.2.type_name d.2.kind) ≡ Some g = ap (λ (z : Feature). kind_opposite z.kind) (sym same) ∙ opposite_of_x in
    let test : test_feature_at (λ r. is_some (opposite_name r.kind)) raw d.0 d.1 ≡ true =
    ap (λ (o : Option RawFeature). option_map_or (λ r. is_some (opposite_name r.kind)) o false) d.3.here ∙ names_one raw d.2.type_name d.2.kind g names in
    pair_at raw well d.0 d.1 d.2 f g d.3 (has_opposite raw well d.0 d.1 test) is)

-- In a metamodel of a document a reference and its opposite are a pair.
pub pair_of : (m : Metamodel) → IsOfDocument m → (f g : FeatureNo) → opposite m f ≡ Some g → AreOpposites m f g
pair_of m d f g = subst (λ (n : Metamodel). opposite n f ≡ Some g → AreOpposites n f g) (sym d.is) (pair_in d.raw d.well_formed f g)
