-- In a metamodel of a document, a class has only one feature of a name, and the name of a feature is a name.
use Rattle.std.proofs.Common.{◌≡◌, ℕ, zero, suc, Bool, true, false, cond, List, [], ◌∷◌, map, Option, Some, None, inl, inr, refl, sym, ap, ◌∙◌, subst}
use Rattle.std.specs.Prelude.{not, nat_eq, option_and_then, option_map, slice_get}
use Rattle.std.specs.List.{find, list_any, slice_index_or}
use Rattle.std.specs.Option.{option_map_or}
use Rattle.std.specs.Str.{bytes_eq}
use Rattle.std.proofs.lemmas.Bool.{eq-eqb, eqb-true, false≢true, or_cases, or_left, or_right}
use Rattle.std.proofs.lemmas.Option.{none-some, same_Some, slice_get-map}
use Rattle.std.proofs.lemmas.Slice.Eq.{bytes_eq-Decides}
use Rattle.mm_types.specs.Graph.{Conforms, by_class}
use Rattle.mm_types.specs.Lookups.{feature, feature_by_name, feature_name, features, has_feature}
use Rattle.mm_types.specs.Names.{is_name}
use Rattle.mm_types.specs.OfDocument.{IsOfDocument}
use Rattle.mm_types.specs.Raw.{RawMetamodel}
use Rattle.mm_types.specs.Resolved.{Metamodel, graph_of, own_of, resolved_feature, resolved_metamodel}
use Rattle.mm_types.specs.WellFormed.{WellFormed}
use Rattle.mm_types.specs.declared.feature.Feature.{Feature}
use Rattle.mm_types.specs.declared.meta_fault.Condition.TheVariants.{DuplicateName, Name}
use Rattle.mm_types.specs.declared.meta_fault.Place.TheVariants as place
use Rattle.mm_types.specs.declared.numbers.ClassNo.{ClassNo}
use Rattle.mm_types.specs.declared.numbers.FeatureNo.{FeatureNo}
use Rattle.mm_types.specs.declared.raw.RawClass.{RawClass}
use Rattle.mm_types.specs.declared.raw.RawFeature.{RawFeature}
use Rattle.mm_meta.proofs.ConformLemmas.{conforms_is, owner_tells}
use Rattle.mm_meta.proofs.OwnerLemmas.{has_none}
use Rattle.mm_meta.proofs.PlaceLemmas.{IsDeclared, declared_at}
use Rattle.mm_meta.proofs.MetaLemmas.{supertypes_resolved}

---------------------------------------------------------------- where a feature is declared

-- the feature f of class c is declared at an index, by a class that c conforms to
record IsOwn (raw : RawMetamodel) (c : ClassNo) (f : FeatureNo) : Type 0 where
  pub class : ℕ
  pub index : ℕ
  pub written : RawFeature
  pub declared : IsDeclared raw class index written f
  pub reached : Conforms (graph_of raw.classes) c.0 class

own-at : (raw : RawMetamodel) → IsOfDocument (resolved_metamodel raw) → (c : ClassNo) (f : FeatureNo) (x : Feature) → feature (resolved_metamodel raw) f ≡ Some x → has_feature (resolved_metamodel raw) c f ≡ true → IsOwn raw c f
unfolding resolved_metamodel
own-at raw d c f x here h =
    let m = resolved_metamodel raw in
    let p = declared_at raw f x here in
    let same : x ≡ resolved_feature raw p.0 p.2 = same_Some x (resolved_feature raw p.0 p.2) (sym here ∙ p.3.resolves) in
    let up = ((conforms_is m d c x.owner).0 (owner_tells m d c f x here ∙ h)).1 in
    record {
      class = p.0;
      index = p.1;
      written = p.2;
      declared = p.3;
      reached = subst (λ (k : ℕ). Conforms (graph_of raw.classes) c.0 k) (ap (λ (y : Feature). y.owner.0) same) (subst (λ (g : List (List ℕ)). Conforms g c.0 x.owner.0) (supertypes_resolved raw.classes) up);
    }

own : (raw : RawMetamodel) → IsOfDocument (resolved_metamodel raw) → (c : ClassNo) (f : FeatureNo) → has_feature (resolved_metamodel raw) c f ≡ true → IsOwn raw c f
own raw d c f h = elim (feature (resolved_metamodel raw) f) as (λ o. feature (resolved_metamodel raw) f ≡ o → IsOwn raw c f) [
  | None ↦ λ none. absurd (false≢true (has_none (resolved_metamodel raw) d c f none ∙ h))
  | Some x ↦ λ here. own-at raw d c f x here h
] refl

---------------------------------------------------------------- names

name-is : (raw : RawMetamodel) (c : ClassNo) (f : FeatureNo) (a : IsOwn raw c f) → feature_name (resolved_metamodel raw) f ≡ a.written.name
name-is raw c f a = ap (λ (o : Option Feature). option_map_or (λ g. g.name) o []) a.declared.resolves

valid-name : (raw : RawMetamodel) → WellFormed raw → (c : ClassNo) (f : FeatureNo) (a : IsOwn raw c f) → is_name a.written.name ≡ true
valid-name raw well c f a = elim (is_name a.written.name) as (λ b. is_name a.written.name ≡ b → b ≡ true) [
  | true ↦ λ _. refl
  | false ↦ λ bad. absurd (well Name (place.Feature a.class a.index) (ap (λ (o : Option RawFeature). option_map_or (λ w. not (is_name w.name)) o false) a.declared.here ∙ ap not bad))
] refl

names-at : (ks : List RawClass) (k i : ℕ) (w : RawFeature) → option_and_then (λ c. slice_get c.features i) (slice_get ks k) ≡ Some w
    → slice_get (slice_index_or (map (λ c. map (λ f. f.name) c.features) ks) k []) i ≡ Some w.name
names-at [] k i w h = absurd (none-some w h)
names-at (c ∷ cs) zero i w h = slice_get-map (λ (f : RawFeature). f.name) c.features i ∙ ap (option_map (λ (f : RawFeature). f.name)) h
names-at (c ∷ cs) (suc k) i w h = names-at cs k i w h

-- no two features of a class share a name
one-name : (raw : RawMetamodel) → WellFormed raw → (c : ClassNo) (f g : FeatureNo) (a : IsOwn raw c f) (b : IsOwn raw c g) → a.written.name ≡ b.written.name → f.0 ≡ g.0
one-name raw well c f g a b same = elim (nat_eq f.0 g.0) as (λ t. nat_eq f.0 g.0 ≡ t → f.0 ≡ g.0) [
  | true ↦ λ is. eqb-true f.0 g.0 is
  | false ↦ λ other. absurd (well DuplicateName (place.Class c.0) (inr (record {
    one = a.class;
    index = a.index;
    other = b.class;
    other_index = b.index;
    name = b.written.name;
    one_reached = a.reached;
    other_reached = b.reached;
    here = names-at raw.classes a.class a.index a.written a.declared.here ∙ ap Some same;
    there = names-at raw.classes b.class b.index b.written b.declared.here;
    apart = λ e. false≢true (sym other ∙ eq-eqb f.0 g.0 (same_Some f.0 g.0 (sym a.declared.number ∙ (λ i. slice_get (by_class (own_of raw.classes) (e.0 i)) (e.1 i)) ∙ b.declared.number)));
  })))
] refl

---------------------------------------------------------------- by name

find-one : (p : FeatureNo → Bool) (fs : List FeatureNo) (f : FeatureNo) → list_any (λ (g : FeatureNo). nat_eq g.0 f.0) fs ≡ true → p f ≡ true
    → ((g : FeatureNo) → list_any (λ (h : FeatureNo). nat_eq h.0 g.0) fs ≡ true → p g ≡ true → g ≡ f) → find p fs ≡ Some f
find-one p [] f there passes one = absurd (false≢true there)
find-one p (g ∷ gs) f there passes one =
    elim (p g) as (λ b. p g ≡ b → cond b (Some g) (find p gs) ≡ Some f) [
      | true ↦ λ q. ap Some (one g (or_left _ _ (eq-eqb g.0 g.0 refl)) q)
      | false ↦ λ q. find-one p gs f (later q) passes (λ h at. one h (or_right _ _ at))
    ] refl
  where
    later : p g ≡ false → list_any (λ (h : FeatureNo). nat_eq h.0 f.0) gs ≡ true
    later q = elim (or_cases (nat_eq g.0 f.0) (list_any (λ (h : FeatureNo). nat_eq h.0 f.0) gs) there) [
      | inl here ↦ (let same : g ≡ f = λ i. record { 0 = eqb-true g.0 f.0 here i } in absurd (false≢true (sym q ∙ ap p same ∙ passes)))
      | inr rest ↦ rest
    ]

by-name : (raw : RawMetamodel) → IsOfDocument (resolved_metamodel raw) → WellFormed raw → (c : ClassNo) (f : FeatureNo) → has_feature (resolved_metamodel raw) c f ≡ true
    → feature_by_name (resolved_metamodel raw) c (feature_name (resolved_metamodel raw) f) ≡ Some f
by-name raw d well c f = by (features m c) refl
  where
    m : Metamodel
    m = resolved_metamodel raw

    by : (o : Option (List FeatureNo)) → features (resolved_metamodel raw) c ≡ o → option_map_or (λ all. list_any (λ g. nat_eq g.0 f.0) all) o false ≡ true
        → option_and_then (find (λ g. bytes_eq (feature_name (resolved_metamodel raw) g) (feature_name (resolved_metamodel raw) f))) o ≡ Some f
    by None is h = absurd (false≢true h)
    by (Some all) is h =
        let has : (g : FeatureNo) → list_any (λ (k : FeatureNo). nat_eq k.0 g.0) all ≡ true → has_feature (resolved_metamodel raw) c g ≡ true = λ g at. ap (λ (o : Option (List FeatureNo)). option_map_or (λ all. list_any (λ (k : FeatureNo). nat_eq k.0 g.0) all) o false) is ∙ at in
        find-one (λ g. bytes_eq (feature_name (resolved_metamodel raw) g) (feature_name (resolved_metamodel raw) f)) all f h ((bytes_eq-Decides (feature_name (resolved_metamodel raw) f) (feature_name (resolved_metamodel raw) f)).1 refl) (λ g at same.
        let a = own raw d c g (has g at) in
        let b = own raw d c f (has f h) in
        let names = sym (name-is raw c g a) ∙ (bytes_eq-Decides (feature_name (resolved_metamodel raw) g) (feature_name (resolved_metamodel raw) f)).0 same ∙ name-is raw c f b in
        λ i. record { 0 = one-name raw well c g f a b names i })

---------------------------------------------------------------- of any metamodel of a document

of-resolved_metamodel : (m : Metamodel) (d : IsOfDocument m) → IsOfDocument (resolved_metamodel d.raw)
of-resolved_metamodel m d = record { raw = d.raw; fits = d.fits; well_formed = d.well_formed; is = refl }

-- a class finds its feature by the feature's name
pub own-name : (m : Metamodel) → IsOfDocument m → (c : ClassNo) (f : FeatureNo) → has_feature m c f ≡ true → feature_by_name m c (feature_name m f) ≡ Some f
own-name m d c f = subst (λ (n : Metamodel). has_feature n c f ≡ true → feature_by_name n c (feature_name n f) ≡ Some f) (sym d.is) (by-name d.raw (of-resolved_metamodel m d) d.well_formed c f)

-- the name of a feature is a name
pub valid-feature : (m : Metamodel) → IsOfDocument m → (c : ClassNo) (f : FeatureNo) → has_feature m c f ≡ true → is_name (feature_name m f) ≡ true
valid-feature m d c f =
    subst (λ (n : Metamodel). has_feature n c f ≡ true → is_name (feature_name n f) ≡ true) (sym d.is) (λ h.
    let a = own d.raw (of-resolved_metamodel m d) c f h in
    ap is_name (name-is d.raw c f a) ∙ valid-name d.raw d.well_formed c f a)
