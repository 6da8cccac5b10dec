-- In a well-formed metamodel a reference with an opposite and that opposite name each other.
use Rattle.std.proofs.Common.{◌≡◌, ◌∙◌, ◌||◌, ℕ, List, Bool, true, false, not, Option, Some, None, ap, refl, sym, subst}
use Rattle.std.specs.Prelude.{is_some, pos}
use Rattle.std.specs.Option.{option_map_or}
use Rattle.std.specs.Ordering.{int_eq}
use Rattle.std.proofs.lemmas.Bool.{and_from, true_from_ne_false}
use Rattle.mm_types.specs.Opposites.{is_at, leads_astray, opposite_at}
use Rattle.mm_types.specs.Raw.{RawMetamodel}
use Rattle.mm_types.specs.Resolved.{class_named}
use Rattle.mm_types.specs.WellFormed.{NamesOpposite, WellFormed, feature_at, is_containment, is_reference, opposite_name, test_feature_at}
use Rattle.mm_types.specs.declared.meta_fault.Condition.TheVariants.{BothContain, ContainerBound, Opposite}
use Rattle.mm_types.specs.declared.meta_fault.Place.TheVariants.{Feature}
use Rattle.mm_types.specs.declared.raw.RawFeature.{RawFeature}
use Rattle.mm_types.specs.declared.raw.RawKind.{RawKind}
use Rattle.mm_types.specs.declared.raw.RawKind.TheVariants.{Attribute, Reference}
use Rattle.mm_types.proofs.Opposing.{at_decides, lacks_decides, opposite_is, test_here}
use Rattle.mm_types.proofs.Unique.{unique_names}

-- the features at two indexes are two references, each of which names the other
pub record NameEachOther (raw : RawMetamodel) (c i d j : ℕ) : Type 0 where
  pub near : RawFeature
  pub far : RawFeature
  pub near_here : feature_at raw c i ≡ Some near
  pub far_here : feature_at raw d j ≡ Some far
  pub near_type : class_named raw.classes near.type_name ≡ Some d
  pub far_type : class_named raw.classes far.type_name ≡ Some c
  pub near_names : opposite_name near.kind ≡ Some far.name
  pub far_names : opposite_name far.kind ≡ Some near.name
  pub apart : (d ≡ c) × (j ≡ i) → ⊥

abbrev pub other_way : (raw : RawMetamodel) (c i d j : ℕ) → NameEachOther raw c i d j → NameEachOther raw d j c i
other_way raw c i d j p = record {
  near = p.far;
  far = p.near;
  near_here = p.far_here;
  far_here = p.near_here;
  near_type = p.far_type;
  far_type = p.near_type;
  near_names = p.far_names;
  far_names = p.near_names;
  apart = λ e. p.apart (sym e.0, sym e.1);
}

join : (raw : RawMetamodel) (c i d j : ℕ) → NamesOpposite raw c i d j → NamesOpposite raw d j c i → ((d ≡ c) × (j ≡ i) → ⊥) → NameEachOther raw c i d j
join raw c i d j out back apart =
    let far : back.near ≡ out.far = let a = back.near_here in let b = out.far_here in cc in
    let near : back.far ≡ out.near = let a = back.far_here in let b = out.near_here in cc in
    record {
      near = out.near;
      far = out.far;
      near_here = out.near_here;
      far_here = out.far_here;
      near_type = out.type_is;
      far_type = subst (λ (f : RawFeature). class_named raw.classes f.type_name ≡ Some c) far back.type_is;
      near_names = out.names;
      far_names = ap (λ (f : RawFeature). opposite_name f.kind) (sym far) ∙ (back.names ∙ ap (λ (f : RawFeature). Some f.name) near);
      apart = apart;
    }

-- the opposite of the reference at an index, and its own index
pub record HasOpposite (raw : RawMetamodel) (c i : ℕ) : Type 0 where
  pub class : ℕ
  pub index : ℕ
  pub each_other : NameEachOther raw c i class index

neither : (a b : Bool) → (a || not b) ≡ false → (a ≡ false) × (b ≡ true)
neither true b h = cc
neither false true h = (refl, refl)
neither false false h = cc

leads_back : (raw : RawMetamodel) (c i : ℕ) (p : ℕ × ℕ) → opposite_at raw c i ≡ Some p → leads_astray raw c i p ≡ false → HasOpposite raw c i
leads_back raw c i p is h =
    let parts = neither (is_at c i p) (option_map_or (is_at c i) (opposite_at raw p.0 p.1) false) h in
    record {
      class = p.0;
      index = p.1;
      each_other = join raw c i p.0 p.1 (opposite_is raw c i p is) (back (opposite_at raw p.0 p.1) refl parts.1)
          (λ e. (let yes : is_at c i p ≡ true = (at_decides c i p).1 e in let bad : true ≡ false = sym yes ∙ parts.0 in cc));
    }
  where
    back : (o : Option (ℕ × ℕ)) → opposite_at raw p.0 p.1 ≡ o → option_map_or (is_at c i) o false ≡ true → NamesOpposite raw p.0 p.1 c i
    back None there h = cc
    back (Some q) there h =
        let at = (at_decides c i q).0 h in
        let named : NamesOpposite raw p.0 p.1 q.0 q.1 = opposite_is raw p.0 p.1 q there in
        subst (λ (n : ℕ). NamesOpposite raw p.0 p.1 c n) at.1 (subst (λ (n : ℕ). NamesOpposite raw p.0 p.1 n q.1) at.0 named)

-- A reference that names an opposite has one.
pub has_opposite : (raw : RawMetamodel) → WellFormed raw → (c i : ℕ) → test_feature_at (λ f. is_some (opposite_name f.kind)) raw c i ≡ true → HasOpposite raw c i
has_opposite raw well c i named = by (opposite_at raw c i) refl
  where
    goes_astray : (o : Option (ℕ × ℕ)) → opposite_at raw c i ≡ o → option_map_or (leads_astray raw c i) o true ≡ true → ⊥
    goes_astray o is h =
        let astray : option_map_or (leads_astray raw c i) (opposite_at raw c i) true ≡ true = ap (λ (o : Option (ℕ × ℕ)). option_map_or (leads_astray raw c i) o true) is ∙ h in
        well Opposite (Feature c i) ((lacks_decides raw (unique_names raw well) c i).0 (and_from _ _ named astray))

    by_test : (p : ℕ × ℕ) → opposite_at raw c i ≡ Some p → (b : Bool) → leads_astray raw c i p ≡ b → HasOpposite raw c i
    by_test p is true h = absurd (goes_astray (Some p) is h)
    by_test p is false h = leads_back raw c i p is h

    by : (o : Option (ℕ × ℕ)) → opposite_at raw c i ≡ o → HasOpposite raw c i
    by None is = absurd (goes_astray None is refl)
    by (Some p) is = by_test p is (leads_astray raw c i p) refl

refers : (k : RawKind) (name : List ℕ) → opposite_name k ≡ Some name → is_reference k ≡ true
refers (Attribute unique unsettable default) name is = cc
refers (Reference containment opposite) name is = refl

one_names : (raw : RawMetamodel) (c i d j : ℕ) → NameEachOther raw c i d j → NamesOpposite raw c i d j
one_names raw c i d j p = record {
  near = p.near;
  far = p.far;
  near_here = p.near_here;
  far_here = p.far_here;
  type_is = p.near_type;
  names = p.near_names;
  far_refers = refers p.far.kind p.near.name p.far_names;
}

-- At most one of the two is a containment.
pub not_both_contain : (raw : RawMetamodel) → WellFormed raw → (c i d j : ℕ) (p : NameEachOther raw c i d j) → is_containment p.near.kind ≡ true → is_containment p.far.kind ≡ true → ⊥
not_both_contain raw well c i d j p near far =
    well BothContain (Feature c i) (
      test_here (λ f. is_containment f.kind) raw c i p.near p.near_here ∙ near,
      (d, j, one_names raw c i d j p, test_here (λ f. is_containment f.kind) raw d j p.far p.far_here ∙ far),
    )

-- If the far one is a containment, the near one is single.
pub single_container : (raw : RawMetamodel) → WellFormed raw → (c i d j : ℕ) (p : NameEachOther raw c i d j) → is_containment p.far.kind ≡ true → int_eq p.near.upper (pos 1) ≡ true
single_container raw well c i d j p far =
    true_from_ne_false (int_eq p.near.upper (pos 1)) (λ several.
    well ContainerBound (Feature c i) (
      test_here (λ f. not (int_eq f.upper (pos 1))) raw c i p.near p.near_here ∙ ap not several,
      (d, j, one_names raw c i d j p, test_here (λ f. is_containment f.kind) raw d j p.far p.far_here ∙ far),
    ))
