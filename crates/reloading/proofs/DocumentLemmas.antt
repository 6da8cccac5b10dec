-- The document of a resource has, under each feature of each object, the values of this feature, named as in a document.
use Rattle.std.proofs.Common.{◌≡◌, ◌∙◌, ℕ, Bool, true, false, ◌&&◌, ◌||◌, not, List, [], ◌∷◌, ◌++◌, Option, Some, None, append-nil, flat_map, map, slice_get, if◌then◌else◌, eq-eqb, eqb-true, refl, sym, ap, subst}
use Rattle.std.specs.Prelude.{Contains, option_and_then}
use Rattle.std.specs.List.{AllByRecursion, IsDistinct, list_all, list_any}
use Rattle.std.specs.Option.{option_map_or}
use Rattle.std.proofs.lemmas.Bool.{and_parts, false≢true, true≢false}
use Rattle.std.proofs.lemmas.Option.{none-some}
use Rattle.mm_types.specs.Ends.{shown_values}
use Rattle.mm_types.specs.Ends as ends
use Rattle.mm_types.specs.Lookups as lookups
use Rattle.mm_types.specs.Same.{is_nil, same_feature}
use Rattle.mm_types.specs.Shapes.{Shape, shape}
use Rattle.mm_types.specs.declared.end.End.{End}
use Rattle.mm_types.specs.declared.numbers.FeatureNo.{FeatureNo}
use Rattle.mm_types.specs.declared.numbers.Node.TheVariants as node
use Rattle.mm_types.specs.declared.numbers.ObjectNo.{ObjectNo}
use Rattle.mm_types.specs.declared.numbers.ResourceNo.{ResourceNo}
use Rattle.mm_types.specs.declared.value.Value.{Value}
use Rattle.mm_types.specs.declared.value.Value.TheVariants as value
use Rattle.mm_meta.proofs.ShapeLemmas.{shape_opposite}
use Rattle.links.specs.Links.{end}
use Rattle.models.specs.Legal.{IsLegal}
use Rattle.models.specs.Model.{Model, attribute_values, kept_flag, kept_values, reading, values_at}
use Rattle.models.specs.Reading.{Reading, all_features_of, at_end, has_feature, is_set}
use Rattle.models.proofs.PlaceLemmas.{target-legal}
use Rattle.containment.proofs.DistinctLemmas.{features-distinct}
use Rattle.mm_meta.proofs.FeatureListLemmas.{distinct-filter}
use Rattle.containment.proofs.PartLemmas.{legal-at, values-linked}
use Rattle.doc_writer.specs.Written.{is_written, objects_in, written_features}
use Rattle.resource_docs.specs.Read.{values_in, values_under}
use Rattle.resource_docs.specs.declared.doc.Content.{Content}
use Rattle.resource_docs.specs.declared.doc.DocObject.{DocObject}
use Rattle.doc_loader.proofs.SideLemmas.{opposite-reference}
use Rattle.doc_loader.proofs.SoundLemmas.{at-map}
use Rattle.round_trip.specs.Copied.{copied_document, object_copied, renamed_value}
use Rattle.round_trip.proofs.ContainLemmas.{reference-plain}
use Rattle.round_trip.proofs.EndLemmas.{written-of}
use Rattle.round_trip.proofs.ListLemmas.{any-in, any-none}
use Rattle.round_trip.proofs.SideLemmas.{among-class, first-set}
use Rattle.round_trip.proofs.ValuesListLemmas.{behind, in-front, is-kept}
use Rattle.doc_writer.proofs.PlainLemmas.{attribute-plain, is_plain}
use Rattle.reloading.proofs.StoredLemmas.{not-set, set-some, stored-of}

---------------------------------------------------------------- contents of different features

-- the values under a feature, if each content is of a different feature
under : (vals : FeatureNo → List Value) (gs : List FeatureNo) (f : FeatureNo) → IsDistinct same_feature gs
    → flat_map (λ (c : Content). if same_feature f c.feature then c.values else []) (map (λ g. record { feature = g; values = vals g }) gs) ≡ (if list_any (same_feature f) gs then vals f else [])
unfolding IsDistinct
under vals [] f d = refl
under vals (g ∷ gs) f d =
    let rest = flat_map (λ (c : Content). if same_feature f c.feature then c.values else []) (map (λ h. record { feature = h; values = vals h }) gs) in
    elim (same_feature f g) as (λ b. same_feature f g ≡ b → (if b then vals g else []) ++ rest ≡ (if b || list_any (same_feature f) gs then vals f else [])) [
      | true ↦ λ same.
          let is : f ≡ g = λ i. record { 0 = eqb-true f.0 g.0 same i } in
          let none = any-none (same_feature f) gs (subst (λ (h : FeatureNo). AllByRecursion (λ x. same_feature h x ≡ false) gs) (sym is) d.0) in
          ap (λ (vs : List Value). vals g ++ vs) (under vals gs f d.1 ∙ ap (λ (b : Bool). if b then vals f else []) none) ∙ append-nil (vals g) ∙ ap vals (sym is)
      | false ↦ λ _. under vals gs f d.1
    ] refl

---------------------------------------------------------------- references that are set

found-feature : (fs : List FeatureNo) (f : FeatureNo) → list_any (same_feature f) fs ≡ true → Contains fs f
found-feature [] f h = absurd (false≢true h)
found-feature (g ∷ gs) f h =
    elim (same_feature f g) as (λ b. same_feature f g ≡ b → (b || list_any (same_feature f) gs) ≡ true → Contains (g ∷ gs) f) [
      | true ↦ λ same _. (let is : f ≡ g = λ i. record { 0 = eqb-true f.0 g.0 same i } in subst (λ (x : FeatureNo). Contains (g ∷ gs) x) (sym is) (in-front g gs))
      | false ↦ λ _ later. behind g gs f (found-feature gs f later)
    ] refl h

-- a reference that is no container reference and has a value is written
pub reference-written : (s : Model) → IsLegal s → (o : ObjectNo) (f : FeatureNo) (i : ℕ) (x : Value) → (shape s.metamodel f).is_reference ≡ true → lookups.is_container s.metamodel f ≡ false
    → slice_get (values_at s (at_end (node.Object o) f)) i ≡ Some x → Contains (written_features (reading s) o) f
reference-written s legal o f i x reference plain at = by (values_at s e) refl at
  where
    e : End
    e = at_end (node.Object o) f

    by : (vs : List Value) → values_at s (at_end (node.Object o) f) ≡ vs → slice_get vs i ≡ Some x → Contains (written_features (reading s) o) f
    by [] is here = absurd (none-some x here)
    by (y ∷ ys) is here =
        let d = at_end (node.Object o) f in
        let r = reading s in
        let two = legal-at r d (end s.links d) 0 y (legal.links.ends d) (ap (λ (vs : List Value). slice_get vs 0) (sym (values-linked s d reference) ∙ is)) in
        let like = reference-plain s.metamodel f reference in
        let set : is_set r d ≡ true =
        ap (λ (zs : List Value). ends.is_set (shape s.metamodel f) (record { values = shown_values (shape s.metamodel f).is_single zs; flag = r.flag d })) is
        ∙ first-set (shape s.metamodel f) y ys (r.flag d) like.0 like.1 (target-legal r f y two.1) in
        is-kept (is_written r o) (all_features_of r (node.Object o)) f (among-class r o f two.0) (λ j. set j && not (plain j))

---------------------------------------------------------------- what is no proxy

plain-renamed_value : (r : Reading) (os : List ObjectNo) (vs : List Value) → list_all is_plain vs ≡ true → map (renamed_value r os) vs ≡ vs
plain-renamed_value r os [] all = refl
plain-renamed_value r os (v ∷ vs) all =
    let both = and_parts _ _ all in
    let one = plain-one v both.0 in
    let rest = plain-renamed_value r os vs both.1 in
    λ i. one i ∷ rest i
  where
    plain-one : (x : Value) → is_plain x ≡ true → renamed_value r os x ≡ x
    plain-one (value.Object o) h = absurd (false≢true h)
    plain-one _ h = refl

attribute-some : (a : Shape) (vs : List Value) → is_nil vs ≡ false → attribute_values a vs ≡ vs
attribute-some a [] some = absurd (true≢false some)
attribute-some a (v ∷ vs) some = refl

---------------------------------------------------------------- a document

pub object-in : (r : Reading) (k : ResourceNo) (o : ObjectNo) (i : ℕ) → slice_get (objects_in r k) i ≡ Some o → slice_get (copied_document r k).objects i ≡ Some (object_copied r (objects_in r k) o)
unfolding copied_document
object-in r k o i at = at-map (object_copied r (objects_in r k)) (objects_in r k) i o at

module _ (s : Model) (legal : IsLegal s) (k : ResourceNo) where
  abbrev r : Reading
  r = reading s

  abbrev os : List ObjectNo
  os = objects_in (reading s) k

  module _ (o : ObjectNo) (i : ℕ) (f : FeatureNo) (at : slice_get (objects_in (reading s) k) i ≡ Some o) where
    abbrev e : End
    e = at_end (node.Object o) f

    -- the values that the document has there
    abbrev copy : List Value
    copy = values_in (copied_document (reading s) k) (record { 0 = i }) f

    -- a feature that is written has its values in the document
    values-written : copy ≡ (if list_any (same_feature f) (written_features r o) then map (renamed_value r os) (values_at s e) else [])
    values-written =
        ap (λ (x : Option DocObject). option_map_or (λ y. values_under y f) x []) (object-in r k o i at)
        ∙ under (λ g. map (renamed_value r os) (values_at s (at_end (node.Object o) g))) (written_features r o) f (distinct-filter (is_written r o) (all_features_of r (node.Object o)) (features-distinct s legal (node.Object o)))

    is-written : has_feature r (node.Object o) f ≡ true → is_set r e ≡ true → lookups.is_container s.metamodel f ≡ false → list_any (same_feature f) (written_features r o) ≡ true
    is-written has set plain =
        any-in (same_feature f) (written_features r o) f (is-kept (is_written r o) (all_features_of r (node.Object o)) f (among-class r o f has) (λ j. set j && not (plain j))) (eq-eqb f.0 f.0 refl)

    -- a reference that is no container reference has its values in the document
    pub reference-values : (shape s.metamodel f).is_reference ≡ true → lookups.is_container s.metamodel f ≡ false → copy ≡ map (renamed_value r os) (values_at s e)
    reference-values reference plain =
        values-written
        ∙ elim (list_any (same_feature f) (written_features r o)) as (λ b. list_any (same_feature f) (written_features r o) ≡ b → (if b then map (renamed_value r os) (values_at s e) else []) ≡ map (renamed_value r os) (values_at s e)) [
          | true ↦ λ _. refl
          | false ↦ λ none. sym (ap (map (renamed_value r os)) (empty (values_at s e) refl none))
        ] refl
      where
        empty : (vs : List Value) → values_at s e ≡ vs → list_any (same_feature f) (written_features r o) ≡ false → values_at s e ≡ []
        empty [] is none = is
        empty (x ∷ xs) is none =
            let written = reference-written s legal o f 0 x reference plain (ap (λ (vs : List Value). slice_get vs 0) is) in
            absurd (true≢false (sym (any-in (same_feature f) (written_features r o) f written (eq-eqb f.0 f.0 refl)) ∙ none))

    -- an attribute has the same values and the same flag as before
    pub record IsAttribute : Type 0 where
      pub values : attribute_values (shape s.metamodel f) copy ≡ values_at s e
      pub flag : ((shape s.metamodel f).is_unsettable && ((shape s.metamodel f).is_single && not (is_nil copy))) ≡ r.flag e

    module _ (attribute : (shape s.metamodel f).is_reference ≡ false) where
      abbrev a : Shape
      a = shape s.metamodel f

      abbrev kept : List Value
      kept = kept_values s.values (node.Object o) f

      abbrev flag : Bool
      flag = kept_flag s.values (node.Object o) f

      shows : values_at s e ≡ attribute_values a kept
      shows = ap (λ (b : Bool). if b then end s.links e else attribute_values a kept) attribute

      set-is : ends.is_set a (record { values = shown_values a.is_single (attribute_values a kept); flag = flag }) ≡ is_set r e
      set-is = sym (ap (λ (vs : List Value). ends.is_set a (record { values = shown_values a.is_single vs; flag = flag })) shows)

      when-written : list_any (same_feature f) (written_features r o) ≡ true → IsAttribute
      when-written h =
          let set = (written-of s legal o f (found-feature (written_features r o) f h)).set in
          let stored = stored-of s legal o f in
          let some = set-some a kept flag (set-is ∙ set) stored.flagged in
          let vs = values_at s e in
          let own : vs ≡ kept = shows ∙ some.shows in
          let written : copy ≡ vs = values-written ∙ ap (λ (b : Bool). if b then map (renamed_value r os) vs else []) h ∙ plain-renamed_value r os vs (attribute-plain s legal e attribute) in
          record {
            values = ap (attribute_values a) written ∙ attribute-some a vs (ap is_nil own ∙ some.some);
            flag = ap (λ (xs : List Value). a.is_unsettable && (a.is_single && not (is_nil xs))) (written ∙ own) ∙ ap (λ (b : Bool). a.is_unsettable && (a.is_single && not b)) some.some ∙ sym some.flag;
          }

      when-not : list_any (same_feature f) (written_features r o) ≡ false → IsAttribute
      when-not h =
          let stored = stored-of s legal o f in
          let nothing : copy ≡ [] = values-written ∙ ap (λ (b : Bool). if b then map (renamed_value r os) (values_at s e) else []) h in
          let off : is_set r e ≡ false =
          elim (is_set r e) as (λ b. is_set r e ≡ b → b ≡ false) [
            | true ↦ λ set.
                let some = set-some a kept flag (set-is ∙ set) stored.flagged in
                absurd (true≢false (sym (is-written (stored.own some.some) set (no-container attribute)) ∙ h))
            | false ↦ λ _. refl
          ] refl in
          let two = not-set a kept flag (set-is ∙ off) stored.flagged stored.one in
          record {
            values = ap (attribute_values a) nothing ∙ sym two.0 ∙ sym shows;
            flag = ap (λ (xs : List Value). a.is_unsettable && (a.is_single && not (is_nil xs))) nothing ∙ sym (never a.is_unsettable a.is_single) ∙ sym two.1;
          }
        where
          never : (u b : Bool) → false ≡ (u && (b && false))
          never true true = refl
          never true false = refl
          never false b = refl

          -- an attribute is no container reference
          no-container : (shape s.metamodel f).is_reference ≡ false → lookups.is_container s.metamodel f ≡ false
          no-container h = by (lookups.opposite s.metamodel f) (shape_opposite s.metamodel f)
            where
              by : (x : Option FeatureNo) → (shape s.metamodel f).opposite ≡ x → option_map_or (λ y. lookups.is_containment_kind y.kind) (option_and_then (lookups.feature s.metamodel) x) false ≡ false
              by None is = refl
              by (Some g) is = absurd (true≢false (sym (opposite-reference s.metamodel f g is) ∙ h))

      pub attribute-as : IsAttribute
      attribute-as = elim (list_any (same_feature f) (written_features r o)) as (λ b. list_any (same_feature f) (written_features r o) ≡ b → IsAttribute) [ true ↦ when-written | false ↦ when-not ] refl
