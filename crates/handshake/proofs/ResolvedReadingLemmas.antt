-- The reading after a proxy is resolved: the object is at the position of the proxy, the referring object is at the position of its
-- counterpart, and everything else is as it was.
use Rattle.std.proofs.Common.{◌≡◌, ℕ, zero, suc, Bool, true, false, List, [], ◌∷◌, Option, Some, None, length, slice_get, if◌then◌else◌, refl, sym, ap, ◌∙◌, subst}
use Rattle.std.specs.Prelude.{slice_set}
use Rattle.std.specs.List.{list_all}
use Rattle.std.specs.Option.{option_map_or}
use Rattle.std.proofs.lemmas.Bool.{and_parts, false≢true, true≢false}
use Rattle.std.proofs.lemmas.Option.{none-some, same_Some}
use Rattle.mm_types.proofs.SameLemmas.{same_end-true}
use Rattle.mm_types.specs.Lookups as lookups
use Rattle.mm_types.specs.Same.{node_value, same_end}
use Rattle.mm_types.specs.Shapes.{is_containment, shape}
use Rattle.mm_types.specs.declared.end.End.{End}
use Rattle.mm_types.specs.declared.numbers.FeatureNo.{FeatureNo}
use Rattle.mm_types.specs.declared.numbers.Node.{Node}
use Rattle.mm_types.specs.declared.numbers.Node.TheVariants as node
use Rattle.mm_types.specs.declared.numbers.ObjectNo.{ObjectNo}
use Rattle.mm_types.specs.declared.value.Value.{Value}
use Rattle.mm_types.specs.declared.value.Value.TheVariants as value
use Rattle.mm_values.specs.Values.{class_of}
use Rattle.links.proofs.AboveLemmas.{resource_top}
use Rattle.links.specs.Holders.{above, holder}
use Rattle.links.specs.Links.{Links, end, far_end}
use Rattle.models.specs.Legal.{IsLegal}
use Rattle.models.specs.Model.{Model, attribute_values, kept_flag, kept_values, reading, values_at}
use Rattle.models.specs.Reading.{Reading, at_end}
use Rattle.containment.proofs.PartLemmas.{holder-at}
use Rattle.fragment_paths.proofs.HeldLemmas.{held}
use Rattle.fragment_paths.proofs.ObjectLemmas.{all-objects}
use Rattle.fragment_paths.proofs.StayLemmas.{above-stays}
use Rattle.fragment_paths.specs.Fragments.{position_in}
use Rattle.handshake.specs.Displaced.{cut_link_ends}
use Rattle.handshake.specs.Effects.{model_after, put_by}
use Rattle.proxies.specs.Refusals.{resolve_refusal}
use Rattle.proxies.specs.Resolving.{target_at}
use Rattle.proxies.specs.ResolvingAll.{ends_after_replace, values_with}
use Rattle.handshake.specs.FeatureChanges.{changes_of_resolve, feature_changes}
use Rattle.handshake.specs.declared.change.Change.TheVariants.{At}
use Rattle.handshake.specs.declared.act.Act.TheVariants.{Resolve}
use Rattle.handshake.specs.declared.change_kind.ChangeKind.{ChangeKind}
use Rattle.handshake.specs.declared.change_kind.ChangeKind.TheVariants.{Resolves}
use Rattle.handshake.specs.declared.change_kind.FeatureChange.{FeatureChange}
use Rattle.proxies.specs.declared.resolved_proxy.Counterpart.{Counterpart}
use Rattle.proxies.specs.declared.resolved_proxy.ResolvedProxy.{ResolvedProxy}
use Rattle.handshake.proofs.CutLinkEndLemmas.{without_link_ends-names_of}
use Rattle.handshake.proofs.KnownLemmas.{IsResolvable, far-reference}
use Rattle.handshake.proofs.ResolveLemmas.{end-alone, end-joint, far-now, far-there, joint, now, placed, set-there, there}
use Rattle.handshake.proofs.ResolvedLemmas.{resolved-as}
use Rattle.proxies.proofs.TargetLemmas.{found-is, match-apart, match-is}

-- the model with other links
abbrev pub with_links : Model → Links → Model
with_links s u = record s { links = u }

-- the values of ends after the feature changes
abbrev done_in : (End → List Value) → End → ChangeKind → End → List Value
done_in ends d (Resolves i v) = ends_after_replace ends d i v
done_in ends d _ = ends

abbrev told_in : (End → List Value) → List FeatureChange → End → List Value
told_in ends [] = ends
told_in ends (t ∷ ts) = told_in (done_in ends t.at t.does) ts

module _ (s : Model) (legal : IsLegal s) (e : End) (i : ℕ) (x : ResolvedProxy) (is : IsResolvable (reading s) e i x) where
  abbrev v : Value
  v = value.Object x.object

  abbrev kept : End → List Value
  kept d = attribute_values (shape s.metamodel d.feature) (kept_values s.values d.node d.feature)

  -- the values of an end of a reference, or of an attribute
  abbrev out : End → Bool → Links → List Value
  out d b t = if b then end t d else kept d

  -- an end of a reference is not an end of an attribute
  attribute-apart : (y d : End) → (shape s.metamodel y.feature).is_reference ≡ true → (shape s.metamodel d.feature).is_reference ≡ false → same_end y d ≡ false
  attribute-apart y d reference attribute = elim (same_end y d) as (λ b. same_end y d ≡ b → b ≡ false) [
    | true ↦ λ same. absurd (true≢false (sym reference ∙ ap (λ (z : End). (shape s.metamodel z.feature).is_reference) (same_end-true y d same) ∙ attribute))
    | false ↦ λ _. refl
  ] refl

  values-alone : (alone : (shape s.metamodel e.feature).opposite ≡ None) (d : End) → values_at (with_links s (placed s legal e i x is [])) d ≡ ends_after_replace (values_at s) e i v d
  values-alone alone d =
      let u = placed s legal e i x is [] in
      let mine = now s legal e i x is in
      elim (shape s.metamodel d.feature).is_reference as (λ b. (shape s.metamodel d.feature).is_reference ≡ b → out d b u ≡ (if same_end e d then slice_set (out d b s.links) i v else out d b s.links)) [
        | true ↦ λ reference.
            end-alone s legal e i x is alone d
            ∙ elim (same_end e d) as (λ b. same_end e d ≡ b → (if b then mine else end s.links d) ≡ (if b then slice_set (end s.links d) i v else end s.links d)) [
              | true ↦ λ same. subst (λ (y : End). mine ≡ slice_set (end s.links y) i v) (same_end-true e d same) (sym (set-there (end s.links e) i (value.Proxy is.found.text) v (there s legal e i x is)))
              | false ↦ λ _. refl
            ] refl
        | false ↦ λ attribute. sym (ap (λ (b : Bool). if b then slice_set (kept d) i v else kept d) (attribute-apart e d is.reference attribute))
      ] refl

  module _ (g : FeatureNo) (opposite : (shape s.metamodel e.feature).opposite ≡ Some g) (j : ℕ) (text : List ℕ) (stands : slice_get ((reading s).values (far_end x.object g)) j ≡ Some (value.Proxy text)) where
    abbrev far : End
    far = far_end x.object g

    abbrev self : Value
    self = node_value e.node

    values-joint : (d : End) → values_at (with_links s (joint s legal e i x is g opposite j text stands)) d ≡ ends_after_replace (ends_after_replace (values_at s) far j self) e i v d
    values-joint d =
        let u = joint s legal e i x is g opposite j text stands in
        let mine = now s legal e i x is in
        let theirs = far-now s legal e i x is g opposite j text stands in
        let apart = match-apart (reading s) e x.object g legal.metamodel opposite in
        let inner : List Value → List Value = λ ws. if same_end far d then slice_set ws j self else ws in
        elim (shape s.metamodel d.feature).is_reference as (λ b. (shape s.metamodel d.feature).is_reference ≡ b → out d b u ≡ (if same_end e d then slice_set (inner (out d b s.links)) i v else inner (out d b s.links))) [
          | true ↦ λ reference.
              end-joint s legal e i x is g opposite j text stands d
              ∙ elim (same_end e d) as (λ b. same_end e d ≡ b → (if b then mine else (if same_end far d then theirs else end s.links d)) ≡ (if b then slice_set (inner (end s.links d)) i v else inner (end s.links d))) [
                | true ↦ λ same. subst (λ (y : End). mine ≡ slice_set (if same_end far y then slice_set (end s.links y) j self else end s.links y) i v) (same_end-true e d same)
                    (sym (ap (λ (b : Bool). slice_set (if b then slice_set (end s.links e) j self else end s.links e) i v) apart ∙ set-there (end s.links e) i (value.Proxy is.found.text) v (there s legal e i x is)))
                | false ↦ λ _. elim (same_end far d) as (λ b. same_end far d ≡ b → (if b then theirs else end s.links d) ≡ (if b then slice_set (end s.links d) j self else end s.links d)) [
                  | true ↦ λ same. subst (λ (y : End). theirs ≡ slice_set (end s.links y) j self) (same_end-true far d same)
                      (sym (set-there (end s.links far) j (value.Proxy text) self (far-there s legal e i x is g opposite j text stands)))
                  | false ↦ λ _. refl
                ] refl
              ] refl
          | false ↦ λ attribute.
              sym (ap (λ (b : Bool). if b then slice_set (inner (kept d)) i v else inner (kept d)) (attribute-apart e d is.reference attribute)
              ∙ ap (λ (b : Bool). if b then slice_set (kept d) j self else kept d) (attribute-apart far d (far-reference s.metamodel legal.metamodel e.feature g opposite) attribute))
        ] refl

---------------------------------------------------------------- what ends hold after it

told-changes_of_resolve : (r : Reading) (e : End) (i : ℕ) (x : ResolvedProxy) (d : End) → told_in r.values (changes_of_resolve e i x) d ≡ values_with r e i x d
told-changes_of_resolve r e i x d = by x.counterpart
  where
    by : (q : Option Counterpart) → told_in r.values (changes_of_resolve e i (record x { counterpart = q })) d ≡ values_with r e i (record x { counterpart = q }) d
    by None = refl
    by (Some c) = refl

module _ (s : Model) (legal : IsLegal s) (o : ObjectNo) (f : FeatureNo) (i : ℕ) (late : resolve_refusal (reading s) (at_end (node.Object o) f) i ≡ None) (x : ResolvedProxy) (found : target_at (reading s) (at_end (node.Object o) f) i ≡ Some x) where
  abbrev e : End
  e = at_end (node.Object o) f

  abbrev t : Model
  t = model_after s (At (at_end (node.Object o) f) (Resolve i))

  values-told : (d : End) → values_at t d ≡ told_in (values_at s) (feature_changes (reading s) (At (at_end (node.Object o) f) (Resolve i))) d
  values-told d =
      subst (λ (u : Links). values_at (with_links s (put_by u (reading s) (At (at_end (node.Object o) f) (Resolve i)))) d ≡ told_in (values_at s) (feature_changes (reading s) (At (at_end (node.Object o) f) (Resolve i))) d) (sym (without_link_ends-names_of s.links (cut_link_ends (reading s) (At (at_end (node.Object o) f) (Resolve i)))))
      (resolved-as s legal e i late (λ ts xs us u. values_at (with_links s u) d ≡ told_in (values_at s) us d) (λ x is alone. values-alone s legal e i x is alone d) (λ x is g opposite j text stands. values-joint s legal e i x is g opposite j text stands d))

  values-after : (d : End) → values_at t d ≡ values_with (reading s) e i x d
  values-after d =
      values-told d ∙ ap (λ (q : Option ResolvedProxy). told_in (values_at s) (option_map_or (changes_of_resolve e i) q []) d) found ∙ told-changes_of_resolve (reading s) e i x d

  ---------------------------------------------------------------- what contains is as it was

  object-all : (vs : List Value) (k : ℕ) (w : Value) → list_all lookups.is_object vs ≡ true → slice_get vs k ≡ Some w → lookups.is_object w ≡ true
  object-all [] k w all here = absurd (none-some w here)
  object-all (v ∷ vs) zero w all here = subst (λ (y : Value). lookups.is_object y ≡ true) (same_Some v w here) (and_parts _ _ all).0
  object-all (v ∷ vs) (suc k) w all here = object-all vs k w (and_parts _ _ all).1 here

  -- a proxy is at another end
  proxy-apart : (d : End) → is_containment s.metamodel d.feature ≡ true → (y : End) (k : ℕ) (text : List ℕ) → slice_get (values_at s y) k ≡ Some (value.Proxy text) → same_end y d ≡ false
  proxy-apart d contains y k text at = elim (same_end y d) as (λ b. same_end y d ≡ b → b ≡ false) [
    | true ↦ λ same.
        let all = all-objects s d legal contains in
        absurd (false≢true (object-all (values_at s d) k (value.Proxy text) all (subst (λ (z : End). slice_get (values_at s z) k ≡ Some (value.Proxy text)) (same_end-true y d same) at)))
    | false ↦ λ _. refl
  ] refl

  pub contains-with : (n : Node) (h : FeatureNo) → is_containment s.metamodel h ≡ true → values_with (reading s) (at_end (node.Object o) f) i x (at_end n h) ≡ values_at s (at_end n h)
  contains-with n h contains =
      let r = reading s in
      let d = at_end n h in
      let there = found-is r e i x found in
      let inner : Option Counterpart → List Value = λ q. option_map_or (λ c. ends_after_replace r.values c.end c.index (node_value e.node)) q r.values d in
      ap (λ (b : Bool). if b then slice_set (inner x.counterpart) i (value.Object x.object) else inner x.counterpart) (proxy-apart d contains e i there.text there.proxy)
      ∙ elim x.counterpart as (λ q. x.counterpart ≡ q → inner q ≡ values_at s d) [
        | None ↦ λ _. refl
        | Some c ↦ λ is.
            let match = match-is r e x.object c (sym there.matched ∙ is) in
            ap (λ (b : Bool). if b then slice_set (values_at s d) c.index (node_value e.node) else values_at s d) (proxy-apart d contains c.end c.index match.text match.proxy)
      ] refl

  contains-other : (n : Node) (h : FeatureNo) → is_containment s.metamodel h ≡ true → values_at t (at_end n h) ≡ values_at s (at_end n h)
  contains-other n h contains = values-after (at_end n h) ∙ contains-with n h contains

  module _ (other : IsLegal (model_after s (At (at_end (node.Object o) f) (Resolve i)))) where
    held-still : (p : ObjectNo) (d : End) → holder s.links (node.Object p) ≡ Some d → holder t.links (node.Object p) ≡ Some d
    held-still p d h =
        let there = held s legal p d h in
        let k = position_in (reading s) d p in
        holder-at t other d.node d.feature there.contains k p (ap (λ (vs : List Value). slice_get vs k) (contains-other d.node d.feature there.contains) ∙ there.here)

    held-before : (p : ObjectNo) (d : End) → holder t.links (node.Object p) ≡ Some d → holder s.links (node.Object p) ≡ Some d
    held-before p d h =
        let there = held t other p d h in
        let k = position_in (reading t) d p in
        holder-at s legal d.node d.feature there.contains k p (ap (λ (vs : List Value). slice_get vs k) (sym (contains-other d.node d.feature there.contains)) ∙ there.here)

    holder-same : (n : Node) → holder t.links n ≡ holder s.links n
    holder-same (node.Resource k) = resource_top t.links k other.links.set ∙ sym (resource_top s.links k legal.links.set)
    holder-same (node.Object p) = by (holder s.links (node.Object p)) refl (holder t.links (node.Object p)) refl
      where
        by : (x : Option End) → holder s.links (node.Object p) ≡ x → (y : Option End) → holder t.links (node.Object p) ≡ y → holder t.links (node.Object p) ≡ holder s.links (node.Object p)
        by (Some d) h y q = held-still p d h ∙ sym h
        by None none None q = q ∙ sym none
        by None none (Some d) q = absurd (none-some d (sym none ∙ held-before p d q))

    above-same : (n : Node) → above t.links n ≡ above s.links n
    above-same n = above-stays s.metamodel s.values s.values s.links t.links legal other contains-other n

    pub reading-after : reading (model_after s (At (at_end (node.Object o) f) (Resolve i))) ≡ record (reading s) { values = values_with (reading s) (at_end (node.Object o) f) i x }
    reading-after k =
        record {
          metamodel = s.metamodel;
          next = length s.values.objects;
          class = class_of s.values;
          uris = s.values.uris;
          values = λ d. values-after d k;
          flag = λ d. kept_flag s.values d.node d.feature;
          holder = λ n. holder-same n k;
          above = λ n. above-same n k;
        }
