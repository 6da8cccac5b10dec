-- The value of a container reference: the object whose end, under the opposite feature, contains the object with the reference.
use Rattle.std.proofs.Common.{◌≡◌, ◌∙◌, ℕ, zero, suc, Bool, true, false, not, ◌&&◌, List, [], ◌∷◌, Option, Some, None, is_some, slice_get, if◌then◌else◌, eq-eqb, refl, sym, ap}
use Rattle.std.specs.Prelude.{option_and_then, option_to_list}
use Rattle.std.specs.Option.{option_map_or}
use Rattle.std.proofs.lemmas.Bool.{false≢true}
use Rattle.std.proofs.lemmas.Option.{none-some, same_Some}
use Rattle.mm_types.specs.Lookups as lookups
use Rattle.mm_types.specs.OfDocument.{IsOfDocument}
use Rattle.mm_types.specs.Resolved.{Metamodel}
use Rattle.mm_types.specs.Same.{is_feature}
use Rattle.mm_types.specs.Shapes.{contents_shape, is_containment, shape, shape_of}
use Rattle.mm_types.specs.declared.feature.Feature.{Feature}
use Rattle.mm_types.specs.declared.feature.Kind.{Kind}
use Rattle.mm_types.specs.declared.numbers.FeatureNo.{FeatureNo}
use Rattle.mm_types.specs.declared.numbers.Node.TheVariants as node
use Rattle.mm_types.specs.declared.numbers.ObjectNo.{ObjectNo}
use Rattle.mm_types.specs.declared.value.Value.{Value}
use Rattle.mm_types.specs.declared.value.Value.TheVariants as value
use Rattle.mm_meta.proofs.PairLemmas.{pair_of}
use Rattle.mm_meta.proofs.ShapeLemmas.{shape_opposite}
use Rattle.links.specs.Holders.{holder}
use Rattle.links.specs.Links.{end}
use Rattle.links.proofs.SideLemmas.{both_ends_agree}
use Rattle.models.specs.Legal.{IsLegal, is_legal_target, kinds_of}
use Rattle.models.specs.Model.{Model, reading, values_at}
use Rattle.models.specs.Reading.{at_end}
use Rattle.models.proofs.EndLemmas.{values-single}
use Rattle.containment.proofs.PartLemmas.{contains-itself, holder-at, kinds-are, legal-at, values-linked}
use Rattle.fragment_paths.proofs.HeldLemmas.{held}
use Rattle.fragment_paths.specs.Fragments.{position_in}
use Rattle.doc_loader.proofs.SideLemmas.{opposite-reference}

-- a single reference whose opposite is a containment
pub record IsContainerReference (m : Metamodel) (g : FeatureNo) : Type 0 where
  pub opposite : FeatureNo
  pub pair : (shape m g).opposite ≡ Some opposite
  pub single : (shape m g).is_single ≡ true
  pub contains : is_containment m opposite ≡ true

pub container-reference : (m : Metamodel) → IsOfDocument m → (g : FeatureNo) → lookups.is_container m g ≡ true → IsContainerReference m g
container-reference m d g container = by (lookups.opposite m g) refl container
  where
    by : (x : Option FeatureNo) → lookups.opposite m g ≡ x → option_map_or (λ y. lookups.is_containment_kind y.kind) (option_and_then (lookups.feature m) x) false ≡ true → IsContainerReference m g
    by None is h = absurd (false≢true h)
    by (Some f) is h =
        let p = pair_of m d g f is in
        let far : p.far_contains ≡ true = sym (ap (λ (o : Option Feature). option_map_or (λ y. lookups.is_containment_kind y.kind) o false) p.far_here ∙ ap lookups.is_containment_kind p.far_kind) ∙ h in
        let own : (shape m f).containing ≡ Some f =
        ap (λ (o : Option Feature). (option_map_or (λ x. shape_of m f x x.kind) o (contents_shape m)).containing) p.far_here ∙ ap (λ (k : Kind). (shape_of m f p.far k).containing) p.far_kind
        ∙ ap (λ (b : Bool). if b then Some f else (if lookups.is_container m f then Some g else None)) far in
        record {
          opposite = f;
          pair = shape_opposite m g ∙ is;
          single = ap (λ (o : Option Feature). (option_map_or (λ x. shape_of m g x x.kind) o (contents_shape m)).is_single) p.near_here ∙ ap (λ (k : Kind). (shape_of m g p.near k).is_single) p.near_kind ∙ p.near_single far;
          contains = ap (is_feature f) own ∙ eq-eqb f.0 f.0 refl;
        }

first-only : (q : Option Value) (i : ℕ) (x : Value) → slice_get (option_to_list q) i ≡ Some x → option_to_list q ≡ x ∷ []
first-only None i x at = absurd (none-some x at)
first-only (Some y) zero x at = ap (λ (z : Value). z ∷ []) (same_Some y x at)
first-only (Some y) (suc i) x at = absurd (none-some x at)

module _ (s : Model) (legal : IsLegal s) (g : FeatureNo) (is : IsContainerReference s.metamodel g) where
  abbrev f : FeatureNo
  f = is.opposite

  back : (shape s.metamodel f).opposite ≡ Some g
  back = (kinds-are s.metamodel legal.metamodel).inverse g f is.pair

  pub near-reference : (shape s.metamodel g).is_reference ≡ true
  near-reference = opposite-reference s.metamodel g f is.pair

  far-reference : (shape s.metamodel f).is_reference ≡ true
  far-reference = opposite-reference s.metamodel f g back

  pub holds : (o h : ObjectNo) (i : ℕ) → slice_get (values_at s (at_end (node.Object o) g)) i ≡ Some (value.Object h) → holder s.links (node.Object o) ≡ Some (at_end (node.Object h) f)
  holds o h i at =
      let x = at_end (node.Object o) g in
      let y = at_end (node.Object h) f in
      let there = both_ends_agree (kinds_of s.metamodel) s.links legal.links.set legal.links.kinds x y is.pair (i, ap (λ (vs : List Value). slice_get vs i) (sym (values-linked s x near-reference)) ∙ at) in
      holder-at s legal (node.Object h) f is.contains there.0 o (ap (λ (vs : List Value). slice_get vs there.0) (values-linked s y far-reference) ∙ there.1)

  -- if that end is the holder of an object, the container reference of the object has only the holder's node
  pub held-by : (o h : ObjectNo) → holder s.links (node.Object o) ≡ Some (at_end (node.Object h) f) → values_at s (at_end (node.Object o) g) ≡ value.Object h ∷ []
  held-by o h up =
      let x = at_end (node.Object o) g in
      let y = at_end (node.Object h) f in
      let at = held s legal o y up in
      let p = position_in (reading s) y o in
      let there = both_ends_agree (kinds_of s.metamodel) s.links legal.links.set legal.links.kinds y x back (p, ap (λ (vs : List Value). slice_get vs p) (sym (values-linked s y far-reference)) ∙ at.here) in
      let shown = values-single s x legal near-reference is.single in
      let here = ap (λ (vs : List Value). slice_get vs there.0) (sym shown ∙ values-linked s x near-reference) ∙ there.1 in
      shown ∙ first-only (slice_get (values_at s x) 0) there.0 (value.Object h) here

  -- a container reference takes no proxies
  not-proxy : (t : List ℕ) → is_legal_target (reading s) g (value.Proxy t) ≡ true → ⊥
  not-proxy t may =
      let own : (shape s.metamodel g).containing ≡ Some f = (kinds-are s.metamodel legal.metamodel).one_container g f is.pair ∙ contains-itself f (shape s.metamodel f).containing is.contains in
      false≢true (sym (ap (λ (b : Bool). b && not (is_some (shape s.metamodel g).containing)) near-reference ∙ ap (λ (x : Option FeatureNo). not (is_some x)) own) ∙ may)

  target-object : (v : Value) → is_legal_target (reading s) g v ≡ true → (h : ObjectNo) × (v ≡ value.Object h)
  target-object (value.Object h) may = (h, refl)
  target-object (value.Proxy t) may = absurd (not-proxy t may)
  target-object _ may = absurd (false≢true may)

  -- a container reference is empty, or has the object that contains its object
  pub data IsHeldBy (o : ObjectNo) : Type 0 where
    Nobody : values_at s (at_end (node.Object o) g) ≡ [] → IsHeldBy o
    Held : (h : ObjectNo) → holder s.links (node.Object o) ≡ Some (at_end (node.Object h) f) → IsHeldBy o

  pub who-holds : (o : ObjectNo) → IsHeldBy o
  who-holds o = by (slice_get (values_at s (at_end (node.Object o) g)) 0) refl
    where
      by : (q : Option Value) → slice_get (values_at s (at_end (node.Object o) g)) 0 ≡ q → IsHeldBy o
      by None at = Nobody (values-single s (at_end (node.Object o) g) legal near-reference is.single ∙ ap option_to_list at)
      by (Some v) at =
          let x = at_end (node.Object o) g in
          let may = (legal-at (reading s) x (end s.links x) 0 v (legal.links.ends x) (ap (λ (vs : List Value). slice_get vs 0) (sym (values-linked s x near-reference)) ∙ at)).1 in
          let h = target-object v may in
          Held h.0 (holds o h.0 0 (at ∙ ap (λ (y : Value). Some y) h.1))
