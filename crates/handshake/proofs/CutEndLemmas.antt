-- The ends of a legal model after links are cut: a single end of one of the links is empty, and each other single end is as it was.
use Rattle.std.proofs.Common.{◌≡◌, true, false, ◌&&◌, not, List, [], ◌∷◌, Option, Some, None, option_map, unwrap_or, if◌then◌else◌, refl, ap, ◌∙◌}
use Rattle.std.specs.Option.{option_map_or}
use Rattle.std.proofs.lemmas.Bool.{false≢true}
use Rattle.mm_types.specs.Ends.{shown_values}
use Rattle.mm_types.specs.Lookups as lookups
use Rattle.mm_types.specs.Resolved.{Metamodel}
use Rattle.mm_types.specs.Same.{is_nil}
use Rattle.mm_types.specs.Shapes.{contents_shape, shape, shape_of}
use Rattle.mm_types.specs.declared.end.End.{End}
use Rattle.mm_types.specs.declared.feature.Feature.{Feature}
use Rattle.mm_types.specs.declared.feature.Kind.{Kind}
use Rattle.mm_types.specs.declared.feature.Kind.TheVariants.{Attribute, Reference}
use Rattle.mm_types.specs.declared.numbers.FeatureNo.{FeatureNo}
use Rattle.mm_types.specs.declared.numbers.Node.{Node}
use Rattle.mm_types.specs.declared.numbers.Node.TheVariants as node
use Rattle.mm_types.specs.declared.value.Value.{Value}
use Rattle.mm_types.specs.declared.value.Value.TheVariants as value
use Rattle.mm_values.specs.Values.{ObjectState, object_at, stored_under}
use Rattle.links.specs.Links.{Links, end}
use Rattle.models.specs.Legal.{IsLegal, IsLegalObject}
use Rattle.models.specs.Model.{Model, attribute_values, kept_flag, kept_values, reading}
use Rattle.models.specs.Reading.{held_at}
use Rattle.models.proofs.PlaceLemmas.{legal-at}
use Rattle.handshake.proofs.LossLemmas.{gained, lost}

---------------------------------------------------------------- references

reference-kind : (m : Metamodel) (f : FeatureNo) (x : Feature) (k : Kind) → (shape_of m f x k).is_reference ≡ true → ((shape_of m f x k).is_unsettable ≡ false) × ((shape_of m f x k).default ≡ value.Null)
reference-kind m f x (Attribute t unique unsettable default) h = absurd (false≢true h)
reference-kind m f x (Reference target containment opposite) h = (refl, refl)

-- a reference has no set flag, and its default is null
pub reference-plain : (m : Metamodel) (f : FeatureNo) → (shape m f).is_reference ≡ true → ((shape m f).is_unsettable ≡ false) × ((shape m f).default ≡ value.Null)
reference-plain m f h = by (lookups.feature m f) h
  where
    by : (o : Option Feature) → (option_map_or (λ g. shape_of m f g g.kind) o (contents_shape m)).is_reference ≡ true
        → ((option_map_or (λ g. shape_of m f g g.kind) o (contents_shape m)).is_unsettable ≡ false) × ((option_map_or (λ g. shape_of m f g g.kind) o (contents_shape m)).default ≡ value.Null)
    by None h = (refl, refl)
    by (Some x) h = reference-kind m f x x.kind h

flag-off : (m : Metamodel) (f : FeatureNo) (o : Option ObjectState) → (shape m f).is_unsettable ≡ false → IsLegalObject m o → unwrap_or (option_map (λ s. (stored_under s f).flag) o) false ≡ false
flag-off m f None off legal = refl
flag-off m f (Some o) off legal = (legal.1 f).flag ∙ ap (λ b. b && ((shape m f).is_single && not (is_nil (stored_under o f).list))) off

node-flag : (s : Model) (n : Node) (f : FeatureNo) → IsLegal s → (shape s.metamodel f).is_unsettable ≡ false → kept_flag s.values n f ≡ false
node-flag s (node.Object o) f legal off = flag-off s.metamodel f (object_at s.values.objects o) off (legal-at (IsLegalObject s.metamodel) s.values.objects o.0 tt legal.objects)
node-flag s (node.Resource k) f legal off = refl

-- no flag is stored for a reference
pub reference-flag : (s : Model) (n : Node) (f : FeatureNo) → IsLegal s → (shape s.metamodel f).is_reference ≡ true → kept_flag s.values n f ≡ false
reference-flag s n f legal reference = node-flag s n f legal (reference-plain s.metamodel f reference).0

-- the values of an end are determined by its links
pub same-held : (s : Model) (t u : Links) (d : End) → end t d ≡ end u d → held_at (reading (record s { links = t })) d ≡ held_at (reading (record s { links = u })) d
same-held s t u d same =
    let a = shape s.metamodel d.feature in
    ap (λ (vs : List Value). record { values = shown_values a.is_single (if a.is_reference then vs else attribute_values a (kept_values s.values d.node d.feature)); flag = kept_flag s.values d.node d.feature }) same

-- the value of an end of a single reference, if it has at most one
module _ (s : Model) (t : Links) (d : End) (legal : IsLegal s) (reference : (shape s.metamodel d.feature).is_reference ≡ true) (single : (shape s.metamodel d.feature).is_single ≡ true) where
  pub held-none : end t d ≡ [] → lost (shape s.metamodel d.feature) ≡ held_at (reading (record s { links = t })) d
  held-none none =
      let plain = (reference-plain s.metamodel d.feature reference).0 in
      let off = reference-flag s d.node d.feature legal reference in
      rw (single, reference, none, plain, off) refl

  pub held-one : (v : Value) → end t d ≡ v ∷ [] → gained (shape s.metamodel d.feature) v ≡ held_at (reading (record s { links = t })) d
  held-one v one =
      let plain = (reference-plain s.metamodel d.feature reference).0 in
      let off = reference-flag s d.node d.feature legal reference in
      rw (single, reference, one, plain, off) refl
