-- A document that is loaded into a legal model, if nothing refuses it: its numbers and its resource are free, and its edits make its
-- links.
use Rattle.std.proofs.Common.{◌≡◌, ◌∙◌, ◌+◌, ◌≤◌, ℕ, zero, suc, Bool, true, false, List, [], ◌∷◌, Option, Some, None, is_some, length, slice_get, slice_index_or, option_map, nat_le, arith, refl, sym, ap}
use Rattle.std.specs.List.{list_all}
use Rattle.std.specs.Option.{option_map_or}
use Rattle.std.proofs.lemmas.Bool.{and_parts, false≢true, true≢false}
use Rattle.std.proofs.lemmas.Bool.Decides.{nat_tests}
use Rattle.std.proofs.lemmas.Option.{none-some}
use Rattle.mm_types.specs.Conditions.{◌unless◌}
use Rattle.mm_types.specs.Lookups as lookups
use Rattle.mm_types.specs.Resolved.{Metamodel}
use Rattle.mm_types.specs.Same.{is_nil}
use Rattle.mm_types.specs.Shapes.{Shape, shape}
use Rattle.mm_types.specs.declared.end.End.{End}
use Rattle.mm_types.specs.declared.feature.Feature.{Feature}
use Rattle.mm_types.specs.declared.feature.Kind.{Kind}
use Rattle.mm_types.specs.declared.feature.Kind.TheVariants.{Attribute, Reference}
use Rattle.mm_types.specs.declared.limits.TheConstants.{OBJECTS}
use Rattle.mm_types.specs.declared.numbers.ClassNo.{ClassNo}
use Rattle.mm_types.specs.declared.numbers.FeatureNo.{FeatureNo}
use Rattle.mm_types.specs.declared.numbers.Node.TheVariants as node
use Rattle.mm_types.specs.declared.numbers.ObjectNo.{ObjectNo}
use Rattle.mm_types.specs.declared.numbers.ResourceNo.{ResourceNo}
use Rattle.mm_types.specs.declared.refused.Refused.TheVariants.{Limit, NotEmpty}
use Rattle.mm_types.specs.declared.value.Value.{Value}
use Rattle.mm_types.specs.declared.value.Value.TheVariants as value
use Rattle.mm_values.specs.Values.{Objects, class_of}
use Rattle.links.specs.Links.{end}
use Rattle.links.specs.Plans.{Lacks}
use Rattle.models.specs.Legal.{IsLegal, is_legal_end, is_legal_target}
use Rattle.models.specs.Model.{Model, reading}
use Rattle.models.specs.Reading.{at_end, contents_end, has_feature}
use Rattle.resource_docs.specs.declared.doc.Doc.{Doc}
use Rattle.doc_loader.specs.Laws.{IsRoomFor, MakesLinks}
use Rattle.doc_loader.specs.Loading.{is_empty_resource, loaded_number}
use Rattle.doc_loader.proofs.DocSoundLemmas.{read-sound}
use Rattle.doc_loader.proofs.FitLemmas.{read-fits}
use Rattle.doc_loader.proofs.SameLemmas.{links-made}
use Rattle.doc_loader.proofs.SideLemmas.{contents-shape}
use Rattle.doc_loader.proofs.SoundLemmas.{IsSound}
use Rattle.containment.proofs.PartLemmas.{object-typed, all-get}
use Rattle.handshake.specs.Changes.{HasFittingDocument, HasReadDocument, IsDocument}
use Rattle.handshake.specs.Refusals.{late_refusal}
use Rattle.handshake.specs.declared.change.Change.{Change}
use Rattle.handshake.specs.declared.change.Change.TheVariants.{Load}
use Rattle.handshake.proofs.CutLinkEndLemmas.{values-linked}
use Rattle.handshake.proofs.KnownLemmas.{none-else_by, none-unless}

---------------------------------------------------------------- numbers that no object has

past-none : (os : Objects) (i : ℕ) → length os ≤ i → slice_index_or os i None ≡ None
past-none [] i past = refl
past-none (o ∷ os) zero past = absurd (omega (arith, past))
past-none (o ∷ os) (suc i) past = past-none os i (omega (arith, past))

kind-dead : (m : Metamodel) (class : ObjectNo → Option ClassNo) (single : Bool) (k : Kind) (o : ObjectNo) → class o ≡ None → lookups.is_of_kind m class single k (value.Object o) ≡ false
kind-dead m class single (Attribute t unique unsettable default) o dead = object-typed m single t o
kind-dead m class single (Reference target containment opposite) o dead = ap (λ (c : Option ClassNo). option_map_or (λ c. lookups.conforms m c target) c false) dead

-- no feature takes an object that does not live
takes-dead : (m : Metamodel) (class : ObjectNo → Option ClassNo) (f : FeatureNo) (o : ObjectNo) → class o ≡ None → lookups.takes m class f (value.Object o) ≡ false
takes-dead m class f o dead = by (lookups.feature m f)
  where
    by : (q : Option Feature) → option_map_or (λ g. lookups.is_of_kind m class (lookups.is_single g) g.kind (value.Object o)) q (lookups.is_live_object class (value.Object o)) ≡ false
    by None = ap (λ (c : Option ClassNo). is_some c) dead
    by (Some g) = kind-dead m class (lookups.is_single g) g.kind o dead

pub nil-is : (vs : List Value) → is_nil vs ≡ true → vs ≡ []
nil-is [] h = refl
nil-is (v ∷ vs) h = absurd (false≢true h)

module _ (s : Model) (legal : IsLegal s) where
  abbrev m : Metamodel
  m = s.metamodel

  abbrev n : ℕ
  n = length s.values.objects

  pub unborn : (o : ObjectNo) → n ≤ o.0 → class_of s.values o ≡ None
  unborn o past = ap (option_map (λ x. x.class)) (past-none s.values.objects o.0 past)

  -- an object that was not made has empty ends, and is at no end
  pub unborn-end : (o : ObjectNo) (f : FeatureNo) → n ≤ o.0 → end s.links (at_end (node.Object o) f) ≡ []
  unborn-end o f past = by (end s.links e) (legal.links.ends e)
    where
      e : End
      e = at_end (node.Object o) f

      none : has_feature (reading s) (node.Object o) f ≡ false
      none = ap (λ (c : Option ClassNo). option_map_or (λ c. lookups.has_feature m c f) c false) (unborn o past)

      by : (vs : List Value) → is_legal_end (reading s) (at_end (node.Object o) f) vs ≡ true → vs ≡ []
      by [] h = refl
      by (v ∷ vs) h = absurd (false≢true (sym none ∙ (and_parts (has_feature (reading s) (node.Object o) f) _ h).0))

  unborn-lacks : (e : End) (o : ObjectNo) → n ≤ o.0 → Lacks s.links e (value.Object o)
  unborn-lacks e o past i at = by (end s.links e) (legal.links.ends e) at
    where
      none : is_legal_target (reading s) e.feature (value.Object o) ≡ false
      none = takes-dead m (class_of s.values) e.feature o (unborn o past)

      by : (vs : List Value) → is_legal_end (reading s) e vs ≡ true → slice_get vs i ≡ Some (value.Object o) → ⊥
      by [] h at = none-some (value.Object o) at
      by (v ∷ vs) h at =
          let all = (and_parts (list_all (is_legal_target (reading s) e.feature) (v ∷ vs)) _ (and_parts (has_feature (reading s) e.node e.feature) _ h).1).0 in
          true≢false (sym (all-get (is_legal_target (reading s) e.feature) (v ∷ vs) i (value.Object o) all at) ∙ none)

---------------------------------------------------------------- a load that nothing refuses

module _ (s : Model) (k : ResourceNo) (doc : Doc) (legal : IsLegal s) (late : late_refusal (reading s) (Load k doc) ≡ None) where
  pub few : length s.values.objects + length doc.objects ≤ OBJECTS
  few =
      let low = none-unless Limit (nat_le (length s.values.objects + length doc.objects) OBJECTS) (none-else_by (Limit unless nat_le (length s.values.objects + length doc.objects) OBJECTS) (NotEmpty unless is_empty_resource (reading s) k) late).0 in
      grind (arith, nat_tests)

  pub no-roots : end s.links (contents_end s.metamodel k) ≡ []
  no-roots =
      let e = contents_end s.metamodel k in
      let reference : (shape s.metamodel e.feature).is_reference ≡ true = ap (λ (a : Shape). a.is_reference) (contents-shape s.metamodel) in
      let empty = none-unless NotEmpty (is_empty_resource (reading s) k) (none-else_by (Limit unless nat_le (length s.values.objects + length doc.objects) OBJECTS) (NotEmpty unless is_empty_resource (reading s) k) late).1 in
      nil-is (end s.links e) (ap is_nil (sym (values-linked s e reference)) ∙ empty)

  pub room : IsRoomFor s.metamodel (length s.values.objects) k s.links
  room = record {
    roots = no-roots;
    ends = λ o f. unborn-end s legal (loaded_number (length s.values.objects) o) f (omega arith);
    values = λ e o. unborn-lacks s legal e (loaded_number (length s.values.objects) o) (omega arith);
  }

  module _ (read : IsDocument s.metamodel doc) where
    pub sound : IsSound s.metamodel doc
    sound = read-sound s.metamodel read.uri doc (length s.values.objects) legal.metamodel read.read few

    pub load-makes : MakesLinks s.metamodel (length s.values.objects) k doc s.links
    load-makes = links-made s.metamodel (length s.values.objects) k doc sound s.links legal.links.set legal.links.kinds legal.links.forest room few

-- a document that may be loaded has no more objects than there are free numbers
pub fits-in : (s : Model) (c : Change) → IsLegal s → late_refusal (reading s) c ≡ None → HasReadDocument s.metamodel c → HasFittingDocument (length s.values.objects) c
fits-in s (Load k doc) legal late read = read-fits s.metamodel read.uri doc (length s.values.objects) read.read (few s k doc legal late)
fits-in s _ legal late read = tt
