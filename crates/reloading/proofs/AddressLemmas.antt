-- Addresses: an object is found by its address, and a load leaves all existing addresses.
use Rattle.std.proofs.Common.{◌≡◌, ◌∙◌, ℕ, ◌+◌, ◌<◌, false, List, [], Option, Some, None, length, nat_le, slice_get, arith, refl, sym, ap}
use Rattle.std.proofs.lemmas.Bool.Decides.{nat_tests}
use Rattle.std.proofs.lemmas.Option.{none-some, same_Some}
use Rattle.mm_types.specs.Conditions.{◌unless◌}
use Rattle.mm_types.specs.declared.end.End.{End}
use Rattle.mm_types.specs.declared.limits.TheConstants.{OBJECTS}
use Rattle.mm_types.specs.declared.numbers.FeatureNo.{FeatureNo}
use Rattle.mm_types.specs.declared.numbers.Node.TheVariants as node
use Rattle.mm_types.specs.declared.numbers.ObjectNo.{ObjectNo}
use Rattle.mm_types.specs.declared.numbers.ResourceNo.{ResourceNo}
use Rattle.mm_types.specs.declared.refused.Refused.TheVariants.{Limit, NotEmpty}
use Rattle.mm_types.specs.declared.value.Value.{Value}
use Rattle.mm_types.specs.declared.value.Value.TheVariants as value
use Rattle.links.specs.Holders.{above, holder}
use Rattle.models.specs.Legal.{IsLegal}
use Rattle.models.specs.Model.{Model, reading, values_at}
use Rattle.models.specs.Reading.{at_end, contents_end}
use Rattle.containment.proofs.PartLemmas.{live-made}
use Rattle.containment.specs.Above.{resource_of_node, resource_of}
use Rattle.fragment_paths.proofs.HeldLemmas.{held, held-root}
use Rattle.fragment_paths.proofs.ImageLemmas.{address-image}
use Rattle.fragment_paths.proofs.InsideLemmas.{each-inside}
use Rattle.fragment_paths.proofs.StayLemmas.{address-finds, one-address, no-address}
use Rattle.fragment_paths.specs.Fragments.{address, position_in}
use Rattle.resource_docs.specs.declared.doc.Doc.{Doc}
use Rattle.round_trip.proofs.ShapeLemmas.{live-inside}
use Rattle.doc_loader.specs.Loading.{is_empty_resource}
use Rattle.handshake.specs.Effects.{model_after}
use Rattle.handshake.specs.Laws.{comes_with}
use Rattle.handshake.specs.Loaded.{IsLoaded}
use Rattle.handshake.specs.Changes.{IsDocument}
use Rattle.handshake.specs.Refusals.{early_refusal, late_refusal}
use Rattle.handshake.specs.declared.change.Change.TheVariants.{Load}
use Rattle.handshake.proofs.KnownLemmas.{none-else_by, none-unless}
use Rattle.handshake.proofs.AllLemmas.{change-keeps-legal}
use Rattle.handshake.proofs.LoadLemmas.{nil-is}
use Rattle.reloading.specs.Laws.{HasOwnAddresses}

pub own-addresses : (s : Model) → IsLegal s → HasOwnAddresses (reading s)
own-addresses s legal = record { finds = address-finds s legal; one = one-address s legal }

-- what has an address is in a resource
pub address-inside : (s : Model) (o : ObjectNo) (a : List ℕ) → address (reading s) o ≡ Some a → (k : ResourceNo) × (resource_of (above s.links) o ≡ Some k)
address-inside s o a is = by (resource_of (above s.links) o) refl
  where
    by : (x : Option ResourceNo) → resource_of (above s.links) o ≡ x → (k : ResourceNo) × (resource_of (above s.links) o ≡ Some k)
    by None none = absurd (none-some a (sym (no-address s o none) ∙ is))
    by (Some k) inside = (k, inside)

module _ (s : Model) (k : ResourceNo) (doc : Doc) (legal : IsLegal s) (early : early_refusal (reading s) (Load k doc) ≡ None) (late : late_refusal (reading s) (Load k doc) ≡ None) (read : IsDocument s.metamodel doc)
    (now : IsLoaded (reading s) k doc (reading (model_after s (Load k doc)))) where
  abbrev t : Model
  t = model_after s (Load k doc)

  pub loaded-legal : IsLegal (model_after s (Load k doc))
  loaded-legal = change-keeps-legal s (Load k doc) legal early late read tt

  -- the resource was empty
  pub was-empty : values_at s (contents_end s.metamodel k) ≡ []
  was-empty =
      nil-is (values_at s (contents_end s.metamodel k))
      (none-unless NotEmpty (is_empty_resource (reading s) k) (none-else_by (Limit unless nat_le (length s.values.objects + length doc.objects) OBJECTS) (NotEmpty unless is_empty_resource (reading s) k) late).1)

  -- so no object was in the resource
  none-inside : (o : ObjectNo) → resource_of (above s.links) o ≡ Some k → ⊥
  none-inside o inside = each-inside s legal (λ x. ⊥) k top (λ x e p h is up within. within) o inside
    where
      top : (x : ObjectNo) (e : End) → holder s.links (node.Object x) ≡ Some e → e.node ≡ node.Resource k → ⊥
      top x e h is =
          let there = held s legal x e h in
          let root = (held-root s legal x e k there is).0 in
          none-some (value.Object x) (ap (λ (vs : List Value). slice_get vs (position_in (reading s) e x)) (sym (ap (values_at s) root ∙ was-empty)) ∙ there.here)

  -- an object that existed before is not one of the new objects
  pub old-object : (o : ObjectNo) → o.0 < length s.values.objects → comes_with (reading s) (Load k doc) (node.Object o) ≡ false
  old-object o low = let high : nat_le (length s.values.objects) o.0 ≡ false = grind (arith, nat_tests) in high

  other-end : (j : ResourceNo) → (j ≡ k → ⊥) → contents_end s.metamodel k ≡ contents_end s.metamodel j → ⊥
  other-end j other same = other (same_Some j k (ap (λ (d : End). resource_of_node d.node) (sym same)))

  object-end : (p : ObjectNo) (f : FeatureNo) → contents_end s.metamodel k ≡ at_end (node.Object p) f → ⊥
  object-end p f same = none-some k (sym (ap (λ (d : End). resource_of_node d.node) same))

  -- an object in a resource keeps its address
  pub inside-keeps : (o : ObjectNo) (j : ResourceNo) → resource_of (above s.links) o ≡ Some j → address (reading t) o ≡ address (reading s) o
  inside-keeps o j inside =
      let other : j ≡ k → ⊥ = λ same. none-inside o (inside ∙ ap Some same) in
      let roots = now.others.values (contents_end s.metamodel j) refl (other-end j other) in
      address-image s.metamodel s.values t.values s.links t.links legal loaded-legal j j (λ p. p)
      (λ i c here. ap (λ (vs : List Value). slice_get vs i) roots ∙ here)
      (λ p f i c within contains here. ap (λ (vs : List Value). slice_get vs i) (now.others.values (at_end (node.Object p) f) (old-object p (live-made s p (live-inside s legal p j within))) (object-end p f)) ∙ here)
      (ap (λ (vs : List Value). length vs) roots) (ap (λ (us : List (List ℕ)). slice_get us j.0) now.others.uris) o inside

  pub address-kept : (o : ObjectNo) (a : List ℕ) → address (reading s) o ≡ Some a → address (reading t) o ≡ Some a
  address-kept o a is = let at = address-inside s o a is in inside-keeps o at.0 at.1 ∙ is
