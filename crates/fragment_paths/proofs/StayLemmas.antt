-- If the containments are the same, the nodes above each node stay, and each object keeps its fragment and, with the same URIs, its
-- address. An address leads to one object.
use Rattle.std.proofs.Common.{◌≡◌, ◌∙◌, ℕ, zero, suc, ◌<◌, true, List, [], ◌∷◌, Option, Some, None, length, slice_get, refl, sym, ap, arith}
use Rattle.std.specs.Prelude.{option_and_then, option_map}
use Rattle.std.specs.Option.{option_map_or}
use Rattle.std.proofs.lemmas.Option.{none-some, same_Some}
use Rattle.mm_types.specs.Lookups as lookups
use Rattle.mm_types.specs.Resolved.{Metamodel}
use Rattle.mm_types.specs.Shapes.{is_containment}
use Rattle.mm_types.specs.declared.numbers.FeatureNo.{FeatureNo}
use Rattle.mm_types.specs.declared.numbers.Node.{Node}
use Rattle.mm_types.specs.declared.numbers.Node.TheVariants as node
use Rattle.mm_types.specs.declared.numbers.ObjectNo.{ObjectNo}
use Rattle.mm_types.specs.declared.numbers.ResourceNo.{ResourceNo}
use Rattle.mm_types.specs.declared.value.Value.{Value}
use Rattle.mm_types.specs.declared.value.Value.TheVariants as value
use Rattle.mm_values.specs.Values.{ValuesState}
use Rattle.mm_types.specs.declared.end.End.{End}
use Rattle.web_uris.specs.Addresses.{address_text}
use Rattle.web_uris.specs.Paths.{path_text}
use Rattle.links.proofs.AboveLemmas.{above_falls, above_held, above_is, resource_top}
use Rattle.links.specs.Holders.{HasNoCycle, above, holder}
use Rattle.links.specs.LegalSets.{IsLegalSet}
use Rattle.links.specs.Links.{Links}
use Rattle.models.specs.Legal.{IsLegal}
use Rattle.models.specs.Model.{Model, model_of, reading, values_at}
use Rattle.models.specs.Reading.{at_end}
use Rattle.containment.specs.Above.{resource_of}
use Rattle.containment.proofs.PartLemmas.{holder-at}
use Rattle.fragment_paths.proofs.AddressLemmas.{object-found}
use Rattle.fragment_paths.proofs.HeldLemmas.{held}
use Rattle.fragment_paths.specs.Finding.{at}
use Rattle.fragment_paths.specs.Fragments.{address, fragment, has_one_root, path_of, position_in}
use Rattle.fragment_paths.specs.Laws.{HaveSameParts}
use Rattle.fragment_paths.proofs.InsideLemmas.{contents-contains}
use Rattle.fragment_paths.proofs.ImageLemmas.{address-image, fragment-image}

pub no-address : (s : Model) (o : ObjectNo) → resource_of (above s.links) o ≡ None → address (reading s) o ≡ None
no-address s o none = ap (option_and_then (λ (k : ResourceNo). option_and_then (λ u. option_map (address_text u) (fragment (reading s) o)) (slice_get s.values.uris k.0))) none

-- an object is found by its address
pub address-finds : (s : Model) → IsLegal s → (o : ObjectNo) (a : List ℕ) → address (reading s) o ≡ Some a → at (reading s) a ≡ Some o
address-finds s legal o a is = by (resource_of (above s.links) o) refl
  where
    by : (x : Option ResourceNo) → resource_of (above s.links) o ≡ x → at (reading s) a ≡ Some o
    by None none = absurd (none-some a (sym (no-address s o none) ∙ is))
    by (Some k) inside = sym (ap (option_and_then (at (reading s))) is) ∙ (object-found s legal o k inside).by_address

-- so no two objects have the same address
pub one-address : (s : Model) → IsLegal s → (o b : ObjectNo) (a : List ℕ) → address (reading s) o ≡ Some a → address (reading s) b ≡ Some a → o ≡ b
one-address s legal o b a x y = same_Some o b (sym (address-finds s legal o a x) ∙ address-finds s legal b a y)

no-fragment : (s : Model) (o : ObjectNo) → resource_of (above s.links) o ≡ None → fragment (reading s) o ≡ None
no-fragment s o none = ap (option_and_then (λ (k : ResourceNo). option_map (path_text (has_one_root (reading s) k)) (path_of (reading s) o))) none

-- the holder of an object is the same if the containments are the same
held-still : (m : Metamodel) (v w : ValuesState) (a b : Links) → IsLegal (model_of m v a) → IsLegal (model_of m w b) → HaveSameParts m v w a b → (o : ObjectNo) (e : End) → holder a (node.Object o) ≡ Some e → holder b (node.Object o) ≡ Some e
held-still m v w a b legal other same o e h =
    let s = model_of m v a in
    let there = held s legal o e h in
    let p = position_in (reading s) e o in
    holder-at (model_of m w b) other e.node e.feature there.contains p o (ap (λ (vs : List Value). slice_get vs p) (same e.node e.feature there.contains) ∙ there.here)

pub nothing-above : (t : Links) → IsLegalSet t → HasNoCycle t → (n : Node) → holder t n ≡ None → above t n ≡ []
nothing-above t legal free n none = above_is t legal free n ∙ ap (λ (x : Option End). option_map_or (λ (d : End). d.node ∷ above t d.node) x []) none

same-back : (m : Metamodel) (v w : ValuesState) (a b : Links) → HaveSameParts m v w a b → HaveSameParts m w v b a
same-back m v w a b same n f contains = sym (same n f contains)

module _ (m : Metamodel) (v w : ValuesState) (a b : Links) (legal : IsLegal (model_of m v a)) (other : IsLegal (model_of m w b)) (same : HaveSameParts m v w a b) where
  ---------------------------------------------------------------- what is above

  holder-stays : (n : Node) → holder b n ≡ holder a n
  holder-stays (node.Resource k) = resource_top b k other.links.set ∙ sym (resource_top a k legal.links.set)
  holder-stays (node.Object o) = by (holder a (node.Object o)) refl (holder b (node.Object o)) refl
    where
      by : (x : Option End) → holder a (node.Object o) ≡ x → (y : Option End) → holder b (node.Object o) ≡ y → holder b (node.Object o) ≡ holder a (node.Object o)
      by (Some e) h y q = held-still m v w a b legal other same o e h ∙ sym h
      by None none None q = q ∙ sym none
      by None none (Some e) q = absurd (none-some e (sym none ∙ held-still m w v b a other legal (same-back m v w a b same) o e q))

  above-from : (k : ℕ) (n : Node) → length (above a n) < k → above b n ≡ above a n
  above-from zero n low = absurd (omega (arith, low))
  above-from (suc k) n low =
      elim (holder a n) as (λ x. holder a n ≡ x → above b n ≡ above a n) [
        | None ↦ λ none. nothing-above b other.links.set other.links.forest n (holder-stays n ∙ none) ∙ sym (nothing-above a legal.links.set legal.links.forest n none)
        | Some e ↦ λ h.
            let falls = above_falls a legal.links.set legal.links.forest n e h in
            above_held b other.links.set other.links.forest n e (holder-stays n ∙ h) ∙ ap (λ (ns : List Node). e.node ∷ ns) (above-from k e.node (omega (arith, falls, low))) ∙ sym (above_held a legal.links.set legal.links.forest n e h)
      ] refl

  -- the nodes above each node are the same
  pub above-stays : (n : Node) → above b n ≡ above a n
  above-stays n = above-from (suc (length (above a n))) n (omega arith)

  ---------------------------------------------------------------- fragments and addresses

  at-same : (n : Node) (f : FeatureNo) (i : ℕ) (x : Value) → is_containment m f ≡ true → slice_get (values_at (model_of m v a) (at_end n f)) i ≡ Some x → slice_get (values_at (model_of m w b) (at_end n f)) i ≡ Some x
  at-same n f i x contains here = ap (λ (vs : List Value). slice_get vs i) (same n f contains) ∙ here

  abbrev tops : (k : ResourceNo) (i : ℕ) (c : ObjectNo) → slice_get (values_at (model_of m v a) (at_end (node.Resource k) (lookups.contents m))) i ≡ Some (value.Object c) → slice_get (values_at (model_of m w b) (at_end (node.Resource k) (lookups.contents m))) i ≡ Some (value.Object c)
  tops k i c here = at-same (node.Resource k) (lookups.contents m) i (value.Object c) (contents-contains m) here

  count-stays : (k : ResourceNo) → length (values_at (model_of m w b) (at_end (node.Resource k) (lookups.contents m))) ≡ length (values_at (model_of m v a) (at_end (node.Resource k) (lookups.contents m)))
  count-stays k = ap (λ (vs : List Value). length vs) (same (node.Resource k) (lookups.contents m) (contents-contains m))

  nowhere-still : (o : ObjectNo) → resource_of (above a) o ≡ None → resource_of (above b) o ≡ None
  nowhere-still o none = ap (λ (up : Node → List Node). resource_of up o) (λ i n. above-stays n i) ∙ none

  -- each object has the fragment that it had
  pub fragment-stays : (o : ObjectNo) → fragment (reading (model_of m w b)) o ≡ fragment (reading (model_of m v a)) o
  fragment-stays o = by (resource_of (above a) o) refl
    where
      by : (x : Option ResourceNo) → resource_of (above a) o ≡ x → fragment (reading (model_of m w b)) o ≡ fragment (reading (model_of m v a)) o
      by None none = no-fragment (model_of m w b) o (nowhere-still o none) ∙ sym (no-fragment (model_of m v a) o none)
      by (Some k) inside = fragment-image m v w a b legal other k k (λ p. p) (tops k) (λ p f i c within contains here. at-same (node.Object p) f i _ contains here) (count-stays k) o inside

  -- if the URIs are the same, each object has the address that it had
  pub address-stays : w.uris ≡ v.uris → (o : ObjectNo) → address (reading (model_of m w b)) o ≡ address (reading (model_of m v a)) o
  address-stays uris o = by (resource_of (above a) o) refl
    where
      by : (x : Option ResourceNo) → resource_of (above a) o ≡ x → address (reading (model_of m w b)) o ≡ address (reading (model_of m v a)) o
      by None none = no-address (model_of m w b) o (nowhere-still o none) ∙ sym (no-address (model_of m v a) o none)
      by (Some k) inside =
          address-image m v w a b legal other k k (λ p. p) (tops k) (λ p f i c within contains here. at-same (node.Object p) f i _ contains here) (count-stays k) (ap (λ (us : List (List ℕ)). slice_get us k.0) uris) o inside
