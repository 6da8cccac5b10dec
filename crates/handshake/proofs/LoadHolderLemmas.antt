-- After a document is loaded, each node that existed before has the same holder as before.
use Rattle.std.proofs.Common.{◌≡◌, ◌≢◌, ◌∙◌, ◌<◌, ℕ, zero, suc, false, List, [], ◌∷◌, Option, Some, None, length, map, nat_le, slice_get, arith, eq-eqb, refl, sym, ap, subst}
use Rattle.std.specs.Option.{option_map_or}
use Rattle.std.proofs.lemmas.Bool.Decides.{nat_tests}
use Rattle.std.proofs.lemmas.Option.{none-some}
use Rattle.mm_types.specs.Same.{is_feature}
use Rattle.mm_types.specs.Shapes.{shape}
use Rattle.mm_types.specs.declared.end.End.{End}
use Rattle.mm_types.specs.declared.numbers.Node.{Node}
use Rattle.mm_types.specs.declared.numbers.Node.TheVariants as node
use Rattle.mm_types.specs.declared.numbers.ObjectNo.{ObjectNo}
use Rattle.mm_types.specs.declared.numbers.ResourceNo.{ResourceNo}
use Rattle.mm_types.specs.declared.value.Value.{Value}
use Rattle.mm_types.specs.declared.value.Value.TheVariants as value
use Rattle.links.specs.Holders.{above, holder}
use Rattle.links.specs.Links.{end}
use Rattle.links.specs.Plans.{Has}
use Rattle.links.proofs.AboveLemmas.{above_falls, above_is, resource_top}
use Rattle.links.proofs.ShownLemmas.{object_value}
use Rattle.models.specs.Legal.{IsLegal}
use Rattle.models.specs.Model.{Model, reading}
use Rattle.containment.proofs.PartLemmas.{IsMade, contains-reference, end-made, holder-at, values-linked}
use Rattle.resource_docs.specs.Read.{values_in}
use Rattle.resource_docs.specs.declared.doc.Doc.{Doc}
use Rattle.doc_loader.specs.Loading.{loaded_number, loaded_value, object_end, roots_loaded}
use Rattle.doc_loader.proofs.NearLemmas.{IsPlaceOf, at_far, at_near, at_roots, elsewhere, place_of}
use Rattle.doc_loader.proofs.SoundLemmas.{map-at}
use Rattle.doc_loader.proofs.SourceLemmas.{at-loaded, loaded_number-value-object}
use Rattle.handshake.specs.Effects.{model_after}
use Rattle.handshake.specs.Laws.{comes_with}
use Rattle.handshake.specs.Changes.{IsDocument}
use Rattle.handshake.specs.Refusals.{early_refusal, late_refusal}
use Rattle.handshake.specs.declared.change.Change.TheVariants.{Load}
use Rattle.handshake.proofs.CutLinkEndLemmas.{held_stands}
use Rattle.handshake.proofs.LegalLemmas.{one-keeps-legal}
use Rattle.handshake.proofs.LoadEndLemmas.{linked-before, linked-elsewhere, linked-near, linked-roots}
use Rattle.handshake.proofs.LoadLemmas.{few, no-roots, room, sound}
use Rattle.handshake.proofs.YieldLemmas.{holder-contains}
use Rattle.models.specs.Reading.{contents_end}

-- an object at an end of a containment has this end as its holder
pub stands-held : (s : Model) → IsLegal s → (e : End) (i : ℕ) (o : ObjectNo) → (shape s.metamodel e.feature).containing ≡ Some e.feature → slice_get (end s.links e) i ≡ Some (value.Object o)
    → holder s.links (node.Object o) ≡ Some e
stands-held s legal e i o own at =
    let contains = ap (is_feature e.feature) own ∙ eq-eqb e.feature.0 e.feature.0 refl in
    let reference = contains-reference s.metamodel e.feature e.feature own in
    holder-at s legal e.node e.feature contains i o (ap (λ (vs : List Value). slice_get vs i) (values-linked s e reference) ∙ at)

module _ (s : Model) (k : ResourceNo) (doc : Doc) (legal : IsLegal s) (early : early_refusal (reading s) (Load k doc) ≡ None) (late : late_refusal (reading s) (Load k doc) ≡ None) (read : IsDocument s.metamodel doc) where
  abbrev n : ℕ
  n = length s.values.objects

  abbrev t : Model
  t = model_after s (Load k doc)

  pub loaded-legal : IsLegal (model_after s (Load k doc))
  loaded-legal = one-keeps-legal s (Load k doc) refl legal early late read tt

  made-old : (x : Node) → IsMade s x → comes_with (reading s) (Load k doc) x ≡ false
  made-old (node.Object o) there =
      let low : o.0 < length s.values.objects = there in
      let high : nat_le (length s.values.objects) o.0 ≡ false = grind (arith, nat_tests) in
      high
  made-old (node.Resource j) there = refl

  pub old-made : (o : ObjectNo) → comes_with (reading s) (Load k doc) (node.Object o) ≡ false → o.0 < length s.values.objects
  old-made o old =
      let high : nat_le (length s.values.objects) o.0 ≡ false = old in
      let low : o.0 < length s.values.objects = grind (arith, nat_tests) in
      low

  -- if an end is empty, it has no object
  not-there : (vs : List Value) (i : ℕ) (o : ObjectNo) → vs ≡ [] → slice_get vs i ≡ Some (value.Object o) → ⊥
  not-there vs i o none at = none-some (value.Object o) (sym (ap (λ (us : List Value). slice_get us i) none) ∙ at)

  held-still : (o : ObjectNo) (e : End) → holder s.links (node.Object o) ≡ Some e → holder t.links (node.Object o) ≡ Some e
  held-still o e h =
      let at = held_stands s.links legal.links.set (node.Object o) e h in
      let old = made-old e.node (end-made s e at.0 (value.Object o) legal at.1) in
      let other : contents_end s.metamodel k ≢ e = λ q. not-there (end s.links e) at.0 o (sym (ap (λ (d : End). end s.links d) q) ∙ no-roots s k doc legal late) at.1 in
      stands-held t loaded-legal e at.0 o (holder-contains s (node.Object o) e legal h) (ap (λ (vs : List Value). slice_get vs at.0) (linked-before s k doc legal late read e old other) ∙ at.1)

  -- an object that existed before is not one of the new objects
  no-new : (o a : ObjectNo) → o.0 < n → loaded_number n a ≡ o → ⊥
  no-new o a low same = let number = ap (λ (x : ObjectNo). x.0) same in omega (arith, number, low)

  held-before : (o : ObjectNo) (e : End) → o.0 < n → holder t.links (node.Object o) ≡ Some e → holder s.links (node.Object o) ≡ Some e
  held-before o e low h =
      by e (holder-contains t (node.Object o) e loaded-legal h) (held_stands t.links loaded-legal.links.set (node.Object o) e h)
      (place_of s.metamodel n k doc (sound s k doc legal late read) s.links legal.links.set legal.links.kinds legal.links.forest (room s k doc legal late) (few s k doc legal late) e)
    where
      at-now : (d : End) (vs : List Value) (i : ℕ) → end t.links d ≡ vs → slice_get (end t.links d) i ≡ Some (value.Object o) → slice_get vs i ≡ Some (value.Object o)
      at-now d vs i is at = ap (λ (us : List Value). slice_get us i) (sym is) ∙ at

      no-root : (i : ℕ) → slice_get (end t.links (contents_end s.metamodel k)) i ≡ Some (value.Object o) → ⊥
      no-root i at =
          let x = map-at (λ (a : ObjectNo). value.Object (loaded_number n a)) doc.roots i (value.Object o) (at-now (contents_end s.metamodel k) (roots_loaded n doc) i (linked-roots s k doc legal late read) at) in
          no-new o x.0 low (object_value (loaded_number n x.0) o x.2)

      no-target : (vs : List Value) (i : ℕ) → slice_get (map (loaded_value n) vs) i ≡ Some (value.Object o) → ⊥
      no-target vs i at =
          let x = at-loaded n vs i (value.Object o) at in
          let y = loaded_number-value-object n x.0 o x.2 in
          no-new o y.0 low (sym y.2)

      by : (d : End) → (shape s.metamodel d.feature).containing ≡ Some d.feature → Has t.links d (value.Object o)
          → IsPlaceOf s.metamodel n k doc (sound s k doc legal late read) s.links legal.links.set legal.links.kinds legal.links.forest (room s k doc legal late) (few s k doc legal late) d → holder s.links (node.Object o) ≡ Some d
      by d own at (at_roots q) = absurd (no-root at.0 (ap (λ (x : End). slice_get (end t.links x) at.0) q ∙ at.1))
      by d own at (at_near a f q side) =
          absurd (no-target (values_in doc a f) at.0 (at-now (object_end n a f) (map (loaded_value n) (values_in doc a f)) at.0 (linked-near s k doc legal late read a f side) (ap (λ (x : End). slice_get (end t.links x) at.0) q ∙ at.1)))
      by d own at (at_far b g f q side) = absurd (side.holds_not (subst (λ (x : End). (shape s.metamodel x.feature).containing ≡ Some x.feature) (sym q) own))
      by d own at (elsewhere outside other) = stands-held s legal d at.0 o own (at-now d (end s.links d) at.0 (linked-elsewhere s k doc legal late read d outside other) at.1)

  -- a node that existed before has the same holder as before
  pub holder-stays : (x : Node) → comes_with (reading s) (Load k doc) x ≡ false → holder t.links x ≡ holder s.links x
  holder-stays (node.Resource j) old = resource_top t.links j loaded-legal.links.set ∙ sym (resource_top s.links j legal.links.set)
  holder-stays (node.Object o) old = by (holder s.links (node.Object o)) refl (holder t.links (node.Object o)) refl
    where
      by : (x : Option End) → holder s.links (node.Object o) ≡ x → (y : Option End) → holder t.links (node.Object o) ≡ y → holder t.links (node.Object o) ≡ holder s.links (node.Object o)
      by (Some e) h y q = held-still o e h ∙ sym h
      by None none None q = q ∙ sym none
      by None none (Some e) q = absurd (none-some e (sym none ∙ held-before o e (old-made o old) q))

  holder-old : (x : Node) (e : End) → holder s.links x ≡ Some e → comes_with (reading s) (Load k doc) e.node ≡ false
  holder-old (node.Resource j) e h = absurd (none-some e (sym (resource_top s.links j legal.links.set) ∙ h))
  holder-old (node.Object o) e h =
      let at = held_stands s.links legal.links.set (node.Object o) e h in
      made-old e.node (end-made s e at.0 (value.Object o) legal at.1)

  above-from : (c : ℕ) (x : Node) → comes_with (reading s) (Load k doc) x ≡ false → length (above s.links x) < c → above t.links x ≡ above s.links x
  above-from zero x old low = absurd (omega (arith, low))
  above-from (suc c) x old low =
      above_is t.links loaded-legal.links.set loaded-legal.links.forest x
      ∙ ap (λ (q : Option End). option_map_or (λ (e : End). e.node ∷ above t.links e.node) q []) (holder-stays x old)
      ∙ elim (holder s.links x) as (λ q. holder s.links x ≡ q → option_map_or (λ (e : End). e.node ∷ above t.links e.node) q [] ≡ option_map_or (λ (e : End). e.node ∷ above s.links e.node) q []) [
        | None ↦ λ h. refl
        | Some e ↦ λ h.
            let falls = above_falls s.links legal.links.set legal.links.forest x e h in
            ap (λ (ns : List Node). e.node ∷ ns) (above-from c e.node (holder-old x e h) (omega (arith, falls, low)))
      ] refl
      ∙ sym (above_is s.links legal.links.set legal.links.forest x)

  -- so the same nodes are above it
  pub above-stays : (x : Node) → comes_with (reading s) (Load k doc) x ≡ false → above t.links x ≡ above s.links x
  above-stays x old = above-from (suc (length (above s.links x))) x old (omega arith)
