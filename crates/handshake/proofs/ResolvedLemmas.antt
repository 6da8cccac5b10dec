-- The two ways in which a proxy is resolved: in a reference without an opposite, and together with the proxy at the opposite end.
use Rattle.std.proofs.Common.{◌≡◌, ℕ, ◌-◌, Bool, true, List, [], ◌∷◌, ◌++◌, length, slice_get, Option, Some, None, option_map, option_to_list, if◌then◌else◌, refl, sym, ap, ◌∙◌, subst}
use Rattle.std.specs.Option.{option_map_or}
use Rattle.mm_types.specs.Same.{node_value}
use Rattle.mm_types.specs.Shapes.{shape}
use Rattle.mm_types.specs.declared.end.End.{End}
use Rattle.mm_types.specs.declared.numbers.FeatureNo.{FeatureNo}
use Rattle.mm_types.specs.declared.value.Value.{Value}
use Rattle.mm_types.specs.declared.value.Value.TheVariants as value
use Rattle.links.specs.Laws.{without_all}
use Rattle.links.specs.Links.{Links, far_end}
use Rattle.links.specs.declared.plan.Edit.{Edit}
use Rattle.links.specs.declared.plan.Edit.TheVariants as edit
use Rattle.models.specs.Legal.{IsLegal}
use Rattle.models.specs.Model.{Model, reading}
use Rattle.removal.specs.Laws.{names_of}
use Rattle.removal.specs.TreeLinkEnds.{link_end}
use Rattle.removal.specs.declared.link_end.LinkEnd.{LinkEnd}
use Rattle.handshake.specs.Displaced.{counter_link_end, link_end_in, link_ends_resolved}
use Rattle.handshake.specs.Edits.{joining_edits}
use Rattle.handshake.specs.Effects.{links_after_join}
use Rattle.proxies.specs.Refusals.{resolve_refusal}
use Rattle.proxies.specs.Resolving.{target_at}
use Rattle.handshake.specs.FeatureChange.{feature_change}
use Rattle.handshake.specs.FeatureChanges.{changes_of_resolve}
use Rattle.handshake.specs.declared.change_kind.ChangeKind.TheVariants.{Resolves}
use Rattle.handshake.specs.declared.change_kind.FeatureChange.{FeatureChange}
use Rattle.proxies.specs.declared.resolved_proxy.Counterpart.{Counterpart}
use Rattle.proxies.specs.declared.resolved_proxy.ResolvedProxy.{ResolvedProxy}
use Rattle.handshake.proofs.KnownLemmas.{IsResolvable, resolvable}
use Rattle.handshake.proofs.LinkLemmas.{new_edit}
use Rattle.handshake.proofs.ResolveLemmas.{joint, one-cut, placed}
use Rattle.proxies.proofs.TargetLemmas.{IsMatch, alone-of, match-is}

-- a property of the links that are cut, the edits after the cuts, the feature changes, and the links that are made
abbrev pub Resolving : Type 1
Resolving = List LinkEnd → List Edit → List FeatureChange → Links → Type 0

module _ (s : Model) (legal : IsLegal s) (e : End) (i : ℕ) where
  -- the property for a reference without an opposite
  abbrev pub OfAlone : Resolving → Type 0
  OfAlone P =
      (x : ResolvedProxy) (is : IsResolvable (reading s) e i x) → (shape s.metamodel e.feature).opposite ≡ None
      → P (link_end e (value.Proxy is.found.text) ∷ []) (new_edit s e i x.object ∷ []) (feature_change e (Resolves i (value.Object x.object)) ∷ []) (placed s legal e i x is [])

  -- the property for a link with a proxy at both ends
  abbrev pub OfJoint : Resolving → Type 0
  OfJoint P =
      (x : ResolvedProxy) (is : IsResolvable (reading s) e i x) (g : FeatureNo) (opposite : (shape s.metamodel e.feature).opposite ≡ Some g) (j : ℕ) (text : List ℕ)
      (stands : slice_get ((reading s).values (far_end x.object g)) j ≡ Some (value.Proxy text))
      → (let d = far_end x.object g in P
      (link_end e (value.Proxy is.found.text) ∷ link_end d (value.Proxy text) ∷ [])
      (new_edit s e i x.object ∷ edit.Shift d j (length ((reading s).values d) - 1) ∷ [])
      (feature_change d (Resolves j (node_value e.node)) ∷ feature_change e (Resolves i (value.Object x.object)) ∷ [])
      (joint s legal e i x is g opposite j text stands))

  -- the property for the target that is found, if these links are cut
  abbrev Of : Resolving → List LinkEnd → Option ResolvedProxy → Type 0
  Of P ts q =
      let t = without_all s.links (names_of ts) in
      P ts (option_map_or (joining_edits (reading s) e i) q []) (option_map_or (changes_of_resolve e i) q []) (option_map_or (links_after_join t (reading s) e i) q t)

  abbrev cuts : Bool → Option ResolvedProxy → List LinkEnd
  cuts b q = if b then link_end_in (reading s) e i ++ option_map_or (counter_link_end (reading s)) q [] else []

  module _ (P : Resolving) (alone : OfAlone P) (both : OfJoint P) (x : ResolvedProxy) (is : IsResolvable (reading s) e i x) where
    abbrev with : Option Counterpart → ResolvedProxy
    with q = record { object = x.object; counterpart = q }

    met : (c : Counterpart) → IsMatch (reading s) e x.object c → Of P (link_end e (value.Proxy is.found.text) ∷ link_end_in (reading s) c.end c.index) (Some (with (Some c)))
    met c match =
        let r = reading s in
        let near = link_end e (value.Proxy is.found.text) in
        let d = far_end x.object match.feature in
        let here : Counterpart = record { end = d; index = c.index } in
        let same : here ≡ c = λ k. record { end = sym match.stands k; index = c.index } in
        let stands = subst (λ (y : End). slice_get (r.values y) c.index ≡ Some (value.Proxy match.text)) match.stands match.proxy in
        let cut : link_end d (value.Proxy match.text) ∷ [] ≡ link_end_in r d c.index = ap (λ (q : Option Value). option_to_list (option_map (link_end d) q)) (sym stands) in
        subst (λ (y : Counterpart). Of P (near ∷ link_end_in r y.end y.index) (Some (with (Some y)))) same
        (subst (λ (ts : List LinkEnd). Of P (near ∷ ts) (Some (with (Some here)))) cut (both x is match.feature match.opposite c.index match.text stands))

    known : Of P (cuts true (Some x)) (Some x)
    known =
        let r = reading s in
        let near = link_end e (value.Proxy is.found.text) in
        subst (λ (ts : List LinkEnd). Of P (ts ++ counter_link_end r x) (Some x)) (sym (one-cut s legal e i x is))
        (elim x.counterpart as (λ q. x.counterpart ≡ q → Of P (near ∷ counter_link_end r (with q)) (Some (with q))) [
          | None ↦ λ none. alone x is (alone-of r e x is.matched none)
          | Some c ↦ λ there. met c (match-is r e x.object c (sym is.found.matched ∙ there))
        ] refl)

  pub resolved-as : resolve_refusal (reading s) e i ≡ None → (P : Resolving) → OfAlone P → OfJoint P → Of P (if (shape s.metamodel e.feature).is_reference then link_ends_resolved (reading s) e i else []) (target_at (reading s) e i)
  resolved-as late P alone both =
      let r = reading s in
      let found = resolvable r e i late in
      subst (λ (b : Bool). Of P (cuts b (target_at r e i)) (target_at r e i)) (sym found.resolvable.reference)
      (subst (λ (q : Option ResolvedProxy). Of P (cuts true q) q) (sym found.is) (known P alone both found.target found.resolvable))
