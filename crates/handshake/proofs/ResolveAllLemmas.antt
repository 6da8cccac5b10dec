-- The proxies of a legal model are resolved one after another: a property of one resolve holds for all.
use Rattle.std.proofs.Common.{◌≡◌, Bool, true, false, List, [], ◌∷◌, ◌++◌, flat_map, fold, map, Option, Some, None, is_some, if◌then◌else◌, refl, sym, ap, ◌∙◌, subst}
use Rattle.std.specs.Option.{option_map_or}
use Rattle.std.proofs.lemmas.Bool.{false≢true}
use Rattle.std.proofs.lemmas.Option.{none-some}
use Rattle.mm_types.specs.Shapes.{shape}
use Rattle.mm_types.specs.declared.end.End.{End}
use Rattle.mm_types.specs.declared.numbers.ClassNo.{ClassNo}
use Rattle.mm_types.specs.declared.numbers.FeatureNo.{FeatureNo}
use Rattle.mm_types.specs.declared.numbers.Node.TheVariants as node
use Rattle.mm_types.specs.declared.numbers.ObjectNo.{ObjectNo}
use Rattle.mm_types.specs.declared.refused.Refused.{Refused}
use Rattle.mm_types.specs.declared.refused.Refused.TheVariants.{NoFeature, NoObject, NoResource}
use Rattle.mm_types.specs.declared.value.Value.{Value}
use Rattle.mm_types.specs.Conditions.{◌unless◌, ◌else_by◌}
use Rattle.mm_types.specs.Lookups as lookups
use Rattle.links.specs.Links.{Links}
use Rattle.links.specs.Plans.{IsPlanOfKind, PlanFits, PlanMakesNoCycle, links_after_edits}
use Rattle.links.specs.declared.plan.Edit.{Edit}
use Rattle.links.proofs.LegalLemmas.{IsPlanOfKind-append, PlanFits-append, PlanMakesNoCycle-append, links_after_edits-append}
use Rattle.models.specs.Legal.{IsLegal, kinds_of}
use Rattle.models.specs.Model.{Model, reading, values_at}
use Rattle.models.specs.Reading.{Reading, at_end, has_feature, held_at}
use Rattle.removal.specs.declared.link_end.LinkEnd.{LinkEnd}
use Rattle.handshake.specs.Displaced.{counter_link_end, link_end_in}
use Rattle.handshake.specs.Edits.{cut_of, edits_of, joining_edits}
use Rattle.handshake.specs.Effects.{links_after_join, with_resolution, without_link_ends}
use Rattle.proxies.specs.Proxies.{end_of}
use Rattle.handshake.specs.Refusals.{early_refusal}
use Rattle.proxies.specs.Refusals.{resolve_refusal}
use Rattle.proxies.specs.Resolving.{target_at}
use Rattle.proxies.specs.ResolvingAll.{Resolution, resolutions, resolved_to, values_left, values_with, with_resolved}
use Rattle.handshake.specs.FeatureChanges.{changes_of_resolve, resolution_told}
use Rattle.handshake.specs.declared.change.Change.TheVariants.{At}
use Rattle.handshake.specs.declared.act.Act.TheVariants.{Resolve}
use Rattle.handshake.specs.declared.change_kind.FeatureChange.{FeatureChange}
use Rattle.proxies.specs.declared.site.ProxySite.{ProxySite}
use Rattle.proxies.specs.declared.resolved_proxy.ResolvedProxy.{ResolvedProxy}
use Rattle.handshake.proofs.AttributeLemmas.{Replays}
use Rattle.handshake.proofs.ChainLemmas.{resolve-changes}
use Rattle.handshake.proofs.HappenedLemmas.{happened_at, happened_at-append}
use Rattle.handshake.proofs.KnownLemmas.{resolvable}
use Rattle.handshake.proofs.LegalLemmas.{one-keeps-legal}
use Rattle.handshake.proofs.PlanLemmas.{plan-for}
use Rattle.handshake.proofs.ResolveLemmas.{feature-there}
use Rattle.handshake.proofs.ResolvedReadingLemmas.{reading-after, with_links}

-- these edits and feature changes lead from a legal model to a legal model with these links, in which the ends have these values
pub record Leads (s : Model) (es : List Edit) (ts : List FeatureChange) (u : Links) (ends : End → List Value) : Type 0 where
  pub legal : IsLegal (with_links s u)
  pub reads : reading (with_links s u) ≡ record (reading s) { values = ends }
  pub fits : PlanFits s.links es
  pub of_kind : IsPlanOfKind (kinds_of s.metamodel) es
  pub no_cycle : PlanMakesNoCycle s.links es
  pub makes : links_after_edits s.links es ≡ u
  pub replays : Replays s ts (with_links s u)

leads-nowhere : (s : Model) → IsLegal s → Leads s [] [] s.links (values_at s)
leads-nowhere s legal = record { legal = legal; reads = refl; fits = tt; of_kind = tt; no_cycle = tt; makes = refl; replays = λ d. refl }

leads-on : (s : Model) (es xs : List Edit) (ts us : List FeatureChange) (u w : Links) (ends more : End → List Value) → Leads s es ts u ends → Leads (with_links s u) xs us w more → Leads s (es ++ xs) (ts ++ us) w more
leads-on s es xs ts us u w ends more one two =
    record {
      legal = two.legal;
      reads = two.reads ∙ ap (λ (r : Reading). record r { values = more }) one.reads;
      fits = PlanFits-append s.links es xs one.fits (subst (λ (t : Links). PlanFits t xs) (sym one.makes) two.fits);
      of_kind = IsPlanOfKind-append (kinds_of s.metamodel) es xs one.of_kind two.of_kind;
      no_cycle = PlanMakesNoCycle-append s.links es xs one.no_cycle (subst (λ (t : Links). PlanMakesNoCycle t xs) (sym one.makes) two.no_cycle);
      makes = links_after_edits-append s.links es xs ∙ ap (λ (t : Links). links_after_edits t xs) one.makes ∙ two.makes;
      replays = λ d. happened_at-append s.metamodel ts us d (held_at (reading s) d) ∙ ap (happened_at s.metamodel us d) (one.replays d) ∙ two.replays d;
    }

---------------------------------------------------------------- one proxy

-- a proxy that can be resolved is under a feature of an object that lives
named-there : (r : Reading) (o : ObjectNo) (f : FeatureNo) → has_feature r (node.Object o) f ≡ true → early_refusal r (At (at_end (node.Object o) f) (Resolve 0)) ≡ None
named-there r o f has = by (r.class o) refl has
  where
    refused : Bool → Bool → Option Refused
    refused b c = (NoObject unless b else_by NoResource unless true) else_by NoFeature unless c

    by : (q : Option ClassNo) → r.class o ≡ q → option_map_or (λ c. lookups.has_feature r.metamodel c f) q false ≡ true → early_refusal r (At (at_end (node.Object o) f) (Resolve 0)) ≡ None
    by None none h = absurd (false≢true h)
    by (Some c) is h = (λ k. ((NoObject unless is_some (is k) else_by NoResource unless true) else_by NoFeature unless has k) else_by None)

-- the links that are cut when a proxy is resolved, if its feature is a reference
abbrev pub cut : Reading → ProxySite → Bool → Option ResolvedProxy → List LinkEnd
cut r p b q = if b then link_end_in r (end_of p) p.index ++ option_map_or (counter_link_end r) q [] else []

module _ (s : Model) (legal : IsLegal s) (p : ProxySite) (x : ResolvedProxy) (late : resolve_refusal (reading s) (end_of p) p.index ≡ None) (found : target_at (reading s) (end_of p) p.index ≡ Some x) where
  abbrev r : Reading
  r = reading s

  abbrev e : End
  e = end_of p

  abbrev Led : Bool → Option ResolvedProxy → Type 0
  Led b q =
      Leads s (map cut_of (cut r p b q) ++ option_map_or (joining_edits r e p.index) q []) (option_map_or (changes_of_resolve e p.index) q [])
      (let t = without_link_ends s.links (cut r p b q) in option_map_or (links_after_join t r e p.index) q t) (values_with r e p.index x)

  pub early : early_refusal (reading s) (At (at_end (node.Object p.object) p.feature) (Resolve p.index)) ≡ None
  early = named-there r p.object p.feature (feature-there s legal e p.index (resolvable r e p.index late).target (resolvable r e p.index late).resolvable)

  led : Led (shape s.metamodel p.feature).is_reference (target_at r e p.index)
  led =
      let c = At (at_end (node.Object p.object) p.feature) (Resolve p.index) in
      let after-legal = one-keeps-legal s c refl legal early late tt tt in
      let plan = plan-for s c refl legal early late tt in
      record {
        legal = after-legal;
        reads = reading-after s legal p.object p.feature p.index late x found after-legal;
        fits = plan.fits;
        of_kind = plan.of_kind;
        no_cycle = plan.no_cycle;
        makes = plan.makes;
        replays = resolve-changes s legal e p.index late;
      }

  pub one-resolved : (let y : Resolution = record { reads = reading s; site = p; target = x } in Leads s (edits_of y) (resolution_told y) (with_resolution s.links y) (values_with (reading s) (end_of p) p.index x))
  one-resolved = subst (Led true) found (subst (λ (b : Bool). Led b (target_at r e p.index)) (resolvable r e p.index late).resolvable.reference led)

---------------------------------------------------------------- one after another

-- a proxy that is resolved is not refused, and is resolved to its target
pub record IsResolvedTo (r : Reading) (p : ProxySite) (x : ResolvedProxy) : Type 0 where
  pub late : resolve_refusal r (end_of p) p.index ≡ None
  pub found : target_at r (end_of p) p.index ≡ Some x

pub resolved-to : (r : Reading) (p : ProxySite) (x : ResolvedProxy) → resolved_to r p ≡ Some x → IsResolvedTo r p x
resolved-to r p x = by (resolve_refusal r (end_of p) p.index) refl
  where
    by : (q : Option Refused) → resolve_refusal r (end_of p) p.index ≡ q → (if is_some q then None else target_at r (end_of p) p.index) ≡ Some x → IsResolvedTo r p x
    by None none is = record { late = none; found = is }
    by (Some y) refused is = absurd (none-some x is)

abbrev resolution : Reading → ProxySite → ResolvedProxy → Resolution
resolution r p x = record { reads = r; site = p; target = x }

-- resolving the proxies at some locations, with the resulting values of ends, leads to a legal model
pub all-lead : (ps : List ProxySite) (s : Model) → IsLegal s
    → (let xs = resolutions (reading s) ps in Leads s (flat_map edits_of xs) (flat_map resolution_told xs) (fold with_resolution s.links xs) (values_left (reading s) ps))
all-lead [] s legal = leads-nowhere s legal
all-lead (p ∷ ps) s legal =
    let r = reading s in
    let xs : Option ResolvedProxy → List Resolution = λ q. option_map_or (λ x. resolution r p x ∷ resolutions (with_resolved r p x) ps) q (resolutions r ps) in
    let ends : Option ResolvedProxy → End → List Value = λ q. option_map_or (λ x. values_left (with_resolved r p x) ps) q (values_left r ps) in
    elim (resolved_to r p) as (λ q. resolved_to r p ≡ q → Leads s (flat_map edits_of (xs q)) (flat_map resolution_told (xs q)) (fold with_resolution s.links (xs q)) (ends q)) [
      | None ↦ λ _. all-lead ps s legal
      | Some x ↦ λ is.
          let of = resolved-to r p x is in
          let y = resolution r p x in
          let one = one-resolved s legal p x of.late of.found in
          let t = with_links s (with_resolution s.links y) in
          leads-on s (edits_of y) _ (resolution_told y) _ (with_resolution s.links y) _ (values_with r (end_of p) p.index x) _ one
          (subst (λ (z : Reading). let ys = resolutions z ps in Leads t (flat_map edits_of ys) (flat_map resolution_told ys) (fold with_resolution t.links ys) (values_left z ps)) one.reads (all-lead ps t one.legal))
    ] refl
