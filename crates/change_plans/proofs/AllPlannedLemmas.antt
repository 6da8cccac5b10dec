-- The plan that resolves all proxies.
use Rattle.std.proofs.Common.{◌≡◌, suc, Bool, List, [], ap, ◌∙◌, filter, flat_map, length, map, not, refl, subst, sym, ℕ, ◌∷◌, cond, true, false, None, Some, if◌then◌else◌}
use Rattle.mm_values.specs.Values as values
use Rattle.links.specs.Plans.{IsPlanOfKind, PlanFits, links_after_edits}
use Rattle.notice_chain.specs.declared.notice.Notice.{Notice}
use Rattle.models.specs.Legal.{IsLegal, kinds_of}
use Rattle.models.specs.Model.{Model, reading}
use Rattle.models.specs.Reading.{Reading}
use Rattle.handshake.specs.Edits.{edits_of}
use Rattle.change_plans.specs.Joining.{IsDone, edits_by, joint_of, told_by}
use Rattle.proxies.specs.Keys.{has, key_of}
use Rattle.proxies.specs.Leads.{lead, leads}
use Rattle.change_plans.specs.Plans.{IsPlanOf, removal_in, resolved_in, target_in}
use Rattle.handshake.specs.Changes.{IsRemovalOf}
use Rattle.proxies.specs.Proxies.{sites}
use Rattle.proxies.specs.ResolvingAll.{resolutions, resolved_count, unresolved_count}
use Rattle.handshake.specs.FeatureChange.{notice_at}
use Rattle.handshake.specs.FeatureChanges.{chain}
use Rattle.handshake.specs.declared.change.Change.TheVariants.{ResolveAll}
use Rattle.change_plans.specs.declared.joining.Joint.{Joint}
use Rattle.change_plans.specs.declared.joining.Progress.{Progress}
use Rattle.proxies.specs.declared.lead.Lead.{Lead}
use Rattle.proxies.specs.declared.site.ProxySite.{ProxySite}
use Rattle.change_plans.specs.declared.planned.Finding.TheVariants.{Counts}
use Rattle.change_plans.specs.declared.planned.Planned.{Planned}
use Rattle.handshake.proofs.ResolveAllLemmas.{all-lead}
use Rattle.change_plans.proofs.StepLemmas.{chain-all, edits-all, resolved_count-count, unresolved_count-count}

-- the number of leads is the number of locations
count-leads : (r : Reading) (N : ProxySite → Bool) (ps : List ProxySite) → length (filter (λ (x : Lead). N x.site) (map (lead r) ps)) ≡ length (filter N ps)
count-leads r N [] = refl
count-leads r N (p ∷ ps) =
    elim (N p) as (λ b. length (cond b (lead r p ∷ filter (λ (x : Lead). N x.site) (map (lead r) ps)) (filter (λ (x : Lead). N x.site) (map (lead r) ps))) ≡ length (cond b (p ∷ filter N ps) (filter N ps))) [
      | true ↦ ap (λ (n : ℕ). suc n) (count-leads r N ps)
      | false ↦ count-leads r N ps
    ]

-- the result of planning that resolves all proxies, by its parts
pub all-planned : (is_heard : Bool) (s : Model) (p : Planned) → IsLegal s → (g : Progress) → IsDone (reading s) g → (ls : List Lead) → ls ≡ leads (reading s) → (js : List Joint) → js ≡ g.joints.items
    → p.finding ≡ Counts (record { done = length js; left = length (filter (λ (x : Lead). not (has g.gone (key_of x.site))) ls) })
    → p.edits ≡ flat_map (edits_by (reading s)) js → p.values ≡ []
    → p.chain ≡ (if is_heard then map (notice_at (reading s)) (flat_map told_by js) else []) → IsPlanOf is_heard s ResolveAll p
all-planned is_heard s p legal g known ls all js joints finds edits lists tells =
    let r = reading s in
    let ps = sites r in
    let lead_on = all-lead ps s legal in
    let same : js ≡ map joint_of (resolutions r ps) = joints ∙ known.joints in
    let plan : p.edits ≡ flat_map edits_of (resolutions r ps) = edits ∙ ap (flat_map (edits_by r)) same ∙ sym (edits-all s legal ps) in
    let told : map (notice_at r) (flat_map told_by js) ≡ chain r ResolveAll = ap (λ (xs : List Joint). map (notice_at r) (flat_map told_by xs)) same ∙ sym (chain-all s legal ps) in
    let N : ProxySite → Bool = λ q. not (has g.gone (key_of q)) in
    let many : length js ≡ resolved_count r = ap (λ (xs : List Joint). length xs) joints ∙ resolved_count-count r g known in
    let rest : length (filter (λ (x : Lead). N x.site) ls) ≡ unresolved_count r = ap (λ (xs : List Lead). length (filter (λ (x : Lead). N x.site) xs)) all ∙ count-leads r N ps ∙ sym (unresolved_count-count s legal g known) in
    record {
      allowed = refl;
      removed = subst (IsRemovalOf r ResolveAll) (sym (ap removal_in finds)) (record { whose = refl; found = tt });
      found = ap target_in finds;
      resolved = ap resolved_in finds ∙ (λ i. Some (record { done = many i; left = rest i }));
      fits = subst (PlanFits s.links) (sym plan) lead_on.fits;
      of_kind = subst (IsPlanOfKind (kinds_of s.metamodel)) (sym plan) lead_on.of_kind;
      links_made = ap (links_after_edits s.links) plan ∙ lead_on.makes;
      values_made = ap (values.values_after_edits s.values) lists;
      tells = tells ∙ ap (λ (ns : List Notice). if is_heard then ns else []) told;
    }
