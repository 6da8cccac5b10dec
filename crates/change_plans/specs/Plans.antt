-- What planning a change gives.
use Rattle.std.specs.Prelude.{◌≡◌, ◌&&◌, Bool, true, false, IsFalse, List, [], Option, Some, None, Result, Ok, Err, if◌then◌else◌}
use Rattle.mm_types.specs.declared.refused.Refused.{Refused}
use Rattle.mm_values.specs.Values as values
use Rattle.mm_values.specs.declared.value_edit.ValueEdit.{ValueEdit}
use Rattle.links.specs.Plans as links
use Rattle.links.specs.declared.plan.Edit.{Edit}
use Rattle.models.specs.Legal.{kinds_of}
use Rattle.models.specs.Model.{Model, reading}
use Rattle.models.specs.Reading.{Reading}
use Rattle.notice_chain.specs.declared.notice.Notice.{Notice}
use Rattle.proxies.specs.declared.resolved.Resolved.{Resolved}
use Rattle.proxies.specs.declared.resolved_proxy.ResolvedProxy.{ResolvedProxy}
use Rattle.removal.specs.declared.gone.Removal.{Removal}
use Rattle.handshake.specs.declared.change.Change.{Change}
use Rattle.handshake.specs.Changes.{HasFittingDocument, IsRemovalOf}
use Rattle.handshake.specs.Effects.{model_after}
use Rattle.handshake.specs.Refusals.{early_refusal, late_refusal}
use Rattle.handshake.specs.FeatureChanges.{chain, resolved_by, resolves_all, resolves_one, target_of}
use Rattle.change_plans.specs.declared.planned.Finding.{Finding}
use Rattle.change_plans.specs.declared.planned.Finding.TheVariants as finding
use Rattle.change_plans.specs.declared.planned.Planned.{Planned}
use Rattle.mm_types.specs.Conditions.{is_memory_refusal}

-- The change c is not refused and does not resolve all proxies. x has the objects that c destroys, if there are any, and t is the target of
-- the proxy that c resolves, if there is one. If c loads a document, the objects and the lists of the document are within the limits.
pub record IsAllowed (r : Reading) (c : Change) (x : Option Removal) (t : Option ResolvedProxy) : Type 0 where
  pub asked : early_refusal r c ≡ None
  pub allowed : late_refusal r c ≡ None
  pub removal : IsRemovalOf r c x
  pub found : t ≡ target_of r c
  pub fits : HasFittingDocument r.next c
  pub one : resolves_all c ≡ false

-- the objects that a deletion destroys, if planning finds them; none if planning finds something else or nothing
abbrev pub removal_in : Finding → Option Removal
removal_in (finding.Removal x) = Some x
removal_in _ = None

-- the target of a proxy that is resolved, if planning finds it; none if planning finds something else or nothing
abbrev pub target_in : Finding → Option ResolvedProxy
target_in (finding.Target x) = Some x
target_in _ = None

-- the two counts of a resolve of all proxies, if planning finds them: how many proxies are resolved, with two proxies of one link counted
-- as one, and how many are left. None if planning finds something else or nothing
abbrev pub resolved_in : Finding → Option Resolved
resolved_in (finding.Counts n) = Some n
resolved_in _ = None

-- p is the plan of the change c, and c is not refused. p has what planning finds: the objects that c destroys, the target of the proxy that
-- c resolves, or the two counts of a resolve of all proxies. p also has the edits that make the change. If `is_heard`, p has the
-- notifications of c too, otherwise none
pub record IsPlanOf (is_heard : Bool) (s : Model) (c : Change) (p : Planned) : Type 0 where
  pub allowed : late_refusal (reading s) c ≡ None
  pub removed : IsRemovalOf (reading s) c (removal_in p.finding)
  pub found : target_in p.finding ≡ target_of (reading s) c
  pub resolved : resolved_in p.finding ≡ resolved_by (reading s) c
  pub fits : links.PlanFits s.links p.edits
  pub of_kind : links.IsPlanOfKind (kinds_of s.metamodel) p.edits
  pub links_made : links.links_after_edits s.links p.edits ≡ (model_after s c).links
  pub values_made : values.values_after_edits s.values p.values ≡ (model_after s c).values
  pub tells : p.chain ≡ (if is_heard then chain (reading s) c else [])

-- the plan with the edits `vs` of values and the notifications `ns`, and without edits of links
abbrev pub of_values : List ValueEdit → List Notice → Planned
of_values vs ns = record { finding = finding.Nothing; edits = []; values = vs; chain = ns }

-- the plan with the edits `es` of links and the notifications `ns`, and without edits of values
abbrev pub of_links : List Edit → List Notice → Planned
of_links es ns = record { finding = finding.Nothing; edits = es; values = []; chain = ns }

-- whether planning takes memory before it looks for refusals: only for a resolve of one proxy, whose target has to be found first
abbrev pub looks_first : Change → Bool
looks_first c = resolves_one c

-- the result of planning: the plan, or the first refusal that applies. The result is `Memory` only if no other refusal applies, or if
-- `looks_first` is true of the change
abbrev pub Plans : Bool → Result Planned Refused → Model → Change → Type 0
Plans is_heard (Ok p) s c = IsPlanOf is_heard s c p
Plans is_heard (Err r) s c = IsFalse (is_memory_refusal r && looks_first c) → late_refusal (reading s) c ≡ (if is_memory_refusal r then None else Some r)
