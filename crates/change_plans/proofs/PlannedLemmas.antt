-- The result of planning, by its parts.
use Rattle.std.proofs.Common.{◌≡◌, Bool, false, true, [], None, Option, Some, option_map, if◌then◌else◌, refl, sym, ap, subst}
use Rattle.std.specs.Prelude.{is_some}
use Rattle.std.proofs.lemmas.Bool.{false≢true}
use Rattle.std.proofs.lemmas.Option.{none-some}
use Rattle.mm_values.specs.Values as values
use Rattle.models.specs.Legal.{IsLegal}
use Rattle.models.specs.Model.{Model, reading}
use Rattle.models.specs.Reading.{Reading}
use Rattle.handshake.specs.declared.change.Change.{Change}
use Rattle.handshake.specs.declared.change.Change.TheVariants.{At}
use Rattle.removal.specs.declared.gone.Removal.{Removal}
use Rattle.change_plans.specs.declared.planned.Planned.{Planned}
use Rattle.handshake.specs.FeatureChanges.{chain, destroyed_by, resolved_by, resolves_all, target_of}
use Rattle.handshake.specs.Edits.{link_edits}
use Rattle.handshake.specs.Effects.{value_edits}
use Rattle.handshake.specs.Changes.{HasReadDocument, IsRemovalOf}
use Rattle.change_plans.specs.Plans.{IsPlanOf, removal_in, resolved_in, target_in}
use Rattle.handshake.specs.Refusals.{early_refusal, late_refusal}
use Rattle.handshake.proofs.PlanLemmas.{IsPlanFor, plan-for}
use Rattle.proxies.specs.ResolvingAll.{resolved_count, unresolved_count}
use Rattle.proxies.specs.declared.resolved.Resolved.{Resolved}

-- nothing is resolved by a change that doesn't resolve all proxies
pub none-counted : (r : Reading) (c : Change) → resolves_all c ≡ false → None ≡ resolved_by r c
none-counted r c one = sym (ap (λ (b : Bool). let q : Option Resolved = if b then Some (record { done = resolved_count r; left = unresolved_count r }) else None in q) one)

-- a change that destroys objects resolves no proxy
pub destroys-or-finds : (r : Reading) (c : Change) (q : Option Removal) → IsRemovalOf r c q → is_some q ≡ true → target_of r c ≡ None
destroys-or-finds r c q of some = by c q of.whose some
  where
    by : (d : Change) (p : Option Removal) → option_map (λ (x : Removal). x.object) p ≡ destroyed_by d → is_some p ≡ true → target_of r d ≡ None
    by d None whose some = absurd (false≢true some)
    by (At e a) (Some x) whose some = absurd (none-some x.object (sym whose))
    by _ (Some x) whose some = refl

-- the result of planning, by its parts
pub planned : (is_heard : Bool) (s : Model) (c : Change) (p : Planned) → resolves_all c ≡ false → IsLegal s → early_refusal (reading s) c ≡ None → late_refusal (reading s) c ≡ None → HasReadDocument s.metamodel c → IsRemovalOf (reading s) c (removal_in p.finding) → target_in p.finding ≡ target_of (reading s) c → resolved_in p.finding ≡ resolved_by (reading s) c
    → p.edits ≡ link_edits (reading s) c → p.values ≡ value_edits (reading s) c → p.chain ≡ (if is_heard then chain (reading s) c else []) → IsPlanOf is_heard s c p
planned is_heard s c p one legal early late read removed found resolved edits lists tells =
    let plan = subst (IsPlanFor s c) (sym edits) (plan-for s c one legal early late read) in
    record {
      allowed = late;
      removed = removed;
      found = found;
      resolved = resolved;
      fits = plan.fits;
      of_kind = plan.of_kind;
      links_made = plan.makes;
      values_made = ap (values.values_after_edits s.values) lists;
      tells = tells;
    }
