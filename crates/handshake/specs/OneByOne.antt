-- Resolving all proxies does the same as resolving the proxies one after another, each in the model as it is after the earlier resolves. A
-- proxy whose resolve is refused is skipped.
use Rattle.std.specs.Prelude.{◌≡◌, ℕ, zero, suc, Bool, List, [], ◌∷◌, ◌++◌, length, is_some, if◌then◌else◌}
use Rattle.mm_types.specs.Conditions.{◌else_by◌}
use Rattle.notice_chain.specs.declared.notice.Notice.{Notice}
use Rattle.models.specs.Model.{Model, reading}
use Rattle.handshake.specs.Effects.{model_after}
use Rattle.proxies.specs.Proxies.{end_of, sites}
use Rattle.handshake.specs.Refusals.{early_refusal, late_refusal}
use Rattle.proxies.specs.ResolvingAll.{resolved_count, unresolved_count}
use Rattle.handshake.specs.FeatureChanges.{chain}
use Rattle.handshake.specs.declared.change.Change.{Change}
use Rattle.handshake.specs.declared.change.Change.TheVariants.{At, ResolveAll}
use Rattle.handshake.specs.declared.act.Act.TheVariants.{Resolve}
use Rattle.proxies.specs.declared.site.ProxySite.{ProxySite}

abbrev pub resolve : ProxySite → Change
resolve p = At (end_of p) (Resolve p.index)

abbrev pub is_refused : Model → Change → Bool
is_refused s c = is_some (early_refusal (reading s) c else_by late_refusal (reading s) c)

-- the model after the proxies at some locations were resolved one after another
abbrev pub after_each : Model → List ProxySite → Model
after_each s [] = s
after_each s (p ∷ ps) = if is_refused s (resolve p) then after_each s ps else after_each (model_after s (resolve p)) ps

-- the notifications when the proxies at some locations are resolved one after another
abbrev pub told_by_each : Model → List ProxySite → List Notice
told_by_each s [] = []
told_by_each s (p ∷ ps) =
    if is_refused s (resolve p) then told_by_each s ps else chain (reading s) (resolve p) ++ told_by_each (model_after s (resolve p)) ps

-- how many proxies are resolved, if the proxies at some locations are resolved one after another; two proxies of one link count as one
abbrev pub count_of_each : Model → List ProxySite → ℕ
count_of_each s [] = zero
count_of_each s (p ∷ ps) = if is_refused s (resolve p) then count_of_each s ps else suc (count_of_each (model_after s (resolve p)) ps)

pub record ResolvesEach (s : Model) : Type 0 where
  pub leaves : model_after s ResolveAll ≡ after_each s (sites (reading s))
  pub tells : chain (reading s) ResolveAll ≡ told_by_each s (sites (reading s))
  pub counts : resolved_count (reading s) ≡ count_of_each s (sites (reading s))
  pub rest : unresolved_count (reading s) ≡ length (sites (reading (model_after s ResolveAll)))
