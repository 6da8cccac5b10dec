use Rattle.std.proofs.Common.{◌≡◌, ◌++◌, flat_map, map, take}
use Rattle.models.specs.Model.{reading}
use Rattle.handshake.specs.FeatureChange.{notice_at}
use Rattle.change_plans.specs.Joining.{told_by}
use Rattle.change_plans.proofs.resolving_all.resolved_notices.Given as goal

-- the notifications of the proxies so far
abbrev pub invariant-joints : goal.invariant-joints
invariant-joints g l = l.chain ≡ l.fn.chain ++ map (notice_at (reading l.model)) (flat_map told_by (take l.joint-index l.joints))
