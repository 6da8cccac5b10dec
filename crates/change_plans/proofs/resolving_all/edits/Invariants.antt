use Rattle.std.proofs.Common.{◌≡◌, flat_map, take}
use Rattle.models.specs.Model.{reading}
use Rattle.change_plans.specs.Joining.{edits_by}
use Rattle.change_plans.proofs.resolving_all.edits.Given as goal

-- the edits of the proxies so far
abbrev pub invariant-joints : goal.invariant-joints
invariant-joints g l = l.edits ≡ flat_map (edits_by (reading l.model)) (take l.joint-index l.joints)
