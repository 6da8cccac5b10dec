use Rattle.std.proofs.Common.{◌≡◌, ◌&&◌, not, take}
use Rattle.std.specs.List.{list_any}
use Rattle.mm_types.specs.declared.end.End.{End}
use Rattle.links.specs.Plans.{has_end}
use Rattle.removal.specs.Ranks.{holds, is_in}
use Rattle.removal.proofs.ends.ends_that_hold.Given as goal

-- the ends that have one of the objects so far
abbrev pub invariant-loop-object : goal.invariant-loop-object
invariant-loop-object g l = (e : End) → has_end l.ends.items e ≡ (not (is_in l.numbers e.node) && list_any (holds l.model.links e) (take l.object-index l.objects))
