-- Changes that put one link, and edit nothing else.
use Rattle.std.specs.Prelude.{ℕ, [], ◌∷◌, Option, Some, None, is_some, if◌then◌else◌}
use Rattle.links.specs.declared.plan.Edit.TheVariants as edit
use Rattle.mm_types.specs.declared.end.End.{End}
use Rattle.mm_types.specs.declared.numbers.ObjectNo.{ObjectNo}
use Rattle.mm_types.specs.declared.value.Value.{Value}
use Rattle.mm_types.specs.declared.value.Value.TheVariants as value
use Rattle.links.specs.declared.link.NewLink.{NewLink}
use Rattle.models.specs.Reading.{Reading, position_for, shape_at}
use Rattle.handshake.specs.declared.change.Change.{Change}
use Rattle.handshake.specs.declared.change.Change.TheVariants.{At}
use Rattle.handshake.specs.declared.act.Act.TheVariants.{Set, Add}
use Rattle.change_plans.specs.declared.planned.Finding.TheVariants as finding
use Rattle.change_plans.specs.declared.planned.Planned.{Planned}
use Rattle.handshake.specs.Displaced.{displaces, is_plain_add, is_plain_set}
use Rattle.handshake.specs.Refusals.{late_refusal}

-- the new link that puts an object at a position of an end
abbrev pub put_at : Reading → End → ℕ → ObjectNo → NewLink
put_at r e i o = record { end = e; index = i; object = o; opposite = (shape_at r e).opposite; container = (shape_at r e).containing }

abbrev pub lone_set : Reading → Change → End → Value → Option NewLink
lone_set r c e (value.Object o) =
    if displaces r e o then None else
    if is_plain_set r e (value.Object o) then None else
    if is_some (late_refusal r c) then None else
    Some (put_at r e 0 o)
lone_set r c e v = None

abbrev pub lone_add : Reading → Change → End → Value → Option ℕ → Option NewLink
lone_add r c e (value.Object o) i =
    if displaces r e o then None else
    if is_plain_add r e (value.Object o) then None else
    if is_some (late_refusal r c) then None else
    Some (put_at r e (position_for r e i) o)
lone_add r c e v i = None

-- the new link that a set or an addition puts, if the change puts this link and edits nothing else; none if planning finds a refusal, or if
-- the change displaces a link or makes no link
abbrev pub lone_put : Reading → Change → Option NewLink
lone_put r (At e (Set v)) = lone_set r (At e (Set v)) e v
lone_put r (At e (Add v i)) = lone_add r (At e (Add v i)) e v i
lone_put r _ = None

-- the plan that puts one link and notifies no adapter
abbrev pub of_put : NewLink → Planned
of_put p = record { finding = finding.Nothing; edits = edit.Put p ∷ []; values = []; chain = [] }
