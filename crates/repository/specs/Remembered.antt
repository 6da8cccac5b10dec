-- Which plans may give a node a different container.
use Rattle.std.specs.Prelude.{◌&&◌, Bool, true, false, not, List, [], ◌∷◌}
use Rattle.links.specs.Laws.{touches_containment}
use Rattle.links.specs.LegalSets.{Kinds}
use Rattle.links.specs.declared.plan.Edit.{Edit}
use Rattle.links.specs.declared.plan.Edit.TheVariants as edit

-- whether a plan only moves one value within its list
abbrev pub is_move : List Edit → Bool
is_move (edit.Shift e to from ∷ []) = true
is_move _ = false

-- whether a plan edits a containing link, and does more than move one value within its list
abbrev pub may_change_containers : Kinds → List Edit → Bool
may_change_containers m plan = touches_containment m plan && not (is_move plan)
