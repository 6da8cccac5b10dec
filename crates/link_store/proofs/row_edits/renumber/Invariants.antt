use Rattle.std.proofs.Common.{◌≡◌, ◌++◌, map, take, drop}
use Rattle.links.specs.Indexed.{renumbered_link}
use Rattle.link_store.specs.Rows.{changed_index}
use Rattle.link_store.proofs.row_edits.renumber.Given as goal

-- the rows before the index are changed, and the others are as they were
abbrev pub invariant-loop-link : goal.invariant-loop-link
invariant-loop-link l = l.link-items ≡ map (λ x. renumbered_link x l.end (changed_index l.by)) (take l.link-index l.fn.rows.items) ++ drop l.link-index l.fn.rows.items
