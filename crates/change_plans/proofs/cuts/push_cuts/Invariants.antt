use Rattle.std.proofs.Common.{◌≡◌, ◌++◌, map}
use Rattle.std.specs.Vec.Iter.{into_iter_items}
use Rattle.handshake.specs.Edits.{cut_of}
use Rattle.change_plans.proofs.cuts.push_cuts.Given as goal

abbrev pub invariant-loop-link_end : goal.invariant-loop-link_end
invariant-loop-link_end l = record {
  can : (goal.iterator-loop-link_end).can_next l.link_end-iterator;
  ends : (goal.iterator-loop-link_end).is_finite l.link_end-iterator;
  rest : l.edits ++ map cut_of (into_iter_items l.link_end-iterator) ≡ l.fn.edits ++ map cut_of l.fn.link_ends.items;
}
