use Rattle.std.proofs.Common.{◌≡◌}
use Rattle.std.specs.Vec.Iter.{into_iter_items}
use Rattle.adapter_list.specs.Rounds.{CopiesFit, adapters_after_copies}
use Rattle.adapter_list.proofs.list.AdapterList.tell_each.Given as goal

abbrev pub invariant-loop-ordinal : goal.invariant-loop-ordinal
invariant-loop-ordinal g l = record {
  can : (goal.iterator-loop-ordinal g).can_next l.ordinal-iterator;
  ends : (goal.iterator-loop-ordinal g).is_finite l.ordinal-iterator;
  fits : CopiesFit l.self.0 l.self.1 (into_iter_items l.ordinal-iterator);
  heard : adapters_after_copies (into_iter_items l.ordinal-iterator) l.self.0 ≡ adapters_after_copies (into_iter_items l.initial.ordinal-iterator) l.initial.self.0;
}
