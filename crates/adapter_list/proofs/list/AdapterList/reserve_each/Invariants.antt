use Rattle.std.proofs.Common.{◌≡◌, ◌≤◌, ℕ, drop, length, slice_index}
use Rattle.adapter_list.specs.Counts.{ordinals}
use Rattle.adapter_list.proofs.ReserveLemmas.{AreAsked}
use Rattle.adapter_list.proofs.list.AdapterList.reserve_each.Given as goal

abbrev pub invariant-loop-ordinal : goal.invariant-loop-ordinal
invariant-loop-ordinal g l = record {
  kept : l.self.0 ≡ l.fn.self.0;
  as_many : length l.self.1 ≡ length l.fn.self.1;
  no_fewer : (k : ℕ) → slice_index l.fn.self.1 k ≤ slice_index l.self.1 k;
  asked : AreAsked l.fn.self.0 l.self.1 l.copies (drop l.ordinal-index (ordinals l.copies));
}
