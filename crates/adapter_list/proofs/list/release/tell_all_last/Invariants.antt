use Rattle.std.proofs.Common.{◌≡◌, ◌+◌, ◌≤◌, drop, length, map}
use Rattle.notice_chain.specs.Released.{removing_notice}
use Rattle.notice_chain.specs.View.{hear_all}
use Rattle.adapter_list.proofs.list.release.tell_all_last.Given as goal

abbrev pub invariant-loop-index : goal.invariant-loop-index
invariant-loop-index g l = record {
  reserve : length l.targets.items ≤ g.A.Adapter.places l.adapter + l.index;
  heard : hear_all (g.A.Adapter.heard l.adapter) (map (λ t. removing_notice l.no t.node 0) (drop l.index l.targets.items)) ≡ hear_all (g.A.Adapter.heard l.fn.adapter) (map (λ t. removing_notice l.no t.node 0) l.targets.items);
}
