use Rattle.std.proofs.Common.{◌≡◌, ◌++◌, drop, map}
use Rattle.std.specs.List.{enumerate_from}
use Rattle.handshake.specs.Reports.{root_notice}
use Rattle.change_plans.proofs.loads.root_notices.Given as goal

-- what is made, and then what is left to make
abbrev pub invariant-roots : goal.invariant-roots
invariant-roots l = l.chain ++ map (root_notice l.next l.end) (enumerate_from l.i (drop l.i l.roots)) ≡ l.fn.chain ++ map (root_notice l.next l.end) (enumerate_from 0 l.roots)
