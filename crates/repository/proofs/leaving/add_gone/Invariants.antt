use Rattle.std.proofs.Common.{◌≡◌, ◌++◌, drop, filter, map}
use Rattle.removal.specs.Ranks.{is_in}
use Rattle.repository.proofs.leaving.add_gone.Given as goal

abbrev pub invariant-loop-index : goal.invariant-loop-index
invariant-loop-index l =
    l.spots.items ++ map (λ t. (l.no, t.node)) (filter (λ t. is_in l.removal.numbers t.node) (drop l.index l.targets.items))
    ≡ l.fn.spots.items ++ map (λ t. (l.no, t.node)) (filter (λ t. is_in l.removal.numbers t.node) l.targets.items)
