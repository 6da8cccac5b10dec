use Rattle.std.proofs.Common.{◌≡◌, ◌++◌, drop}
use Rattle.removal.specs.Ranks.{staying_ends}
use Rattle.removal.proofs.ends.push_staying.Given as goal

-- what is added, and then what is left to add
abbrev pub invariant-loop-end : goal.invariant-loop-end
invariant-loop-end l = l.ends.items ++ staying_ends l.numbers (drop l.end-index l.held_by) ≡ l.fn.ends.items ++ staying_ends l.numbers l.held_by
