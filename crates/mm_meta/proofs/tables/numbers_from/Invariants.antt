use Rattle.std.proofs.Common.{◌≡◌, ◌++◌, ◌-◌}
use Rattle.std.specs.List.{range_with_len}
use Rattle.mm_meta.proofs.tables.numbers_from.Given as goal

abbrev pub invariant-numbers : goal.invariant-numbers
invariant-numbers l = l.numbers.items ++ range_with_len l.n (l.n-end - l.n) ≡ range_with_len l.first l.count
