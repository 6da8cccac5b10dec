use Rattle.std.proofs.Common.{◌≡◌, drop}
use Rattle.resource_docs.specs.Keys.{rising_from}
use Rattle.resource_docs.proofs.repeats.are_rising.Given as goal

-- the values that are left are in order, from the least number that may come next
abbrev pub invariant-values : goal.invariant-values
invariant-values l = rising_from l.least (drop l.value-index l.values) ≡ rising_from 0 l.values
