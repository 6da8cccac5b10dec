use Rattle.std.proofs.Common.{◌≡◌, drop}
use Rattle.doc_loader.specs.LoadEdits.{is_ascending_from}
use Rattle.doc_loader.proofs.far.is_ascending.Given as goal

-- the values that are left are in order, from the least number that may come next
abbrev pub invariant-values : goal.invariant-values
invariant-values l = is_ascending_from l.least (drop l.value-index l.values) ≡ is_ascending_from 0 l.values
