use Rattle.std.proofs.Common.{◌≡◌, ◌++◌, drop, flat_map}
use Rattle.std.specs.List.{enumerate_from}
use Rattle.doc_loader.specs.LoadEdits.{value_puts}
use Rattle.doc_loader.proofs.near.push_values.Given as goal

-- what is added, and then what is left to add
abbrev pub invariant-values : goal.invariant-values
invariant-values l =
    let puts = value_puts l.meta l.next l.end in
    l.edits.items ++ flat_map puts (enumerate_from l.i (drop l.i l.values)) ≡ l.fn.edits.items ++ flat_map puts (enumerate_from 0 l.values)
