use Rattle.std.proofs.Common.{◌≡◌, ◌++◌, drop, flat_map}
use Rattle.doc_loader.specs.LoadEdits.{puts_again}
use Rattle.doc_loader.specs.ListIndexes.{found_at}
use Rattle.doc_loader.proofs.far.push_values.Given as goal

-- what is added, and then what is left to add
abbrev pub invariant-values : goal.invariant-values
invariant-values l =
    let made = puts_again l.source.meta.now l.source.next (found_at l.source.indexes.now) l.object l.lower in
    l.edits.items ++ flat_map made (drop l.value-index l.values) ≡ l.fn.edits.items ++ flat_map made l.values
