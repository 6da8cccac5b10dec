use Rattle.std.proofs.Common.{◌≡◌, ◌++◌, drop, flat_map}
use Rattle.doc_loader.specs.LoadEdits.{far_edits}
use Rattle.doc_loader.specs.ListIndexes.{found_at}
use Rattle.doc_loader.proofs.far.push_object.Given as goal

-- what is added, and then what is left to add
abbrev pub invariant-contents : goal.invariant-contents
invariant-contents l =
    let made = far_edits l.source.meta.now l.source.next (found_at l.source.indexes.now) l.object in
    l.edits.items ++ flat_map made (drop l.content-index l.contents) ≡ l.fn.edits.items ++ flat_map made l.contents
