use Rattle.std.proofs.Common.{◌≡◌, ◌++◌, drop, flat_map}
use Rattle.doc_loader.specs.LoadEdits.{pass_edits}
use Rattle.doc_loader.proofs.passes.push_object.Given as goal

-- what is added, and then what is left to add
abbrev pub invariant-contents : goal.invariant-contents
invariant-contents l =
    let made = pass_edits l.pass l.meta l.next l.object in
    l.edits.items ++ flat_map made (drop l.content-index l.contents) ≡ l.fn.edits.items ++ flat_map made l.contents
