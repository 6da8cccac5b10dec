use Rattle.std.proofs.Common.{◌≡◌, ◌++◌, drop, flat_map}
use Rattle.std.specs.List.{enumerate_from}
use Rattle.doc_loader.specs.LoadEdits.{pass_edits}
use Rattle.doc_loader.specs.Loading.{of_object}
use Rattle.doc_loader.proofs.passes.push_objects.Given as goal

-- what is added, and then what is left to add
abbrev pub invariant-objects : goal.invariant-objects
invariant-objects l =
    let made = of_object (pass_edits l.pass l.meta l.next) in
    l.edits.items ++ flat_map made (enumerate_from l.i (drop l.i l.objects)) ≡ l.fn.edits.items ++ flat_map made (enumerate_from 0 l.objects)
