use Rattle.std.proofs.Common.{◌≡◌, ◌++◌, ℕ, drop, map}
use Rattle.std.specs.List.{enumerate_from}
use Rattle.mm_types.specs.declared.numbers.ObjectNo.{ObjectNo}
use Rattle.links.specs.declared.plan.Edit.{Edit}
use Rattle.doc_loader.specs.LoadEdits.{put_at}
use Rattle.doc_loader.proofs.linking.push_roots.Given as goal

-- what is added, and then what is left to add
abbrev pub invariant-roots : goal.invariant-roots
invariant-roots l =
    let put : ℕ × ObjectNo → Edit = λ x. put_at l.meta l.next l.end x.0 x.1 in
    l.edits.items ++ map put (enumerate_from l.i (drop l.i l.roots)) ≡ l.fn.edits.items ++ map put (enumerate_from 0 l.roots)
