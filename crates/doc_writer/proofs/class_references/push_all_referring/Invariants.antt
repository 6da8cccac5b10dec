use Rattle.std.proofs.Common.{◌≡◌, ◌++◌, filter, take}
use Rattle.doc_writer.specs.References.{may_refer}
use Rattle.doc_writer.proofs.class_references.push_all_referring.Given as goal

abbrev pub invariant-features : goal.invariant-features
invariant-features l = l.found.items ≡ l.fn.found.items ++ filter (may_refer l.meta) (take l.feature-index l.features)
