use Rattle.std.proofs.Common.{◌≡◌, take}
use Rattle.std.specs.Prelude.{◌||◌}
use Rattle.resource_docs.specs.Ends.{by_contents, has}
use Rattle.resource_docs.specs.declared.ends.Naming.{Naming}
use Rattle.resource_docs.proofs.ends.Ends.add_object.Given as goal

abbrev pub invariant-contents : goal.invariant-contents
invariant-contents l = (k : Naming) → has l.self k ≡ has l.initial.self k || by_contents l.object (take l.content-index l.contents) k
