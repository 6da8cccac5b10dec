use Rattle.std.proofs.Common.{◌≡◌, false, take}
use Rattle.std.specs.List.{list_any}
use Rattle.resource_docs.specs.Causes.{has_repeat}
use Rattle.resource_docs.proofs.repeats.has_any_repeat.Given as goal

abbrev pub invariant-contents : goal.invariant-contents
invariant-contents l = list_any (has_repeat l.meta) (take l.content-index l.contents) ≡ false
