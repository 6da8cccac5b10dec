use Rattle.std.proofs.Common.{◌≡◌, false, take}
use Rattle.std.specs.List.{list_any}
use Rattle.resource_docs.specs.Causes.{has_repeat}
use Rattle.resource_docs.proofs.repeats.is_any_repeated.Given as goal

abbrev pub invariant-objects : goal.invariant-objects
invariant-objects l = list_any (λ o. list_any (has_repeat l.meta) o.contents) (take l.object-index l.objects) ≡ false
