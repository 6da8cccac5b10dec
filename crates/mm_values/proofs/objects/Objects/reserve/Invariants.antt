use Rattle.std.proofs.Common.{◌≡◌, ◌+◌, length}
use Rattle.mm_values.specs.Slots.{objects_of}
use Rattle.mm_values.proofs.objects.Objects.reserve.Given as goal

abbrev pub invariant-loop-have : goal.invariant-loop-have
invariant-loop-have l = (objects_of l.self ≡ objects_of l.fn.self) × (l._have + l.self.next ≡ length l.self.lists)
