use Rattle.mm_values.proofs.SlotLemmas.{objects-append}
use Rattle.mm_values.proofs.objects.Objects.add_slot.Goals as goal

pub returns-clause-objects : goal.returns-clause-objects
returns-clause-objects c = rw (← c.self.view_is, c.push_reserved.ensures.items, c.in_ok-push.ensures.items, c.reserve.ensures.items) (objects-append c.self.inside.classes.items c.self.inside.lists.items c.self.inside.next c.self.invariant.same_length _ _ c.self.invariant.in_range)
