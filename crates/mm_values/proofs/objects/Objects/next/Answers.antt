use Rattle.mm_values.proofs.SlotLemmas.{length-objects}
use Rattle.mm_values.proofs.objects.Objects.next.Goals as goal

pub returns-clause-made : goal.returns-clause-made
returns-clause-made c = rw (← c.self.view_is) (length-objects c.self.inside.classes.items c.self.inside.lists.items c.self.inside.next c.self.invariant.same_length c.self.invariant.in_range)
