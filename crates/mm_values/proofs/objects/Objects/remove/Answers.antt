use Rattle.std.proofs.Common.{None}
use Rattle.mm_values.proofs.SlotLemmas.{objects-set, kept_ended}
use Rattle.mm_values.proofs.objects.Objects.remove.Goals as goal

pub returns-then-index-self-clause-objects : goal.returns-then-index-self-clause-objects
returns-then-index-self-clause-objects c = rw (← c.self.view_is) (objects-set c.self.inside.classes.items c.self.inside.lists.items c.self.inside.next c.args.object.0 None _)

pub returns-then-index-self-clause-kept : goal.returns-then-index-self-clause-kept
returns-then-index-self-clause-kept c = rw (← c.self.view_is) (kept_ended c.self.inside.classes.items c.self.inside.lists.items c.self.inside.next c.args.object.0 _ c.self.invariant.same_length c.if-index-self.true c.self.invariant.in_range)
