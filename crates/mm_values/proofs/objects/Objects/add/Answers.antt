use Rattle.std.proofs.Common.{◌<◌, length, [], arith}
use Rattle.mm_values.proofs.SlotLemmas.{objects-made}
use Rattle.mm_values.proofs.objects.Objects.add.Goals as goal

pub returns-clause-objects : goal.returns-clause-objects
returns-clause-objects c =
    let s = c.self.inside in
    let within : s.next < length s.lists.items = rw (← c.self.view_is) at c.requires in
    rw (← c.self.view_is) (objects-made s.classes.items s.lists.items s.next c.self.invariant.same_length c.args.class within (c.self.invariant.holds_nothing s.next [] (omega arith) within))
