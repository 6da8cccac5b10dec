use Rattle.std.proofs.Common.{◌<◌, length, arith}
use Rattle.mm_values.proofs.SlotLemmas.{objects_same, kept_all}
use Rattle.mm_values.proofs.objects.Objects.make_place.Goals as goal

pub returns-clause-objects : goal.returns-clause-objects
returns-clause-objects c =
    let s = c.self.inside in
    let within : c.args.object.0 < length s.lists.items = omega (arith, c.self.invariant.in_range) in
    rw (← c.self.view_is) (objects_same s.classes.items s.lists.items s.next c.args.object.0 c.index_mut.result.now _ c.self.invariant.same_length within c.index_mut.ensures.value c.make_place.ensures.stored)

pub returns-clause-kept : goal.returns-clause-kept
returns-clause-kept c =
    let s = c.self.inside in
    let within : c.args.object.0 < length s.lists.items = omega (arith, c.self.invariant.in_range) in
    rw (← c.self.view_is) (kept_all s.classes.items s.lists.items s.next c.args.object.0 c.index_mut.result.now _ within c.index_mut.ensures.value c.make_place.ensures.kept)
