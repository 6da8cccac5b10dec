use Rattle.std.proofs.Common.{◌∙◌}
use Rattle.mm_types.specs.declared.numbers.Node.TheVariants as node
use Rattle.node_slots.proofs.node_slots.NodeSlots.reserve_put.Goals as goal

pub promise_far_at-requires : goal.promise_far_at-requires
promise_far_at-requires c = record { at = c.promise_at.ensures.places (node.Object c.args.link.object) ∙ c.in_ok-far.ensures.ok }

pub returns-in-Ok-clause-far : goal.returns-in-Ok-clause-far
returns-in-Ok-clause-far c =
    let n = node.Object c.args.link.object in
    c.promise_far_at.ensures.places n ∙ c.promise_at.ensures.places n ∙ c.in_ok-far.ensures.ok
