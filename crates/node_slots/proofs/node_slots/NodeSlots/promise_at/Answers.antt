use Rattle.std.proofs.Common.{refl}
use Rattle.std.proofs.lemmas.Result.{on_ok_weaker}
use Rattle.mm_types.specs.declared.numbers.Node.TheVariants as node
use Rattle.node_slots.specs.declared.node_slots.NodeSlots.{NodeSlots}
use Rattle.node_slots.proofs.CellLemmas.{cells_grown, objects_each, promised_mixed, promised_value, resources_each}
use Rattle.node_slots.proofs.node_slots.NodeSlots.promise_at.Goals as goal

pub returns-in-Object-clause-cells : goal.returns-in-Object-clause-cells
returns-in-Object-clause-cells c =
    let u : NodeSlots = record c.args.self.now { objects = c.promise_at.new.self } in
    cells_grown c.args.self.now u (objects_each c.args.self.now u c.promise_at.ensures.grown refl)

pub returns-in-Object-clause-ok : goal.returns-in-Object-clause-ok
returns-in-Object-clause-ok c =
    let u : NodeSlots = record c.args.self.now { objects = c.promise_at.new.self } in
    on_ok_weaker c.promise_at.result (promised_value c.args.self.now u (objects_each c.args.self.now u c.promise_at.ensures.grown refl) c.args.end (node.Object c.in-Object.object) c.in-Object.is) c.promise_at.ensures.ok

pub returns-in-Resource-clause-cells : goal.returns-in-Resource-clause-cells
returns-in-Resource-clause-cells c =
    let u : NodeSlots = record c.args.self.now { resources = c.promise_at-in-Resource.new.self } in
    cells_grown c.args.self.now u (resources_each c.args.self.now u c.promise_at-in-Resource.ensures.grown refl)

pub returns-in-Resource-clause-ok : goal.returns-in-Resource-clause-ok
returns-in-Resource-clause-ok c =
    let u : NodeSlots = record c.args.self.now { resources = c.promise_at-in-Resource.new.self } in
    on_ok_weaker c.promise_at-in-Resource.result (promised_value c.args.self.now u (resources_each c.args.self.now u c.promise_at-in-Resource.ensures.grown refl) c.args.end (node.Resource c.in-Resource.resource) c.in-Resource.is) c.promise_at-in-Resource.ensures.ok

pub returns-in-Object-clause-takes : goal.returns-in-Object-clause-takes
returns-in-Object-clause-takes c =
    let u : NodeSlots = record c.args.self.now { objects = c.promise_at.new.self } in
    on_ok_weaker c.promise_at.result (promised_mixed u c.args.end (node.Object c.in-Object.object) c.args.is_mixed c.in-Object.is) c.promise_at.ensures.takes

pub returns-in-Resource-clause-takes : goal.returns-in-Resource-clause-takes
returns-in-Resource-clause-takes c =
    let u : NodeSlots = record c.args.self.now { resources = c.promise_at-in-Resource.new.self } in
    on_ok_weaker c.promise_at-in-Resource.result (promised_mixed u c.args.end (node.Resource c.in-Resource.resource) c.args.is_mixed c.in-Resource.is) c.promise_at-in-Resource.ensures.takes
