use Rattle.std.proofs.Common.{Option, refl, subst, sym}
use Rattle.std.proofs.lemmas.Result.{on_ok_weaker}
use Rattle.mm_types.specs.declared.numbers.FeatureNo.{FeatureNo}
use Rattle.mm_types.specs.declared.numbers.Node.TheVariants as node
use Rattle.links.specs.Links.{far_end}
use Rattle.node_slots.specs.declared.node_slots.NodeSlots.{NodeSlots}
use Rattle.node_slots.specs.Cells.{room}
use Rattle.node_slots.specs.Growth.{HasGained, far_gain, lone_entry}
use Rattle.node_slots.proofs.CellLemmas.{cells_grown, objects_each, promised_entry, promised_value}
use Rattle.node_slots.proofs.node_slots.NodeSlots.promise_far_at.Goals as goal

pub returns-in-Some-clause-cells : goal.returns-in-Some-clause-cells
returns-in-Some-clause-cells c =
    let u : NodeSlots = record c.args.self.now { objects = c.promise_at.new.self } in
    cells_grown c.args.self.now u (objects_each c.args.self.now u c.promise_at.ensures.grown refl)

pub returns-in-Some-clause-ok : goal.returns-in-Some-clause-ok
returns-in-Some-clause-ok c =
    let t = c.args.self.now in
    let u : NodeSlots = record t { objects = c.promise_at.new.self } in
    let gains : Option FeatureNo → Type 0 = λ g. HasGained (far_gain c.args.object g) (lone_entry c.args.object g) (room t) (room u) in
    on_ok_weaker c.promise_at.result (λ h. subst gains (sym c.in-Some.is) (promised_value t u (objects_each t u c.promise_at.ensures.grown refl) (far_end c.args.object c.in-Some.feature) (node.Object c.args.object) refl h)) c.promise_at.ensures.ok

pub returns-in-None-clause-cells : goal.returns-in-None-clause-cells
returns-in-None-clause-cells c =
    let u : NodeSlots = record c.args.self.now { objects = c.promise_entry_at.new.self } in
    cells_grown c.args.self.now u (objects_each c.args.self.now u c.promise_entry_at.ensures.grown refl)

pub returns-in-None-clause-ok : goal.returns-in-None-clause-ok
returns-in-None-clause-ok c =
    let t = c.args.self.now in
    let u : NodeSlots = record t { objects = c.promise_entry_at.new.self } in
    let gains : Option FeatureNo → Type 0 = λ g. HasGained (far_gain c.args.object g) (lone_entry c.args.object g) (room t) (room u) in
    on_ok_weaker c.promise_entry_at.result (λ h. subst gains (sym c.in-None.is) (promised_entry t u (objects_each t u c.promise_entry_at.ensures.grown refl) (node.Object c.args.object) h)) c.promise_entry_at.ensures.ok
