use Rattle.std.proofs.Common.{◌≡◌, ◌∙◌, ap}
use Rattle.mm_types.specs.Raw.{RawMetamodel}
use Rattle.mm_types.specs.Resolved.{graph_of}
use Rattle.mm_check.proofs.Deciding.{cycle_at, no_cycle}
use Rattle.mm_check.proofs.checker.Checker.first_cycle.Goals as goal

pub returns-in-Some : goal.returns-in-Some
returns-in-Some c =
    let graph_is : c.as_slice.result.now ≡ graph_of c.args.self.now.classes = c.as_slice.ensures.value ∙ (c.self.invariant.graph_is ∙ ap (λ (r : RawMetamodel). graph_of r.classes) c.self.view_is) in
    let first = rw c.in-Some.is at c.in_ok-c.ensures in
    cycle_at c.args.self.now c.as_slice.result.now c.in-Some.c graph_is first.1 first.2

pub returns-in-None : goal.returns-in-None
returns-in-None c =
    let graph_is : c.as_slice.result.now ≡ graph_of c.args.self.now.classes = c.as_slice.ensures.value ∙ (c.self.invariant.graph_is ∙ ap (λ (r : RawMetamodel). graph_of r.classes) c.self.view_is) in
    no_cycle c.args.self.now c.as_slice.result.now graph_is (rw c.in-None.is at c.in_ok-c.ensures)
