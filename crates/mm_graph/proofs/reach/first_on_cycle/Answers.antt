use Rattle.std.proofs.Common.{arith, ◌≡◌, ◌∙◌, ℕ, ap, below_more, false, sym, true}
use Rattle.mm_types.specs.Graph.{Reaches}
use Rattle.mm_graph.specs.Sets.{is_in}
use Rattle.mm_graph.proofs.Reaching.{no_cycle}
use Rattle.mm_graph.proofs.reach.first_on_cycle.Goals as goal

pub returns-in-Some : goal.returns-in-Some
returns-in-Some c k low = no_cycle c.args.graph.now c.in-Some._order.items (rw c.in-Some.is at c.in_ok-_order.ensures) k

pub classes-preserved : goal.classes-preserved
classes-preserved c = below_more (λ (k : ℕ). Reaches c.args.graph.now k k → ⊥) _ c.classes.invariant
    (λ r. let yes : is_in c.in_ok-reached.reached c.classes.c ≡ true = (c.in_ok-reached.ensures.set c.classes.c).1 r in
    let no : is_in c.in_ok-reached.reached c.classes.c ≡ false = sym (ap (λ s. is_in s c.classes.c) c.as_slice.ensures) ∙ c.if-as_slice-c.false in
    let bad : true ≡ false = sym yes ∙ no in cc)

pub returns : goal.returns
returns c k low = c.classes.invariant k (omega arith)
