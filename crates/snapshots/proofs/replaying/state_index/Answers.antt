use Rattle.std.proofs.Common.{◌≡◌, ◌<◌, ◌+◌, ◌-◌, ◌/◌, ℕ, length, drop, true, false, sym, ap, subst, arith, ◌∙◌}
use Rattle.std.proofs.lemmas.List.{drop_all}
use Rattle.mm_types.specs.Same.{same_node}
use Rattle.snapshots.specs.Order.{is_before}
use Rattle.snapshots.specs.declared.snapshot.NodeState.{NodeState}
use Rattle.snapshots.proofs.SearchLemmas.{All, all-above, all-below, all-nothing, index-found, index-other, index-past}
use Rattle.snapshots.proofs.replaying.state_index.Goals as goal

pub loop-low-init : goal.loop-low-init
loop-low-init c = record {
  order = omega arith;
  within = omega arith;
  below = all-nothing true c.args.node;
  above = rw (drop_all (length c.args.nodes.now) c.args.nodes.now (omega arith)) (all-nothing false c.args.node);
}

pub loop-low-preserved-then-is_before : goal.loop-low-preserved-then-is_before
loop-low-preserved-then-is_before c =
    let d = c.index-nodes-middle.result in
    let middle = c.loop-low.low + (c.loop-low.high - c.loop-low.low) / 2 in
    let low : middle < length c.args.nodes.now = omega arith in
    let h : is_before d.node c.args.node ≡ true = cc (c.if-is_before.true, c.is_before.ensures) in
    record {
      order = omega arith;
      within = c.loop-low.invariant.within;
      below = all-below c.args.node c.args.nodes.now middle d c.requires.in_order low c.index-nodes-middle.is h;
      above = c.loop-low.invariant.above;
    }

pub loop-low-preserved : goal.loop-low-preserved
loop-low-preserved c =
    let d = c.index-nodes-middle.result in
    let middle = c.loop-low.low + (c.loop-low.high - c.loop-low.low) / 2 in
    let low : middle < length c.args.nodes.now = omega arith in
    let h : is_before d.node c.args.node ≡ false = cc (c.if-is_before.false, c.is_before.ensures) in
    record {
      order = omega arith;
      within = omega arith;
      below = c.loop-low.invariant.below;
      above = all-above c.args.node c.args.nodes.now middle d c.requires.in_order low c.index-nodes-middle.is h;
    }

pub returns-then-low-nodes : goal.returns-then-low-nodes
returns-then-low-nodes c = index-past c.args.node c.args.nodes.now c.loop-low.low c.loop-low.invariant.below (omega arith)

pub returns-then-is_same : goal.returns-then-is_same
returns-then-is_same c =
    let low : c.loop-low.low < length c.args.nodes.now = omega arith in
    let h : same_node c.index-nodes-low.result.node c.args.node ≡ true = ap (λ (y : NodeState). same_node y.node c.args.node) c.index-nodes-low.is ∙ sym c.is_same.ensures ∙ c.if-is_same.true in
    index-found c.args.node c.args.nodes.now c.loop-low.low c.index-nodes-low.result c.loop-low.invariant.below low c.index-nodes-low.is h

pub returns-else-is_same : goal.returns-else-is_same
returns-else-is_same c =
    let low : c.loop-low.low < length c.args.nodes.now = omega arith in
    let h : same_node c.index-nodes-low.result.node c.args.node ≡ false = ap (λ (y : NodeState). same_node y.node c.args.node) c.index-nodes-low.is ∙ sym c.is_same.ensures ∙ c.if-is_same.false in
    let met : c.loop-low.high ≡ c.loop-low.low = omega arith in
    index-other c.args.node c.args.nodes.now c.loop-low.low c.index-nodes-low.result c.requires.in_order c.loop-low.invariant.below (subst (λ (k : ℕ). All false c.args.node (drop k c.args.nodes.now)) met c.loop-low.invariant.above) low c.index-nodes-low.is h
