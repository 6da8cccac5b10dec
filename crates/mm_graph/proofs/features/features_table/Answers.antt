use Rattle.std.proofs.Common.{arith, ◌≡◌, ◌∙◌, ◌<◌, [], get_or, length, length-set}
use Rattle.std.proofs.lemmas.List.{get_or_default, get_or_read}
use Rattle.mm_types.specs.Graph.{by_class}
use Rattle.mm_graph.proofs.Merging.{rows_next}
use Rattle.mm_graph.proofs.features.features_table.Goals as goal

pub classes-preserved : goal.classes-preserved
classes-preserved c =
    let g = c.args.graph.now in
    let own = c.args.own.now in
    let order = c.args.order.now in
    let here = get_or order c.classes.c-index 0 in
    let low : here < length g = c.requires.order.within c.classes.c-index 0 c.classes-test.true in
    let supers_are : c.as_slice.result.now ≡ by_class g here = c.as_slice.ensures ∙ get_or_read g here _ low c.index-graph-c.is [] in
    let own_are : c.as_slice-in-classes-2.result.now ≡ by_class own here = c.as_slice-in-classes-2.ensures ∙ get_or_read own here _ (rw c.requires.own low) c.index-own-c.is [] in
    record {
      long = length-set c.classes.rows.items here c.in_ok-made.made ∙ c.classes.invariant.long;
      made = rows_next g own c.classes.rows.items order _ _ c.in_ok-made.made c.classes.c-index c.requires.order c.classes-test.true c.classes.invariant.long c.classes.invariant.made
          supers_are own_are (rw c.as_slice-in-classes.ensures.value at c.in_ok-made.ensures);
    }

pub returns-clause-rows : goal.returns-clause-rows
returns-clause-rows c =
    λ d low. (let p = c.requires.order.every d low in
    let at : get_or c.args.order.now p.0 0 ≡ d = get_or_default c.args.order.now p.0 0 d p.1 ∙ p.2 in
    rw (← at) (c.classes.invariant.made p.0 (omega arith)))
