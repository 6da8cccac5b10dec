use Rattle.std.proofs.Common.{rules, arith, ◌≡◌, ◌∙◌, [], ap, get_or}
use Rattle.std.proofs.lemmas.List.{get_or_read}
use Rattle.mm_types.specs.Graph.{by_class}
use Rattle.mm_graph.proofs.Reaching.{added, adding_more, adding_none}
use Rattle.mm_graph.proofs.reach.+add_reached.Goals as goal

pub supers-init : goal.supers-init
supers-init t c = adding_none c.args.graph.now c.args.c c.args.seen.now (omega (arith, c.requires.long, c.requires.class)) (search rules)

pub supers-preserved : goal.supers-preserved
supers-preserved t c =
    let g = c.args.graph.now in
    let at = c.supers.e-index in
    let supers_are : c.as_slice-e-items.result.now ≡ by_class g c.args.c = c.as_slice-e-items.ensures ∙ get_or_read g c.args.c _ c.requires.class c.index-graph-c.is [] in
    adding_more g c.args.c _ c.args.seen.now c.supers.seen c.add_reached.new.seen at c.supers.invariant (rw (← supers_are) c.supers-test.true)
    (ap (λ s. get_or s at 0) supers_are) c.add_reached.ensures

pub returns : goal.returns
returns t c =
    let g = c.args.graph.now in
    let supers_are : c.as_slice-e-items.result.now ≡ by_class g c.args.c = c.as_slice-e-items.ensures ∙ get_or_read g c.args.c _ c.requires.class c.index-graph-c.is [] in
    added g c.args.c c.args.seen.now c.supers.seen c.supers.e-index c.supers.invariant (omega (arith, c.requires.long, c.requires.class))
    (rw (← supers_are) c.supers-test.false)
