use Rattle.std.proofs.Common.{rules, ◌≡◌, ◌∙◌, ◌+◌, [], ap, Bool, List, get_or, subst, sym}
use Rattle.std.proofs.lemmas.List.{get_or_read, with_items_is}
use Rattle.mm_types.specs.Graph.{by_class}
use Rattle.mm_graph.proofs.Reaching.{IsReaching, reaching_all, reaching_more, reaching_none}
use Rattle.mm_graph.proofs.reach.reached_from.Goals as goal

pub supers-init : goal.supers-init
supers-init c = reaching_none c.args.graph.now c.args.c _ (search rules)

pub supers-preserved : goal.supers-preserved
supers-preserved c =
    let g = c.args.graph.now in
    let at = c.supers.e-index in
    let supers_are : c.as_slice-e-items.result.now ≡ by_class g c.args.c = c.as_slice-e-items.ensures ∙ get_or_read g c.args.c _ c.requires.class c.index-graph-c.is [] in
    let kept = with_items_is c.supers.seen c.add_reached.new.seen (c.add_reached.ensures.long ∙ c.deref_mut.ensures.len) in
    subst (λ (s : List Bool). IsReaching g c.args.c s (at + 1)) (sym kept)
    (reaching_more g c.args.c _ c.supers.seen.items c.add_reached.new.seen at c.supers.invariant (rw (← supers_are) c.supers-test.true)
    (ap (λ s. get_or s at 0) supers_are) (rw c.deref_mut.ensures.value at c.add_reached.ensures))

pub returns-clause-set : goal.returns-clause-set
returns-clause-set c =
    let g = c.args.graph.now in
    let supers_are : c.as_slice-e-items.result.now ≡ by_class g c.args.c = c.as_slice-e-items.ensures ∙ get_or_read g c.args.c _ c.requires.class c.index-graph-c.is [] in
    rw c.from_vec.ensures (reaching_all g c.args.c c.supers.seen.items c.supers.e-index c.supers.invariant (rw (← supers_are) c.supers-test.false))
