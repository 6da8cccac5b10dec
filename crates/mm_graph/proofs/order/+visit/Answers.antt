use Rattle.std.proofs.Common.{arith, ◌≡◌, ◌∙◌, ◌<◌, [], ap, get_or, length}
use Rattle.std.specs.List.{Contains}
use Rattle.std.proofs.lemmas.List.{get_or_read}
use Rattle.std.proofs.lemmas.List.Elements.{Contains-get_or}
use Rattle.mm_types.specs.Graph.{by_class}
use Rattle.mm_graph.proofs.Visiting.{fewer_unseen, reach_super, visited}
use Rattle.mm_graph.proofs.order.+visit.Goals as goal

pub visit-requires : goal.visit-requires
visit-requires t c =
    let g = c.args.graph.now in
    let i = c.supers.invariant in
    let at = c.supers.e-index in
    let supers_are : c.as_slice-e-items.result.now ≡ by_class g c.args.c = c.as_slice-e-items.ensures ∙ get_or_read g c.args.c _ c.requires.class c.index-graph-c.is [] in
    let low : at < length (by_class g c.args.c) = rw (← supers_are) c.supers-test.true in
    let e_is : get_or c.as_slice-e-items.result.now at 0 ≡ get_or (by_class g c.args.c) at 0 = ap (λ s. get_or s at 0) supers_are in
    let step : Contains (by_class g c.args.c) (get_or c.as_slice-e-items.result.now at 0) = rw e_is (Contains-get_or (by_class g c.args.c) at 0 low) in
    let fewer = fewer_unseen c.args.marks.now c.args.c (omega (arith, c.requires.begun.long, c.requires.class)) i.unseen in (
      omega (arith, i.goes.fewer),
      (
        c.requires.graph,
        (
          rw e_is (c.requires.graph c.args.c [] c.requires.class at 0 low),
          (
            i.begun,
            λ k is. reach_super g c.args.marks.now c.supers.marks c.args.c _ k c.requires.reach i.goes step is,
          ),
        ),
      ),
    )

pub returns : goal.returns
returns t c =
    let g = c.args.graph.now in
    let i = c.supers.invariant in
    let supers_are : c.as_slice-e-items.result.now ≡ by_class g c.args.c = c.as_slice-e-items.ensures ∙ get_or_read g c.args.c _ c.requires.class c.index-graph-c.is [] in
    visited g c.args.c c.args.marks.now c.supers.marks c.supers.order.items c.push.new.self.items c.requires.class c.requires.begun.long i.unseen i.goes i.begun
    (λ j low. i.visited j (let e = ap length supers_are in omega arith)) c.in_ok-push.ensures.items
