use Rattle.std.proofs.Common.{rules, ◌∙◌, Bool, List, length, sym, subst}
use Rattle.std.proofs.lemmas.List.{with_items_is}
use Rattle.mm_types.specs.Graph.{Conforms}
use Rattle.mm_graph.specs.Sets.{IsSetOf}
use Rattle.mm_graph.proofs.Reaching.{conforms_set}
use Rattle.mm_graph.proofs.reach.conforming.Goals as goal

pub returns-clause-set : goal.returns-clause-set
returns-clause-set c =
    let kept = with_items_is c.in_ok-seen.seen c.add_reached.new.seen (c.add_reached.ensures.long ∙ c.deref_mut.ensures.len) in
    subst (λ (s : List Bool). IsSetOf (Conforms c.args.graph.now c.args.c) s) (sym (c.from_vec.ensures ∙ kept))
    (conforms_set c.args.graph.now c.args.c (length c.args.graph.now) _ c.add_reached.new.seen (c.deref_mut.ensures.value ∙ search rules) c.add_reached.ensures)
