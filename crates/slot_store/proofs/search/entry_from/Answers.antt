use Rattle.std.proofs.Common.{Some, sym, ap, ◌∙◌}
use Rattle.mm_types.specs.declared.numbers.Node.TheVariants as node
use Rattle.mm_types.proofs.SameLemmas.{same_end-true}
use Rattle.node_slots.specs.Cells.{cells}
use Rattle.slot_store.proofs.PositionLemmas.{end_is}
use Rattle.slot_store.proofs.search.entry_from.Goals as goal

pub returns-in-Some : goal.returns-in-Some
returns-in-Some c =
    let same = same_end-true c.in-Some.there.now c.args.end (sym c.is_same.ensures ∙ c.if-is_same.true) in
    sym (end_is ((cells c.args.rows.now).entered (node.Object c.args.object)) c.args.end c.args.guess c.requires (sym c.in-Some.ensures ∙ ap Some same))
