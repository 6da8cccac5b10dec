use Rattle.std.proofs.Common.{sym, ◌∙◌}
use Rattle.node_slots.specs.Cells.{cells}
use Rattle.slot_store.proofs.PositionLemmas.{position_is, value_at}
use Rattle.slot_store.proofs.search.found.Goals as goal

pub returns-then-is_at : goal.returns-then-is_at
returns-then-is_at c =
    let vs = (cells c.args.rows.now).vals c.args.end in
    let at = value_at c.args.value.now vs c.guess-index.result (sym c.is_at.ensures ∙ c.if-is_at.true) in
    sym (position_is vs c.args.value.now c.guess-index.result c.requires at)
