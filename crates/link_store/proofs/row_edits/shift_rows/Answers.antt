use Rattle.link_store.specs.declared.renumbering.Renumbering.TheVariants.{Shift}
use Rattle.link_store.proofs.RowLemmas.{rows_can_move, rows_shift}
use Rattle.link_store.proofs.row_edits.shift_rows.Goals as goal

pub renumber-requires : goal.renumber-requires
renumber-requires c = rows_can_move c.args.rows.now.items (Shift c.args.to c.args.from) c.args.end c.requires.placed

pub returns-clause-shifted : goal.returns-clause-shifted
returns-clause-shifted c = rows_shift c.args.rows.now.items _ c.args.end c.args.to c.args.from c.renumber.ensures.rows
