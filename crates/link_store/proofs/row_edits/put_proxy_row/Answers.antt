use Rattle.link_store.specs.declared.renumbering.Renumbering.TheVariants.{Raise}
use Rattle.link_store.proofs.RowLemmas.{rows_can_move, rows_put_proxy}
use Rattle.link_store.proofs.row_edits.put_proxy_row.Goals as goal

pub renumber-requires : goal.renumber-requires
renumber-requires c = rows_can_move c.args.rows.now.items (Raise c.args.index) c.args.end c.requires.placed

pub returns-clause-put : goal.returns-clause-put
returns-clause-put c = rows_put_proxy c.args.rows.now.items _ _ c.args.end c.args.index c.args.text c.renumber.ensures.rows c.push_reserved.ensures.items
