use Rattle.std.proofs.Common.{◌∙◌, ap, List}
use Rattle.links.specs.Links.{new_link}
use Rattle.links.specs.declared.link.Link.{Link}
use Rattle.link_store.specs.declared.renumbering.Renumbering.TheVariants.{Raise}
use Rattle.link_store.proofs.RowLemmas.{of_rows, rows_can_move, rows_put}
use Rattle.link_store.proofs.row_edits.put_row.Goals as goal

pub renumber-requires : goal.renumber-requires
renumber-requires c = rows_can_move c.args.rows.now.items (Raise c.args.link.index) c.args.link.end c.requires.placed

pub returns-clause-put : goal.returns-clause-put
returns-clause-put c =
    let new = c.new_row-put.ensures ∙ ap (λ (rows : List Link). new_link (of_rows rows) c.args.link.end c.args.link.index c.args.link.object c.args.link.opposite c.args.link.container) c.deref.ensures.value in
    rows_put c.args.rows.now.items _ _ c.new_row-put.result c.args.link.end c.args.link.index c.args.link.object c.args.link.opposite c.args.link.container c.renumber.ensures.rows new c.push_reserved.ensures.items
