use Rattle.std.proofs.Common.{◌≡◌, ◌∷◌, [], List, length, ap, arith, ◌∙◌, sym}
use Rattle.links.specs.Plans.{links_after_edits}
use Rattle.links.specs.declared.plan.Edit.{Edit}
use Rattle.mm_types.specs.Few.{items_in}
use Rattle.link_store.proofs.RowLemmas.{of_rows}
use Rattle.link_store.proofs.row_store.RowStoreLinkStore.apply.Goals as goal

-- the only edit
pub edit_rows-requires : goal.edit_rows-requires
edit_rows-requires c =
    let is : c.in-One.edit ∷ [] ≡ c.args.plan = ap items_in (sym c.in-One.is) ∙ c.into_items.ensures in
    record { placed = c.requires.legal.placed; room = omega (arith, c.requires.reserved, ap length is) }
