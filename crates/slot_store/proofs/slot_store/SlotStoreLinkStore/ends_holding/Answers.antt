use Rattle.std.proofs.Common.{◌≡◌, sym, subst}
use Rattle.std.proofs.lemmas.Result.{IfOk-weaker}
use Rattle.mm_types.specs.declared.numbers.Node.TheVariants as node
use Rattle.links.specs.Plans.{AreIncoming}
use Rattle.node_slots.specs.Cells.{cells, row_at}
use Rattle.node_slots.specs.Rows.{row_slots}
use Rattle.slot_store.specs.CellLinks.{store_links}
use Rattle.slot_store.specs.Entering.{entering_ends}
use Rattle.slot_store.proofs.EnteringLemmas.{entering_is}
use Rattle.slot_store.proofs.slot_store.SlotStoreLinkStore.ends_holding.Goals as goal

pub returns : goal.returns
returns c =
    let t = c.args.self.now.rows in
    let o = c.args.object in
    IfOk-weaker c.entering.result (λ r. r.items ≡ entering_ends (cells t) o (row_slots (row_at t (node.Object o)))) (λ r. AreIncoming (store_links t) o r.items)
    (λ r is. subst (AreIncoming (store_links t) o) (sym is) (entering_is t c.args.self.now.kept o))
    c.entering.ensures
