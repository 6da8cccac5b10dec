use Rattle.std.proofs.Common.{◌≡◌, ◌∙◌, List, ap, sym, subst}
use Rattle.std.proofs.lemmas.Result.{IfOk-weaker}
use Rattle.mm_types.specs.declared.numbers.Node.TheVariants as node
use Rattle.links.specs.declared.link.Link.{Link}
use Rattle.links.specs.Plans.{AreIncoming}
use Rattle.link_store.specs.Rows.{ends_with}
use Rattle.link_store.proofs.IncomingLemmas.{rows_incoming}
use Rattle.link_store.proofs.RowLemmas.{of_rows}
use Rattle.link_store.proofs.row_store.RowStoreLinkStore.ends_holding.Goals as goal

pub returns : goal.returns
returns c =
    let rows = c.args.self.now.rows.items in
    let o = c.args.object in
    IfOk-weaker c.ends_of.result (λ r. r.items ≡ ends_with c.deref.result.now (node.Object o)) (λ r. AreIncoming (of_rows rows) o r.items)
    (λ r is. subst (AreIncoming (of_rows rows) o) (sym (is ∙ ap (λ (ls : List Link). ends_with ls (node.Object o)) c.deref.ensures.value)) (rows_incoming rows c.requires.legal.placed o))
    c.ends_of.ensures
