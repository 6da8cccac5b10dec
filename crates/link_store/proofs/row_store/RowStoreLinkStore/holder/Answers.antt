use Rattle.std.proofs.Common.{◌∙◌, ap, List}
use Rattle.links.specs.declared.link.Link.{Link}
use Rattle.mm_types.specs.declared.numbers.Node.TheVariants as node
use Rattle.links.specs.Holders.{first_holding}
use Rattle.link_store.proofs.ReadLemmas.{rows_holder}
use Rattle.link_store.proofs.row_store.RowStoreLinkStore.holder.Goals as goal

pub returns : goal.returns
returns c = c.holder_in.ensures ∙ ap (λ (ls : List Link). first_holding ls (node.Object c.args.object)) c.deref.ensures.value ∙ rows_holder c.args.self.now.rows.items (node.Object c.args.object) c.requires.legal.held
