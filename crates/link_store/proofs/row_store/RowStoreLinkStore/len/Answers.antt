use Rattle.std.proofs.Common.{◌∙◌, ap, List}
use Rattle.links.specs.declared.link.Link.{Link}
use Rattle.links.specs.Links.{length_at}
use Rattle.link_store.proofs.ReadLemmas.{rows_len}
use Rattle.link_store.proofs.row_store.RowStoreLinkStore.len.Goals as goal

pub returns : goal.returns
returns c = c.len_of.ensures ∙ ap (λ (ls : List Link). length_at ls c.args.end) c.deref.ensures.value ∙ rows_len c.args.self.now.rows.items c.requires.legal.placed c.args.end
