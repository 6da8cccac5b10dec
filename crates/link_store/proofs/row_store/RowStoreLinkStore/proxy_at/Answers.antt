use Rattle.std.proofs.Common.{◌∙◌, ap, List}
use Rattle.link_store.specs.Rows.{first_text}
use Rattle.links.specs.declared.link.Link.{Link}
use Rattle.link_store.proofs.ReadLemmas.{rows_text}
use Rattle.link_store.proofs.row_store.RowStoreLinkStore.proxy_at.Goals as goal

pub returns : goal.returns
returns c = c.text_in.ensures ∙ ap (λ (ls : List Link). first_text ls c.args.end c.args.index) c.deref.ensures.value ∙ rows_text c.args.self.now.rows.items c.requires.legal.placed c.args.end c.args.index
