use Rattle.std.proofs.Common.{◌∙◌, ap, List}
use Rattle.links.specs.declared.link.Link.{Link}
use Rattle.link_store.specs.Rows.{first_object}
use Rattle.link_store.proofs.ReadLemmas.{rows_object}
use Rattle.link_store.proofs.row_store.RowStoreLinkStore.at.Goals as goal

pub returns : goal.returns
returns c = c.object_in.ensures ∙ ap (λ (ls : List Link). first_object ls c.args.end c.args.index) c.deref.ensures.value ∙ rows_object c.args.self.now.rows.items c.requires.legal.placed c.args.end c.args.index
