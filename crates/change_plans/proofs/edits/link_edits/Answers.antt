use Rattle.std.proofs.Common.{ap, sym, ◌∙◌}
use Rattle.models.specs.Model.{reading}
use Rattle.doc_loader.specs.LoadEdits.{load_edits}
use Rattle.handshake.specs.Edits.{link_edits}
use Rattle.change_plans.proofs.edits.link_edits.Goals as goal

pub returns-in-Load : goal.returns-in-Load
returns-in-Load g c =
    c.from_vec.ensures ∙ c.in_ok-edits.ensures ∙ (λ i. load_edits (c.meta.ensures i) (c.next.ensures i) c.in-Load.resource c.in-Load.doc)
    ∙ ap (link_edits (reading c.args.model.now)) (sym c.in-Load.is)
