use Rattle.std.proofs.Common.{◌∙◌, ap, sym}
use Rattle.mm_types.specs.Shapes.{is_containment}
use Rattle.models.specs.Model.{reading}
use Rattle.handshake.specs.Displaced.{is_plain_add}
use Rattle.change_plans.proofs.LonePutLemmas.{lone-absent}
use Rattle.change_plans.proofs.link_planning.adds_no_link.Goals as goal

pub returns-then-is_containment : goal.returns-then-is_containment
returns-then-is_containment g c =
    sym (ap (is_plain_add (reading c.args.model.now) c.args.end) c.requires.object
    ∙ lone-absent c.args.model.now c.args.end c.args.object c.lemma_is_legal.ensures (ap (λ m. is_containment m c.args.end.feature) (sym c.meta.ensures) ∙ sym c.if-is_containment.ensures) c.requires.lone)
