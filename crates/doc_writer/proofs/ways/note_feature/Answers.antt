use Rattle.std.proofs.Common.{◌≡◌, ◌∙◌, false, true, subst, sym}
use Rattle.std.proofs.lemmas.Result.{IfOk-weaker}
use Rattle.mm_types.specs.declared.numbers.Node.TheVariants as node
use Rattle.models.specs.Model.{Model, reading}
use Rattle.models.specs.Reading.{at_end, is_set}
use Rattle.doc_writer.proofs.ReferLemmas.{none-set, referring}
use Rattle.doc_writer.proofs.ways.note_feature.Goals as goal

pub returns-then-not-is_set-clause-dangling : goal.returns-then-not-is_set-clause-dangling
returns-then-not-is_set-clause-dangling g c =
    let o = c.args.object in
    let f = c.args.feature in
    let off = subst (λ (s : Model). is_set (reading s) (at_end (node.Object o) f) ≡ false) c.model.ensures (sym c.is_set.ensures ∙ c.if-not-is_set.true) in
    sym (none-set c.args.positions.now o f off)

pub returns-clause-dangling : goal.returns-clause-dangling
returns-clause-dangling g c =
    let o = c.args.object in
    let f = c.args.feature in
    let on = subst (λ (s : Model). is_set (reading s) (at_end (node.Object o) f) ≡ true) c.model.ensures (sym c.is_set.ensures ∙ c.if-not-is_set.false) in
    IfOk-weaker c.note_end.result _ _ (λ b is. is ∙ sym (referring c.args.positions.now o f c.requires.refers on)) c.note_end.ensures.dangling
