use Rattle.std.proofs.Common.{◌≡◌, IfOk, List, subst}
use Rattle.mm_values.specs.declared.value_edit.ValueEdit.{ValueEdit}
use Rattle.models.specs.Model.{reading}
use Rattle.handshake.proofs.RemovalLemmas.{dropped}
use Rattle.change_plans.proofs.edits.value_edits.Goals as goal

pub returns-in-Some : goal.returns-in-Some
returns-in-Some g c =
    let is = dropped (reading c.args.model.now) c.args.change c.args.removal.now c.in-Some.removal c.in-Some.is c.requires.removal in
    subst (λ (xs : List ValueEdit). IfOk c.drop_edits.result (λ p. p ≡ xs)) is c.drop_edits.ensures
