use Rattle.std.proofs.Common.{◌∙◌, [], sym, ap}
use Rattle.models.specs.Model.{Model, reading}
use Rattle.handshake.specs.Refusals.{early_refusal}
use Rattle.repository.proofs.PlanLemmas.{early_err}
use Rattle.repository.proofs.repository.Repository.change.Goals as goal

pub returns-in-Some : goal.returns-in-Some
returns-in-Some g c =
    early_err c.args.self.now [] c.args.change c.in-Some.refused
    (ap (λ (m : Model). early_refusal (reading m) c.args.change) (sym c.model.ensures) ∙ sym c.early_refusal.ensures ∙ c.in-Some.is)
