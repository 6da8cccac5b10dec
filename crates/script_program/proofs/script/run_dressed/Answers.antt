use Rattle.std.proofs.lemmas.Result.{IfErr-weaker, IfOk-weaker}
use Rattle.script_program.proofs.BatchLemmas.{ends_anywhere, ends_anywhere_front}
use Rattle.script_program.proofs.script.run_dressed.Goals as goal

pub returns-clause-ok : goal.returns-clause-ok
returns-clause-ok g c = IfOk-weaker c.run_over-outcome.result _ _ (λ s h. ends_anywhere _ _ _ _ _ _ s h) (rw c.new-repository.ensures at c.run_over-outcome.ensures.ok)

pub returns-clause-stopped : goal.returns-clause-stopped
returns-clause-stopped g c =
    IfErr-weaker c.run_over-outcome.result _ _ (λ e h kind. ends_anywhere_front _ _ _ _ _ _ (h kind)) (rw c.new-repository.ensures at c.run_over-outcome.ensures.stopped)
