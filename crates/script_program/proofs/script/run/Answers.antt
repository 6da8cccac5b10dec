use Rattle.std.proofs.lemmas.Result.{IfErr-weaker, IfOk-weaker}
use Rattle.script_program.proofs.BatchLemmas.{plain_input, plain_input_front}
use Rattle.script_program.proofs.script.run.Goals as goal

pub returns-clause-ok : goal.returns-clause-ok
returns-clause-ok g c = IfOk-weaker c.run_dressed.result _ _ (λ s h. plain_input _ _ _ _ s h) (rw c.plain.ensures at c.run_dressed.ensures.ok)

pub returns-clause-stopped : goal.returns-clause-stopped
returns-clause-stopped g c =
    IfErr-weaker c.run_dressed.result _ _ (λ e h kind. plain_input_front _ _ _ _ (h kind)) (rw c.plain.ensures at c.run_dressed.ensures.stopped)
