use Rattle.std.proofs.lemmas.Result.{err_from_is_err_and, on_err_weaker}
use Rattle.script_streams.proofs.FrontLemmas.{front_after, front_more}
use Rattle.script_answers.proofs.dressing.write_dressed.Goals as goal

pub returns-in_err-write_echo-clause-err : goal.returns-in_err-write_echo-clause-err
returns-in_err-write_echo-clause-err g c =
    let p = err_from_is_err_and c.from_residual.result c.from_residual.ensures.1 in
    rw p.1 (front_more _ _ _ _ c.in_err-write_echo.ensures.err)

pub returns-clause-err : goal.returns-clause-err
returns-clause-err g c = on_err_weaker c.write_answer.result (λ h. front_after _ _ _ _ _ c.in_ok-write_echo.ensures.ok h) c.write_answer.ensures.err
