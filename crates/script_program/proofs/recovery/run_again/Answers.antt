use Rattle.std.proofs.Common.{rules}
use Rattle.std.proofs.lemmas.Result.{err_from_is_err_and}
use Rattle.script_program.specs.Kept.{session_of}
use Rattle.script_program.proofs.DurableLemmas.{leaves_all, never_refused}
use Rattle.script_program.proofs.recovery.run_again.Goals as goal

pub returns-in-Ok-clause-model : goal.returns-in-Ok-clause-model
returns-in-Ok-clause-model g c m empty =
    leaves_all session_of m c.args.session.now c.replay.new.session c.args.bytes.now c.args.head.now c.in-Some.lines.now empty
    (rw c.in-Some.is at c.in_ok-lines.ensures.found) c.in-Ok.ensures.ok

-- the file has another head, or none
pub returns-in_err-lines-clause-taken : goal.returns-in_err-lines-clause-taken
returns-in_err-lines-clause-taken g c m model empty is =
    let e = err_from_is_err_and c.from_residual.result c.from_residual.ensures.1 in
    rw e.1 (absurd (c.in_err-lines.ensures.other is.lines_after is.lines_are))

pub returns-in-Err-Refused-clause-taken : goal.returns-in-Err-Refused-clause-taken
returns-in-Err-Refused-clause-taken g c m model empty is =
    absurd (never_refused session_of m model c.args.session.now c.args.bytes.now c.args.head.now c.in-Some.lines.now empty is
    (rw c.in-Some.is at c.in_ok-lines.ensures.found) (c.replay.ensures.refused (search rules)))
