use Rattle.std.proofs.lemmas.Result.{err_from_is_err_and}
use Rattle.script_program.specs.Session.{Session}
use Rattle.script_program.proofs.LiveLemmas.{front_behind, front_of_answer}
use Rattle.script_program.proofs.live.answer_live.Goals as goal

pub returns-in_err-turn-clause-err : goal.returns-in_err-turn-clause-err
returns-in_err-turn-clause-err g c =
    let first : Session = record { state = c.args.repository.now; pool = c.args.pool.now } in
    let e = err_from_is_err_and c.from_residual.result c.from_residual.ensures.1 in
    rw e.1 (front_of_answer c.args.line.now first c.answer_line.new.repository (g.W.Write.contents c.args.writer.now) (g.W.Write.contents c.answer_line.new.writer)
    (rw c.plain.ensures at c.in_err-turn.ensures.err))

pub returns-in_err-write_all-clause-err : goal.returns-in_err-write_all-clause-err
returns-in_err-write_all-clause-err g c =
    let first : Session = record { state = c.args.repository.now; pool = c.args.pool.now } in
    let after : Session = record { state = c.answer_line.new.repository; pool = c.answer_line.new.pool } in
    let e = err_from_is_err_and c.from_residual-in_err-write_all.result c.from_residual-in_err-write_all.ensures.1 in
    rw e.1 (front_behind c.args.line.now first after (g.W.Write.contents c.args.writer.now) (g.W.Write.contents c.answer_line.new.writer)
    (g.W.Write.contents c.write_all.new.writer) c.in_ok-turn.turn (rw c.plain.ensures at c.in_ok-turn.ensures.ok) c.in_err-write_all.ensures.err)
