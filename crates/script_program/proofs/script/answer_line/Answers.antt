use Rattle.std.proofs.Common.{List, ℕ, inr, refl, subst, sym}
use Rattle.std.proofs.lemmas.Result.{err_from_is_err_and}
use Rattle.script_lines.specs.Forms.{form}
use Rattle.script_lines.specs.Source.{bytes_of}
use Rattle.script_program.specs.Script.{RunsLine}
use Rattle.script_program.specs.Session.{session}
use Rattle.script_answers.specs.Turns.{printed_line}
use Rattle.script_program.proofs.LeftLemmas.{unanswered}
use Rattle.script_program.proofs.script.answer_line.Goals as goal

pub returns-in_err-write_dressed-clause-err : goal.returns-in_err-write_dressed-clause-err
returns-in_err-write_dressed-clause-err g c =
    let line = rw c.clear.ensures at c.in-Ok.ensures.ok in
    let e = err_from_is_err_and c.from_residual.result c.from_residual.ensures.1 in
    rw e.1 (inr (record {
      printed = printed_line c.run_line.new.output c.in-Ok.turn;
      after = session c.run_line.new.repository c.run_line.new.pool;
      left = refl;
      ran = subst (λ (x : List ℕ). RunsLine (session c.args.repository.now c.args.pool.now) (form (bytes_of c.args.source)) (printed_line x c.in-Ok.turn) (session c.run_line.new.repository c.run_line.new.pool)) (sym line.added) line.said;
      written = rw (c.as_bytes-line.ensures, c.as_bytes.ensures) at c.in_err-write_dressed.ensures.err;
    }))

-- the line was run or not, and nothing of its answer is written
pub returns-in_default-clause-err : goal.returns-in_default-clause-err
returns-in_default-clause-err g c =
    unanswered c.args.dress c.args.number (bytes_of c.args.source) (session c.args.repository.now c.args.pool.now) c.run_line.new.repository (g.W.Write.contents c.args.writer.now) c.in_default.ensures.left
