use Rattle.std.proofs.Common.{◌≡◌, ◌∙◌, length, rules}
use Rattle.std.proofs.lemmas.Result.{err_from_is_err_and}
use Rattle.script_lines.specs.Source.{bytes_of}
use Rattle.script_program.specs.Session.{session}
use Rattle.script_program.proofs.PlainLemmas.{answered, begun, broken, done, emptied, lost}
use Rattle.script_program.proofs.plain.run_plain.Goals as goal

pub lines-init : goal.lines-init
lines-init g c =
    rw (c.new-summary.ensures, c.new-rest.ensures, c.new-block.ensures) (begun (session c.args.repository.now c.args.pool.now) c.args.input.now (g.W.Write.contents c.args.writer.now))

pub returns-in_default-run_line-clause-err : goal.returns-in_default-run_line-clause-err
returns-in_default-run_line-clause-err g c =
    lost _ c.args.input.now (g.W.Write.contents c.args.writer.now) (bytes_of c.lines.rest) _ c.lines.summary _ _ c.lines.invariant (bytes_of c.in-Some.more) (bytes_of c.in-Some.line) c.run_line.new.repository
    c.in-Some.ensures.lines_are c.in-Some.ensures.shorter c.in_default-run_line.ensures.left

pub returns-in_err-write_block-clause-err : goal.returns-in_err-write_block-clause-err
returns-in_err-write_block-clause-err g c =
    let goes = answered _ c.args.input.now (g.W.Write.contents c.args.writer.now) (bytes_of c.lines.rest) _ c.lines.summary _ _ c.lines.invariant _ _ c.run_line.new.output _ _ c.in-Some.ensures.lines_are c.in-Some.ensures.shorter c.in-Ok.ensures.ok in
    let e = err_from_is_err_and c.from_residual.result c.from_residual.ensures.1 in
    rw e.1 (broken _ _ _ _ _ _ _ _ goes _ c.in_err-write_block.ensures.err)

pub lines-preserved-in_ok-write_block : goal.lines-preserved-in_ok-write_block
lines-preserved-in_ok-write_block g c =
    let goes = answered _ c.args.input.now (g.W.Write.contents c.args.writer.now) (bytes_of c.lines.rest) _ c.lines.summary _ _ c.lines.invariant _ _ c.run_line.new.output _ _ c.in-Some.ensures.lines_are c.in-Some.ensures.shorter c.in-Ok.ensures.ok in
    rw (c.with-summary.ensures, c.in_ok-write_block.ensures.empty) (emptied _ _ _ _ _ _ _ _ goes _ c.in_ok-write_block.ensures.ok)

pub lines-preserved : goal.lines-preserved
lines-preserved g c =
    rw c.with-summary.ensures (answered _ c.args.input.now (g.W.Write.contents c.args.writer.now) (bytes_of c.lines.rest) _ c.lines.summary _ _ c.lines.invariant _ _ c.run_line.new.output _ _ c.in-Some.ensures.lines_are c.in-Some.ensures.shorter c.in-Ok.ensures.ok)

pub returns-in_err-write_all-clause-err : goal.returns-in_err-write_all-clause-err
returns-in_err-write_all-clause-err g c =
    let e = err_from_is_err_and c.from_residual-in_err-write_all.result c.from_residual-in_err-write_all.ensures.1 in
    rw e.1 (broken (session c.args.repository.now c.args.pool.now) c.args.input.now (g.W.Write.contents c.args.writer.now) (bytes_of c.lines.rest) (session c.lines.repository c.lines.pool) c.lines.summary (g.W.Write.contents c.lines.writer) c.lines.block c.lines.invariant
    _ (rw c.as_bytes-2.ensures at c.in_err-write_all.ensures.err))

pub returns-clause-ok : goal.returns-clause-ok
returns-clause-ok g c =
    let none : length (bytes_of c.lines.rest) ≡ 0 = search rules in
    done (session c.args.repository.now c.args.pool.now) c.args.input.now (g.W.Write.contents c.args.writer.now) (bytes_of c.lines.rest) (session c.lines.repository c.lines.pool) c.lines.summary (g.W.Write.contents c.lines.writer) c.lines.block c.lines.invariant
    _ none (rw c.as_bytes-2.ensures at c.in_ok-write_all.ensures.ok)
