use Rattle.std.proofs.Common.{◌≡◌, [], ◌++◌, ◌∷◌, length, rules}
use Rattle.std.proofs.lemmas.Result.{err_from_is_err_and}
use Rattle.script_lines.specs.Source.{bytes_of}
use Rattle.script_program.specs.Session.{Session}
use Rattle.script_program.proofs.ScriptLemmas.{ended, finish, next, start, stopped}
use Rattle.script_program.proofs.script.run_lines.Goals as goal

pub lines-init : goal.lines-init
lines-init g c =
    let first : Session = record { state = c.args.repository.now; pool = c.args.pool.now } in
    ([], rw (c.new-summary.ensures, c.new-rest.ensures) (start c.args.dress first c.args.input.now (g.W.Write.contents c.args.writer.now)))

pub returns-in_err-turn-clause-err : goal.returns-in_err-turn-clause-err
returns-in_err-turn-clause-err g c =
    let i = c.lines.invariant in
    let first : Session = record { state = c.args.repository.now; pool = c.args.pool.now } in
    let now : Session = record { state = c.lines.repository; pool = c.lines.pool } in
    let e = err_from_is_err_and c.from_residual.result c.from_residual.ensures.1 in
    rw e.1 (stopped c.args.dress first c.args.input.now (bytes_of c.lines.rest) (bytes_of c.in-Some.more) (bytes_of c.in-Some.line) now c.lines.number i.0 c.lines.summary _ _ _
    c.answer_line.new.repository i.1 c.in-Some.ensures.lines_are c.in-Some.ensures.shorter c.in_err-turn.ensures.err)

pub returns-then-ends_at-clause-ok : goal.returns-then-ends_at-clause-ok
returns-then-ends_at-clause-ok g c =
    let i = c.lines.invariant in
    let first : Session = record { state = c.args.repository.now; pool = c.args.pool.now } in
    let now : Session = record { state = c.lines.repository; pool = c.lines.pool } in
    let after : Session = record { state = c.answer_line.new.repository; pool = c.answer_line.new.pool } in
    rw c.with-summary.ensures (ended c.args.dress first c.args.input.now (bytes_of c.lines.rest) (bytes_of c.in-Some.more) (bytes_of c.in-Some.line) now c.lines.number i.0 c.lines.summary _ _ _
    after c.in_ok-turn.turn i.1 c.in-Some.ensures.lines_are c.in-Some.ensures.shorter c.in_ok-turn.ensures.ok (search rules))

pub lines-preserved : goal.lines-preserved
lines-preserved g c =
    let i = c.lines.invariant in
    let first : Session = record { state = c.args.repository.now; pool = c.args.pool.now } in
    let now : Session = record { state = c.lines.repository; pool = c.lines.pool } in
    let after : Session = record { state = c.answer_line.new.repository; pool = c.answer_line.new.pool } in
    let one = c.in_ok-turn.ensures.ok in
    let goes = next c.args.dress first c.args.input.now (bytes_of c.lines.rest) (bytes_of c.in-Some.more) (bytes_of c.in-Some.line) now c.lines.number i.0 c.lines.summary _ _ _
    after c.in_ok-turn.turn i.1 c.in-Some.ensures.lines_are c.in-Some.ensures.shorter one (search rules) in
    (i.0 ++ one.printed ∷ [], rw c.with-summary.ensures goes)

pub returns-clause-ok : goal.returns-clause-ok
returns-clause-ok g c =
    let i = c.lines.invariant in
    let first : Session = record { state = c.args.repository.now; pool = c.args.pool.now } in
    let now : Session = record { state = c.lines.repository; pool = c.lines.pool } in
    let none : length (bytes_of c.lines.rest) ≡ 0 = search rules in
    finish c.args.dress first c.args.input.now (bytes_of c.lines.rest) now c.lines.number i.0 c.lines.summary _ _ i.1 none
