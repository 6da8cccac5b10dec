use Rattle.std.proofs.Common.{◌≡◌, ◌<◌, ◌++◌, [], ◌∷◌, length, rules}
use Rattle.std.proofs.lemmas.Result.{err_from_is_err_and}
use Rattle.std.proofs.KnownBytes.{Keeps-refl}
use Rattle.std.specs.Io.Buffered.{reader_remaining}
use Rattle.script_streams.specs.declared.line.LineEnd.TheVariants.{Input}
use Rattle.script_program.specs.Live.{AnswersLive}
use Rattle.script_program.specs.Session.{Session}
use Rattle.durable.proofs.InputLemmas.{at_end}
use Rattle.script_program.proofs.LiveLemmas.{begin, ended, finish, next, paused, stopped, too_long}
use Rattle.script_program.proofs.live.answer_lines.Goals.{else-eq-via-else-eq, else-eq-via-then-eq+else-is_empty}
use Rattle.script_program.proofs.live.answer_lines.Goals as goal

pub lines-init : goal.lines-init
lines-init g c =
    let first : Session = record { state = c.args.repository.now; pool = c.args.pool.now } in
    ([], rw c.new-summary.ensures (begin first (reader_remaining g.R.Read.remaining c.args.reader.now) (g.W.Write.contents c.args.writer.now)))

pub returns-in_err-end-clause-long : goal.returns-in_err-end-clause-long
returns-in_err-end-clause-long g c =
    let remaining = reader_remaining g.R.Read.remaining in
    let first : Session = record { state = c.args.repository.now; pool = c.args.pool.now } in
    let now : Session = record { state = c.lines.repository; pool = c.lines.pool } in
    let i = c.lines.invariant in
    let e = err_from_is_err_and c.from_residual.result c.from_residual.ensures.1 in
    rw (e.1, e.2) (λ h. too_long first now c.lines.number i.0 c.lines.summary _ _ (remaining c.args.reader.now) (remaining c.lines.reader) i.1 (c.in_err-end.ensures.long (search rules)))

pub returns-in_err-turn-clause-err : goal.returns-in_err-turn-clause-err
returns-in_err-turn-clause-err g c =
    let line = c.read_line.new.line.items in
    let some : c.in_ok-end.end ≡ Input → 0 < length line = elim c.else-eq.branch [ else-eq-via-then-eq+else-is_empty w ↦ λ is. search rules | else-eq-via-else-eq w ↦ λ is. search rules ] in
    let remaining = reader_remaining g.R.Read.remaining in
    let first : Session = record { state = c.args.repository.now; pool = c.args.pool.now } in
    let now : Session = record { state = c.lines.repository; pool = c.lines.pool } in
    let i = c.lines.invariant in
    let e = err_from_is_err_and c.from_residual-in_err-turn.result c.from_residual-in_err-turn.ensures.1 in
    rw e.1 (stopped first (remaining c.args.reader.now) (remaining c.lines.reader) now c.lines.number i.0 c.lines.summary _ _ (remaining c.read_line.new.reader) line c.in_ok-end.end
    (g.W.Write.contents c.read_line.new.writer) (g.W.Write.contents c.answer_live.new.writer) i.1 c.in_ok-end.ensures.keeps c.in_ok-end.ensures.ok some
    (rw c.as_slice.ensures.value at c.in_err-turn.ensures.err))

pub returns-then-eq-2-clause-ok : goal.returns-then-eq-2-clause-ok
returns-then-eq-2-clause-ok g c =
    let last : c.in_ok-end.end ≡ Input = search rules in
    let some : c.in_ok-end.end ≡ Input → 0 < length c.read_line.new.line.items = elim c.else-eq.branch [ else-eq-via-then-eq+else-is_empty w ↦ λ is. search rules | else-eq-via-else-eq w ↦ λ is. search rules ] in
    let i = c.lines.invariant in
    let one : AnswersLive c.read_line.new.line.items (record { state = c.lines.repository; pool = c.lines.pool }) (g.W.Write.contents c.read_line.new.writer) (g.W.Write.contents c.answer_live.new.writer) c.in_ok-turn.turn (record { state = c.answer_live.new.repository; pool = c.answer_live.new.pool }) = rw c.as_slice.ensures.value at c.in_ok-turn.ensures.ok in
    let goes = next _ _ _ _ _ _ _ _ _ _ _ _ _ _ _ _ i.1 c.in_ok-end.ensures.keeps c.in_ok-end.ensures.ok some one in
    rw c.with-summary.ensures (finish _ _ _ _ _ _ _ _ _ goes (at_end _ _ _ i.1.done c.read_line.new.line.items i.1.read (rw last at c.in_ok-end.ensures.ok)))

pub lines-preserved : goal.lines-preserved
lines-preserved g c =
    let some : c.in_ok-end.end ≡ Input → 0 < length c.read_line.new.line.items = elim c.else-eq.branch [ else-eq-via-then-eq+else-is_empty w ↦ λ is. search rules | else-eq-via-else-eq w ↦ λ is. search rules ] in
    let i = c.lines.invariant in
    let one : AnswersLive c.read_line.new.line.items (record { state = c.lines.repository; pool = c.lines.pool }) (g.W.Write.contents c.read_line.new.writer) (g.W.Write.contents c.answer_live.new.writer) c.in_ok-turn.turn (record { state = c.answer_live.new.repository; pool = c.answer_live.new.pool }) = rw c.as_slice.ensures.value at c.in_ok-turn.ensures.ok in
    let goes = next _ _ _ _ _ _ _ _ _ _ _ _ _ _ _ _ i.1 c.in_ok-end.ensures.keeps c.in_ok-end.ensures.ok some one in
    (i.0 ++ one.printed ∷ [], rw c.with-summary.ensures goes)

pub returns-in_err-end-clause-err : goal.returns-in_err-end-clause-err
returns-in_err-end-clause-err g c =
    let remaining = reader_remaining g.R.Read.remaining in
    let first : Session = record { state = c.args.repository.now; pool = c.args.pool.now } in
    let now : Session = record { state = c.lines.repository; pool = c.lines.pool } in
    let i = c.lines.invariant in
    let e = err_from_is_err_and c.from_residual.result c.from_residual.ensures.1 in
    rw e.1 (paused first (remaining c.args.reader.now) (remaining c.lines.reader) now c.lines.number i.0 c.lines.summary _ _ (g.W.Write.contents c.read_line.new.writer) i.1 c.in_err-end.ensures.keeps)

pub returns-then-is_empty-clause-ok : goal.returns-then-is_empty-clause-ok
returns-then-is_empty-clause-ok g c =
    let last : c.in_ok-end.end ≡ Input = search rules in
    let line = c.read_line.new.line.items in
    let none : length line ≡ 0 = search rules in
    let remaining = reader_remaining g.R.Read.remaining in
    let contents = g.W.Write.contents in
    let first : Session = record { state = c.args.repository.now; pool = c.args.pool.now } in
    let now : Session = record { state = c.lines.repository; pool = c.lines.pool } in
    let i = c.lines.invariant in
    let read = rw last at c.in_ok-end.ensures.ok in
    let goes = ended first (remaining c.args.reader.now) (contents c.args.writer.now) (remaining c.lines.reader) now c.lines.number i.0 c.lines.summary (contents c.lines.writer)
    (contents c.read_line.new.writer) (remaining c.read_line.new.reader) line i.1 c.in_ok-end.ensures.keeps read none in
    finish first (remaining c.args.reader.now) (remaining c.read_line.new.reader) now _ _ _ _ _ goes
    (at_end (remaining c.args.reader.now) (remaining c.lines.reader) (remaining c.read_line.new.reader) i.1.done line i.1.read read)

pub returns-clause-err : goal.returns-clause-err
returns-clause-err g c =
    let remaining = reader_remaining g.R.Read.remaining in
    let first : Session = record { state = c.args.repository.now; pool = c.args.pool.now } in
    let now : Session = record { state = c.lines.repository; pool = c.lines.pool } in
    let i = c.lines.invariant in
    paused first (remaining c.args.reader.now) (remaining c.lines.reader) now c.lines.number i.0 c.lines.summary _ _ (g.W.Write.contents c.lines.writer) i.1 (Keeps-refl (g.W.Write.contents c.lines.writer))
