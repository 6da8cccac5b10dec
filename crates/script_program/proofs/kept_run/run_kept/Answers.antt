use Rattle.std.proofs.Common.{◌≡◌, ◌∙◌, Err, Some, ap, inl}
use Rattle.std.proofs.lemmas.Result.{on_ok_weaker}
use Rattle.std.specs.Io.Buffered.{reader_remaining}
use Rattle.journal.specs.Lines.{recovered_lines}
use Rattle.script_program.specs.Kept.{model_of, session_of}
use Rattle.script_program.proofs.DurableLemmas.{leaves_weaker}
use Rattle.script_program.proofs.KeptRunLemmas.{ends_kept, leaves_both, stops_kept}
use Rattle.script_program.proofs.kept_run.run_kept.Goals as goal

pub returns-in-Ok-clause-ok : goal.returns-in-Ok-clause-ok
returns-in-Ok-clause-ok g c m empty =
    let had = c.in-Ok.ensures.model m empty in
    let kept_had = ap (model_of m) c.in-Ok.ensures.kept ∙ had in
    on_ok_weaker c.run_opened.result.outcome
    (λ ends. ends_kept m c.args.head.now c.args.bytes.items (session_of c.opened.new.session) had (reader_remaining g.R.Read.remaining c.args.reader.now) _ _ _ _ ends)
    (c.run_opened.ensures.ok m kept_had)

pub returns-in-Ok-clause-stopped : goal.returns-in-Ok-clause-stopped
returns-in-Ok-clause-stopped g c m fault empty is =
    let had = c.in-Ok.ensures.model m empty in
    let kept_had = ap (model_of m) c.in-Ok.ensures.kept ∙ had in
    stops_kept m c.args.head.now c.args.bytes.items (session_of c.opened.new.session) had fault (reader_remaining g.R.Read.remaining c.args.reader.now) _ _ _
    (c.run_opened.ensures.stopped m fault kept_had is)

pub returns-in-Ok-clause-unopened : goal.returns-in-Ok-clause-unopened
returns-in-Ok-clause-unopened g c fault is = absurd (c.run_opened.ensures.opened fault is)

pub returns-in-Ok-clause-any_moment : goal.returns-in-Ok-clause-any_moment
returns-in-Ok-clause-any_moment g c m empty =
    let had = c.in-Ok.ensures.model m empty in
    let kept_had = ap (model_of m) c.in-Ok.ensures.kept ∙ had in
    leaves_both m c.args.head.now c.args.bytes.items (session_of c.opened.new.session) had g.D.Disk.moment g.D.Disk.left_since _ _ _ (reader_remaining g.R.Read.remaining c.args.reader.now)
    c.in-Ok.ensures.any_moment (c.run_opened.ensures.any_moment m kept_had)

pub returns-in-Err-clause-any_moment : goal.returns-in-Err-clause-any_moment
returns-in-Err-clause-any_moment g c m empty =
    leaves_weaker g.D.Disk.moment g.D.Disk.left_since _ _ _ _ (λ file same. inl same) c.in-Err.ensures.any_moment_err
