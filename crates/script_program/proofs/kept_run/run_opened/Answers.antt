use Rattle.std.proofs.Common.{◌≡◌, ◌∙◌, Some, ap}
use Rattle.journal.specs.Journal.{journal_lines}
use Rattle.script_program.specs.Kept.{model_of, session_of}
use Rattle.script_program.proofs.KeptRunLemmas.{kept_ok, kept_opened, kept_stopped}
use Rattle.script_program.proofs.kept_run.run_opened.Goals as goal

pub returns-clause-ok : goal.returns-clause-ok
returns-clause-ok g c m had =
    let from = ap (λ j. model_of m (journal_lines g.D.Disk.seen j)) c.new-outbox.ensures.journal ∙ had in
    rw (c.stopped_by.ensures, c.into_disk.ensures, c.into_parts-journal.ensures.journal, c.into_parts-journal.ensures.writer)
    (kept_ok _ c.run_journal-outcome.result (rw c.new-outbox.ensures.writer at (c.run_journal-outcome.ensures.ok m from)))

pub returns-clause-stopped : goal.returns-clause-stopped
returns-clause-stopped g c m fault had is =
    let from = ap (λ j. model_of m (journal_lines g.D.Disk.seen j)) c.new-outbox.ensures.journal ∙ had in
    rw (c.into_disk.ensures, c.into_parts-journal.ensures.journal, c.into_parts-journal.ensures.writer)
    (kept_stopped c.run_journal-outcome.result _ fault (rw c.new-outbox.ensures.writer at (c.run_journal-outcome.ensures.stopped m from)) (rw c.stopped_by.ensures at is))

pub returns-clause-opened : goal.returns-clause-opened
returns-clause-opened g c fault is = kept_opened c.run_journal-outcome.result fault (rw c.stopped_by.ensures at is)

pub returns-clause-any_moment : goal.returns-clause-any_moment
returns-clause-any_moment g c m had =
    let from = ap (λ j. model_of m (journal_lines g.D.Disk.seen j)) c.new-outbox.ensures.journal ∙ had in
    rw (c.into_disk.ensures, c.into_parts-journal.ensures.journal) (rw c.new-outbox.ensures.journal at (c.run_journal-outcome.ensures.any_moment m from))
