use Rattle.std.proofs.lemmas.Result.{IfErr-weaker, on_ok_weaker}
use Rattle.std.specs.Io.Buffered.{reader_remaining}
use Rattle.script_program.specs.Kept.{session_of}
use Rattle.script_program.proofs.DurableLemmas.{ends_in, leaves_in, leaves_weaker, stops_in}
use Rattle.script_program.proofs.journal_run.run_journal.Goals as goal

pub returns-clause-ok : goal.returns-clause-ok
returns-clause-ok g c m from =
    on_ok_weaker c.run_dialogue.result
    (λ ends. ends_in session_of m c.args.session.now _ from (reader_remaining g.R.Read.remaining c.args.reader.now) _ _ _ c.run_dialogue.new.session ends)
    c.run_dialogue.ensures.ok

pub returns-clause-stopped : goal.returns-clause-stopped
returns-clause-stopped g c m from =
    IfErr-weaker c.run_dialogue.result _ _
    (λ fault stops. stops_in session_of m c.args.session.now _ from fault (reader_remaining g.R.Read.remaining c.args.reader.now) _ _ _ stops)
    c.run_dialogue.ensures.stopped

pub returns-clause-any_moment : goal.returns-clause-any_moment
returns-clause-any_moment g c m from =
    leaves_weaker g.D.Disk.moment g.D.Disk.left_since _ _ _ _
    (λ file leaves. leaves_in session_of m c.args.session.now _ from (reader_remaining g.R.Read.remaining c.args.reader.now) file leaves)
    c.run_dialogue.ensures.any_moment
