use Rattle.std.proofs.Common.{◌≡◌, ◌∙◌, Some, ap, inl, sym}
use Rattle.journal.specs.Lines.{recovered_lines}
use Rattle.durable.specs.Heads.{begun_lines}
use Rattle.script_program.specs.Kept.{model_of, session_of}
use Rattle.script_program.specs.Session.{Session}
use Rattle.script_program.proofs.DurableLemmas.{leaves_same}
use Rattle.script_program.proofs.KeptRunLemmas.{on_done}
use Rattle.script_program.proofs.kept_run.opened.Goals as goal

pub returns-in-Ok-clause-model : goal.returns-in-Ok-clause-model
returns-in-Ok-clause-model g c m empty =
    let had : model_of m (begun_lines c.args.head.now (recovered_lines c.args.bytes.items)) ≡ Some (session_of c.run_again.new.session).state.model =
    rw c.as_slice.ensures.value at (c.in-Ok.ensures.model m empty) in
    on_done c.open_journal.result (had ∙ ap (λ (s : Session). Some s.state.model) (sym c.begin_script.ensures))

pub returns-clause-any_moment_err : goal.returns-clause-any_moment_err
returns-clause-any_moment_err g c =
    let k = g.D.Disk in
    leaves_same k.moment k.left_since k.may_leave g.met.D.Disk.only_now c.args.disk _ (λ file left. inl (ap recovered_lines (c.requires.durable file left ∙ c.requires.bytes)))
