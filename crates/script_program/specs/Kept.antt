-- The lines that a journal keeps, and the model that they make when they are run again.
use Rattle.std.specs.Prelude.{◌≡◌, ◌⊎◌, ◌++◌, ℕ, Bool, true, false, List, [], ◌∷◌, Option, Some, None, Result, Ok, Err, IfSome, option_and_then, if◌then◌else◌}
use Rattle.std.specs.Io.KnownBytes.{Appends}
use Rattle.mm_types.specs.Resolved.{Metamodel}
use Rattle.models.specs.Model.{Model}
use Rattle.notice_chain.specs.View.{View}
use Rattle.repository.specs.State.{empty_state, state_of_model}
use Rattle.repository.specs.Step.{step}
use Rattle.repository.specs.Views.{Outcome}
use Rattle.script_lines.specs.Forms.{form}
use Rattle.script_lines.specs.Lines.{lines}
use Rattle.script_lines.specs.declared.form.FeatureForm.{FeatureForm}
use Rattle.script_lines.specs.declared.form.FeatureForm.TheVariants as feature
use Rattle.script_lines.specs.declared.form.Form.{Form}
use Rattle.script_lines.specs.declared.form.Form.TheVariants as asks
use Rattle.script_lines.specs.declared.line.Line.{Line}
use Rattle.script_lines.specs.declared.line.Line.TheVariants as line
use Rattle.script_streams.specs.declared.run_fault.RunFault.{RunFault}
use Rattle.durable.specs.Answered.{WritesUntil}
use Rattle.journal.specs.Lines.{recovered_lines}
use Rattle.durable.specs.Heads.{IsBegunOrNot, begun_lines}
use Rattle.durable.specs.Printed as durable
use Rattle.durable.specs.declared.session.JournalTurn.{JournalTurn}
use Rattle.durable.specs.declared.session.JournalTurn.TheVariants as journaled
use Rattle.script_program.specs.Bind.{bind}
use Rattle.script_program.specs.Live.{live_text}
use Rattle.script_program.specs.Script.{RunsLine, RunsLines}
use Rattle.script_program.specs.Session.{Session, session}
use Rattle.script_answers.specs.Turns.{Printed}
use Rattle.script_program.specs.declared.journaled.Journaled.{Journaled}
use Rattle.script_program.specs.declared.kept_run.KeptFault.{KeptFault}
use Rattle.script_program.specs.declared.kept_run.KeptFault.TheVariants as stopping
use Rattle.script_program.specs.declared.request.Request.{Request}
use Rattle.script_program.specs.declared.request.Request.TheVariants as request
use Rattle.script_answers.specs.declared.turn.Turn.{Turn}
use Rattle.script_answers.specs.declared.turn.Turn.TheVariants as turned

-- whether a form changes a feature, and does not only read it
abbrev pub edits : FeatureForm → Bool
edits (feature.Read q) = false
edits _ = true

-- whether a form asks for a change of the model
abbrev pub asks_change : Form → Bool
asks_change (asks.At n name f) = edits f
asks_change (asks.New class) = true
asks_change asks.ResolveAll = true
asks_change (asks.Load k text) = true
asks_change (asks.Resource t) = true
asks_change (asks.Delete o) = true
asks_change _ = false

abbrev pub line_asks : Line → Bool
line_asks (line.Form f) = asks_change f
line_asks _ = false

-- how a line counts for a journal; the first argument says whether the line asks for a change, and the second how the line is counted
abbrev pub journal_turn : Bool → Turn → JournalTurn
journal_turn asked turned.Done = if asked then journaled.Kept else journaled.Other
journal_turn asked turned.Lost = journaled.Lost
journal_turn asked _ = journaled.Other

-- the output of a line, with how the line counts for a journal
abbrev pub journal_printed : List ℕ → Printed → durable.Printed
journal_printed l p = record { text = p.text; turn = journal_turn (line_asks (form l)) p.turn }

-- the session of an interpreter
abbrev pub session_of : {L A H : Type 0} → Journaled L A H → Session
session_of j = session j.interpreter.repository j.interpreter.pool

-- how many lines an interpreter has run; and `has_fault`, whether one of them was refused or bad
abbrev pub lines_run : {L A H : Type 0} → Journaled L A H → ℕ
lines_run j = j.lines

abbrev pub has_fault : {L A H : Type 0} → Journaled L A H → Bool
has_fault j = j.is_faulty

-- A line was run, and p is its output, with how the line counts for a journal.
pub record RunsJournaled (s : Session) (l : List ℕ) (p : durable.Printed) (t : Session) : Type 0 where
  pub printed : Printed
  pub ran : RunsLine s (form l) printed t
  pub counted : p ≡ journal_printed l printed

-- the lines that are kept; ps says what each line printed and how the line is counted, and a line without an entry in ps is not kept
abbrev pub kept_lines : List (List ℕ) → List Printed → List (List ℕ)
kept_lines [] ps = []
kept_lines (l ∷ ls) [] = []
kept_lines (l ∷ ls) (p ∷ ps) = durable.kept_line l (journal_printed l p) ++ kept_lines ls ps

abbrev pub model_if_done : Outcome → Model → Option Model
model_if_done (Ok r) m = Some m
model_if_done (Err f) m = None

-- the model after the command of a request is executed on a repository without adapters; none if the command is refused, or if the request
-- executes no command
abbrev pub model_after_request : Model → Request View → Option Model
model_after_request m (request.Execute c) = let one = step (state_of_model m) c in model_if_done one.outcome one.after.model
model_after_request m _ = None

abbrev pub model_after_line : Model → Line → Option Model
model_after_line m (line.Form f) = if asks_change f then model_after_request m (bind (session (state_of_model m) []) f) else None
model_after_line m _ = None

-- the model after lines that are run in turn on a repository without adapters; none if a line asks for no change or is refused
abbrev pub model_after_lines : Model → List (List ℕ) → Option Model
model_after_lines m [] = Some m
model_after_lines m (l ∷ ls) = option_and_then (λ n. model_after_lines n ls) (model_after_line m (form l))

-- the model after the lines of a journal are run, from the empty repository on. The first line is the head, which is not run. None if there
-- is no head, or if a line asks for no change or is refused
abbrev pub model_of : Metamodel → List (List ℕ) → Option Model
model_of m [] = None
model_of m (head ∷ ls) = model_after_lines (empty_state m).model ls

-- `file` is a journal whose lines leave the model `model`
abbrev pub Recalls : Metamodel → Model → List ℕ → Type 0
Recalls m model file = model_of m (recovered_lines file) ≡ Some model

-- A run came to its end: all lines were run and answered, and the lines of the journal leave the model that the run left.
pub record EndsJournaled (m : Metamodel) (s : Session) (ls : List (List ℕ)) (old new : Option (List ℕ)) (kept : List (List ℕ)) (t : Session) : Type 0 where
  pub printed : List Printed
  pub ran : RunsLines s ls printed t
  pub written : Appends old new (live_text printed)
  pub recalled : model_of m kept ≡ Some t.state.model

-- A run stopped for a fault. The answers to the first lines were written, or only a prefix of these answers if a write failed. The next
-- lines were run but not answered. A file that a crash leaves is a journal of the model after the first lines, or after the next lines too.
pub record StopsJournaled (m : Metamodel) (fault : RunFault) (s : Session) (ls : List (List ℕ)) (old new : Option (List ℕ)) (may_leave : List ℕ → Type 0) : Type 0 where
  pub first : List (List ℕ)
  pub next : List (List ℕ)
  pub rest : List (List ℕ)
  pub lines_are : ls ≡ first ++ (next ++ rest)
  pub printed : List Printed
  pub after : Session
  pub ran : RunsLines s first printed after
  pub printed_next : List Printed
  pub after_next : Session
  pub ran_next : RunsLines after next printed_next after_next
  pub written : WritesUntil fault next old new (live_text printed)
  pub left : (c : List ℕ) → may_leave c → Recalls m after.state.model c ⊎ Recalls m after_next.state.model c

-- A file is a journal of the model that the first n lines of ls left, for some n.
pub record LeavesJournaled (m : Metamodel) (s : Session) (ls : List (List ℕ)) (file : List ℕ) : Type 0 where
  pub first : List (List ℕ)
  pub rest : List (List ℕ)
  pub lines_are : ls ≡ first ++ rest
  pub printed : List Printed
  pub after : Session
  pub ran : RunsLines s first printed after
  pub recalled : Recalls m after.state.model file

-- ---- a run that first runs the lines of a file again

-- the outcome of a run whose journal was opened; a fault of the script's run is `Stopped`
abbrev pub kept_outcome : Result (Unit {0}) RunFault → Result (Unit {0}) KeptFault
kept_outcome (Ok done) = Ok done
kept_outcome (Err fault) = Err (stopping.Stopped fault)

-- The lines of the file were run again, and then a run came to its end.
pub record EndsKept (m : Metamodel) (head file : List ℕ) (ls : List (List ℕ)) (old new : Option (List ℕ)) (file_after : List ℕ) (t : Session) : Type 0 where
  pub start : Session
  pub had : model_of m (begun_lines head (recovered_lines file)) ≡ Some start.state.model
  pub ends : EndsJournaled m start ls old new (recovered_lines file_after) t

-- A run stopped for a fault after the lines of the file had been run again.
pub record StopsKept (m : Metamodel) (fault : RunFault) (head file : List ℕ) (ls : List (List ℕ)) (old new : Option (List ℕ)) (may_leave : List ℕ → Type 0) : Type 0 where
  pub start : Session
  pub had : model_of m (begun_lines head (recovered_lines file)) ≡ Some start.state.model
  pub stops : StopsJournaled m fault start ls old new may_leave

-- The lines of a file were run, and then the first n lines of ls were run, for some n. The file `left` is a journal of the model that all
-- these lines left.
pub record LeavesKept (m : Metamodel) (head file : List ℕ) (ls : List (List ℕ)) (left : List ℕ) : Type 0 where
  pub start : Session
  pub had : model_of m (begun_lines head (recovered_lines file)) ≡ Some start.state.model
  pub leaves : LeavesJournaled m start ls left

-- what is true of the file `left` that a crash at any moment of a run leaves. Either `left` has the lines of `file`, or only the head if
-- `file` has no line. Or `left` is a journal of the model after the lines of `file` and the first n lines of the input were run, for some
-- n; nothing is said of this second case if the input is not known
abbrev pub LeavesKeptIn : Metamodel → List ℕ → List ℕ → Option (List ℕ) → List ℕ → Type 0
LeavesKeptIn m head file input left = IsBegunOrNot head (recovered_lines file) left ⊎ IfSome input (λ bytes. LeavesKept m head file (lines bytes) left)

-- the first line of `file` is the head, and the lines after the head leave the model `model`
pub record IsJournalOf (m : Metamodel) (head file : List ℕ) (model : Model) : Type 0 where
  pub lines_after : List (List ℕ)
  pub lines_are : recovered_lines file ≡ head ∷ lines_after
  pub leaves : model_after_lines (empty_state m).model lines_after ≡ Some model
