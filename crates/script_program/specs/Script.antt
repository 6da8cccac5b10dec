-- A run of a script: each line is run in turn, in the session that the line before it left.
use Rattle.std.specs.Prelude.{◌≡◌, ◌≤◌, ◌⊎◌, ℕ, List, [], ◌∷◌, ◌++◌, length, Option, IfSome, codes}
use Rattle.std.specs.Option.{option_map_or}
use Rattle.std.specs.Io.KnownBytes.{Appends}
use Rattle.mm_types.specs.Resolved.{Metamodel}
use Rattle.mm_types.specs.declared.limits.TheConstants.{INPUT_BYTES}
use Rattle.mm_types.specs.declared.numbers.AdapterNo.{AdapterNo}
use Rattle.mm_types.specs.declared.refused.Refused.{Refused}
use Rattle.mm_types.specs.declared.refused.Refused.TheVariants.{NoAdapter}
use Rattle.notice_chain.specs.Listed.{adapter}
use Rattle.notice_chain.specs.View.{View}
use Rattle.repository.specs.State.{State}
use Rattle.repository.specs.Views.{Outcome}
use Rattle.repository.specs.Run.{Executed}
use Rattle.repository.specs.declared.command.Command.{Command}
use Rattle.script_lines.specs.Forms.{form}
use Rattle.script_lines.specs.Lines.{lines}
use Rattle.script_lines.specs.declared.grammar.TheConstants.{NEWLINE}
use Rattle.script_lines.specs.declared.line.Line.{Line}
use Rattle.script_lines.specs.declared.line.Line.TheVariants as line
use Rattle.script_output.specs.Notified.{seen_text}
use Rattle.script_program.specs.Answers.{feature_of, outcome_text, refusal_line}
use Rattle.script_program.specs.Bind.{bind}
use Rattle.script_program.specs.Session.{Session, pool_after}
use Rattle.script_program.specs.declared.request.Request.{Request}
use Rattle.script_program.specs.declared.request.Request.TheVariants as request
use Rattle.script_streams.specs.Streams.{AppendsFront}
use Rattle.script_answers.specs.Turns.{Printed, texts}
use Rattle.script_program.specs.Summary.{outcome_turn, summary_of}
use Rattle.script_program.specs.declared.summary.Summary.{Summary}
use Rattle.script_answers.specs.declared.turn.Turn.{Turn}
use Rattle.script_answers.specs.declared.turn.Turn.TheVariants as turned

-- the output of the command c with the outcome o
abbrev pub command_printed : Metamodel → Command View → Outcome → Printed
command_printed m c o = record { text = outcome_text m (feature_of c) o; turn = outcome_turn o }

abbrev pub blank_printed : Printed
blank_printed = record { text = []; turn = turned.Blank }

abbrev pub bad_printed : Printed
bad_printed = record { text = codes "bad line" ++ NEWLINE ∷ []; turn = turned.Bad }

abbrev pub refused_printed : Refused → Printed
refused_printed r = record { text = refusal_line r; turn = turned.Refused }

-- what `seen` prints: how often an adapter was notified and how many notifications it keeps, or the refusal `NoAdapter`
abbrev pub seen_printed : State → AdapterNo → Printed
seen_printed s number =
    option_map_or (λ a. record { text = seen_text a.view.told (length a.view.kept) ++ NEWLINE ∷ []; turn = turned.Done }) (adapter number s.adapters) (refused_printed NoAdapter)

-- A line appended its output to the text `old`; `Said` is true of this output and of how the line is counted.
pub record Adds (old new : List ℕ) (turn : Turn) (Said : Printed → Type 0) : Type 0 where
  pub text : List ℕ
  pub added : new ≡ old ++ text
  pub said : Said (record { text = text; turn = turn })

-- the state of a repository after a line that may have been run: it is as it was, or as the line leaves it
abbrev pub IsLeft : (Printed → Session → Type 0) → State → State → Type 0
IsLeft Said old new = (new ≡ old) ⊎ ((p : Printed) × (t : Session) × Said p t × (t.state ≡ new))

-- A command was executed, and its outcome was printed. If the command was done, the adapter that it attached, if any, left the pool, and
-- the adapters that it released are in the pool again. If the command was refused, the pool is as it was.
pub record RunsCommand (s : Session) (c : Command View) (p : Printed) (t : Session) : Type 0 where
  pub outcome : Outcome
  pub executed : Executed s.state c outcome t.state
  pub pool : t.pool ≡ pool_after s.pool c outcome
  pub printed : p ≡ command_printed s.state.model.metamodel c outcome

-- a request was run: the session before, the request, its output, and the session after
abbrev pub RunsRequest : Session → Request View → Printed → Session → Type 0
RunsRequest s (request.Execute c) p t = RunsCommand s c p t
RunsRequest s (request.Seen number) p t = (p ≡ seen_printed s.state number) × (t ≡ s)
RunsRequest s (request.Refuse r) p t = (p ≡ refused_printed r) × (t ≡ s)

-- a line was run: the session before, the line, its output, and the session after
abbrev pub RunsLine : Session → Line → Printed → Session → Type 0
RunsLine s line.Blank p t = (p ≡ blank_printed) × (t ≡ s)
RunsLine s line.Bad p t = (p ≡ bad_printed) × (t ≡ s)
RunsLine s (line.Form f) p t = RunsRequest s (bind s f) p t

-- lines were run one after another: the output of each, and the session after the last
abbrev pub RunsLines : Session → List (List ℕ) → List Printed → Session → Type 0
RunsLines s [] [] t = t ≡ s
RunsLines s [] (p ∷ ps) t = ⊥
RunsLines s (l ∷ ls) [] t = ⊥
RunsLines s (l ∷ ls) (p ∷ ps) t = (u : Session) × RunsLine s (form l) p u × RunsLines u ls ps t

-- All lines of a script were run, the text that `shown` gives for their output was written, and the summary has the counts of these lines.
pub record PrintsAs (shown : List Printed → List ℕ) (s : Session) (old new : Option (List ℕ)) (bytes : List ℕ) (summary : Summary) : Type 0 where
  pub printed : List Printed
  pub after : Session
  pub ran : RunsLines s (lines bytes) printed after
  pub counted : summary_of printed ≡ summary
  pub written : Appends old new (shown printed)

-- The first lines of a script were run, and a prefix of the text that `shown` gives for their output was written.
pub record PrintsFrontAs (shown : List Printed → List ℕ) (s : Session) (old new : Option (List ℕ)) (bytes : List ℕ) : Type 0 where
  pub first : List (List ℕ)
  pub rest : List (List ℕ)
  pub lines_are : lines bytes ≡ first ++ rest
  pub printed : List Printed
  pub after : Session
  pub ran : RunsLines s first printed after
  pub written : AppendsFront old new (shown printed)

-- All lines of a script were run, their output was written, and the summary has the counts of these lines.
abbrev pub Prints : Session → Option (List ℕ) → Option (List ℕ) → List ℕ → Summary → Type 0
Prints = PrintsAs texts

-- The first lines of a script were run, and a prefix of their output was written.
abbrev pub PrintsFront : Session → Option (List ℕ) → Option (List ℕ) → List ℕ → Type 0
PrintsFront = PrintsFrontAs texts

-- If the input is known, it is within its limit, all its lines were run, and their output was written.
abbrev pub PrintsInput : Option (List ℕ) → Session → Option (List ℕ) → Option (List ℕ) → Summary → Type 0
PrintsInput input s old new summary = IfSome input (λ bytes. (length bytes ≤ INPUT_BYTES) × Prints s old new bytes summary)

-- If the input is known, its first lines were run, and a prefix of their output was written.
abbrev pub PrintsInputFront : Option (List ℕ) → Session → Option (List ℕ) → Option (List ℕ) → Type 0
PrintsInputFront input s old new = IfSome input (λ bytes. PrintsFront s old new bytes)
