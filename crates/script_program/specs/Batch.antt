-- A run of a script with output options.
use Rattle.std.specs.Prelude.{◌≡◌, ◌≤◌, ◌⊎◌, ℕ, true, List, [], ◌++◌, length, Option, IfSome}
use Rattle.std.specs.Io.KnownBytes.{Appends}
use Rattle.mm_types.specs.declared.limits.TheConstants.{INPUT_BYTES}
use Rattle.repository.specs.State.{State}
use Rattle.script_lines.specs.Forms.{form}
use Rattle.script_lines.specs.Lines.{lines}
use Rattle.script_answers.specs.Dressed.{dressed_line, dressed_output, is_stopped, lines_until_end}
use Rattle.script_program.specs.Script.{RunsLine, RunsLines}
use Rattle.script_program.specs.Session.{Session}
use Rattle.script_answers.specs.Turns.{Printed}
use Rattle.script_program.specs.Summary.{summary_of}
use Rattle.script_answers.specs.declared.dress.Dress.{Dress}
use Rattle.script_program.specs.declared.summary.Summary.{Summary}
use Rattle.script_answers.specs.declared.turn.Turn.{Turn}
use Rattle.script_streams.specs.Streams.{AppendsFront}

-- The first lines of a script were run, and the other lines were not. If one of the lines that were run ends the run, it is the last of
-- them.
pub record RunsFirst (d : Dress) (s : Session) (bytes : List ℕ) (first rest : List (List ℕ)) (printed : List Printed) (t : Session) : Type 0 where
  pub lines_are : lines bytes ≡ first ++ rest
  pub ran : RunsLines s first printed t
  pub none_behind : lines_until_end d printed ≡ printed

-- A line was run, and its output was written as the output options say.
pub record AnswersLine (d : Dress) (number : ℕ) (line : List ℕ) (s : Session) (old new : Option (List ℕ)) (turn : Turn) (t : Session) : Type 0 where
  pub printed : Printed
  pub ran : RunsLine s (form line) printed t
  pub counted : printed.turn ≡ turn
  pub written : Appends old new (dressed_line d number line printed)

-- A line was run. The output options give the text that is written for the line; a prefix of this text was written. `Left` is true of the
-- session after the line.
pub record AnswersFront (d : Dress) (number : ℕ) (line : List ℕ) (s : Session) (Left : Session → Type 0) (old new : Option (List ℕ)) : Type 0 where
  pub printed : Printed
  pub after : Session
  pub left : Left after
  pub ran : RunsLine s (form line) printed after
  pub written : AppendsFront old new (dressed_line d number line printed)

-- All lines of a script were run, or the lines up to and including the first line that ends the run.
pub record RunsBatch (d : Dress) (s : Session) (bytes : List ℕ) (first : List (List ℕ)) (printed : List Printed) (t : Session) : Type 0 where
  pub rest : List (List ℕ)
  pub runs : RunsFirst d s bytes first rest printed t
  pub ends : (rest ≡ []) ⊎ (is_stopped d printed ≡ true)

-- the repository of the session has the state q at the end of a run; `EndsAnywhere` allows any state
abbrev pub EndsIn : State → Session → Type 0
EndsIn q t = t.state ≡ q

abbrev pub EndsAnywhere : Session → Type 0
EndsAnywhere t = Unit {0}

-- A script was run to its end, or to the refused or bad line at which the option `stop` ends the run. The answers were written as the
-- output options say. `summary` has the counts of the lines that were run. `Left` is true of the session after the run.
pub record PrintsDressed (d : Dress) (s : Session) (Left : Session → Type 0) (old new : Option (List ℕ)) (bytes : List ℕ) (summary : Summary) : Type 0 where
  pub first : List (List ℕ)
  pub printed : List Printed
  pub after : Session
  pub left : Left after
  pub ran : RunsBatch d s bytes first printed after
  pub counted : summary_of printed ≡ summary
  pub written : Appends old new (dressed_output d first printed)

-- The first lines of a script were run. The output options give the text that is written for these lines; a prefix of this text was
-- written. `Left` is true of the session after these lines.
pub record PrintsDressedFront (d : Dress) (s : Session) (Left : Session → Type 0) (old new : Option (List ℕ)) (bytes : List ℕ) : Type 0 where
  pub first : List (List ℕ)
  pub rest : List (List ℕ)
  pub printed : List Printed
  pub after : Session
  pub left : Left after
  pub ran : RunsFirst d s bytes first rest printed after
  pub written : AppendsFront old new (dressed_output d first printed)

-- If the input is known, it has at most INPUT_BYTES bytes, it was run, and its answers were written, as `PrintsDressed` says.
abbrev pub PrintsInputDressed : Dress → Option (List ℕ) → Session → (Session → Type 0) → Option (List ℕ) → Option (List ℕ) → Summary → Type 0
PrintsInputDressed d input s Left old new summary = IfSome input (λ bytes. (length bytes ≤ INPUT_BYTES) × PrintsDressed d s Left old new bytes summary)

-- If the input is known, its first lines were run, and a prefix of their answers was written (`PrintsDressedFront`).
abbrev pub PrintsInputDressedFront : Dress → Option (List ℕ) → Session → (Session → Type 0) → Option (List ℕ) → Option (List ℕ) → Type 0
PrintsInputDressedFront d input s Left old new = IfSome input (λ bytes. PrintsDressedFront d s Left old new bytes)
