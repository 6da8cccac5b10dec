-- A live run of a script: each line is answered before the next is read, and each answer ends with an empty line.
use Rattle.std.specs.Prelude.{◌≡◌, ℕ, List, [], ◌∷◌, ◌++◌, Option, IfSome}
use Rattle.std.specs.List.{flat_map}
use Rattle.std.specs.Io.KnownBytes.{Appends}
use Rattle.durable.specs.Answered as answered
use Rattle.script_lines.specs.Forms.{form}
use Rattle.script_lines.specs.Lines.{lines}
use Rattle.script_lines.specs.declared.grammar.TheConstants.{NEWLINE}
use Rattle.script_program.specs.Script.{PrintsAs, PrintsFrontAs, RunsLine}
use Rattle.script_program.specs.Session.{Session}
use Rattle.script_answers.specs.Turns.{Printed}
use Rattle.script_program.specs.declared.summary.Summary.{Summary}
use Rattle.script_answers.specs.declared.turn.Turn.{Turn}
use Rattle.script_streams.specs.Streams.{AppendsFront}

-- the text that is written for a line: the text that it prints, and an empty line
abbrev pub live_answer : Printed → List ℕ
live_answer p = p.text ++ NEWLINE ∷ []

-- the output of a line, with an empty line after it
abbrev pub with_empty_line : Printed → Printed
with_empty_line p = record p { text = live_answer p }

-- the text that is written for some lines
abbrev pub live_text : List Printed → List ℕ
live_text = flat_map live_answer

-- A line was run, and its answer was written, with an empty line after it.
pub record AnswersLive (line : List ℕ) (s : Session) (old new : Option (List ℕ)) (turn : Turn) (t : Session) : Type 0 where
  pub printed : Printed
  pub ran : RunsLine s (form line) printed t
  pub counted : printed.turn ≡ turn
  pub written : Appends old new (live_answer printed)

-- A line was run. The text that is written for the line is its answer and an empty line; a prefix of this text was written.
pub record AnswersLiveFront (line : List ℕ) (s : Session) (old new : Option (List ℕ)) : Type 0 where
  pub printed : Printed
  pub after : Session
  pub ran : RunsLine s (form line) printed after
  pub written : AppendsFront old new (live_answer printed)

-- All lines of a script were run. Their answers were written, each with an empty line after it. The summary has the counts of these lines.
abbrev pub PrintsLive : Session → Option (List ℕ) → Option (List ℕ) → List ℕ → Summary → Type 0
PrintsLive = PrintsAs live_text

-- The first lines of a script were run. The text of their answers has an empty line after each answer; a prefix of this text was written.
abbrev pub PrintsLiveFront : Session → Option (List ℕ) → Option (List ℕ) → List ℕ → Type 0
PrintsLiveFront = PrintsFrontAs live_text

-- If the input is known, all its lines were run, and their answers were written.
abbrev pub PrintsInputLive : Option (List ℕ) → Session → Option (List ℕ) → Option (List ℕ) → Summary → Type 0
PrintsInputLive input s old new summary = IfSome input (λ bytes. PrintsLive s old new bytes summary)

-- If the input is known, its first lines were run, and a prefix of their answers was written.
abbrev pub PrintsInputLiveFront : Option (List ℕ) → Session → Option (List ℕ) → Option (List ℕ) → Type 0
PrintsInputLiveFront input s old new = IfSome input (λ bytes. PrintsLiveFront s old new bytes)

-- a line of a script is longer than a line may be, or the script has 2^64 - 1 lines or more
abbrev pub IsTooLong : List ℕ → Type 0
IsTooLong bytes = answered.IsTooLong (lines bytes)
