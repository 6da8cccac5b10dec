-- What a script prints, as a function of the session before the run, of the bytes of the script, and of the numbers of its lost lines. A
-- line is lost if its command fails with MEMORY.
use Rattle.std.specs.Prelude.{◌==◌, ℕ, suc, Bool, true, false, IsTrue, List, [], ◌∷◌, slice_get, Err, if◌then◌else◌}
use Rattle.std.specs.List.{All, list_any}
use Rattle.std.specs.List.Sorted.{IsStrictlyIncreasing}
use Rattle.std.specs.Option.{option_map_or}
use Rattle.mm_types.specs.declared.refused.Refused.TheVariants.{Memory}
use Rattle.notice_chain.specs.View.{View}
use Rattle.repository.specs.Step.{failure, step}
use Rattle.repository.specs.declared.command.Command.{Command}
use Rattle.script_lines.specs.Forms.{form}
use Rattle.script_lines.specs.Lines.{lines}
use Rattle.script_lines.specs.declared.line.Line.{Line}
use Rattle.script_lines.specs.declared.line.Line.TheVariants as line
use Rattle.script_program.specs.Bind.{bind}
use Rattle.script_program.specs.Script.{bad_printed, blank_printed, command_printed, refused_printed, seen_printed}
use Rattle.script_program.specs.Session.{Session, pool_after}
use Rattle.script_program.specs.declared.request.Request.{Request}
use Rattle.script_program.specs.declared.request.Request.TheVariants as request
use Rattle.script_answers.specs.Turns.{Printed, is_lost}

-- the output of a line, and the session after it
pub record LineRun : Type 0 where
  pub printed : Printed
  pub after : Session

-- what a command prints, and the session after it. The first argument says whether the command is lost. A lost command fails with MEMORY,
-- and changes nothing; any other command does its step
abbrev pub run_command : Bool → Session → Command View → LineRun
run_command true s c = record { printed = command_printed s.state.model.metamodel c (Err (failure c Memory)); after = s }
run_command false s c =
    let one = step s.state c in
    record {
      printed = command_printed s.state.model.metamodel c one.outcome;
      after = record { state = one.after; pool = pool_after s.pool c one.outcome };
    }

abbrev pub run_request : Bool → Session → Request View → LineRun
run_request lost s (request.Execute c) = run_command lost s c
run_request lost s (request.Seen number) = record { printed = seen_printed s.state number; after = s }
run_request lost s (request.Refuse r) = record { printed = refused_printed r; after = s }

abbrev pub run_line : Bool → Session → Line → LineRun
run_line lost s line.Blank = record { printed = blank_printed; after = s }
run_line lost s line.Bad = record { printed = bad_printed; after = s }
run_line lost s (line.Form f) = run_request lost s (bind s f)

abbrev pub is_in : List ℕ → ℕ → Bool
is_in m k = list_any (λ j. j == k) m

-- the output of lines that are numbered from k on, if exactly the lines with numbers in m are lost; in m the number of a line that executes
-- no command has no effect
unfoldable pub printed_from : List ℕ → ℕ → Session → List (List ℕ) → List Printed
printed_from m k s [] = []
printed_from m k s (l ∷ ls) = let one = run_line (is_in m k) s (form l) in one.printed ∷ printed_from m (suc k) one.after ls

-- what a script prints, line by line, from a session on; `lost` has the numbers of the lines that are lost, counted from 0
abbrev pub script : Session → List ℕ → List ℕ → List Printed
script s bytes lost = printed_from lost 0 s (lines bytes)

-- the numbers of the lost lines, by the output of each line; the first output in the list is the output of the line with the number k
abbrev pub lost_from : ℕ → List Printed → List ℕ
lost_from k [] = []
lost_from k (p ∷ ps) = if is_lost p.turn then k ∷ lost_from (suc k) ps else lost_from (suc k) ps

abbrev pub lost_lines : List Printed → List ℕ
lost_lines = lost_from 0

abbrev pub is_form : Line → Bool
is_form line.Blank = false
is_form line.Bad = false
is_form (line.Form f) = true

-- whether the line with a given number, counted from 0, exists and has a form
abbrev pub is_command_at : List (List ℕ) → ℕ → Bool
is_command_at ls j = option_map_or (λ l. is_form (form l)) (slice_get ls j) false

-- the numbers rise, and each is the number of a line that has a form
pub record AreCommands (ls : List (List ℕ)) (numbers : List ℕ) : Type 0 where
  pub each_once : IsStrictlyIncreasing numbers
  pub commands : All (λ j. IsTrue (is_command_at ls j)) numbers
