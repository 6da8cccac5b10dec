-- The output of a script under the output options, and the line at which a run ends.
use Rattle.std.specs.Prelude.{◌&&◌, ℕ, suc, Bool, false, not, List, [], ◌∷◌, ◌++◌, codes, if◌then◌else◌}
use Rattle.std.specs.Fmt.{decimal}
use Rattle.std.specs.List.{flat_map, list_any}
use Rattle.script_lines.specs.Lines.{lines}
use Rattle.script_lines.specs.declared.grammar.TheConstants.{NEWLINE}
use Rattle.script_answers.specs.Turns.{Printed, is_blank, is_fault}
use Rattle.script_answers.specs.declared.dress.Dress.{Dress}
use Rattle.script_answers.specs.declared.turn.Turn.{Turn}

-- no output options: the answers of all lines are written, and nothing else
abbrev pub plain_dress : Dress
plain_dress = record { echo = false; number = false; stop = false }

-- the lines of a text, with the bytes `front` before each line and a newline after it
abbrev pub each_behind : List ℕ → List ℕ → List ℕ
each_behind front text = flat_map (λ l. front ++ l ++ NEWLINE ∷ []) (lines text)

-- the lines of an answer to the script line with the number k; before each line of the answer come k, a colon and a space
abbrev pub numbered_lines : ℕ → List ℕ → List ℕ
numbered_lines k answer = each_behind (decimal k ++ codes ": ") answer

-- a line of the script, as it is written before its answer with `--echo`; nothing without `--echo`, or if the line is skipped
abbrev pub echoed_line : Dress → List ℕ → Turn → List ℕ
echoed_line d line turn = if d.echo && not (is_blank turn) then codes "> " ++ line ++ NEWLINE ∷ [] else []

abbrev pub dressed_answer : Dress → ℕ → List ℕ → List ℕ
dressed_answer d k answer = if d.number then numbered_lines k answer else answer

-- the output for the script line with the number k
abbrev pub dressed_line : Dress → ℕ → List ℕ → Printed → List ℕ
dressed_line d k line p = echoed_line d line p.turn ++ dressed_answer d k p.text

-- the output for script lines that are numbered from k on
abbrev pub dressed_output_from : Dress → ℕ → List (List ℕ) → List Printed → List ℕ
dressed_output_from d k [] ps = []
dressed_output_from d k (l ∷ ls) [] = []
dressed_output_from d k (l ∷ ls) (p ∷ ps) = dressed_line d k l p ++ dressed_output_from d (suc k) ls ps

-- what lines print, up to and including the first line that is refused or bad; what all lines print if no line is refused or bad
abbrev pub until_fault : List Printed → List Printed
until_fault [] = []
until_fault (p ∷ ps) = if is_fault p.turn then p ∷ [] else p ∷ until_fault ps

-- what lines print until the run ends
abbrev pub lines_until_end : Dress → List Printed → List Printed
lines_until_end d ps = if d.stop then until_fault ps else ps

-- the output for the script lines ls, which are numbered from 1 on; ps is what these lines print if all of them are run
abbrev pub dressed_output : Dress → List (List ℕ) → List Printed → List ℕ
dressed_output d ls ps = dressed_output_from d 1 ls (lines_until_end d ps)

-- whether the option `--stop` is given, and one of the lines whose outputs are in ps is refused or bad; then a run of these lines ends at
-- the first such line
abbrev pub is_stopped : Dress → List Printed → Bool
is_stopped d ps = d.stop && list_any (λ p. is_fault p.turn) ps
