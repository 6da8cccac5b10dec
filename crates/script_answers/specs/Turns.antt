-- What a line printed, and how the line is counted.
use Rattle.std.specs.Prelude.{ℕ, Bool, true, false, List}
use Rattle.std.specs.List.{flat_map}
use Rattle.script_answers.specs.declared.turn.Turn.{Turn}
use Rattle.script_answers.specs.declared.turn.Turn.TheVariants as turned

-- what a line printed, and how the line is counted
pub record Printed : Type 0 where
  pub text : List ℕ
  pub turn : Turn

abbrev pub printed_line : List ℕ → Turn → Printed
printed_line text turn = record { text = text; turn = turn }

-- all that lines printed
abbrev pub texts : List Printed → List ℕ
texts = flat_map (λ p. p.text)

-- whether a line is lost: its command failed with MEMORY
abbrev pub is_lost : Turn → Bool
is_lost turned.Lost = true
is_lost _ = false

-- whether a line is skipped; a skipped line prints nothing
abbrev pub is_blank : Turn → Bool
is_blank turned.Blank = true
is_blank _ = false

-- whether a line is refused, lost or bad
abbrev pub is_fault : Turn → Bool
is_fault turned.Bad = true
is_fault turned.Refused = true
is_fault turned.Lost = true
is_fault _ = false
