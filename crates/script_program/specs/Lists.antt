-- What is printed for a call that reads the length of a list, or one value of a list.
use Rattle.std.specs.Prelude.{ℕ, List, [], ◌∷◌, ◌++◌, Result, Ok, Err}
use Rattle.std.specs.Fmt.{decimal}
use Rattle.mm_types.specs.Resolved.{Metamodel}
use Rattle.mm_types.specs.declared.numbers.FeatureNo.{FeatureNo}
use Rattle.mm_types.specs.declared.numbers.Node.{Node}
use Rattle.mm_types.specs.declared.refused.Refused.{Refused}
use Rattle.mm_types.specs.declared.value.Value.{Value}
use Rattle.repository.specs.ListReads.{list_len, list_value}
use Rattle.repository.specs.State.{State, reads}
use Rattle.script_lines.specs.declared.grammar.TheConstants.{NEWLINE}
use Rattle.script_program.specs.Answers.{read_text}
use Rattle.script_program.specs.Bind.{feature_number, named_end}
use Rattle.script_program.specs.Script.{refused_printed}
use Rattle.script_answers.specs.Turns.{Printed}
use Rattle.script_answers.specs.declared.turn.Turn.TheVariants as turned

abbrev pub len_printed : Result ℕ Refused → Printed
len_printed (Ok n) = record { text = decimal n ++ NEWLINE ∷ []; turn = turned.Done }
len_printed (Err r) = refused_printed r

-- what is printed for a read of one value of a list: the value, as a read of a single feature prints it, or the refusal
abbrev pub value_printed : Metamodel → FeatureNo → Result Value Refused → Printed
value_printed m f (Ok v) = record { text = read_text m f v; turn = turned.Done }
value_printed m f (Err r) = refused_printed r

-- what is printed for a read of the length: the length of the list that the node n has under the feature called `name`, or the refusal
abbrev pub list_len_printed : State → Node → List ℕ → Printed
list_len_printed s n name = len_printed (list_len (reads s) (named_end s n name))

-- what is printed for a read of one value: the value at index i of the list that the node n has under the feature called `name`, or the
-- refusal
abbrev pub list_value_printed : State → Node → List ℕ → ℕ → Printed
list_value_printed s n name i = value_printed s.model.metamodel (feature_number s n name) (list_value (reads s) (named_end s n name) i)
