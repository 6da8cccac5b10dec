-- The meaning of single words: names, nodes, adapters and values.
use Rattle.std.specs.Prelude.{ℕ, ◌==◌, ◌&&◌, ◌-◌, Bool, true, false, nat_le, not, List, [], ◌∷◌, length, slice_index, Option, Some, None, option_map, option_and_then, codes, if◌then◌else◌}
use Rattle.std.specs.Option.{option_zip}
use Rattle.std.specs.Str.{bytes_eq, is_utf8}
use Rattle.serde_json.specs.Read.{read}
use Rattle.serde_json.specs.Find.{as_str}
use Rattle.mm_types.specs.Integers.{integer, natural_number}
use Rattle.mm_types.specs.Names.{is_name}
use Rattle.mm_types.specs.declared.numbers.AdapterNo.{AdapterNo}
use Rattle.mm_types.specs.declared.numbers.ObjectNo.{ObjectNo}
use Rattle.mm_types.specs.declared.numbers.ResourceNo.{ResourceNo}
use Rattle.mm_types.specs.declared.numbers.Node.{Node}
use Rattle.mm_types.specs.declared.numbers.Node.TheVariants as node
use Rattle.script_lines.specs.declared.grammar.TheConstants.{ADAPTER_MARK, BACKSLASH, LITERAL_MARK, OBJECT_MARK, QUOTE, RESOURCE_MARK, SPACE}
use Rattle.script_lines.specs.declared.written_value.WrittenValue.{WrittenValue}
use Rattle.script_lines.specs.declared.written_value.WrittenValue.TheVariants as written

abbrev pub object : ℕ → ObjectNo
object n = record { 0 = n }

abbrev pub resource : ℕ → ResourceNo
resource n = record { 0 = n }

abbrev pub adapter : ℕ → AdapterNo
adapter n = record { 0 = n }

abbrev pub name_in : List ℕ → Option (List ℕ)
name_in w = if is_name w then Some w else None

-- the text of a word that is a JSON string; none for any other word; white space may come before the string, but not after it
abbrev pub text_in : List ℕ → Option (List ℕ)
text_in w = if slice_index w (length w - 1) == QUOTE && is_utf8 w then option_and_then as_str (read w) else None

-- the text of a word that is a JSON string and begins with a quotation mark; none for any other word
abbrev pub string_in : List ℕ → Option (List ℕ)
string_in [] = None
string_in (c ∷ cs) = if c == QUOTE then text_in (c ∷ cs) else None

-- whether a byte stands for itself in a JSON string: it is at least 32, no quotation mark and no backslash
abbrev pub is_plain : ℕ → Bool
is_plain c = nat_le SPACE c && (not (c == QUOTE) && not (c == BACKSLASH))

-- the number that a word has after the mark `mark`; none if the word does not begin with this mark, or no number follows the mark
abbrev pub number_in : ℕ → List ℕ → Option ℕ
number_in mark [] = None
number_in mark (c ∷ cs) = if c == mark then natural_number cs else None

-- `#3`
abbrev pub object_in : List ℕ → Option ObjectNo
object_in w = option_map object (number_in OBJECT_MARK w)

-- `A7`
abbrev pub adapter_in : List ℕ → Option AdapterNo
adapter_in w = option_map adapter (number_in ADAPTER_MARK w)

-- `r0`
abbrev pub resource_in : List ℕ → Option ResourceNo
resource_in w = option_map resource (number_in RESOURCE_MARK w)

-- `#3`, an object, or `r0`, a resource
abbrev pub node_in : List ℕ → Option Node
node_in [] = None
node_in (c ∷ cs) = if c == OBJECT_MARK then option_map (λ n. node.Object (object n)) (natural_number cs)
    else if c == RESOURCE_MARK then option_map (λ n. node.Resource (resource n)) (natural_number cs) else None

-- `#3 pages`: a node, and the name of a feature
abbrev pub feature_in : List ℕ → List ℕ → Option (Node × List ℕ)
feature_in n f = option_zip (node_in n) (name_in f)

-- a text, a literal, an object or a number; the first byte decides
abbrev pub other_value_in : List ℕ → Option WrittenValue
other_value_in [] = None
other_value_in (c ∷ cs) = if c == QUOTE then option_map written.Text (text_in (c ∷ cs))
    else if c == LITERAL_MARK then option_map written.Literal (name_in cs)
    else if c == OBJECT_MARK then option_map (λ n. written.Object (object n)) (natural_number cs)
    else option_map written.Int (integer (c ∷ cs))

abbrev pub value_in : List ℕ → Option WrittenValue
value_in w = if bytes_eq w (codes "null") then Some written.Null
    else if bytes_eq w (codes "true") then Some (written.Bool true)
    else if bytes_eq w (codes "false") then Some (written.Bool false)
    else other_value_in w

-- the value of the word `null`, `true` or `false`; none for any other word
abbrev pub word_value_in : List ℕ → Option WrittenValue
word_value_in w = if bytes_eq w (codes "null") then Some written.Null
    else if bytes_eq w (codes "true") then Some (written.Bool true)
    else if bytes_eq w (codes "false") then Some (written.Bool false)
    else None

-- `#3 pages 100`: a node, the name of a feature, and a value for this feature
abbrev pub feature_value_in : List ℕ → List ℕ → List ℕ → Option ((Node × List ℕ) × WrittenValue)
feature_value_in n f v = option_zip (feature_in n f) (value_in v)
