-- The most frequent kinds of lines: how they are read, and what each asks for. One space separates the words of a line.
use Rattle.std.specs.Prelude.{ℕ, ◌+◌, List, [], ◌∷◌, Option, Some, None, codes, drop, option_map, take, if◌then◌else◌}
use Rattle.std.specs.List.{after_first, before_first}
use Rattle.std.specs.Option.{option_zip}
use Rattle.std.specs.Str.{bytes_eq}
use Rattle.mm_types.specs.Integers.{natural_number}
use Rattle.mm_types.specs.declared.numbers.Node.TheVariants as node
use Rattle.mm_types.specs.declared.numbers.ObjectNo.{ObjectNo}
use Rattle.mm_types.specs.declared.read.EndRead.TheVariants.{Get, IsSet}
use Rattle.mm_types.specs.declared.read.ObjectRead.TheVariants.{Container, Fragment}
use Rattle.mm_types.specs.declared.read.Read.TheVariants as read
use Rattle.script_lines.specs.Forms.{line_with}
use Rattle.script_lines.specs.Values.{name_in, object_in, value_in}
use Rattle.script_lines.specs.Words.{begins_word, is_one_word, is_space, word_len}
use Rattle.script_lines.specs.declared.form.FeatureForm.{FeatureForm}
use Rattle.script_lines.specs.declared.form.FeatureForm.TheVariants as feature
use Rattle.script_lines.specs.declared.form.Form.TheVariants as asks
use Rattle.frequent_lines.specs.declared.bare_act.BareAct.{BareAct}
use Rattle.frequent_lines.specs.declared.bare_act.BareAct.TheVariants as bare
use Rattle.frequent_lines.specs.declared.frequent.Frequent.{Frequent}
use Rattle.frequent_lines.specs.declared.frequent.Frequent.TheVariants as frequent
use Rattle.frequent_lines.specs.declared.frequent_act.FrequentAct.{FrequentAct}
use Rattle.frequent_lines.specs.declared.frequent_act.FrequentAct.TheVariants as act
use Rattle.script_lines.specs.declared.line.Line.{Line}
use Rattle.script_lines.specs.declared.line.Line.TheVariants as line
use Rattle.script_lines.specs.declared.written_value.WrittenValue.{WrittenValue}

-- ---- what a frequent line asks for

-- what a change without a value asks for
abbrev pub bare_form : BareAct → FeatureForm
bare_form bare.Unset = feature.Unset
bare_form (bare.Remove k) = feature.Remove k
bare_form (bare.Move to from) = feature.Move to from
bare_form (bare.Resolve k) = feature.Resolve k

-- what an addition asks for: with an index, or at the end
abbrev pub add_form : Option ℕ → WrittenValue → FeatureForm
add_form None v = feature.Add v
add_form (Some k) v = feature.AddAt k v

-- what an act on a feature of an object asks for; the line is bad if the act has a word for a value and this word is no value
abbrev pub act_line : ObjectNo → List ℕ → FrequentAct → Line
act_line o f act.Get = line.Form (asks.At (node.Object o) f (feature.Read Get))
act_line o f act.IsSet = line.Form (asks.At (node.Object o) f (feature.Read IsSet))
act_line o f (act.Set w) = line_with (option_map (λ v. asks.At (node.Object o) f (feature.Set v)) (value_in w))
act_line o f (act.Add w index) = line_with (option_map (λ v. asks.At (node.Object o) f (add_form index v)) (value_in w))
act_line o f (act.RemoveValue w) = line_with (option_map (λ v. asks.At (node.Object o) f (feature.RemoveValue v)) (value_in w))
act_line o f (act.Bare b) = line.Form (asks.At (node.Object o) f (bare_form b))

abbrev pub frequent_line : Frequent → Line
frequent_line (frequent.New c) = line.Form (asks.New c)
frequent_line (frequent.Container o) = line.Form (asks.Read (read.Of o Container))
frequent_line (frequent.Fragment o) = line.Form (asks.Read (read.Of o Fragment))
frequent_line (frequent.At o f a) = act_line o f a

-- ---- how a frequent line is read

-- an act that takes no arguments, if the text of the arguments is empty; otherwise none
abbrev pub alone : FrequentAct → List ℕ → Option FrequentAct
alone a [] = Some a
alone a (c ∷ cs) = None

-- the text as a word, if the text is one word
abbrev pub word_in : List ℕ → Option (List ℕ)
word_in text = if is_one_word text then Some text else None

-- `VALUE`, or `VALUE N`
abbrev pub add_in : List ℕ → Option FrequentAct
add_in args =
    if is_one_word args then Some (act.Add args None)
    else if begins_word args
    then option_map (λ k. act.Add (take (word_len args) args) (Some k)) (natural_number (drop (word_len args + 1) args))
    else None

-- `N N`: first the index to which a value is moved, then the index from which it is moved
abbrev pub move_in : List ℕ → Option FrequentAct
move_in args =
    option_map (λ p. act.Bare (bare.Move p.0 p.1)) (option_zip (natural_number (before_first is_space args)) (natural_number (after_first is_space args)))

-- the act that a verb and the text after the name of a feature ask for; none if the verb asks for no act, or if the text does not fit the
-- verb
abbrev pub act_in : List ℕ → List ℕ → Option FrequentAct
act_in verb args =
    if bytes_eq verb (codes "get") then alone act.Get args
    else if bytes_eq verb (codes "set") then option_map act.Set (word_in args)
    else if bytes_eq verb (codes "add") then add_in args
    else if bytes_eq verb (codes "isset") then alone act.IsSet args
    else if bytes_eq verb (codes "unset") then alone (act.Bare bare.Unset) args
    else if bytes_eq verb (codes "remove") then option_map (λ k. act.Bare (bare.Remove k)) (natural_number args)
    else if bytes_eq verb (codes "removevalue") then option_map act.RemoveValue (word_in args)
    else if bytes_eq verb (codes "move") then move_in args
    else if bytes_eq verb (codes "resolve") then option_map (λ k. act.Bare (bare.Resolve k)) (natural_number args)
    else None

-- the object and the name of a feature, if a text begins with `OBJ NAME`
abbrev pub object_feature_in : List ℕ → Option (ObjectNo × List ℕ)
object_feature_in text = option_zip (object_in (before_first is_space text)) (name_in (before_first is_space (after_first is_space text)))

-- a line about a feature, read from its verb and the text after the verb and a space; none if the line is not frequent
abbrev pub at_in : List ℕ → List ℕ → Option Frequent
at_in verb text =
    option_map (λ p. frequent.At p.0.0 p.0.1 p.1)
    (option_zip (object_feature_in text) (act_in verb (after_first is_space (after_first is_space text))))

-- a line, read from its verb and the text after the verb and a space; none if the line is not frequent
abbrev pub frequent_with : List ℕ → List ℕ → Option Frequent
frequent_with verb text =
    if bytes_eq verb (codes "new") then option_map frequent.New (name_in text)
    else if bytes_eq verb (codes "container") then option_map frequent.Container (object_in text)
    else if bytes_eq verb (codes "fragment") then option_map frequent.Fragment (object_in text)
    else at_in verb text

-- a line, read as a frequent line; none if the line is not frequent
unfoldable pub frequent_in : List ℕ → Option Frequent
frequent_in line = frequent_with (before_first is_space line) (after_first is_space line)
