-- The form of a line: its first word is the verb, and the other words are its arguments. A `load` line ends with the text of a document,
-- which is not cut into words.
use Rattle.std.specs.Prelude.{ℕ, nat_eq, ◌||◌, Bool, true, false, List, [], ◌∷◌, Option, Some, None, option_map, option_and_then, codes, if◌then◌else◌}
use Rattle.std.specs.Option.{option_zip}
use Rattle.std.specs.List.{after_first, before_first, list_any}
use Rattle.std.specs.Str.{bytes_eq, is_utf8}
use Rattle.script_lines.specs.Words.{after_spaces, is_space, words}
use Rattle.mm_types.specs.Integers.{natural_number}
use Rattle.script_lines.specs.Values.{adapter_in, feature_in, feature_value_in, name_in, node_in, object_in, resource_in, string_in}
use Rattle.mm_types.specs.declared.numbers.Node.TheVariants as node
use Rattle.mm_types.specs.declared.read.EndRead.TheVariants.{Get, IsSet}
use Rattle.mm_types.specs.declared.read.NodeRead.TheVariants.{Contents}
use Rattle.mm_types.specs.declared.read.ObjectRead.{ObjectRead}
use Rattle.mm_types.specs.declared.read.ObjectRead.TheVariants.{Class, Container, Fragment, Resource, Validate}
use Rattle.mm_types.specs.declared.read.Read.TheVariants as read
use Rattle.script_lines.specs.declared.form.FeatureForm.TheVariants as feature
use Rattle.script_lines.specs.declared.form.Form.{Form}
use Rattle.script_lines.specs.declared.form.Form.TheVariants as asks
use Rattle.script_lines.specs.declared.line.Line.{Line}
use Rattle.script_lines.specs.declared.line.Line.TheVariants as line

-- `new NAME`
abbrev pub new_form : List ℕ → Option Form
new_form c = option_map asks.New (name_in c)

-- `delete OBJ`
abbrev pub delete_form : List ℕ → Option Form
delete_form o = option_map asks.Delete (object_in o)

-- `at STR`
abbrev pub at_form : List ℕ → Option Form
at_form t = option_map (λ x. asks.Read (read.ObjectAt x)) (string_in t)

-- `save RES`
abbrev pub save_form : List ℕ → Option Form
save_form k = option_map (λ x. asks.Read (read.Save x)) (resource_in k)

-- `resource STR`
abbrev pub resource_form : List ℕ → Option Form
resource_form t = option_map asks.Resource (string_in t)

-- `contents NODE`
abbrev pub contents_form : List ℕ → Option Form
contents_form n = option_map (λ x. asks.Read (read.Under x Contents)) (node_in n)

-- `detach AD`
abbrev pub detach_form : List ℕ → Option Form
detach_form a = option_map asks.Detach (adapter_in a)

-- `seen AD`
abbrev pub seen_form : List ℕ → Option Form
seen_form a = option_map asks.Seen (adapter_in a)

-- `get NODE NAME`
abbrev pub get_form : List ℕ → List ℕ → Option Form
get_form n f = option_map (λ p. asks.At p.0 p.1 (feature.Read Get)) (feature_in n f)

-- `isset NODE NAME`
abbrev pub isset_form : List ℕ → List ℕ → Option Form
isset_form n f = option_map (λ p. asks.At p.0 p.1 (feature.Read IsSet)) (feature_in n f)

-- `unset NODE NAME`
abbrev pub unset_form : List ℕ → List ℕ → Option Form
unset_form n f = option_map (λ p. asks.At p.0 p.1 feature.Unset) (feature_in n f)

-- `set NODE NAME VALUE`
abbrev pub set_form : List ℕ → List ℕ → List ℕ → Option Form
set_form n f v = option_map (λ p. asks.At p.0.0 p.0.1 (feature.Set p.1)) (feature_value_in n f v)

-- `add NODE NAME VALUE`
abbrev pub add_form : List ℕ → List ℕ → List ℕ → Option Form
add_form n f v = option_map (λ p. asks.At p.0.0 p.0.1 (feature.Add p.1)) (feature_value_in n f v)

-- `add NODE NAME VALUE N`
abbrev pub add_at_form : List ℕ → List ℕ → List ℕ → List ℕ → Option Form
add_at_form n f v i = option_and_then (λ k. option_map (λ p. asks.At p.0.0 p.0.1 (feature.AddAt k p.1)) (feature_value_in n f v)) (natural_number i)

-- `remove NODE NAME N`
abbrev pub remove_form : List ℕ → List ℕ → List ℕ → Option Form
remove_form n f i = option_map (λ p. asks.At p.0.0 p.0.1 (feature.Remove p.1)) (option_zip (feature_in n f) (natural_number i))

-- `resolve OBJ NAME N`
abbrev pub resolve_form : List ℕ → List ℕ → List ℕ → Option Form
resolve_form o f i = option_map (λ p. asks.At (node.Object p.0.0) p.0.1 (feature.Resolve p.1)) (option_zip (option_zip (object_in o) (name_in f)) (natural_number i))

-- `removevalue NODE NAME VALUE`
abbrev pub removevalue_form : List ℕ → List ℕ → List ℕ → Option Form
removevalue_form n f v = option_map (λ p. asks.At p.0.0 p.0.1 (feature.RemoveValue p.1)) (feature_value_in n f v)

-- `move NODE NAME N N`: the first number is the index to which a value is moved, the second number is the index from which the value is
-- moved
abbrev pub move_form : List ℕ → List ℕ → List ℕ → List ℕ → Option Form
move_form n f to from = option_map (λ p. asks.At p.0.0.0 p.0.0.1 (feature.Move p.0.1 p.1)) (option_zip (option_zip (feature_in n f) (natural_number to)) (natural_number from))

-- whether a word makes a target deep: false for `flat`, true for `deep`, none for any other word
abbrev pub depth_in : List ℕ → Option Bool
depth_in w = if bytes_eq w (codes "flat") then Some false else if bytes_eq w (codes "deep") then Some true else None

-- `attach AD NODE flat` or `attach AD NODE deep`
abbrev pub attach_form : List ℕ → List ℕ → List ℕ → Option Form
attach_form a n d = option_map (λ p. asks.Attach p.0.0 p.0.1 p.1) (option_zip (option_zip (adapter_in a) (node_in n)) (depth_in d))

-- `watch AD NODE flat` or `watch AD NODE deep`
abbrev pub watch_form : List ℕ → List ℕ → List ℕ → Option Form
watch_form a n d = option_map (λ p. asks.Watch p.0.0 p.0.1 p.1) (option_zip (option_zip (adapter_in a) (node_in n)) (depth_in d))

-- `unwatch AD NODE`
abbrev pub unwatch_form : List ℕ → List ℕ → Option Form
unwatch_form a n = option_map (λ p. asks.Unwatch p.0 p.1) (option_zip (adapter_in a) (node_in n))

-- `resolveall`, the only form that is just a verb
abbrev pub lone_verb_form : List ℕ → Option Form
lone_verb_form verb = if bytes_eq verb (codes "resolveall") then Some asks.ResolveAll else None

-- the question that a verb asks about an object; none for any other verb
abbrev pub object_read : List ℕ → Option ObjectRead
object_read verb =
    if bytes_eq verb (codes "class") then Some Class
    else if bytes_eq verb (codes "container") then Some Container
    else if bytes_eq verb (codes "within") then Some Resource
    else if bytes_eq verb (codes "validate") then Some Validate
    else if bytes_eq verb (codes "fragment") then Some Fragment
    else None

-- the form of a verb and one argument, for the verbs whose argument is an object; none for any other verb or argument
abbrev pub with_object : List ℕ → List ℕ → Option Form
with_object verb o =
    if bytes_eq verb (codes "delete") then delete_form o
    else option_and_then (λ q. option_map (λ x. asks.Read (read.Of x q)) (object_in o)) (object_read verb)

-- the form of a verb and one argument, for the verbs whose argument is a node or an adapter; none for any other verb or argument
abbrev pub with_word : List ℕ → List ℕ → Option Form
with_word verb a =
    if bytes_eq verb (codes "save") then save_form a
    else if bytes_eq verb (codes "contents") then contents_form a
    else if bytes_eq verb (codes "detach") then detach_form a
    else if bytes_eq verb (codes "seen") then seen_form a
    else with_object verb a

-- the form of a verb and one argument; none if they fit no form
abbrev pub with_one : List ℕ → List ℕ → Option Form
with_one verb a =
    if bytes_eq verb (codes "new") then new_form a
    else if bytes_eq verb (codes "resource") then resource_form a
    else if bytes_eq verb (codes "at") then at_form a
    else with_word verb a

-- the form of a verb and two arguments; none if they fit no form
abbrev pub with_two : List ℕ → List ℕ → List ℕ → Option Form
with_two verb a b =
    if bytes_eq verb (codes "get") then get_form a b
    else if bytes_eq verb (codes "isset") then isset_form a b
    else if bytes_eq verb (codes "unset") then unset_form a b
    else if bytes_eq verb (codes "unwatch") then unwatch_form a b
    else None

-- the form of a verb and three arguments; none if they fit no form
abbrev pub with_three : List ℕ → List ℕ → List ℕ → List ℕ → Option Form
with_three verb a b c =
    if bytes_eq verb (codes "set") then set_form a b c
    else if bytes_eq verb (codes "attach") then attach_form a b c
    else if bytes_eq verb (codes "add") then add_form a b c
    else if bytes_eq verb (codes "remove") then remove_form a b c
    else if bytes_eq verb (codes "removevalue") then removevalue_form a b c
    else if bytes_eq verb (codes "resolve") then resolve_form a b c
    else if bytes_eq verb (codes "watch") then watch_form a b c
    else None

-- the form of a verb and four arguments; none if they fit no form
abbrev pub with_four : List ℕ → List ℕ → List ℕ → List ℕ → List ℕ → Option Form
with_four verb a b c d =
    if bytes_eq verb (codes "add") then add_at_form a b c d
    else if bytes_eq verb (codes "move") then move_form a b c d
    else None

-- the form of the words of a line: the verb, and then its arguments; none if the words fit no form
abbrev pub form_of : List (List ℕ) → Option Form
form_of (verb ∷ []) = lone_verb_form verb
form_of (verb ∷ a ∷ []) = with_one verb a
form_of (verb ∷ a ∷ b ∷ []) = with_two verb a b
form_of (verb ∷ a ∷ b ∷ c ∷ []) = with_three verb a b c
form_of (verb ∷ a ∷ b ∷ c ∷ d ∷ []) = with_four verb a b c d
form_of _ = None

-- a line that has words, from the form that it fits; bad if it fits no form
abbrev pub line_with : Option Form → Line
line_with None = line.Bad
line_with (Some f) = line.Form f

abbrev pub line_of : List (List ℕ) → Line
line_of [] = line.Blank
line_of ws = line_with (form_of ws)

-- the verb of a line: the bytes after its leading spaces, up to the next space
abbrev pub verb_in : List ℕ → List ℕ
verb_in bytes = before_first is_space (after_spaces bytes)

-- the bytes after the verb and the space that follows it
abbrev pub behind_verb : List ℕ → List ℕ
behind_verb bytes = after_first is_space (after_spaces bytes)

-- `load RES REST`, from RES on: the first space ends RES, and REST is all bytes after that space; without a space there is no form
abbrev pub load_form : List ℕ → Option Form
load_form bytes =
    if list_any is_space bytes then option_map (λ r. asks.Load r (after_first is_space bytes)) (resource_in (before_first is_space bytes))
    else None

-- whether the first word of a line is `load`
abbrev pub is_load : List ℕ → Bool
is_load bytes = bytes_eq (verb_in bytes) (codes "load")

-- whether a line may be a `load` line, by its first byte: a space, or `l`
abbrev pub may_load : List ℕ → Bool
may_load [] = false
may_load (c ∷ cs) = is_space c || nat_eq c 108

-- what a line asks for, if its bytes are UTF-8
abbrev pub text_line : List ℕ → Line
text_line bytes = if is_load bytes then line_with (load_form (after_spaces (behind_verb bytes))) else line_of (words bytes)

-- what the bytes of a line ask for; a line that is not UTF-8 is bad
unfoldable pub form : List ℕ → Line
form bytes = if is_utf8 bytes then text_line bytes else line.Bad
