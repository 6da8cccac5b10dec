-- The verbs of the most frequent lines.
use Rattle.std.specs.Prelude.{ℕ, nat_eq, List, Option, Some, None, codes, if◌then◌else◌}
use Rattle.std.specs.List.{starts_with}
use Rattle.frequent_lines.specs.declared.verbs.LongVerb.{LongVerb}
use Rattle.frequent_lines.specs.declared.verbs.LongVerb.TheVariants as long
use Rattle.frequent_lines.specs.declared.verbs.ShortVerb.{ShortVerb}
use Rattle.frequent_lines.specs.declared.verbs.ShortVerb.TheVariants as short

-- the word of a verb
abbrev pub short_verb : ShortVerb → List ℕ
short_verb short.New = codes "new"
short_verb short.Get = codes "get"
short_verb short.Set = codes "set"
short_verb short.Add = codes "add"

abbrev pub long_verb : LongVerb → List ℕ
long_verb long.IsSet = codes "isset"
long_verb long.Unset = codes "unset"
long_verb long.Remove = codes "remove"
long_verb long.RemoveValue = codes "removevalue"
long_verb long.Move = codes "move"
long_verb long.Resolve = codes "resolve"

-- the verb of three letters that a line begins with, if a space follows it
abbrev pub short_verb_in : List ℕ → Option ShortVerb
short_verb_in line =
    if starts_with nat_eq line (codes "new ") then Some short.New
    else if starts_with nat_eq line (codes "get ") then Some short.Get
    else if starts_with nat_eq line (codes "set ") then Some short.Set
    else if starts_with nat_eq line (codes "add ") then Some short.Add
    else None

-- the `LongVerb` that a line begins with, if a space follows it
abbrev pub long_verb_in : List ℕ → Option LongVerb
long_verb_in line =
    if starts_with nat_eq line (codes "isset ") then Some long.IsSet
    else if starts_with nat_eq line (codes "unset ") then Some long.Unset
    else if starts_with nat_eq line (codes "remove ") then Some long.Remove
    else if starts_with nat_eq line (codes "removevalue ") then Some long.RemoveValue
    else if starts_with nat_eq line (codes "move ") then Some long.Move
    else if starts_with nat_eq line (codes "resolve ") then Some long.Resolve
    else None
