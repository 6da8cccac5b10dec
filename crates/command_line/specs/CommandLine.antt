-- The program's command line, as clap sees it.
use Rattle.std.specs.Prelude.{◌≡◌, Bool, false, true, List, [], ◌∷◌, Some, codes, fold, map, option_map, unwrap_or}
use Rattle.std.specs.Borrow.{Bor}
use Rattle.std.specs.Option.{option_map_or}
use Rattle.std.specs.Str.{bytes_eq}
use Rattle.clap.specs.Simple.{on_top}
use Rattle.clap.specs.Words.{App, Row, Rule, Text, all_of, first_of, new_app, new_rule, with_rule}
use Rattle.clap.specs.declared.builder.action.ArgAction.TheVariants.{Append, Set, SetTrue}
use Rattle.command_line.specs.declared.arguments.Options.{Options}

-- `--meta FILE`, which is required
abbrev pub meta : Rule
meta = record (new_rule (codes "meta")) {
  long = Some (codes "meta");
  action = Some Set;
  required = true;
  value_names = 1;
}

-- an option that takes a file
abbrev pub file : Text → Rule
file name = record (new_rule name) { long = Some name; action = Some Set; value_names = 1 }

-- an option that takes a value of the form `URI=FILE`, and may be given several times
abbrev pub each : Text → Rule
each name = record (new_rule name) { long = Some name; action = Some Append; value_names = 1 }

-- an option that takes no value
abbrev pub flag : Text → Rule
flag name = record (new_rule name) { long = Some name; action = Some SetTrue }

abbrev pub options : List Rule
options = meta ∷ file (codes "script") ∷ each (codes "load") ∷ each (codes "save") ∷ flag (codes "echo") ∷ flag (codes "number") ∷ flag (codes "stop") ∷ flag (codes "strict")
    ∷ flag (codes "live") ∷ file (codes "journal") ∷ flag (codes "explain") ∷ []

-- a command line with `--version`, an option that clap adds
abbrev pub with_version : App → App
with_version a = on_top (λ s. record s { has_version = true }) a

abbrev pub program : App
program = fold with_rule (with_version (new_app (codes "mmrepo"))) options

abbrev pub texts : List (Bor Text) → List Text
texts = map (λ s. s.now)

-- whether the words give an option that takes no value
abbrev pub is_set : Text → List Row → Bool
is_set name rows = option_map_or (λ value. bytes_eq value (codes "true")) (first_of name rows) false

-- the values that the words give to an option, in the order of the words
abbrev pub values : Text → List Row → List Text
values name rows = unwrap_or (all_of name rows) []

-- the options o have what the words give; `rows` has the words as clap reads them. Of `--load` and `--save`, o has all values; of each
-- other option with a value, o has the first value; of each option without a value, o has whether the words give the option
pub record AreGiven (o : Options) (rows : List Row) : Type 0 where
  pub meta : first_of (codes "meta") rows ≡ Some o.meta.now
  pub script : first_of (codes "script") rows ≡ option_map (λ s. s.now) o.script
  pub load : map (λ s. s.now) o.load.items ≡ values (codes "load") rows
  pub save : map (λ s. s.now) o.save.items ≡ values (codes "save") rows
  pub echo : o.dress.echo ≡ is_set (codes "echo") rows
  pub number : o.dress.number ≡ is_set (codes "number") rows
  pub stop : o.dress.stop ≡ is_set (codes "stop") rows
  pub strict : o.strict ≡ is_set (codes "strict") rows
  pub live : o.live ≡ is_set (codes "live") rows
  pub journal : first_of (codes "journal") rows ≡ option_map (λ s. s.now) o.journal
  pub explain : o.explain ≡ is_set (codes "explain") rows
