-- The parts that were found: their levels, their JSON data, their classes and members, and their numbers (`Keys`).
use Rattle.std.specs.Prelude.{◌≡◌, ◌≤◌, ◌&&◌, ◌++◌, ℕ, suc, Bool, false, not, List, [], Option, Some, None, is_some, length, map, option_map, if◌then◌else◌}
use Rattle.std.specs.List.{enumerate_from, list_all}
use Rattle.std.specs.Option.{option_map_or}
use Rattle.serde_json.specs.Data.{Data, Members}
use Rattle.borrowed_json.specs.View.{members_view, view}
use Rattle.json_fields.specs.Fields.{keys_of}
use Rattle.mm_types.specs.Lookups as lookups
use Rattle.mm_types.specs.Resolved.{Metamodel}
use Rattle.mm_types.specs.declared.numbers.ClassNo.{ClassNo}
use Rattle.mm_types.specs.declared.numbers.FeatureNo.{FeatureNo}
use Rattle.web_uris.specs.Paths.{new_path, new_step, with_step}
use Rattle.web_uris.specs.declared.path.Path.{Path}
use Rattle.doc_parts.specs.Faults.{is_misshapen_at, is_readable}
use Rattle.doc_parts.specs.Layout.{written_object}
use Rattle.doc_parts.specs.Parts.{Part, class_and_members, content_at, level_of, new_entry, number_of, parts_from, parts_in}
use Rattle.doc_parts.specs.Keys.{Key, RootKey, UnderKey, number_at, way_of}
use Rattle.doc_parts.specs.declared.found.FoundParts.{FoundParts}
use Rattle.doc_parts.specs.declared.found.Numbers.{Numbers}
use Rattle.doc_parts.specs.declared.found.FoundPart.{FoundPart}

-- a look-up of the keys along a path gives the number of the first part that has the path, or none if no part has the path; no key under a
-- part that is not found yet has a number
pub record Finds (t : Numbers) (ps : List Part) : Type 0 where
  pub ways : (q : Path) → way_of (number_at t) q ≡ number_of ps q
  pub below : (n : ℕ) (w : List ℕ) (i : Option ℕ) → length ps ≤ n → number_at t (UnderKey n w i) ≡ None

-- the key belongs to the path: the key of a root belongs to the path of that root; a key under the part with the number n belongs to the
-- path of that part with the step of the key added
abbrev pub IsPlaced : List Part → Key → Path → Type 0
IsPlaced ps (RootKey i) path = path ≡ new_path i []
IsPlaced ps (UnderKey n w i) path = (above : Path) × (number_of ps above ≡ Some n) × (path ≡ with_step above (new_step w i))

pub record Seen : Type 0 where
  pub level : ℕ
  pub json : Data
  pub known : Option (ClassNo × Members)
  pub number : Option ℕ

-- the part p as a search records it; its number is the index of the first part of ps that has the same path as p
abbrev pub seen_part : Metamodel → List Part → Part → Seen
seen_part m ps p = record { level = level_of p; json = p.json; known = class_and_members m p.json; number = number_of ps p.path }

abbrev pub part_seen : FoundPart → Seen
part_seen r =
    record {
      level = r.level;
      json = view r.json.now;
      known = option_map (λ k. (k.0, members_view k.1.now)) r.known;
      number = Some r.number;
    }

-- f has exactly the parts ps, in the same order and with their classes in the metamodel m, and finds their numbers by their keys
pub record Knows (m : Metamodel) (f : FoundParts) (ps : List Part) : Type 0 where
  pub parts : map part_seen f.parts.items ≡ map (seen_part m ps) ps
  pub finds : Finds f.numbers ps

---------------------------------------------------------------- tests of a part, by what was seen of it

abbrev pub looks_misshapen : Seen → Bool
looks_misshapen s = not (is_some s.known) && is_misshapen_at s.level s.json

-- whether a part is an object whose class is unknown or abstract
abbrev pub lacks_class : Metamodel → Seen → Bool
lacks_class m s = option_map_or (λ k. not (lookups.is_concrete m k.0)) s.known (is_some (written_object s.json))

abbrev pub has_other_member : Metamodel → Seen → Bool
has_other_member m s = option_map_or (λ k. not (list_all (is_readable m k.0) (keys_of k.1))) s.known false

abbrev pub conforms_seen : Metamodel → ClassNo → Seen → Bool
conforms_seen m target s = option_map_or (λ k. lookups.conforms m k.0 target) s.known false

---------------------------------------------------------------- what is below a part

-- the parts directly under the part with the path `path`, for one feature of that part: `name` is the name of the feature, `single` says
-- whether the feature is single, and ds are its values. Each value gives one part
abbrev pub parts_under : Path → List ℕ → Bool → List Data → List Part
parts_under path name single ds =
    map (λ v. record { path = with_step path (new_step name (if single then None else Some v.0)); json = v.1 }) (enumerate_from 0 ds)

abbrev pub parts_at : Metamodel → Path → Members → FeatureNo → List Part
parts_at m path ms f = option_map_or (λ d. parts_in m path (new_entry f d)) (content_at m ms f) []

-- `old` are the found parts before a search, and `new` the found parts after it. For a part p of `old` with the number `number`, the search
-- adds the parts that `more` gives for the path of p; `level` is one more than the level of p
abbrev pub FindsBelow : Metamodel → FoundParts → FoundParts → ℕ → ℕ → (Path → List Part) → Type 0
FindsBelow m old new number level more =
    (ps : List Part) (p : Part) → Knows m old ps → number_of ps p.path ≡ Some number → level ≡ suc (level_of p) → Knows m new (ps ++ more p.path)

-- `old` are the found parts before a search, and `new` the found parts after it. The search adds the part p and the parts below p, at most
-- n levels in all; k is the key of p, `level` its level, and d its data
abbrev pub Walks : Metamodel → ℕ → FoundParts → FoundParts → Key → ℕ → Data → Type 0
Walks m n old new k level d =
    (ps : List Part) (p : Part) → Knows m old ps → IsPlaced ps k p.path → level ≡ level_of p → d ≡ p.json → Knows m new (ps ++ parts_from m n p)

-- the roots of a document as parts; ds are the data of the roots, in order
abbrev pub roots_from : List Data → List Part
roots_from ds = map (λ v. record { path = new_path v.0 []; json = v.1 }) (enumerate_from 0 ds)
