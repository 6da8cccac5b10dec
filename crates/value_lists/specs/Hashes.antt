-- How many values of a list have each hash.
use Rattle.std.specs.Prelude.{◌≡◌, ℕ, ◌++◌, Bool, false, List, slice_get, fold, count_by, nat_eq, min, Option, Some, None}
use Rattle.std.specs.Option.{option_map_or}
use Rattle.mm_types.specs.Same.{same_value}
use Rattle.slot_lists.specs.Places.{Places}
use Rattle.std.specs.Hash as fed
use Rattle.std.specs.Hash.DefaultHasher as sip
use Rattle.indexmap.specs.IndexMap.{get, spare}
use Rattle.mm_types.specs.declared.value.Value.{Value}
use Rattle.mm_types.specs.declared.value.Value.TheVariants as value
use Rattle.value_lists.specs.declared.hash_counts.Counted.{Counted}
use Rattle.value_lists.specs.declared.hash_counts.HashCounts.{HashCounts}

-- what a hasher is fed for a value: a number for the kind of the value, and its content
abbrev pub fed_by : Value → fed.HashWrites
fed_by value.Null = fed.u8 0
fed_by (value.Bool b) = fed.u8 1 ++ fed.bool b
fed_by (value.Int n) = fed.u8 2 ++ fed.i64 n
fed_by (value.Text t) = fed.u8 3 ++ fed.str t
fed_by (value.Literal k) = fed.u8 4 ++ fed.u32 k
fed_by (value.Object o) = fed.u8 5 ++ fed.u32 o.0
fed_by (value.Proxy t) = fed.u8 6 ++ fed.str t

unfoldable pub hash_of : Value → ℕ
hash_of v = sip.finish (fold sip.write sip.initial (fed_by v))

abbrev pub has_hash : ℕ → Value → Bool
has_hash h v = nat_eq (hash_of v) h

abbrev pub count_of : Option Counted → ℕ
count_of None = 0
count_of (Some c) = c.count

-- how many values a table counts for a hash
abbrev pub count_in : HashCounts → ℕ → ℕ
count_in t h = count_of (get nat_eq t.counts h)

-- the table t has the right counts: for each hash, the number of values of the list vs that have the hash
abbrev pub Counts : HashCounts → List Value → Type 0
Counts t vs = (h : ℕ) → count_in t h ≡ count_by (has_hash h) vs

-- whether the value at the index i of the list vs is the same as v; false if no value is there
abbrev pub is_at : Value → ℕ → List Value → Bool
is_at v i vs = option_map_or (same_value v) (slice_get vs i) false

-- a list of values with its capacity
abbrev pub ValuePlaces : Type 0
ValuePlaces = Places Value

-- what contracts see of a list with its table: the values of the list p, and as capacity the smaller one of the capacities of the list and
-- of the table t, since each insert needs capacity in both
abbrev pub places_in_both : ValuePlaces → HashCounts → ValuePlaces
places_in_both p t = record { items = p.items; spare = min p.spare (spare t.counts) }
