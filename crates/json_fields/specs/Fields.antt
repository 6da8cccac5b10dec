-- A layout is a list of fields. A field describes a key that an object may have: whether the key is required, and how the value of the key
-- is read.
use Rattle.std.specs.Prelude.{ℕ, ◌≡◌, ◌&&◌, ◌++◌, ℤ, Bool, true, false, List, [], ◌∷◌, Option, Some, None, Result, Ok, Err, if◌then◌else◌, option_and_then, option_map}
use Rattle.std.specs.List.{list_any}
use Rattle.std.specs.Str.{bytes_eq}
use Rattle.serde_json.specs.Data.{Data, Items, no_items, item, Members, no_members, member}
use Rattle.serde_json.specs.Find.{as_array, as_bool, as_i64, as_number, as_object, as_str, get, get_member}
use Rattle.mm_types.specs.Integers.{is_of_bits}
use Rattle.json_fields.specs.declared.read_fault.ReadFault.{ReadFault}
use Rattle.json_fields.specs.declared.read_fault.ReadFault.TheVariants.{Layout, Memory}

infixl 10 ◌>>=◌
abbrev pub ◌>>=◌ : {A B : Type 0} → Option A → (A → Option B) → Option B
o >>= f = option_and_then f o

-- What a function that reads JSON returns: the value in `reading`, or the fault `Layout` if `reading` is none. The function may return the
-- fault `Memory` instead, whatever `reading` is.
abbrev pub Gives : {X : Type 0} → Result X ReadFault → Option X → Type 0
Gives (Ok x) reading = reading ≡ Some x
Gives (Err Layout) reading = reading ≡ None
Gives (Err Memory) reading = Unit {0}

-- the value in o if it passes the test `passes`; none if it does not, or if o is none
infixl 5 ◌such_that◌
abbrev pub ◌such_that◌ : {X : Type 0} → Option X → (X → Bool) → Option X
o such_that passes = option_and_then (λ x. if passes x then Some x else None) o

-- ---- values

-- a text
abbrev pub text : Data → Option (List ℕ)
text = as_str

-- `Some` of the value that `reading` reads; none if `reading` reads none. For a field whose key may be absent: the value of the field can
-- then be `None` if the key is absent
abbrev pub given_value : {X : Type 0} → (Data → Option X) → Data → Option (Option X)
given_value reading d = option_map Some (reading d)

-- true or false
abbrev pub flag : Data → Option Bool
flag = as_bool

-- a whole number of 32 bits, signed
abbrev pub whole_number : Data → Option ℤ
whole_number d = as_number d >>= as_i64 such_that is_of_bits 32

-- a whole number of 64 bits, signed
abbrev pub whole_number_of_64 : Data → Option ℤ
whole_number_of_64 d = as_number d >>= as_i64 such_that is_of_bits 64

-- reads only the text `wanted`: `Some tt` for this text, and none for any other value
abbrev pub word : List ℕ → Data → Option (Unit {0})
word wanted d = do
  found ← as_str d
  if bytes_eq found wanted then Some tt else None

-- the values of all items, each read in turn; none if an item can't be read
abbrev pub each : {X : Type 0} → (Data → Option X) → Items → Option (List X)
each reading no_items = Some []
each reading (item d ds) = do
  x ← reading d
  xs ← each reading ds
  Some (x ∷ xs)

-- an array whose items are read one by one
abbrev pub array_of : {X : Type 0} → (Data → Option X) → Data → Option (List X)
array_of reading d = as_array d >>= each reading

abbrev pub if_any : {X : Type 0} → List X → Option (List X)
if_any [] = None
if_any (x ∷ xs) = Some (x ∷ xs)

-- an array of at least one item
abbrev pub array_of_some : {X : Type 0} → (Data → Option X) → Data → Option (List X)
array_of_some reading d = array_of reading d >>= if_any

-- ---- fields

abbrev pub or_absent : {X : Type 0} → (Data → Option X) → X → Option Data → Option X
or_absent reading absent None = Some absent
or_absent reading absent (Some d) = reading d

abbrev pub required_at : {X : Type 0} → List ℕ → (Data → Option X) → Data → Option X
required_at key reading d = get key d >>= reading

abbrev pub optional_at : {X : Type 0} → List ℕ → (Data → Option X) → X → Data → Option X
optional_at key reading absent d = or_absent reading absent (get key d)

-- the keys of some fields, and what the fields read from an object
pub record Fields (X : Type 0) : Type 0 where
  pub keys : List (List ℕ)
  pub reading : Data → Option X

-- a field whose key has to be there; nothing is read from an object without the key
abbrev pub required_field : {X : Type 0} → List ℕ → (Data → Option X) → Fields X
required_field key reading = record { keys = key ∷ []; reading = required_at key reading }

-- a field whose key may be absent; `absent` is the value of the field if the key is absent
abbrev pub optional_field : {X : Type 0} → List ℕ → (Data → Option X) → X → Fields X
optional_field key reading absent = record { keys = key ∷ []; reading = optional_at key reading absent }

-- a layout without fields, which gives x; if fields are added with `also`, x is a function of the values that these fields read
abbrev pub makes : {X : Type 0} → X → Fields X
makes x = record { keys = []; reading = λ d. Some x }

-- adds a field: `fields` reads a function from an object, `field` reads a value from the same object, and the function is applied to the
-- value; none if one of the two reads none
infixl 10 ◌also◌
abbrev pub ◌also◌ : {A B : Type 0} → Fields (A → B) → Fields A → Fields B
fields also field = record {
  keys = fields.keys ++ field.keys;
  reading = λ d. do
    f ← fields.reading d
    a ← field.reading d
    Some (f a);
}

-- ---- objects

abbrev pub keys_of : Members → List (List ℕ)
keys_of no_members = []
keys_of (member k d ms) = k ∷ keys_of ms

-- whether each key of an object is among the names
abbrev pub only_keys : List (List ℕ) → Members → Bool
only_keys names no_members = true
only_keys names (member k d ms) = list_any (λ n. bytes_eq n k) names && only_keys names ms

abbrev pub object_has_only : List (List ℕ) → Option Members → Bool
object_has_only names (Some ms) = only_keys names ms
object_has_only names None = false

-- whether a value is an object whose keys are all among the names
abbrev pub has_only : List (List ℕ) → Data → Bool
has_only names d = object_has_only names (as_object d)

-- what the fields read from an object that has only keys of the fields; none for any other value
abbrev pub object_of : {X : Type 0} → Fields X → Data → Option X
object_of fields d = if has_only fields.keys d then fields.reading d else None

-- a key that is not among `names` has the same value in the objects `old` and `new`, or is absent in both
abbrev pub KeepsOthers : List (List ℕ) → Members → Members → Type 0
KeepsOthers names old new = (k : List ℕ) → list_any (λ n. bytes_eq n k) names ≡ false → get_member k new ≡ get_member k old
