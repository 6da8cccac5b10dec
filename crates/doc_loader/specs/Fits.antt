-- Documents within the limits: their objects get numbers below OBJECTS, and no list has more than LIST_VALUES values.
use Rattle.std.specs.Prelude.{ℕ, ◌+◌, ◌<◌, ◌≤◌, length}
use Rattle.std.specs.List.{All}
use Rattle.mm_types.specs.declared.limits.TheConstants.{LIST_VALUES, OBJECTS}
use Rattle.mm_types.specs.declared.numbers.ObjectNo.{ObjectNo}
use Rattle.mm_types.specs.declared.value.Value.{Value}
use Rattle.mm_types.specs.declared.value.Value.TheVariants as value
use Rattle.resource_docs.specs.declared.doc.Content.{Content}
use Rattle.resource_docs.specs.declared.doc.Doc.{Doc}
use Rattle.resource_docs.specs.declared.doc.DocObject.{DocObject}

-- if the first object of a document gets the number n, the object o of the document gets a number below OBJECTS
abbrev pub IsNumbered : ℕ → ObjectNo → Type 0
IsNumbered n o = n + o.0 < OBJECTS

abbrev pub IsValueNumbered : ℕ → Value → Type 0
IsValueNumbered n (value.Object o) = IsNumbered n o
IsValueNumbered n _ = Unit {0}

pub record IsFittingContent (n : ℕ) (c : Content) : Type 0 where
  pub few : length c.values ≤ LIST_VALUES
  pub numbered : All (IsValueNumbered n) c.values

abbrev pub IsFittingObject : ℕ → DocObject → Type 0
IsFittingObject n o = All (IsFittingContent n) o.contents

abbrev pub IsShort : Content → Type 0
IsShort c = length c.values ≤ LIST_VALUES

abbrev pub IsShortObject : DocObject → Type 0
IsShortObject o = All IsShort o.contents

-- the document is within the limits, if its first object gets the number n: all its objects, and all objects that it names as roots or as
-- values, get numbers below OBJECTS; and no list has more than LIST_VALUES values
pub record IsFitting (n : ℕ) (doc : Doc) : Type 0 where
  pub room : n + length doc.objects ≤ OBJECTS
  pub objects : All (IsFittingObject n) doc.objects
  pub few : length doc.roots ≤ LIST_VALUES
  pub roots : All (IsNumbered n) doc.roots
