-- The first place at which a condition applies, if no condition with a lower number applies anywhere.
use Rattle.std.specs.Prelude.{ℕ, ◌<◌, length, slice_get, Option, MatchOption}
use Rattle.std.specs.Option.{option_map_or}
use Rattle.mm_types.specs.Faults.{condition_number}
use Rattle.mm_types.specs.Raw.{RawMetamodel}
use Rattle.mm_types.specs.WellFormed.{Applies, IsBefore}
use Rattle.mm_types.specs.declared.meta_fault.Condition.{Condition}
use Rattle.mm_types.specs.declared.meta_fault.Place.{Place}
use Rattle.mm_types.specs.declared.meta_fault.Place.TheVariants as place
use Rattle.mm_graph.specs.First.{HoldsOfNone}

-- no condition whose number is lower than n applies anywhere
abbrev pub NoneBelow : RawMetamodel → ℕ → Type 0
NoneBelow raw n = (l : Condition) (q : Place) → condition_number l < n → Applies raw l q → ⊥

abbrev pub NoneBefore : RawMetamodel → Condition → Type 0
NoneBefore raw k = NoneBelow raw (condition_number k)

-- the least number for which P holds; none if P holds for no number
abbrev pub IsLeast : (ℕ → Type 0) → Option ℕ → Type 0
IsLeast P found = MatchOption found ((i : ℕ) → P i → ⊥) (λ i. P i × HoldsOfNone P i)

-- the condition k applies at the place p, and applies at no place before p
pub record IsFirstAt (raw : RawMetamodel) (k : Condition) (p : Place) : Type 0 where
  pub applies : Applies raw k p
  pub none_before : (q : Place) → Applies raw k q → IsBefore q p → ⊥

abbrev pub IsFirstPlace : RawMetamodel → Condition → Option Place → Type 0
IsFirstPlace raw k found = MatchOption found ((p : Place) → Applies raw k p → ⊥) (IsFirstAt raw k)

abbrev pub AppliesToNoEnum : RawMetamodel → Condition → Type 0
AppliesToNoEnum raw k = (i : ℕ) → Applies raw k (place.Enum i) → ⊥

-- a condition applies to none of the first n classes, and to none of the features that these classes declare
pub record AppliesToNone (raw : RawMetamodel) (k : Condition) (n : ℕ) : Type 0 where
  pub to_class : (c : ℕ) → c < n → Applies raw k (place.Class c) → ⊥
  pub to_feature : (c i : ℕ) → c < n → Applies raw k (place.Feature c i) → ⊥

-- how many features the class at the index c declares; 0 if there is no such class
abbrev pub feature_count : RawMetamodel → ℕ → ℕ
feature_count raw c = option_map_or (λ k. length k.features) (slice_get raw.classes c) 0
