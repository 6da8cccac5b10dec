-- Features by their names: for each name the first feature, and for each feature the next feature of the same name.
use Rattle.std.specs.Prelude.{◌≡◌, ◌<◌, ◌≤◌, ℕ, suc, false, List, [], length, slice_get, Option, Some}
use Rattle.std.specs.List.{slice_index_or}
use Rattle.mm_types.specs.Lookups.{feature_by_name, feature_name, has_feature}
use Rattle.mm_types.specs.Resolved.{Metamodel, class_no, feature_no}
use Rattle.mm_types.specs.declared.numbers.ClassNo.{ClassNo}
use Rattle.mm_types.specs.declared.numbers.FeatureNo.{FeatureNo}
use Rattle.mm_meta.specs.NameTable.{IsTableOf}
use Rattle.mm_meta.specs.declared.feature_names.FeatureNames.{FeatureNames}

-- g is the first position of `name` at or after `from`, or the length of `names` if there is none
pub record IsNext (names : List (List ℕ)) (name : List ℕ) (from g : ℕ) : Type 0 where
  pub behind : from ≤ g
  pub within : g ≤ length names
  pub none_between : (h : ℕ) → from ≤ h → h < g → slice_index_or names h [] ≡ name → ⊥
  pub here : g < length names → slice_index_or names g [] ≡ name

pub record AreFeatureNames (n : FeatureNames) (names : List (List ℕ)) : Type 0 where
  pub finds : IsTableOf n.first names
  pub long : length n.next.items ≡ length names
  pub next : (f : ℕ) → f < length names → IsNext names (slice_index_or names f []) (suc f) (slice_index_or n.next.items f 0)

-- a search for the feature of a class by name has reached the position `at`: the feature at that position, if there is one, has the name;
-- the class has no feature with that name at an earlier position
pub record ComesTo (m : Metamodel) (c : ClassNo) (name : List ℕ) (at : ℕ) : Type 0 where
  pub passed : (h : ℕ) → h < at → feature_name m (feature_no h) ≡ name → has_feature m c (feature_no h) ≡ false
  pub here : at < length m.features → feature_name m (feature_no at) ≡ name

-- by_class is a list by class number: for each class it has the feature of the class with the given name, or none if the class has no such
-- feature; the list may end before the last class
abbrev pub IsRow : Metamodel → List ℕ → List (Option FeatureNo) → Type 0
IsRow m name by_class = (c : ℕ) (found : Option FeatureNo) → slice_get by_class c ≡ Some found → found ≡ feature_by_name m (class_no c) name

-- rows by feature number. At the number of a class, the row of a feature f has the feature of this class that has the name of f; none if
-- the class has no feature with this name. A row may be empty or end before the last class, and there may be no rows for the last features
abbrev pub AreRows : Metamodel → List (List (Option FeatureNo)) → Type 0
AreRows m rows = (f : ℕ) → f < length rows → IsRow m (feature_name m (feature_no f)) (slice_index_or rows f [])
