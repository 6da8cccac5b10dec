-- The opposite of a reference, found by name.
use Rattle.std.specs.Prelude.{ℕ, ◌≡◌, ◌==◌, ◌&&◌, ◌||◌, not, Bool, true, false, List, Option, Some, None, option_and_then, is_some, if◌then◌else◌}
use Rattle.std.specs.Option.{option_map_or}
use Rattle.mm_types.specs.Raw.{RawMetamodel}
use Rattle.mm_types.specs.Resolved.{class_named, own_position}
use Rattle.mm_types.specs.WellFormed.{feature_at, is_containment, is_reference, opposite_name, test_feature_at}
use Rattle.mm_types.specs.declared.raw.RawFeature.{RawFeature}

-- the reference with a given name that the class d declares, as the pair of d and its index there; none if the first feature with this name
-- that d declares is no reference, or if there is no feature with this name
abbrev pub reference_named : RawMetamodel → ℕ → List ℕ → Option (ℕ × ℕ)
reference_named raw d name =
    option_and_then (λ j. if test_feature_at (λ f. is_reference f.kind) raw d j then Some (d, j) else None) (own_position raw.classes d name)

abbrev pub opposite_of : RawMetamodel → RawFeature → Option (ℕ × ℕ)
opposite_of raw f = option_and_then (λ name. option_and_then (λ d. reference_named raw d name) (class_named raw.classes f.type_name)) (opposite_name f.kind)

-- the reference that the feature at index i of class c names as its opposite, as the pair of a class and an index; none if the feature
-- names no opposite, or if the class that is its type does not declare a reference with the name
abbrev pub opposite_at : RawMetamodel → ℕ → ℕ → Option (ℕ × ℕ)
opposite_at raw c i = option_and_then (opposite_of raw) (feature_at raw c i)

abbrev pub is_at : ℕ → ℕ → ℕ × ℕ → Bool
is_at c i p = p.0 == c && p.1 == i

-- whether the opposite that the reference at index i of class c names is this reference itself, or does not name this reference as its own
-- opposite; p is the class and the index of the named opposite
abbrev pub leads_astray : RawMetamodel → ℕ → ℕ → ℕ × ℕ → Bool
leads_astray raw c i p = is_at c i p || not (option_map_or (is_at c i) (opposite_at raw p.0 p.1) false)

abbrev pub lacks_opposite : RawMetamodel → ℕ → ℕ → Bool
lacks_opposite raw c i =
    test_feature_at (λ f. is_some (opposite_name f.kind)) raw c i && option_map_or (leads_astray raw c i) (opposite_at raw c i) true

abbrev pub is_container_at : RawMetamodel → ℕ → ℕ → Bool
is_container_at raw c i = option_map_or (λ p. test_feature_at (λ f. is_containment f.kind) raw p.0 p.1) (opposite_at raw c i) false

-- no class declares two features of one name; features that the class only inherits are not looked at
abbrev pub NamesAreUnique : RawMetamodel → Type 0
NamesAreUnique raw = (c i j : ℕ) (f g : RawFeature) → feature_at raw c i ≡ Some f → feature_at raw c j ≡ Some g → f.name ≡ g.name → i ≡ j
