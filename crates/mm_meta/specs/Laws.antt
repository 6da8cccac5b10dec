-- What holds of the classes and the references of every metamodel that a document gives.
use Rattle.std.specs.Prelude.{◌≡◌, ◌<◌, ◌≤◌, ◌⊎◌, ◌↔◌, Bool, true, false, length, Option, Some}
use Rattle.std.specs.Option.{option_map_or}
use Rattle.mm_types.specs.Lookups.{ConformsTo, conforms, has_feature, takes}
use Rattle.mm_types.specs.Resolved.{Metamodel}
use Rattle.mm_types.specs.Shapes.{shape}
use Rattle.mm_types.specs.declared.numbers.ClassNo.{ClassNo}
use Rattle.mm_types.specs.declared.numbers.FeatureNo.{FeatureNo}
use Rattle.mm_types.specs.declared.numbers.ObjectNo.{ObjectNo}
use Rattle.mm_types.specs.declared.value.Value.TheVariants.{Object}

-- what holds of f and g if g is the opposite of f: the opposite of g is f; f and g are different references of the metamodel; and either
-- both have the same containing feature, or neither has one
pub record IsPair (m : Metamodel) (f g : FeatureNo) : Type 0 where
  pub back : (shape m g).opposite ≡ Some f
  pub apart : (g.0 ≡ f.0) → ⊥
  pub one_containing : (shape m f).containing ≡ (shape m g).containing
  pub near_refers : (shape m f).is_reference ≡ true
  pub far_refers : (shape m g).is_reference ≡ true
  pub near_there : f.0 < length m.features
  pub far_there : g.0 < length m.features

abbrev pub OppositesArePairs : Metamodel → Type 0
OppositesArePairs m = (f g : FeatureNo) → (shape m f).opposite ≡ Some g → IsPair m f g

-- f is a container reference: f is single, and the opposite of f is a different reference h, which is a containment
pub record IsContainerOf (m : Metamodel) (f h : FeatureNo) : Type 0 where
  pub opposite : (shape m f).opposite ≡ Some h
  pub single : (shape m f).is_single ≡ true
  pub apart : (h.0 ≡ f.0) → ⊥
  pub contains : (shape m h).containing ≡ Some h

-- if the links of a feature f have a containing feature h, then either h is f itself, or f is a container reference and h is the opposite
-- of f. The feature f may also be `contents`; then h is `contents`
abbrev pub ContainingIsKnown : Metamodel → Type 0
ContainingIsKnown m = (f h : FeatureNo) → f.0 ≤ length m.features → (shape m f).containing ≡ Some h → (h ≡ f) ⊎ IsContainerOf m f h

-- whether the class of an object has a feature; false if the object has no class
abbrev pub class_has : Metamodel → (ObjectNo → Option ClassNo) → ObjectNo → FeatureNo → Bool
class_has m class_of o f = option_map_or (λ c. has_feature m c f) (class_of o) false

-- the objects that a reference with an opposite takes are exactly those whose classes have the opposite
abbrev pub TakesWhatHasTheOpposite : Metamodel → Type 0
TakesWhatHasTheOpposite m =
    (class_of : ObjectNo → Option ClassNo) (o : ObjectNo) (f g : FeatureNo) → (shape m f).opposite ≡ Some g → takes m class_of f (Object o) ≡ class_has m class_of o g

-- f is a reference with the opposite g. If the class of an object p has f, and f takes an object o, then the class of o has g, and g takes
-- p
abbrev pub FarTypesFit : Metamodel → Type 0
FarTypesFit m =
    (class_of : ObjectNo → Option ClassNo) (p o : ObjectNo) (f g : FeatureNo) → (shape m f).opposite ≡ Some g
    → class_has m class_of p f ≡ true → takes m class_of f (Object o) ≡ true
    → (class_has m class_of o g ≡ true) × (takes m class_of g (Object p) ≡ true)

-- `conforms`, which is computed, is true exactly if `ConformsTo` holds
abbrev pub ConformanceIsComputed : Metamodel → Type 0
ConformanceIsComputed m = (sub sup : ClassNo) → (conforms m sub sup ≡ true) ↔ ConformsTo m sub sup
