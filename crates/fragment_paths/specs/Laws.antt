-- Laws on fragments in legal models: each object that is in a resource has a path, a fragment and an address, and each of the three leads
-- to that object. The path and the fragment depend only on containment, and the address depends only on containment and on the URIs of the
-- resources.
use Rattle.std.specs.Prelude.{◌≡◌, ℕ, true, slice_get, Some, option_and_then}
use Rattle.mm_types.specs.Lookups as lookups
use Rattle.mm_types.specs.Resolved.{Metamodel}
use Rattle.mm_types.specs.Shapes.{is_containment}
use Rattle.mm_types.specs.declared.numbers.FeatureNo.{FeatureNo}
use Rattle.mm_types.specs.declared.numbers.Node.{Node}
use Rattle.mm_types.specs.declared.numbers.Node.TheVariants as node
use Rattle.mm_types.specs.declared.numbers.ObjectNo.{ObjectNo}
use Rattle.mm_types.specs.declared.numbers.ResourceNo.{ResourceNo}
use Rattle.mm_types.specs.declared.value.Value.TheVariants as value
use Rattle.mm_values.specs.Values.{ValuesState}
use Rattle.links.specs.Holders.{above}
use Rattle.links.specs.Links.{Links}
use Rattle.models.specs.Model.{model_of, reading, values_at}
use Rattle.models.specs.Reading.{Reading, at_end}
use Rattle.containment.specs.Above.{resource_of}
use Rattle.fragment_paths.specs.Finding.{at, find, found_by}
use Rattle.fragment_paths.specs.Fragments as fragments

pub record IsFound (r : Reading) (o : ObjectNo) (k : ResourceNo) : Type 0 where
  pub by_path : option_and_then (find r k) (fragments.path_of r o) ≡ Some o
  pub by_fragment : option_and_then (found_by r k) (fragments.fragment r o) ≡ Some o
  pub by_address : option_and_then (at r) (fragments.address r o) ≡ Some o

-- each object that is in a resource is found there by its path and by its fragment, and is found by its address
abbrev pub FindsEach : Reading → Type 0
FindsEach r = (o : ObjectNo) (k : ResourceNo) → resource_of r.above o ≡ Some k → IsFound r o k

---------------------------------------------------------------- two models of one metamodel

-- each end of a containment holds the same values in both models
abbrev pub HaveSameParts : Metamodel → ValuesState → ValuesState → Links → Links → Type 0
HaveSameParts m v w a b = (n : Node) (f : FeatureNo) → is_containment m f ≡ true → values_at (model_of m w b) (at_end n f) ≡ values_at (model_of m v a) (at_end n f)

-- in both models, each node has the same nodes above it, and each object has the same fragment; if both models have the same URIs, each
-- object has the same address too
pub record LeavesAddresses (m : Metamodel) (v w : ValuesState) (a b : Links) : Type 0 where
  pub above : (n : Node) → above b n ≡ above a n
  pub fragment : (o : ObjectNo) → fragments.fragment (reading (model_of m w b)) o ≡ fragments.fragment (reading (model_of m v a)) o
  pub address : w.uris ≡ v.uris → (o : ObjectNo) → fragments.address (reading (model_of m w b)) o ≡ fragments.address (reading (model_of m v a)) o

-- the image of each root of resource k of the first model is a root of resource j of the second model, at the same position
abbrev pub HasImagesOfRoots : Metamodel → ValuesState → ValuesState → Links → Links → ResourceNo → ResourceNo → (ObjectNo → ObjectNo) → Type 0
HasImagesOfRoots m v w a b k j image =
    (i : ℕ) (c : ObjectNo) → slice_get (values_at (model_of m v a) (at_end (node.Resource k) (lookups.contents m))) i ≡ Some (value.Object c)
    → slice_get (values_at (model_of m w b) (at_end (node.Resource j) (lookups.contents m))) i ≡ Some (value.Object (image c))

-- if an object o of resource k contains an object c, the image of o contains the image of c, under the same feature at the same position
abbrev pub HasImagesOfParts : Metamodel → ValuesState → ValuesState → Links → Links → ResourceNo → (ObjectNo → ObjectNo) → Type 0
HasImagesOfParts m v w a b k image =
    (o : ObjectNo) (f : FeatureNo) (i : ℕ) (c : ObjectNo) → resource_of (above a) o ≡ Some k → is_containment m f ≡ true
    → slice_get (values_at (model_of m v a) (at_end (node.Object o) f)) i ≡ Some (value.Object c)
    → slice_get (values_at (model_of m w b) (at_end (node.Object (image o)) f)) i ≡ Some (value.Object (image c))

-- the image of an object is in resource j, at the same path as the object
pub record IsImageAt (m : Metamodel) (v w : ValuesState) (a b : Links) (j : ResourceNo) (image : ObjectNo → ObjectNo) (o : ObjectNo) : Type 0 where
  pub inside : resource_of (above b) (image o) ≡ Some j
  pub path : fragments.path_of (reading (model_of m w b)) (image o) ≡ fragments.path_of (reading (model_of m v a)) o
