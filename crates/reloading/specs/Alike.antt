-- When two models are isomorphic: they have the same URIs and the same addresses, and at each address an object with the same class, values
-- and set flags.
use Rattle.std.specs.Prelude.{◌≡◌, ℕ, List, map, slice_get, Some}
use Rattle.mm_types.specs.declared.numbers.FeatureNo.{FeatureNo}
use Rattle.mm_types.specs.declared.numbers.ObjectNo.{ObjectNo}
use Rattle.mm_types.specs.declared.numbers.ResourceNo.{ResourceNo}
use Rattle.mm_types.specs.declared.numbers.Node.TheVariants as node
use Rattle.mm_types.specs.declared.value.Value.{Value}
use Rattle.models.specs.Reading.{Reading, at_end, has_uri, roots_end}
use Rattle.fragment_paths.specs.Fragments.{address}
use Rattle.reloading.specs.Addressed.{Named, named_value}

-- the object p of t has the class, the values and the set flags of the object o of s; values are the same if `name` gives the same for both
pub record HasSame (name : Reading → Value → Named) (s t : Reading) (o p : ObjectNo) : Type 0 where
  pub class : t.class p ≡ s.class o
  pub values : (f : FeatureNo) → map (name t) (t.values (at_end (node.Object p) f)) ≡ map (name s) (s.values (at_end (node.Object o) f))
  pub flags : (f : FeatureNo) → t.flag (at_end (node.Object p) f) ≡ s.flag (at_end (node.Object o) f)

-- an object of t is at the address a, and has the class, the values and the set flags of the object o of s
pub record IsThere (name : Reading → Value → Named) (s t : Reading) (o : ObjectNo) (a : List ℕ) : Type 0 where
  pub object : ObjectNo
  pub at : address t object ≡ Some a
  pub same : HasSame name s t o object

-- two models have the same URIs; resources with the same URI have the same roots; and the two models have the same addresses, with objects
-- at them that have the same class, values and set flags; values are the same if `name` gives the same for both
pub record HaveSame (name : Reading → Value → Named) (s t : Reading) : Type 0 where
  pub uris : (u : List ℕ) → has_uri t u ≡ has_uri s u
  pub roots : (u : List ℕ) (k j : ResourceNo) → slice_get s.uris k.0 ≡ Some u → slice_get t.uris j.0 ≡ Some u → map (name t) (t.values (roots_end t j)) ≡ map (name s) (s.values (roots_end s k))
  pub there : (o : ObjectNo) (a : List ℕ) → address s o ≡ Some a → IsThere name s t o a
  pub back : (p : ObjectNo) (a : List ℕ) → address t p ≡ Some a → (o : ObjectNo) × (address s o ≡ Some a)

-- two models are isomorphic: the numbers of objects and resources may differ, and objects in no resource are not compared
abbrev pub Alike : Reading → Reading → Type 0
Alike = HaveSame named_value
