-- The images of saved objects after a load of the saved document: each saved object has an image, a new object with a new number. The image
-- has the same class and the same flags as the saved object. It has the same values too, with two exceptions: an object of the same
-- resource is replaced by the image of this object, and an object of a different resource is replaced by a proxy.
use Rattle.std.specs.Prelude.{◌≡◌, ◌≤◌, ◌<◌, ◌+◌, ℕ, Some, length, map, slice_get}
use Rattle.mm_types.specs.declared.numbers.FeatureNo.{FeatureNo}
use Rattle.mm_types.specs.declared.numbers.Node.TheVariants as node
use Rattle.mm_types.specs.declared.numbers.ObjectNo.{ObjectNo}
use Rattle.mm_types.specs.declared.numbers.ResourceNo.{ResourceNo}
use Rattle.mm_types.specs.declared.value.Value.{Value}
use Rattle.models.specs.Reading.{Reading, at_end, roots_end}
use Rattle.containment.specs.Above.{resource_of}
use Rattle.fragment_paths.specs.Fragments.{address}
use Rattle.doc_writer.specs.Written.{objects_in}
use Rattle.doc_loader.specs.Loading.{loaded_number, loaded_value}
use Rattle.round_trip.specs.Copied.{renamed_value, root_copied}

-- the image of an object of resource k of r, if the first object of the document gets the number n
abbrev pub image : Reading → ResourceNo → ℕ → ObjectNo → ObjectNo
image r k n o = loaded_number n (root_copied (objects_in r k) o)

-- the image of a value: an object of resource k gives its image, an object of a different resource gives a proxy with the address of that
-- object, and any other value stays as it is
abbrev pub value_image : Reading → ResourceNo → ℕ → Value → Value
value_image r k n v = loaded_value n (renamed_value r (objects_in r k) v)

-- the objects of resource k of r have images in resource j of t. In the order of the document, the images have the numbers from n on
pub record HasImages (r : Reading) (k : ResourceNo) (n : ℕ) (j : ResourceNo) (t : Reading) : Type 0 where
  pub next : t.next ≡ n + length (objects_in r k)
  -- each image has the class and the flags of its object, and at each end the images of the object's values
  pub classes : (o : ObjectNo) → resource_of r.above o ≡ Some k → t.class (image r k n o) ≡ r.class o
  pub values : (o : ObjectNo) (f : FeatureNo) → resource_of r.above o ≡ Some k
      → t.values (at_end (node.Object (image r k n o)) f) ≡ map (value_image r k n) (r.values (at_end (node.Object o) f))
  pub flags : (o : ObjectNo) (f : FeatureNo) → resource_of r.above o ≡ Some k → t.flag (at_end (node.Object (image r k n o)) f) ≡ r.flag (at_end (node.Object o) f)
  -- the roots of resource j are the images of the roots of resource k
  pub roots : t.values (roots_end t j) ≡ map (value_image r k n) (r.values (roots_end r k))
  -- each image is in resource j; if an object b contains the object o, the image of b contains the image of o, at the same feature
  pub inside : (o : ObjectNo) → resource_of r.above o ≡ Some k → resource_of t.above (image r k n o) ≡ Some j
  pub holders : (o b : ObjectNo) (f : FeatureNo) → resource_of r.above o ≡ Some k → r.holder (node.Object o) ≡ Some (at_end (node.Object b) f)
      → t.holder (node.Object (image r k n o)) ≡ Some (at_end (node.Object (image r k n b)) f)
  -- if the resources k and j have the same URI, each image has the address of its object
  pub addresses : slice_get t.uris j.0 ≡ slice_get r.uris k.0 → (o : ObjectNo) → resource_of r.above o ≡ Some k → address t (image r k n o) ≡ address r o
  -- each object with a number from n on is an image
  pub only : (p : ObjectNo) → n ≤ p.0 → p.0 < t.next → (o : ObjectNo) × (resource_of r.above o ≡ Some k) × (p ≡ image r k n o)
