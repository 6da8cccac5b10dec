-- The conditions under which the document of a resource is read back as that resource.
use Rattle.std.specs.Prelude.{◌≡◌, ℕ, ◌≤◌, false, List, Contains, length, slice_get, Some, None}
use Rattle.mm_types.specs.declared.limits.TheConstants.{TEXT_BYTES}
use Rattle.mm_types.specs.declared.numbers.FeatureNo.{FeatureNo}
use Rattle.mm_types.specs.declared.numbers.ObjectNo.{ObjectNo}
use Rattle.mm_types.specs.declared.numbers.ResourceNo.{ResourceNo}
use Rattle.mm_types.specs.declared.numbers.Node.TheVariants as node
use Rattle.mm_types.specs.declared.value.Value.{Value}
use Rattle.mm_types.specs.declared.value.Value.TheVariants as value
use Rattle.models.specs.Reading.{Reading, at_end}
use Rattle.fragment_paths.specs.Fragments.{address, is_in}
use Rattle.web_uris.specs.Addresses.{uri_part}
use Rattle.doc_writer.specs.Document.{reference_text}
use Rattle.doc_writer.specs.Saved.{reference_features, save_refusal, targets_under}
use Rattle.doc_writer.specs.Written.{objects_in}

-- some object of a resource has the value v under some feature
pub record Holds (r : Reading) (k : ResourceNo) (v : Value) : Type 0 where
  pub object : ObjectNo
  pub feature : FeatureNo
  pub inside : Contains (objects_in r k) object
  pub there : Contains (r.values (at_end (node.Object object) feature)) v

-- some object of a resource refers to the object o by a feature that is written
pub record Refers (r : Reading) (k : ResourceNo) (o : ObjectNo) : Type 0 where
  pub object : ObjectNo
  pub feature : FeatureNo
  pub inside : Contains (objects_in r k) object
  pub written : Contains (reference_features r object) feature
  pub there : Contains (targets_under r object feature) o

-- no end of an object of resource k has both an object b of a different resource and a proxy with the address of b
abbrev pub HasNoneTwice : Reading → ResourceNo → Type 0
HasNoneTwice r k =
    (o : ObjectNo) (f : FeatureNo) (b : ObjectNo) (t : List ℕ) → Contains (objects_in r k) o → Contains (r.values (at_end (node.Object o) f)) (value.Object b)
    → Contains (r.values (at_end (node.Object o) f)) (value.Proxy t) → is_in r k b ≡ false → address r b ≡ Some t → ⊥

-- The resource k exists, and its URI is `uri`; its save is not refused; no text of a reference or of a proxy in it is longer than
-- TEXT_BYTES; no proxy in it has the URI of the resource itself; and no end of its objects has both a proxy and the object at the address
-- of that proxy.
pub record IsReadable (r : Reading) (k : ResourceNo) (uri : List ℕ) : Type 0 where
  pub there : slice_get r.uris k.0 ≡ Some uri
  pub allowed : save_refusal r k ≡ None
  pub short : (o : ObjectNo) → Refers r k o → length (reference_text r k o) ≤ TEXT_BYTES
  pub short_proxies : (t : List ℕ) → Holds r k (value.Proxy t) → length t ≤ TEXT_BYTES
  pub elsewhere : (t : List ℕ) → Holds r k (value.Proxy t) → uri_part t ≡ uri → ⊥
  pub none_twice : HasNoneTwice r k
