-- The text of a reference, read in the resource in which it is written, leads to the object for which it was written.
use Rattle.std.specs.Prelude.{◌≡◌, ℕ, List, [], Some, unwrap_or, if◌then◌else◌}
use Rattle.mm_types.specs.declared.numbers.ObjectNo.{ObjectNo}
use Rattle.mm_types.specs.declared.numbers.ResourceNo.{ResourceNo}
use Rattle.models.specs.Reading.{Reading}
use Rattle.containment.specs.Above.{resource_of}
use Rattle.web_uris.specs.Addresses.{IsSteadyProxy, uri_part}
use Rattle.web_uris.specs.Paths.{new_path}
use Rattle.fragment_paths.specs.Fragments.{address, is_in, path_of}
use Rattle.doc_writer.specs.Document.{reference_text}
use Rattle.resource_docs.specs.Texts.{base_of, target}
use Rattle.resource_docs.specs.declared.referent.Referent.{Referent}
use Rattle.resource_docs.specs.declared.referent.Referent.TheVariants.{Here, Elsewhere}

-- the target of a resource's reference to an object: the object's path if the object is in that resource too, else the object's address
abbrev pub target_of : Reading → ResourceNo → ObjectNo → Referent
target_of r k o = if is_in r k o then Here (unwrap_or (path_of r o) (new_path 0 [])) else Elsewhere (unwrap_or (address r o) [])

-- Texts are read in the resource with the URI `uri`. The text by which resource k refers to an object leads to that object, if the object
-- is in some resource. The text t of a proxy with a normalised URI leads to the address t, if this URI is not `uri`. Also, no two objects
-- have the same address.
pub record LeadsBack (r : Reading) (k : ResourceNo) (uri : List ℕ) : Type 0 where
  pub object : (o : ObjectNo) (j : ResourceNo) → resource_of r.above o ≡ Some j → target (base_of uri) (reference_text r k o) ≡ Some (target_of r k o)
  pub proxy : (t : List ℕ) → IsSteadyProxy t → (uri_part t ≡ uri → ⊥) → target (base_of uri) t ≡ Some (Elsewhere t)
  pub one_address : (a b : ObjectNo) (t : List ℕ) → address r a ≡ Some t → address r b ≡ Some t → a ≡ b
