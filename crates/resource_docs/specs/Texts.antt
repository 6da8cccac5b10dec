-- What the text of a reference leads to: an object of the document itself, or an object of another resource.
use Rattle.std.specs.Prelude.{◌≡◌, ℕ, List, [], ◌∷◌, Option, Some, option_map, if◌then◌else◌}
use Rattle.std.specs.Str.{bytes_eq}
use Rattle.json_fields.specs.Fields.{◌>>=◌}
use Rattle.web_uris.specs.Addresses.{IsSteadyProxy, address_text, fragment_part, has_mark, uri_part}
use Rattle.web_uris.specs.Joined.{IsWebUri, joined_uri}
use Rattle.web_uris.specs.Paths.{parse}
use Rattle.web_uris.specs.declared.path.Path.{Path}
use Rattle.resource_docs.specs.declared.referent.Referent.{Referent}
use Rattle.resource_docs.specs.declared.referent.Referent.TheVariants.{Here, Elsewhere}

-- a resource's URI, and the function that joins a reference with this URI; the function gives none if joining gives no URI
pub record Base : Type 0 where
  pub uri : List ℕ
  pub join : List ℕ → Option (List ℕ)

abbrev pub base_of : List ℕ → Base
base_of uri = record { uri = uri; join = joined_uri uri }

-- the URI that the part of a reference before the `#` means: the resource's own URI if the part is empty, else the part joined with that
-- URI; none if joining gives no URI
abbrev pub uri_meant : Base → List ℕ → Option (List ℕ)
uri_meant b [] = Some b.uri
uri_meant b (c ∷ cs) = b.join (c ∷ cs)

-- the target of a reference with the URI `uri` and the fragment `rest`, which is read as the path p: an object of the document, if `uri`
-- and the resource's own URI are the same text; else an object of another resource
abbrev pub target_in : Base → List ℕ → List ℕ → Path → Referent
target_in b rest uri p = if bytes_eq uri b.uri then Here p else Elsewhere (address_text uri rest)

-- the target of an address that is cut in two at a `#`: `part`, before the `#`, is a URI, a relative reference or empty; `rest`, after the
-- `#`, is to be a fragment. None if `rest` is no fragment, or if joining gives no URI
abbrev pub target_at : Base → List ℕ → List ℕ → Option Referent
target_at b part rest = parse rest >>= (λ p. option_map (λ u. target_in b rest u p) (uri_meant b part))

-- the target of a text. A text without `#` is read as a fragment of the document. In any other text, the part before the first `#` is read
-- as a URI, a relative reference or nothing, and the part after it as a fragment. None if there is no fragment, or if joining gives no URI
abbrev pub target : Base → List ℕ → Option Referent
target b t = if has_mark t then target_at b (uri_part t) (fragment_part t) else option_map Here (parse t)

-- the address of a target in a different resource is a normalised URI, `#` and a fragment; nothing is required of a target in the document
-- itself
abbrev pub IsProxyReferent : Referent → Type 0
IsProxyReferent (Here p) = Unit {0}
IsProxyReferent (Elsewhere t) = IsSteadyProxy t

-- the URI `meant` is normalised, unless it is `uri`, the resource's own URI
abbrev pub IsWebElsewhere : List ℕ → List ℕ → Type 0
IsWebElsewhere uri meant = (meant ≡ uri → ⊥) → IsWebUri meant
