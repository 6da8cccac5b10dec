-- The models that a repository can have.
use Rattle.std.specs.Prelude.{◌≡◌, ◌≤◌, ℕ, ◌&&◌, Bool, true, false, not, IsTrue, List, [], ◌∷◌, length, nat_le, Option, Some, None, is_some}
use Rattle.std.specs.List.{All, list_all, IsDistinct}
use Rattle.std.specs.Str.{bytes_eq}
use Rattle.mm_types.specs.Lookups as lookups
use Rattle.mm_types.specs.OfDocument.{IsOfDocument}
use Rattle.mm_types.specs.Resolved.{Metamodel}
use Rattle.mm_types.specs.Same.{is_nil, same_value}
use Rattle.mm_types.specs.Shapes.{Shape, is_bounded, shape}
use Rattle.mm_types.specs.declared.limits.TheConstants.{OBJECTS, RESOURCES, TEXT_BYTES}
use Rattle.mm_types.specs.declared.numbers.ClassNo.{ClassNo}
use Rattle.mm_types.specs.declared.numbers.FeatureNo.{FeatureNo}
use Rattle.mm_types.specs.declared.end.End.{End}
use Rattle.mm_types.specs.declared.value.Value.{Value}
use Rattle.mm_types.specs.declared.value.Value.TheVariants as value
use Rattle.web_uris.specs.Addresses.{IsProxyText}
use Rattle.web_uris.specs.Joined.{IsJoined}
use Rattle.mm_values.specs.Stored.{Stored}
use Rattle.mm_values.specs.Values.{ObjectState, stored_under}
use Rattle.links.specs.Holders.{HasNoCycle}
use Rattle.links.specs.LegalSets.{AreOfKind, IsLegalSet, Kinds}
use Rattle.links.specs.Links.{In, Links, end}
use Rattle.links.specs.declared.link.Far.TheVariants.{Proxy}
use Rattle.links.specs.declared.link.Link.{Link}
use Rattle.models.specs.Reading.{Reading, has_feature, shape_at, takes}
use Rattle.models.specs.Model.{Model, reading}

-- whether a text has at most TEXT_BYTES bytes
abbrev pub is_short_text : List ℕ → Bool
is_short_text text = nat_le (length text) TEXT_BYTES

abbrev pub is_short : Value → Bool
is_short (value.Text text) = is_short_text text
is_short _ = true

abbrev pub is_legal_value : Metamodel → FeatureNo → Value → Bool
is_legal_value m f v = lookups.keeps m f v && is_short v

-- whether an object of the class c may store a list under the feature f. An empty list is always legal. Any other list is legal if c has f,
-- each value is legal for f (`is_legal_value`), and the number of values is within the upper bound of f and LIST_VALUES (`is_bounded`)
abbrev pub is_legal_list : Metamodel → ClassNo → FeatureNo → List Value → Bool
is_legal_list m c f [] = true
is_legal_list m c f (v ∷ vs) = lookups.has_feature m c f && (list_all (is_legal_value m f) (v ∷ vs) && is_bounded (shape m f) (length (v ∷ vs)))

abbrev pub IsUniqueList : Bool → List Value → Type 0
IsUniqueList true vs = IsDistinct same_value vs
IsUniqueList false vs = Unit {0}

-- what an object of the class c stores under the feature f is legal: the list is legal, and repeats no value if f is unique; the flag is on
-- exactly if f is unsettable and single, and the list has a value
pub record IsLegalStored (m : Metamodel) (c : ClassNo) (f : FeatureNo) (h : Stored) : Type 0 where
  pub values : IsTrue (is_legal_list m c f h.list)
  pub unique : IsUniqueList (shape m f).is_unique h.list
  pub flag : h.flag ≡ ((shape m f).is_unsettable && ((shape m f).is_single && not (is_nil h.list)))

abbrev pub IsLegalObject : Metamodel → Option ObjectState → Type 0
IsLegalObject m None = Unit {0}
IsLegalObject m (Some o) = IsTrue (lookups.is_concrete m o.class) × ((f : FeatureNo) → IsLegalStored m o.class f (stored_under o f))

---------------------------------------------------------------- links

-- for each feature: its opposite, if it has one; and the containing feature: the feature or its opposite, if one of the two is a
-- containment
abbrev pub kinds_of : Metamodel → Kinds
kinds_of m = record { opposite = λ f. (shape m f).opposite; container = λ f. (shape m f).containing }

-- whether a feature of the shape a may hold proxies: the feature is a reference, and neither the reference nor its opposite is a
-- containment (EMF: EReference.isResolveProxies)
abbrev pub takes_proxies : Shape → Bool
takes_proxies a = a.is_reference && not (is_some a.containing)

-- whether a value is a live object of the type of the feature f; or, if f may hold proxies, whether the value is a proxy
abbrev pub is_legal_target : Reading → FeatureNo → Value → Bool
is_legal_target r f (value.Object o) = takes r f (value.Object o)
is_legal_target r f (value.Proxy t) = takes_proxies (shape r.metamodel f)
is_legal_target r f _ = false

-- whether a list of objects and proxies is legal at the end e. An empty list is always legal. Any other list is legal if the node has the
-- feature, each value is legal for the feature (`is_legal_target`), and the number of values is within the upper bound of the feature and
-- LIST_VALUES (`is_bounded`)
abbrev pub is_legal_end : Reading → End → List Value → Bool
is_legal_end r e [] = true
is_legal_end r e (v ∷ vs) =
    has_feature r e.node e.feature && (list_all (is_legal_target r e.feature) (v ∷ vs) && is_bounded (shape_at r e) (length (v ∷ vs)))

-- `Holds` is true of the text of each proxy in the set of links s
abbrev pub OfProxies : (List ℕ → Type 0) → Links → Type 0
OfProxies Holds s = (l : Link) (t : List ℕ) → In l s → l.far ≡ Proxy t → Holds t

-- the set of links is legal, agrees with the metamodel's features, and gives each end a legal list; no object contains itself, directly or
-- not, and the text of each proxy is a URI, `#` and a fragment (`IsProxyText`)
pub record AreLegalLinks (r : Reading) (s : Links) : Type 0 where
  pub set : IsLegalSet s
  pub kinds : AreOfKind (kinds_of r.metamodel) s
  pub forest : HasNoCycle s
  pub ends : (e : End) → IsTrue (is_legal_end r e (end s e))
  pub proxies : OfProxies IsProxyText s

---------------------------------------------------------------- resources

-- the URIs of resources are results of joining, have at most TEXT_BYTES bytes, and are all different; there are at most RESOURCES of them
pub record AreLegalUris (us : List (List ℕ)) : Type 0 where
  pub count : length us ≤ RESOURCES
  pub joined : All IsJoined us
  pub short : All (λ u. IsTrue (is_short_text u)) us
  pub distinct : IsDistinct bytes_eq us

---------------------------------------------------------------- models

-- the metamodel was accepted, at most OBJECTS objects were made, and the objects, the links and the URIs are legal
pub record IsLegal (s : Model) : Type 0 where
  pub metamodel : IsOfDocument s.metamodel
  pub count : length s.values.objects ≤ OBJECTS
  pub objects : All (IsLegalObject s.metamodel) s.values.objects
  pub links : AreLegalLinks (reading s) s.links
  pub uris : AreLegalUris s.values.uris
