-- The links that the lists of values at ends represent, and the conditions under which lists, holders and entries agree. The holder of a
-- node is the end that contains the node; the entries of an object are the ends without opposite that have the object as a value.
use Rattle.std.specs.Prelude.{◌≡◌, ◌↔◌, ℕ, zero, suc, ◌≤◌, true, List, [], ◌∷◌, ◌++◌, length, slice_get, Option, Some, None}
use Rattle.std.specs.FinSet as set
use Rattle.mm_types.specs.Ends.{index_in}
use Rattle.mm_types.specs.Same.{node_value}
use Rattle.mm_types.specs.declared.numbers.FeatureNo.{FeatureNo}
use Rattle.mm_types.specs.declared.numbers.Node.{Node}
use Rattle.mm_types.specs.declared.numbers.Node.TheVariants as node
use Rattle.mm_types.specs.declared.numbers.ObjectNo.{ObjectNo}
use Rattle.mm_types.specs.declared.end.End.{End}
use Rattle.mm_types.specs.declared.value.Value.{Value}
use Rattle.mm_types.specs.declared.value.Value.TheVariants as value
use Rattle.links.specs.declared.link.Far.TheVariants.{Alone, Proxy}
use Rattle.links.specs.declared.link.Link.{Link}
use Rattle.links.specs.Holders.{holder}
use Rattle.links.specs.LegalSets.{AreKinds, AreOfKind, IsDistinct, IsHeldOnce, IsObject, Kinds, most}
use Rattle.links.specs.Links.{Links, far_end, joined_link}
use Rattle.links.specs.Plans.{has_end}
use Rattle.node_slots.specs.declared.node_slots.NodeSlots.{NodeSlots}
use Rattle.node_slots.specs.Cells.{Cells, HasKeys, cells, ends_of}

---------------------------------------------------------------- links

-- the link of the object o at position k in the end e. If e's feature has an opposite, it is g, and the position of the link at the far end
-- is the index of e's node among the values of the far end
abbrev pub link_to : Cells → End → ℕ → ObjectNo → Option FeatureNo → Link
link_to c e k o None = record { end = e; index = k; far = Alone o; container = (c.pairing e).container }
link_to c e k o (Some g) = joined_link e k (far_end o g) (index_in (c.vals (far_end o g)) (node_value e.node)) (c.pairing e).container

-- the link of a value at position k in the end e; since only objects and proxies are in an end, the link of any other value doesn't matter
abbrev pub link_from : Cells → End → ℕ → Value → Link
link_from c e k (value.Object o) = link_to c e k o (c.pairing e).opposite
link_from c e k (value.Proxy t) = record { end = e; index = k; far = Proxy t; container = None }
link_from c e k _ = record { end = e; index = k; far = Proxy []; container = None }

abbrev pub links_from : Cells → End → ℕ → List Value → List Link
links_from c e k [] = []
links_from c e k (v ∷ vs) = link_from c e k v ∷ links_from c e (suc k) vs

abbrev pub all_links : Cells → List End → List Link
all_links c [] = []
all_links c (e ∷ es) = links_from c e zero (c.vals e) ++ all_links c es

-- the links that the lists at the ends es stand for
abbrev pub cell_links : Cells → List End → Links
cell_links c es = set.from_list (all_links c es)

---------------------------------------------------------------- the invariant

abbrev pub HasValue : List Value → Value → Type 0
HasValue vs v = (k : ℕ) × (slice_get vs k ≡ Some v)

abbrev pub IsReference : Value → Type 0
IsReference (value.Object o) = Unit {0}
IsReference (value.Proxy t) = Unit {0}
IsReference _ = ⊥

-- what holds of a link from the end e to the object o, if g is the opposite of e's feature: g is not e's feature, and e's node is an
-- object; the far end has e's node as a value; the opposite of the far end's feature is e's feature; and both ends have the same containing
-- feature
pub record IsMutual (c : Cells) (e : End) (o : ObjectNo) (g : FeatureNo) : Type 0 where
  pub apart : (g.0 ≡ e.feature.0) → ⊥
  pub object : IsObject e.node
  pub back : HasValue (c.vals (far_end o g)) (node_value e.node)
  pub opposite : (c.pairing (far_end o g)).opposite ≡ Some e.feature
  pub container : (c.pairing (far_end o g)).container ≡ (c.pairing e).container

-- each end that has a value is among es; the values of an end are objects and proxies, each of them once, and at most `most` of them; if an
-- end's feature has an opposite, each link from the end to an object is as `IsMutual` says, and so is in the lists of both ends
pub record AreLists (c : Cells) (es : List End) : Type 0 where
  pub keys : HasKeys c es
  pub references : (e : End) (k : ℕ) (v : Value) → slice_get (c.vals e) k ≡ Some v → IsReference v
  pub mutual_ : (e : End) (k : ℕ) (o : ObjectNo) (g : FeatureNo) → slice_get (c.vals e) k ≡ Some (value.Object o) → (c.pairing e).opposite ≡ Some g → IsMutual c e o g
  pub distinct : (e : End) → IsDistinct (c.vals e)
  pub few : (e : End) → length (c.vals e) ≤ most

-- the object o is in the end e, whose feature has no opposite
abbrev pub StandsAlone : Cells → ObjectNo → End → Type 0
StandsAlone c o e = ((c.pairing e).opposite ≡ None) × HasValue (c.vals e) (value.Object o)

-- the list repeats no end
abbrev pub IsOnce : List End → Type 0
IsOnce ds = (j k : ℕ) (d : End) → slice_get ds j ≡ Some d → slice_get ds k ≡ Some d → j ≡ k

-- no end has a value twice, and no object has the same end among its entries twice
pub record RepeatNothing (c : Cells) : Type 0 where
  pub values : (e : End) → IsDistinct (c.vals e)
  pub entries : (o : ObjectNo) → IsOnce (c.entered (node.Object o))

-- the lists are as `AreLists` says; no node is contained twice, and the holders agree with the links; the entries of each object are
-- exactly the ends without opposite that have the object as a value, each of them once
pub record IsKept (c : Cells) (es : List End) : Type 0 where
  pub lists : AreLists c es
  pub held : IsHeldOnce (cell_links c es)
  pub holds : (n : Node) → c.hold n ≡ holder (cell_links c es) n
  pub entered : (o : ObjectNo) (e : End) → (has_end (c.entered (node.Object o)) e ≡ true) ↔ StandsAlone c o e
  pub once : (o : ObjectNo) → IsOnce (c.entered (node.Object o))

---------------------------------------------------------------- of rows

abbrev pub IsStore : NodeSlots → Type 0
IsStore t = IsKept (cells t) (ends_of t)

-- the set of links that the rows stand for
unfoldable pub store_links : NodeSlots → Links
store_links t = cell_links (cells t) (ends_of t)

-- m gives the features opposites and containing features that agree with each other (`AreKinds`), and the links agree with m
abbrev pub IsStoreOfKind : NodeSlots → Kinds → Type 0
IsStoreOfKind t m = AreKinds m × AreOfKind m (store_links t)
