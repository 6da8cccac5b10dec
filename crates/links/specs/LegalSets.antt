-- The conditions for a legal set of links: each end is a list without repetitions, of at most 1,000,000 values; each link between two ends
-- is between objects, and its two features differ; and no node is contained twice. Further conditions say when the links agree with the
-- features of a metamodel.
use Rattle.std.specs.Prelude.{◌≡◌, ℕ, ◌<◌, ◌≤◌, List, length, slice_get, Option, Some, None}
use Rattle.mm_types.specs.declared.numbers.FeatureNo.{FeatureNo}
use Rattle.mm_types.specs.declared.numbers.Node.{Node}
use Rattle.mm_types.specs.declared.numbers.Node.TheVariants as node
use Rattle.mm_types.specs.declared.end.End.{End}
use Rattle.mm_types.specs.declared.value.Value.{Value}
use Rattle.links.specs.declared.link.Far.{Far}
use Rattle.links.specs.declared.link.Far.TheVariants.{At, Alone, Proxy}
use Rattle.links.specs.declared.link.Link.{Link}
use Rattle.links.specs.Holders.{holding_end}
use Rattle.links.specs.Links.{In, Links, end}
use Rattle.links.specs.Indexed.{indexed_value}

-- some link is at position k of the end e, with the value v
abbrev pub Stands : Links → End → ℕ → Value → Type 0
Stands s e k v = (l : Link) × In l s × (indexed_value l e ≡ Some (k, v))

-- the list xs has each value of the end e at the position that the value has in e, and has no other value
pub record IsEnd (s : Links) (e : End) (xs : List Value) : Type 0 where
  pub has : (k : ℕ) (v : Value) → Stands s e k v → slice_get xs k ≡ Some v
  pub only : (k : ℕ) (v : Value) → slice_get xs k ≡ Some v → Stands s e k v

-- the list repeats no value
abbrev pub IsDistinct : List Value → Type 0
IsDistinct xs = (j k : ℕ) (v : Value) → slice_get xs j ≡ Some v → slice_get xs k ≡ Some v → j ≡ k

abbrev pub IsObject : Node → Type 0
IsObject (node.Object o) = Unit {0}
IsObject (node.Resource r) = ⊥

-- a link between two ends is between objects, and its two features differ
abbrev pub HasTwoSides : End → Far → Type 0
HasTwoSides e (At d j) = ((d.feature.0 ≡ e.feature.0) → ⊥) × IsObject e.node × IsObject d.node
HasTwoSides e (Alone o) = Unit {0}
HasTwoSides e (Proxy t) = Unit {0}

-- how many values an end has at most
abbrev pub most : ℕ
most = 1000000

-- the positions of each end are 0 to its length - 1, each once; no end repeats a value or has more than `most` values; each link between
-- two ends is between objects, and its two features differ
pub record IsPlaced (s : Links) : Type 0 where
  pub ends : (e : End) → IsEnd s e (end s e)
  pub once : (l k : Link) (e : End) (i : ℕ) (v w : Value) → In l s → In k s → indexed_value l e ≡ Some (i, v) → indexed_value k e ≡ Some (i, w) → l ≡ k
  pub distinct : (e : End) → IsDistinct (end s e)
  pub sides : (l : Link) → In l s → HasTwoSides l.end l.far
  pub few : (e : End) → length (end s e) ≤ most

-- no two ends contain the same node
abbrev pub IsHeldOnce : Links → Type 0
IsHeldOnce s = (l k : Link) (n : Node) (x y : End) → In l s → In k s → holding_end l n ≡ Some x → holding_end k n ≡ Some y → x ≡ y

pub record IsLegalSet (s : Links) : Type 0 where
  pub placed : IsPlaced s
  pub held : IsHeldOnce s

---------------------------------------------------------------- kinds

-- for each feature: its opposite, if it has one; and its containing feature: the feature or its opposite, if one of the two is a
-- containment
pub record Kinds : Type 0 where
  pub opposite : FeatureNo → Option FeatureNo
  pub container : FeatureNo → Option FeatureNo

-- if the feature g is the opposite of the feature f: f is the opposite of g, the two are different, and they have the same containing
-- feature, or both have none
pub record AreKinds (m : Kinds) : Type 0 where
  pub inverse : (f g : FeatureNo) → m.opposite f ≡ Some g → m.opposite g ≡ Some f
  pub two : (f g : FeatureNo) → m.opposite f ≡ Some g → (g.0 ≡ f.0) → ⊥
  pub one_container : (f g : FeatureNo) → m.opposite f ≡ Some g → m.container f ≡ m.container g

abbrev pub FarOfKind : Kinds → FeatureNo → Far → Type 0
FarOfKind m f (At d j) = (m.opposite f ≡ Some d.feature) × (m.opposite d.feature ≡ Some f) × (f.0 < d.feature.0)
FarOfKind m f (Alone o) = m.opposite f ≡ None
FarOfKind m f (Proxy t) = Unit {0}

-- a link agrees with the opposite and the containing feature that the kinds give for the feature of its near end; if the link is between
-- two ends, its near end is the end with the lower feature number
pub record IsOfKind (m : Kinds) (l : Link) : Type 0 where
  pub far : FarOfKind m l.end.feature l.far
  pub container : l.container ≡ m.container l.end.feature

abbrev pub AreOfKind : Kinds → Links → Type 0
AreOfKind m s = (l : Link) → In l s → IsOfKind m l
