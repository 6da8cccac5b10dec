-- The ends and the holders of a legal set after each edit.
use Rattle.std.specs.Prelude.{◌≡◌, ◌&&◌, ◌||◌, ℕ, ◌≤◌, Bool, false, List, [], ◌∷◌, ◌++◌, filter, fold, insert, length, map, not, Option, Some, None, is_some, option_and_then, if◌then◌else◌}
use Rattle.std.specs.List.{AllByRecursion, list_any}
use Rattle.std.specs.Option.{option_map_or, option_or}
use Rattle.mm_types.specs.Same.{is_feature, node_value, same_end, same_feature, same_node, same_value}
use Rattle.mm_types.specs.declared.numbers.FeatureNo.{FeatureNo}
use Rattle.mm_types.specs.declared.numbers.ObjectNo.{ObjectNo}
use Rattle.mm_types.specs.declared.numbers.Node.{Node}
use Rattle.mm_types.specs.declared.numbers.Node.TheVariants as node
use Rattle.mm_types.specs.declared.end.End.{End}
use Rattle.mm_types.specs.declared.value.Value.{Value}
use Rattle.mm_types.specs.declared.value.Value.TheVariants as value
use Rattle.links.specs.declared.link.Link.{Link}
use Rattle.links.specs.declared.plan.Edit.{Edit}
use Rattle.links.specs.declared.plan.Edit.TheVariants as edit
use Rattle.links.specs.Holders.{above, end_containing, holder, holding_end, node_contained}
use Rattle.links.specs.LegalSets.{Kinds}
use Rattle.links.specs.Links.{In, Links, cut, cut_value, end, far_end, list_without, new_link, put, put_proxy, shift, touches, without_nodes}
use Rattle.mm_types.specs.Lists.{values_after_move}
use Rattle.links.specs.Indexed.{indexed_value}
use Rattle.links.specs.Plans.{Has, Lacks}

-- d is the far end, if the object o is put into an end whose feature has the opposite g: the end of o under g. No d is the far end if the
-- feature has no opposite
abbrev pub IsFar : ObjectNo → Option FeatureNo → End → Type 0
IsFar o None d = ⊥
IsFar o (Some g) d = far_end o g ≡ d

-- after the object o is put at position i in the end e, e has o as a new value at i, the far end has e's node as a new last value, and each
-- other end is as it was. If the new link contains a node, the containing end is the holder of this node; all other holders are as they
-- were. g is the opposite of e's feature, and c is the containing feature, if there are such features
pub record PutMakes (s : Links) (e : End) (i : ℕ) (o : ObjectNo) (g c : Option FeatureNo) : Type 0 where
  pub near : end (put s e i o g c) e ≡ insert (end s e) i (value.Object o)
  pub far : (d : End) → IsFar o g d → end (put s e i o g c) d ≡ end s d ++ node_value e.node ∷ []
  pub others : (d : End) → (e ≡ d → ⊥) → (IsFar o g d → ⊥) → end (put s e i o g c) d ≡ end s d
  pub holders : (n : Node) → holder (put s e i o g c) n ≡ option_or (holding_end (new_link s e i o g c) n) (holder s n)

-- whether d is the far end, if the object o is put into an end whose feature has the opposite g; false if the feature has no opposite
abbrev pub is_far : ObjectNo → Option FeatureNo → End → Bool
is_far o None d = false
is_far o (Some g) d = same_end (far_end o g) d

-- the values of the end d after the object o is put at position i in the end e; g is the opposite of e's feature
abbrev pub put_end : Links → End → ℕ → ObjectNo → Option FeatureNo → End → List Value
put_end s e i o g d =
    if same_end e d then insert (end s d) i (value.Object o)
    else if is_far o g d then end s d ++ node_value e.node ∷ []
    else end s d

-- whether there is a containing feature c, and it is f or f's opposite g
abbrev pub is_of_pair : FeatureNo → Option FeatureNo → Option FeatureNo → Bool
is_of_pair f g c = option_map_or (λ h. same_feature h f || is_feature h g) c false

abbrev pub is_contained : End → ObjectNo → Option FeatureNo → Node → Bool
is_contained e o c n = option_map_or (λ x. same_node x n) (node_contained e o c) false

-- the end that contains the node n after the object o is put into the end e; g is the opposite of e's feature, and c is the containing
-- feature
abbrev pub put_holder : Links → End → ObjectNo → Option FeatureNo → Option FeatureNo → Node → Option End
put_holder s e o g c n =
    if is_of_pair e.feature g c && is_contained e o c n then end_containing e o c else holder s n

-- after a put, each end has the values that `put_end` computes, and each node has the holder that `put_holder` computes
pub record PutGives (s : Links) (e : End) (i : ℕ) (o : ObjectNo) (g c : Option FeatureNo) : Type 0 where
  pub ends : (d : End) → end (put s e i o g c) d ≡ put_end s e i o g d
  pub holders : (n : Node) → holder (put s e i o g c) n ≡ put_holder s e o g c n

-- if a put makes a node x contained, the node that then contains x is not x, and is not below x before the put
abbrev pub IsPutOutside : Links → End → ObjectNo → Option FeatureNo → Type 0
IsPutOutside s e o c =
    (x : Node) (d : End) → node_contained e o c ≡ Some x → end_containing e o c ≡ Some d
    → (same_node d.node x ≡ false) × (list_any (same_node x) (above s d.node) ≡ false)

-- after a proxy with the text t is put at position i in the end e, e has the proxy as a new value at i, and each other end and all holders
-- are as they were
pub record PutProxyMakes (s : Links) (e : End) (i : ℕ) (t : List ℕ) : Type 0 where
  pub near : end (put_proxy s e i t) e ≡ insert (end s e) i (value.Proxy t)
  pub others : (d : End) → (e ≡ d → ⊥) → end (put_proxy s e i t) d ≡ end s d
  pub holders : (n : Node) → holder (put_proxy s e i t) n ≡ holder s n

-- after the link l is cut, each end that had l has lost l's value there; if l contained a node, this node has no holder; all other ends and
-- holders are as they were. A cut can name l by any end that has l, and l's value in that end
pub record CutMakes (s : Links) (l : Link) : Type 0 where
  pub named : (e : End) (k : ℕ) (v : Value) → indexed_value l e ≡ Some (k, v) → cut_value s e v ≡ cut s l
  pub ends : (d : End) → end (cut s l) d ≡ list_without (end s d) (indexed_value l d)
  pub holders : (n : Node) → holder (cut s l) n ≡ option_map_or (λ x. None) (holding_end l n) (holder s n)

-- after a shift, the end e has its values in the order that `values_after_move` gives, and each other end and all holders are as they were
pub record ShiftMakes (s : Links) (e : End) (to from : ℕ) : Type 0 where
  pub near : end (shift s e to from) e ≡ values_after_move (end s e) to from
  pub others : (d : End) → (e ≡ d → ⊥) → end (shift s e to from) d ≡ end s d
  pub holders : (n : Node) → holder (shift s e to from) n ≡ holder s n

-- for features that are opposites: if the end x has the node of the end y as a value, y has the node of x as a value
abbrev pub BothEndsAgree : Kinds → Links → Type 0
BothEndsAgree m s = (x y : End) → m.opposite x.feature ≡ Some y.feature → Has s x (node_value y.node) → Has s y (node_value x.node)

abbrev pub HaveSameEnds : Links → Links → Type 0
HaveSameEnds s t = (e : End) → end s e ≡ end t e

---------------------------------------------------------------- cuts by name

-- whether d is the far end of the link that has the value v in the end e, and w is the value of that link in d; g is the opposite of e's
-- feature
abbrev pub names_far : End → Value → Option FeatureNo → End → Value → Bool
names_far e (value.Object o) (Some g) d w = same_end (far_end o g) d && same_value (node_value e.node) w
names_far e _ _ d w = false

-- whether the value v in the end e and the value w in the end d are values of the same link
abbrev pub names : Kinds → End → Value → End → Value → Bool
names m e v d w = (same_end e d && same_value v w) || names_far e v (m.opposite e.feature) d w

-- whether some pair of the list names the link that has the value w in the end d; each pair has an end and a value of that end
abbrev pub is_named : Kinds → List (End × Value) → End → Value → Bool
is_named m ts d w = list_any (λ t. names m t.0 t.1 d w) ts

-- cuts links one after another; each link is named by an end and the value that the link has in that end
abbrev pub without_all : Links → List (End × Value) → Links
without_all s ts = fold (λ t x. cut_value t x.0 x.1) s ts

-- the holder of the node n after the links that the list ts names are cut; o is the holder of n before the cuts. The result is none if ts
-- names the link by which o contains n, and else o
abbrev pub kept_holder : Kinds → List (End × Value) → Node → Option End → Option End
kept_holder m ts n o = option_and_then (λ (d : End). if is_named m ts d (node_value n) then None else Some d) o

-- after the link that has the value v in the end e is cut, each end of this link has lost the link's value; if the link contained a node,
-- this node has no holder; all else is as it was
pub record CutByNameMakes (m : Kinds) (s : Links) (e : End) (v : Value) : Type 0 where
  pub ends : (d : End) → end (cut_value s e v) d ≡ filter (λ w. not (names m e v d w)) (end s d)
  pub holders : (n : Node) → holder (cut_value s e v) n ≡ option_and_then (λ (d : End). if names m e v d (node_value n) then None else Some d) (holder s n)

-- after the links that the list ts names are cut, each end has lost the values of these links and gained none. A node has no holder if one
-- of these links contained it; else its holder is as before
pub record CutsByNameMake (m : Kinds) (s : Links) (ts : List (End × Value)) : Type 0 where
  pub ends : (d : End) → end (without_all s ts) d ≡ filter (λ w. not (is_named m ts d w)) (end s d)
  pub holders : (n : Node) → holder (without_all s ts) n ≡ kept_holder m ts n (holder s n)
  pub less : (n : Node) (e : End) → holder (without_all s ts) n ≡ Some e → holder s n ≡ Some e
  pub lacks : (d : End) (w : Value) → Lacks s d w → Lacks (without_all s ts) d w
  pub shorter : (d : End) → length (end (without_all s ts) d) ≤ length (end s d)

-- the edits that cut the links of a list; each link is named by an end and the value that the link has in that end
abbrev pub cut_edits : List (End × Value) → List Edit
cut_edits ts = map (λ t. edit.Cut t.0 t.1) ts

-- each value of the list is in the end with which it is paired
abbrev pub AreThere : Links → List (End × Value) → Type 0
AreThere s ts = AllByRecursion (λ (t : End × Value). Has s t.0 t.1) ts

-- no link is named twice
abbrev pub AreOnce : Kinds → List (End × Value) → Type 0
AreOnce m [] = Unit {0}
AreOnce m (t ∷ ts) = AllByRecursion (λ (u : End × Value). names m t.0 t.1 u.0 u.1 ≡ false) ts × AreOnce m ts

---------------------------------------------------------------- nodes that are removed

-- whether a value is an object that is removed
abbrev pub goes : (Node → Bool) → Value → Bool
goes gone (value.Object o) = gone (node.Object o)
goes gone _ = false

-- a node that is removed has empty ends, and each other end loses the objects that are removed; a node has no holder if it is removed, or
-- if the node of its holder is removed; all other holders are as they were; no link names a node that is removed
pub record WithoutNodesMakes (s : Links) (gone : Node → Bool) : Type 0 where
  pub ends : (d : End) → end (without_nodes s gone) d ≡ (if gone d.node then [] else filter (λ v. not (goes gone v)) (end s d))
  pub holders : (n : Node) → holder (without_nodes s gone) n ≡ option_and_then (λ (d : End). if gone d.node || gone n then None else Some d) (holder s n)
  pub untouched : (l : Link) → In l (without_nodes s gone) → touches gone l ≡ false

-- the pairs of the list name exactly the links that name a removed node; each pair has an end and a value of that end
abbrev pub NameLinksOf : Kinds → Links → (Node → Bool) → List (End × Value) → Type 0
NameLinksOf m s gone ts = (d : End) (w : Value) → Has s d w → is_named m ts d w ≡ (gone d.node || goes gone w)

---------------------------------------------------------------- containment

-- the end that an edit names
abbrev pub edit_end : Edit → End
edit_end (edit.Cut e v) = e
edit_end (edit.Put l) = l.end
edit_end (edit.Shift e to from) = e
edit_end (edit.PutProxy e i t) = e

-- whether a feature or its opposite is a containment
abbrev pub contains_by : Kinds → FeatureNo → Bool
contains_by m f = is_some (m.container f)

-- whether some edit is at an end of a containment, or of the opposite of a containment
abbrev pub touches_containment : Kinds → List Edit → Bool
touches_containment m plan = list_any (λ x. contains_by m (edit_end x).feature) plan
