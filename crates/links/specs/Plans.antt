-- Plans, which are lists of edits: the set of links after an edit or a plan, and when an edit or a plan fits a set.
use Rattle.std.specs.Prelude.{◌≡◌, ◌↔◌, ◌||◌, ◌&&◌, ℕ, ◌<◌, ◌≤◌, Bool, true, false, List, [], ◌∷◌, fold, length, nat_lt, slice_get, Option, Some, None}
use Rattle.std.specs.List.{Contains}
use Rattle.mm_types.specs.Same.{node_value, same_end, same_feature}
use Rattle.mm_types.specs.declared.numbers.FeatureNo.{FeatureNo}
use Rattle.mm_types.specs.declared.numbers.ObjectNo.{ObjectNo}
use Rattle.mm_types.specs.declared.numbers.Node.{Node}
use Rattle.mm_types.specs.declared.numbers.Node.TheVariants as node
use Rattle.mm_types.specs.declared.end.End.{End}
use Rattle.mm_types.specs.declared.value.Value.{Value}
use Rattle.mm_types.specs.declared.value.Value.TheVariants as value
use Rattle.links.specs.declared.incoming.Incoming.{Incoming}
use Rattle.links.specs.declared.link.Link.{Link}
use Rattle.links.specs.declared.plan.Edit.{Edit}
use Rattle.links.specs.declared.plan.Edit.TheVariants as edit
use Rattle.links.specs.Links.{Links, cut_value, end, far_end, new_link, put, put_proxy, shift}
use Rattle.links.specs.Holders.{IsUnder, holder, holding_end, node_contained}
use Rattle.links.specs.LegalSets.{IsObject, Kinds, most}

-- the edit that puts the object o at position i in the end e; g is the opposite of e's feature, and c is the containing feature
abbrev pub put_of : End → ℕ → ObjectNo → Option FeatureNo → Option FeatureNo → Edit
put_of e i o g c = edit.Put (record { end = e; index = i; object = o; opposite = g; container = c })

abbrev pub links_after_edit : Links → Edit → Links
links_after_edit s (edit.Cut e v) = cut_value s e v
links_after_edit s (edit.Put l) = put s l.end l.index l.object l.opposite l.container
links_after_edit s (edit.Shift e to from) = shift s e to from
links_after_edit s (edit.PutProxy e i t) = put_proxy s e i t

-- the links after the edits, which are made one after another
abbrev pub links_after_edits : Links → List Edit → Links
links_after_edits = fold links_after_edit

---------------------------------------------------------------- what fits

-- the value v is in the end e
abbrev pub Has : Links → End → Value → Type 0
Has s e v = (k : ℕ) × (slice_get (end s e) k ≡ Some v)

-- the value v is not in the end e
abbrev pub Lacks : Links → End → Value → Type 0
Lacks s e v = (k : ℕ) → slice_get (end s e) k ≡ Some v → ⊥

-- if the object o is put into the end e, whose feature has the opposite g, the far end can gain e's node as a value
pub record FarFits (s : Links) (e : End) (o : ObjectNo) (g : FeatureNo) : Type 0 where
  pub apart : (g.0 ≡ e.feature.0) → ⊥
  pub object : IsObject e.node
  pub absent : Lacks s (far_end o g) (node_value e.node)
  pub room : length (end s (far_end o g)) < most

abbrev pub FarFitsIn : Links → End → ObjectNo → Option FeatureNo → Type 0
FarFitsIn s e o None = Unit {0}
FarFitsIn s e o (Some g) = FarFits s e o g

pub record PutFits (s : Links) (e : End) (i : ℕ) (v : Value) : Type 0 where
  pub in_range : i ≤ length (end s e)
  pub absent : Lacks s e v
  pub room : length (end s e) < most

-- the node that becomes contained, if there is one, has no container
abbrev pub IsFree : Links → Option Node → Type 0
IsFree s None = Unit {0}
IsFree s (Some n) = holder s n ≡ None

abbrev pub EditFits : Links → Edit → Type 0
EditFits s (edit.Cut e v) = Has s e v
EditFits s (edit.Put l) = PutFits s l.end l.index (value.Object l.object) × FarFitsIn s l.end l.object l.opposite × IsFree s (node_contained l.end l.object l.container)
EditFits s (edit.Shift e to from) = (from < length (end s e)) × (to < length (end s e))
EditFits s (edit.PutProxy e i t) = PutFits s e i (value.Proxy t)

-- each edit fits the set of links that the earlier edits leave
abbrev pub PlanFits : Links → List Edit → Type 0
PlanFits s [] = Unit {0}
PlanFits s (x ∷ xs) = EditFits s x × PlanFits (links_after_edit s x) xs

---------------------------------------------------------------- kinds and cycles

-- an edit agrees with the kinds of features: a put has the opposite and the containing feature that the kinds give for the feature of its
-- end, and a proxy is put only under a feature without a containing feature
abbrev pub IsEditOfKind : Kinds → Edit → Type 0
IsEditOfKind m (edit.Cut e v) = Unit {0}
IsEditOfKind m (edit.Put l) = (l.opposite ≡ m.opposite l.end.feature) × (l.container ≡ m.container l.end.feature)
IsEditOfKind m (edit.Shift e to from) = Unit {0}
IsEditOfKind m (edit.PutProxy e i t) = m.container e.feature ≡ None

abbrev pub IsPlanOfKind : Kinds → List Edit → Type 0
IsPlanOfKind m [] = Unit {0}
IsPlanOfKind m (x ∷ xs) = IsEditOfKind m x × IsPlanOfKind m xs

-- there are kinds of features with which the plan and the store agree; `kinds` says with which kinds the store agrees
abbrev pub HasPlanOfKind : (Kinds → Type 0) → List Edit → Type 0
HasPlanOfKind kinds plan = (m : Kinds) × kinds m × IsPlanOfKind m plan

-- the container that the link l gives to a node x is not x, and is not below x in the set s
abbrev pub IsOutside : Links → Link → Type 0
IsOutside s l = (x : Node) (d : End) → holding_end l x ≡ Some d → ((d.node ≡ x) → ⊥) × (IsUnder s d.node x → ⊥)

abbrev pub MakesNoCycle : Links → Edit → Type 0
MakesNoCycle s (edit.Cut e v) = Unit {0}
MakesNoCycle s (edit.Put l) = IsOutside s (new_link s l.end l.index l.object l.opposite l.container)
MakesNoCycle s (edit.Shift e to from) = Unit {0}
MakesNoCycle s (edit.PutProxy e i t) = Unit {0}

-- no edit puts a node below itself in the set of links that the earlier edits leave
abbrev pub PlanMakesNoCycle : Links → List Edit → Type 0
PlanMakesNoCycle s [] = Unit {0}
PlanMakesNoCycle s (x ∷ xs) = MakesNoCycle s x × PlanMakesNoCycle (links_after_edit s x) xs

---------------------------------------------------------------- the ends that have an object

abbrev pub has_end : List End → End → Bool
has_end [] d = false
has_end (e ∷ es) d = same_end e d || has_end es d

-- the ends are exactly the ends that have the object as a value
abbrev pub AreIncoming : Links → ObjectNo → List End → Type 0
AreIncoming s o es = (e : End) → (has_end es e ≡ true) ↔ Has s e (value.Object o)

-- the end of an entry
abbrev pub incoming_end : Incoming → End
incoming_end i = record { node = i.node; feature = i.feature }

-- the entries are exactly the positions at which the object is
abbrev pub AreEntriesOf : Links → ObjectNo → List Incoming → Type 0
AreEntriesOf s o is = (i : Incoming) → Contains is i ↔ (slice_get (end s (incoming_end i)) i.position ≡ Some (value.Object o))

-- the first node comes before the second: by the kind (objects first), then by the number
abbrev pub node_before : Node → Node → Bool
node_before (node.Object x) (node.Object y) = nat_lt x.0 y.0
node_before (node.Object x) (node.Resource y) = true
node_before (node.Resource x) (node.Object y) = false
node_before (node.Resource x) (node.Resource y) = nat_lt x.0 y.0

-- the end e comes before the end d: by the number of the feature, then by the node (`node_before`)
abbrev pub is_before : End → End → Bool
is_before e d = nat_lt e.feature.0 d.feature.0 || (same_feature e.feature d.feature && node_before e.node d.node)

abbrev pub IsNext : End → List End → Type 0
IsNext e [] = Unit {0}
IsNext e (d ∷ ds) = is_before e d ≡ true

-- each end of the list comes before the next end of the list, so no end comes twice
abbrev pub AreInOrder : List End → Type 0
AreInOrder [] = Unit {0}
AreInOrder (e ∷ es) = IsNext e es × AreInOrder es
