-- The cells after each edit of links. The cells are, for each end, its values, and the opposite and the containing feature of the end's
-- feature; for each node, the end that contains the node; and for each object, its entries. The entries of an object are the ends without
-- opposite that have the object as a value.
use Rattle.std.specs.Prelude.{◌≡◌, ℕ, ◌+◌, ◌≤◌, true, position, Option, Some, None, if◌then◌else◌}
use Rattle.std.specs.Option.{option_map_or}
use Rattle.mm_types.specs.Same.{node_value, same_end, same_feature, same_value}
use Rattle.mm_types.specs.declared.numbers.FeatureNo.{FeatureNo}
use Rattle.mm_types.specs.declared.numbers.Node.{Node}
use Rattle.mm_types.specs.declared.numbers.Node.TheVariants as node
use Rattle.mm_types.specs.declared.numbers.ObjectNo.{ObjectNo}
use Rattle.mm_types.specs.declared.end.End.{End}
use Rattle.mm_types.specs.declared.value.Value.{Value}
use Rattle.mm_types.specs.declared.value.Value.TheVariants as value
use Rattle.links.specs.declared.plan.Edit.{Edit}
use Rattle.links.specs.declared.plan.Edit.TheVariants as edit
use Rattle.links.specs.LegalSets.{IsObject}
use Rattle.links.specs.Links.{far_end}
use Rattle.node_slots.specs.declared.node_slots.growth.PutPlaces.{PutPlaces}
use Rattle.node_slots.specs.declared.slot.Pairing.{Pairing}
use Rattle.node_slots.specs.declared.slot.SlotEdit.TheVariants.{Insert, Push, Remove, Move}
use Rattle.node_slots.specs.declared.row.RowEdit.TheVariants.{Change, Hold, Enter, Leave}
use Rattle.node_slots.specs.Cells.{Cells, Room, cell_edit}

-- the node that the far end of a link from the end e to the object o contains, with this far end. If the opposite g of e's feature is the
-- containing feature h, the node is e's node; else there is none
abbrev pub held_far : End → ObjectNo → Option FeatureNo → FeatureNo → Option (Node × End)
held_far e o None h = None
held_far e o (Some g) h = if same_feature g h then Some (e.node, far_end o g) else None

-- the node that is contained through a link from the end e to the object o, with the end that contains this node. The containing feature h
-- is e's feature or its opposite g: if h is e's feature, e contains o; if h is g, the far end contains e's node. If neither feature is a
-- containment, there is no h, and no node is contained
abbrev pub held_node : End → ObjectNo → Option FeatureNo → Option FeatureNo → Option (Node × End)
held_node e o g None = None
held_node e o g (Some h) = if same_feature e.feature h then Some (node.Object o, e) else held_far e o g h

-- the index of the row of the node that is contained through a link from the end e: of the far node if e's feature is the containing
-- feature h, else of the near node, which is e's node. If no node is contained, the index of the near node's row
abbrev pub held_row_index : PutPlaces → End → Option FeatureNo → ℕ
held_row_index p e None = p.near
held_row_index p e (Some h) = if same_feature e.feature h then p.far else p.near

abbrev pub cells_after_hold : Option (Node × End) → Cells → Cells
cells_after_hold None c = c
cells_after_hold (Some p) c = cell_edit p.0 (Hold (Some p.1)) c

abbrev pub cells_after_release : Option (Node × End) → Cells → Cells
cells_after_release None c = c
cells_after_release (Some p) c = cell_edit p.0 (Hold None) c

---------------------------------------------------------------- puts

-- the cells after a link from the end e to the object o is put in at its far side: if e's feature has the opposite g, the far end gains e's
-- node as its last value; otherwise o gains e as its last entry. h is the containing feature
abbrev pub put_far : End → ObjectNo → Option FeatureNo → Option FeatureNo → Cells → Cells
put_far e o None h c = cell_edit (node.Object o) (Enter e) c
put_far e o (Some g) h c = cell_edit (node.Object o) (Change g (Push (node_value e.node) (record { opposite = Some e.feature; container = h }))) c

abbrev pub put_near : End → ℕ → Value → Option Pairing → Cells → Cells
put_near e i v p c = cell_edit e.node (Change e.feature (Insert i v p)) c

abbrev pub put_cells : End → ℕ → ObjectNo → Option FeatureNo → Option FeatureNo → Cells → Cells
put_cells e i o g h c = cells_after_hold (held_node e o g h) (put_far e o g h (put_near e i (value.Object o) (Some (record { opposite = g; container = h })) c))

---------------------------------------------------------------- cuts

-- the cells after the first occurrence of the value v is taken out of the end e; if v is not in e, nothing changes
abbrev pub without_value : End → Value → Cells → Cells
without_value e v c = option_map_or (λ (i : ℕ). cell_edit e.node (Change e.feature (Remove i)) c) (position (same_value v) (c.vals e)) c

-- the cells after the end e is taken out of the entries of the object o; if e is not among them, nothing changes
abbrev pub without_entry : End → ObjectNo → Cells → Cells
without_entry e o c = option_map_or (λ (i : ℕ). cell_edit (node.Object o) (Leave i) c) (position (same_end e) (c.entered (node.Object o))) c

abbrev pub cut_far : End → ObjectNo → Option FeatureNo → Cells → Cells
cut_far e o None c = without_entry e o c
cut_far e o (Some g) c = without_value (far_end o g) (node_value e.node) c

abbrev pub cut_cells : End → ObjectNo → Option FeatureNo → Option FeatureNo → Cells → Cells
cut_cells e o g h c = cells_after_release (held_node e o g h) (without_value e (value.Object o) (cut_far e o g c))

-- the cells after the link of a value in the end e is cut: the link of an object is taken out on both sides, the link of a proxy out of e
-- alone
abbrev pub cells_after_cut : End → Value → Cells → Cells
cells_after_cut e (value.Object o) c = cut_cells e o (c.pairing e).opposite (c.pairing e).container c
cells_after_cut e v c = without_value e v c

---------------------------------------------------------------- edits

abbrev pub cells_after : Edit → Cells → Cells
cells_after (edit.Cut e v) c = cells_after_cut e v c
cells_after (edit.Put l) c = put_cells l.end l.index l.object l.opposite l.container c
cells_after (edit.Shift e to from) c = cell_edit e.node (Change e.feature (Move to from)) c
cells_after (edit.PutProxy e i t) c = put_near e i (value.Proxy t) None c

-- a change takes at most `values e` of the capacity for the values of each end e, and at most `ends n` of the capacity for the entries of
-- each node n; the ends that may have values other than objects, and the nodes that have a row, stay the same
pub record TakesAtMost (values : End → ℕ) (ends : Node → ℕ) (old new : Room) : Type 0 where
  pub places : (e : End) → old.places e ≤ new.places e + values e
  pub mixed : (e : End) → new.mixed e ≡ old.mixed e
  pub entries : (n : Node) → old.entries n ≤ new.entries n + ends n
  pub rows : (n : Node) → new.rows n ≡ old.rows n

-- if the feature of an end has an opposite, the end's node is an object
abbrev pub PairsObject : End → Option FeatureNo → Type 0
PairsObject e None = Unit {0}
PairsObject e (Some g) = IsObject e.node

abbrev pub PutsObject : Edit → Type 0
PutsObject (edit.Cut e v) = Unit {0}
PutsObject (edit.Put l) = PairsObject l.end l.opposite
PutsObject (edit.Shift e to from) = Unit {0}
PutsObject (edit.PutProxy e i t) = Unit {0}

-- the far side of a link has capacity for the link
abbrev pub FarHasRoom : ObjectNo → Option FeatureNo → Room → Type 0
FarHasRoom o None r = 1 ≤ r.entries (node.Object o)
FarHasRoom o (Some g) r = 1 ≤ r.places (far_end o g)

-- the node that becomes contained, if there is one, has a row
abbrev pub HasHeldRow : Option (Node × End) → Room → Type 0
HasHeldRow None r = Unit {0}
HasHeldRow (Some p) r = r.rows p.0 ≡ true
