-- What the rows of all nodes say, as functions of a node or of an end; and these functions after one change of a node.
use Rattle.std.specs.Prelude.{◌≡◌, ℕ, zero, suc, ◌+◌, ◌≤◌, Bool, true, List, [], ◌∷◌, ◌++◌, map, slice_get, IsPermutation, Option, Some, None, if◌then◌else◌}
use Rattle.std.specs.List.{list_any}
use Rattle.mm_types.specs.Same.{same_end, same_node}
use Rattle.mm_types.specs.declared.numbers.Node.{Node}
use Rattle.mm_types.specs.declared.numbers.Node.TheVariants as node
use Rattle.mm_types.specs.declared.end.End.{End}
use Rattle.mm_types.specs.declared.value.Value.{Value}
use Rattle.node_slots.specs.declared.slot.Pairing.{Pairing}
use Rattle.node_slots.specs.declared.slot.Slot.{Slot}
use Rattle.node_slots.specs.declared.row.Row.{Row}
use Rattle.node_slots.specs.declared.row.RowEdit.{RowEdit}
use Rattle.node_slots.specs.declared.row.RowEdit.TheVariants.{Change, Hold, Enter, Leave, ForgetEntries}
use Rattle.node_slots.specs.declared.node_slots.NodeSlots.{NodeSlots}
use Rattle.node_slots.specs.Slots.{CanEdit, no_pairing, slot_edit_capacity}
use Rattle.node_slots.specs.Rows.{entered_after, entries_taken, hold_after, is_row, places_taken, row_entered, row_entries, row_hold, row_mixed, row_pairing, row_indexes, row_slots, row_vals, told_after, vals_after}
use Rattle.node_slots.specs.Tables.{Table, place_at, row_index_at, row_from, row_in}

-- for each end: its values, and the opposite and the containing feature of the end's feature, as the last put of an object into the end
-- gave them; for each node: the end that contains the node, and the node's entries, which are the ends with no opposite that have the node
-- as a value
pub record Cells : Type 0 where
  pub vals : End → List Value
  pub pairing : End → Pairing
  pub hold : Node → Option End
  pub entered : Node → List End

-- no end has a value or a pairing, no end contains a node, and no node is the value of an end
abbrev pub no_cells : Cells
no_cells = record { vals = λ e. []; pairing = λ e. no_pairing; hold = λ n. None; entered = λ n. [] }

-- the reserved capacity: for each end, how many more values it can take, and whether these may be values other than objects; for each node,
-- how many more entries it can take, and whether it has a row
pub record Room : Type 0 where
  pub places : End → ℕ
  pub mixed : End → Bool
  pub entries : Node → ℕ
  pub rows : Node → Bool

---------------------------------------------------------------- of rows

abbrev pub row_at : NodeSlots → Node → Option Row
row_at t (node.Object o) = row_in t.objects o.0
row_at t (node.Resource r) = row_in t.resources r.0

-- the index of the row of a node; none if the node has no row
abbrev pub row_index_of : NodeSlots → Node → Option ℕ
row_index_of t (node.Object o) = row_index_at t.objects.places o.0
row_index_of t (node.Resource r) = row_index_at t.resources.places r.0

unfoldable pub cells : NodeSlots → Cells
cells t =
    record {
      vals = λ e. row_vals (row_at t e.node) e.feature;
      pairing = λ e. row_pairing (row_at t e.node) e.feature;
      hold = λ n. row_hold (row_at t n);
      entered = λ n. row_entered (row_at t n);
    }

unfoldable pub room : NodeSlots → Room
room t =
    record {
      places = λ e. row_indexes (row_at t e.node) e.feature;
      mixed = λ e. row_mixed (row_at t e.node) e.feature;
      entries = λ n. row_entries (row_at t n);
      rows = λ n. is_row (row_at t n);
    }

abbrev pub slot_ends : Node → List Slot → List End
slot_ends n ss = map (λ s. record { node = n; feature = s.feature }) ss

-- the ends that have a slot, for the nodes with the numbers k, k + 1, and so on; `at` gives the node with a number. The last argument has
-- an element for each of these nodes, in the order of their numbers: 0 if the node has no row, else one more than the index of the node's
-- row in rs, the list of all rows
abbrev pub row_ends : (ℕ → Node) → ℕ → List Row → List ℕ → List End
row_ends at k rs [] = []
row_ends at k rs (p ∷ ps) = slot_ends (at k) (row_slots (row_from rs (place_at (Some p)))) ++ row_ends at (suc k) rs ps

abbrev pub table_ends : (ℕ → Node) → Table → List End
table_ends at t = row_ends at 0 t.rows t.places

abbrev pub object_of : ℕ → Node
object_of k = node.Object (record { 0 = k })

abbrev pub resource_of : ℕ → Node
resource_of k = node.Resource (record { 0 = k })

-- the ends that have a slot
unfoldable pub ends_of : NodeSlots → List End
ends_of t = table_ends object_of t.objects ++ table_ends resource_of t.resources

-- each end that has a value is in the list es
abbrev pub HasKeys : Cells → List End → Type 0
HasKeys c es = (e : End) (k : ℕ) (v : Value) → slice_get (c.vals e) k ≡ Some v → list_any (same_end e) es ≡ true

-- the same cells, except that the ends with no opposite that have a node as a value may be in a different order
pub record AreReordered (old new : Cells) : Type 0 where
  pub vals : (e : End) → new.vals e ≡ old.vals e
  pub pairing : (e : End) → new.pairing e ≡ old.pairing e
  pub hold : (n : Node) → new.hold n ≡ old.hold n
  pub entered : (n : Node) → IsPermutation (old.entered n) (new.entered n)

---------------------------------------------------------------- one change

-- the cells c after the change x of the node n
abbrev pub cell_edit : Node → RowEdit → Cells → Cells
cell_edit n x c =
    record {
      vals = λ e. if same_node n e.node then vals_after x e.feature (c.vals e) else c.vals e;
      pairing = λ e. if same_node n e.node then told_after x e.feature (c.pairing e) else c.pairing e;
      hold = λ m. if same_node n m then hold_after x (c.hold m) else c.hold m;
      entered = λ m. if same_node n m then entered_after x (c.entered m) else c.entered m;
    }

-- the capacity r is enough for what a change of the node n adds, and the change takes back no more capacity than r has. A value other than
-- an object is added only to an end that may have values other than objects. An end that contains the node is recorded only if the node has
-- a row
abbrev pub Fits : Node → RowEdit → Room → Type 0
Fits n (Change f x) r = (slot_edit_capacity x ≤ r.places (record { node = n; feature = f })) × CanEdit (r.mixed (record { node = n; feature = f })) x
Fits n (Hold None) r = Unit {0}
Fits n (Hold (Some d)) r = r.rows n ≡ true
Fits n (Enter d) r = 1 ≤ r.entries n
Fits n (Leave i) r = Unit {0}
Fits n (ForgetEntries k) r = k ≤ r.entries n

-- the capacity after the change x of the node n: at least the old capacity minus what the change takes. Which ends may have values other
-- than objects, and which nodes have rows, does not change
pub record KeepsRoom (n : Node) (x : RowEdit) (old new : Room) : Type 0 where
  pub places : (e : End) → old.places e ≤ new.places e + (if same_node n e.node then places_taken x e.feature else zero)
  pub mixed : (e : End) → new.mixed e ≡ old.mixed e
  pub entries : (m : Node) → old.entries m ≤ new.entries m + (if same_node n m then entries_taken x else zero)
  pub rows : (m : Node) → new.rows m ≡ old.rows m
