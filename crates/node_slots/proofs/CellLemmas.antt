-- The cells and the capacity after a change of one row, and after more rows were added.
use Rattle.std.proofs.Common.{◌≡◌, ◌≢◌, ℕ, zero, ◌+◌, ◌≤◌, Bool, true, false, List, Option, Some, None, if◌then◌else◌, refl, sym, ap, ◌∙◌, subst, arith}
use Rattle.std.proofs.lemmas.Bool.{false≢true}
use Rattle.mm_types.specs.Same.{same_end, same_feature, same_node}
use Rattle.mm_types.specs.declared.numbers.Node.{Node}
use Rattle.mm_types.specs.declared.numbers.Node.TheVariants as node
use Rattle.mm_types.specs.declared.end.End.{End}
use Rattle.mm_types.proofs.SameLemmas.{same_end-true, same_node-self, same_node-true}
use Rattle.mm_types.specs.declared.numbers.FeatureNo.{FeatureNo}
use Rattle.mm_types.specs.declared.value.Value.{Value}
use Rattle.node_slots.specs.declared.slot.Pairing.{Pairing}
use Rattle.node_slots.specs.declared.slot.SlotEdit.TheVariants.{Forget}
use Rattle.node_slots.specs.declared.row.Row.{Row}
use Rattle.node_slots.specs.declared.row.RowEdit.{RowEdit}
use Rattle.node_slots.specs.declared.row.RowEdit.TheVariants.{Change, Hold, Enter, Leave, ForgetEntries}
use Rattle.node_slots.specs.declared.node_slots.NodeSlots.{NodeSlots}
use Rattle.node_slots.specs.Rows.{AreRowsEdited, AreRowsGrown, AreRowsReordered, IsRowEdited, IsRowGrown, IsRowReordered, RowFits, entered_after, entries_taken, hold_after, is_row, places_taken, row_entered, row_entries, row_hold, row_mixed, row_pairing, row_indexes, row_vals, told_after, vals_after}
use Rattle.node_slots.specs.Tables.{Table, row_from, row_in}
use Rattle.node_slots.specs.Cells.{AreReordered, Cells, Fits, KeepsRoom, cell_edit, cells, object_of, resource_of, room, row_at, row_index_of}
use Rattle.node_slots.specs.Growth.{HasGained, no_ends, no_values, one_if}
use Rattle.node_slots.proofs.RowLemmas.{row_same, row_unmoved, unedited_row}

pub fits_at : (t : NodeSlots) (n : Node) (x : RowEdit) → Fits n x (room t) → RowFits x (row_at t n)
unfolding room
fits_at t n (Change f y) h = h
fits_at t n (Hold None) h = h
fits_at t n (Hold (Some d)) h = h
fits_at t n (Enter d) h = h
fits_at t n (Leave d) h = h
fits_at t n (ForgetEntries k) h = h

---------------------------------------------------------------- one row changed

module _ (t u : NodeSlots) (n : Node) (x : RowEdit) (here : IsRowEdited x (row_at t n) (row_at u n)) (others : (m : Node) → n ≢ m → row_at u m ≡ row_at t m) where
  apart : (m : Node) → same_node n m ≡ false → row_at u m ≡ row_at t m
  apart m q = others m (λ e. false≢true (sym q ∙ subst (λ (k : Node). same_node n k ≡ true) e (same_node-self n)))

  edited_if : {X : Type 0} (P : Option Row → X) (Q : X → X) → P (row_at u n) ≡ Q (P (row_at t n)) → (m : Node) → P (row_at u m) ≡ (if same_node n m then Q (P (row_at t m)) else P (row_at t m))
  edited_if P Q law m = elim (same_node n m) as (λ b. same_node n m ≡ b → P (row_at u m) ≡ (if b then Q (P (row_at t m)) else P (row_at t m))) [
    | true ↦ λ q. subst (λ (k : Node). P (row_at u k) ≡ Q (P (row_at t k))) (same_node-true n m q) law
    | false ↦ λ q. ap P (apart m q)
  ] refl

  room_if : (P : Option Row → ℕ) (k : ℕ) → P (row_at t n) ≤ P (row_at u n) + k → (m : Node) → P (row_at t m) ≤ P (row_at u m) + (if same_node n m then k else zero)
  room_if P k law m = elim (same_node n m) as (λ b. same_node n m ≡ b → P (row_at t m) ≤ P (row_at u m) + (if b then k else zero)) [
    | true ↦ λ q. subst (λ (j : Node). P (row_at t j) ≤ P (row_at u j) + k) (same_node-true n m q) law
    | false ↦ λ q. let e = ap P (apart m q) in omega (arith, e)
  ] refl

  mixed_kept : (e : End) → row_mixed (row_at u e.node) e.feature ≡ row_mixed (row_at t e.node) e.feature
  mixed_kept e = elim (same_node n e.node) as (λ b. same_node n e.node ≡ b → row_mixed (row_at u e.node) e.feature ≡ row_mixed (row_at t e.node) e.feature) [
    | true ↦ λ q. subst (λ (k : Node). row_mixed (row_at u k) e.feature ≡ row_mixed (row_at t k) e.feature) (same_node-true n e.node q) (here.mixed e.feature)
    | false ↦ λ q. ap (λ (o : Option Row). row_mixed o e.feature) (apart e.node q)
  ] refl

  rows_kept : (m : Node) → is_row (row_at u m) ≡ is_row (row_at t m)
  rows_kept m = elim (same_node n m) as (λ b. same_node n m ≡ b → is_row (row_at u m) ≡ is_row (row_at t m)) [
    | true ↦ λ q. subst (λ (k : Node). is_row (row_at u k) ≡ is_row (row_at t k)) (same_node-true n m q) here.kept
    | false ↦ λ q. ap is_row (apart m q)
  ] refl

  pub cells_edited : cells u ≡ cell_edit n x (cells t)
  unfolding cells
  cells_edited = λ i.
      record {
        vals = λ e. edited_if (λ o. row_vals o e.feature) (vals_after x e.feature) (here.vals e.feature) e.node i;
        pairing = λ e. edited_if (λ o. row_pairing o e.feature) (told_after x e.feature) (here.pairing e.feature) e.node i;
        hold = λ m. edited_if row_hold (hold_after x) here.hold m i;
        entered = λ m. edited_if row_entered (entered_after x) here.entered m i;
      }

  pub room_edited : KeepsRoom n x (room t) (room u)
  unfolding room
  room_edited = record {
    places = λ e. room_if (λ o. row_indexes o e.feature) (places_taken x e.feature) (here.places e.feature) e.node;
    mixed = mixed_kept;
    entries = λ m. room_if row_entries (entries_taken x) here.entries m;
    rows = rows_kept;
  }

-- the row of an object is changed
module _ (t u : NodeSlots) (n : Node) (x : RowEdit) (i : ℕ) (is : n ≡ object_of i) (h : AreRowsEdited i x (row_in t.objects) (row_in u.objects)) (same : u.resources ≡ t.resources) where
  object_here : IsRowEdited x (row_at t n) (row_at u n)
  object_here = subst (λ (k : Node). IsRowEdited x (row_at t k) (row_at u k)) (sym is) h.here

  object_others : (m : Node) → n ≢ m → row_at u m ≡ row_at t m
  object_others (node.Object o) ne = h.others o.0 (λ e. ne (is ∙ ap object_of (sym e)))
  object_others (node.Resource r) ne = ap (λ (x : Table). row_in x r.0) same

  pub object_cells : cells u ≡ cell_edit n x (cells t)
  object_cells = cells_edited t u n x object_here object_others

  pub object_room : KeepsRoom n x (room t) (room u)
  object_room = room_edited t u n x object_here object_others

-- the row of a resource is changed
module _ (t u : NodeSlots) (n : Node) (x : RowEdit) (i : ℕ) (is : n ≡ resource_of i) (h : AreRowsEdited i x (row_in t.resources) (row_in u.resources)) (same : u.objects ≡ t.objects) where
  resource_here : IsRowEdited x (row_at t n) (row_at u n)
  resource_here = subst (λ (k : Node). IsRowEdited x (row_at t k) (row_at u k)) (sym is) h.here

  resource_others : (m : Node) → n ≢ m → row_at u m ≡ row_at t m
  resource_others (node.Resource r) ne = h.others r.0 (λ e. ne (is ∙ ap resource_of (sym e)))
  resource_others (node.Object o) ne = ap (λ (x : Table). row_in x o.0) same

  pub resource_cells : cells u ≡ cell_edit n x (cells t)
  resource_cells = cells_edited t u n x resource_here resource_others

  pub resource_room : KeepsRoom n x (room t) (room u)
  resource_room = room_edited t u n x resource_here resource_others

---------------------------------------------------------------- rows that have grown

module _ (t u : NodeSlots) (each : (n : Node) → IsRowGrown (row_at t n) (row_at u n)) where
  pub cells_grown : cells u ≡ cells t
  unfolding cells
  cells_grown = λ i.
      record {
        vals = λ e. (each e.node).vals e.feature i;
        pairing = λ e. (each e.node).pairing e.feature i;
        hold = λ n. (each n).hold i;
        entered = λ n. (each n).entered i;
      }

pub objects_each : (t u : NodeSlots) → AreRowsGrown (row_in t.objects) (row_in u.objects) → u.resources ≡ t.resources → (n : Node) → IsRowGrown (row_at t n) (row_at u n)
objects_each t u h same (node.Object o) = h o.0
objects_each t u h same (node.Resource r) = subst (λ (x : Table). IsRowGrown (row_in t.resources r.0) (row_in x r.0)) (sym same) (row_same (row_in t.resources r.0))

pub resources_each : (t u : NodeSlots) → AreRowsGrown (row_in t.resources) (row_in u.resources) → u.objects ≡ t.objects → (n : Node) → IsRowGrown (row_at t n) (row_at u n)
resources_each t u h same (node.Resource r) = h r.0
resources_each t u h same (node.Object o) = subst (λ (x : Table). IsRowGrown (row_in t.objects o.0) (row_in x o.0)) (sym same) (row_same (row_in t.objects o.0))

---------------------------------------------------------------- ends in another order

module _ (t u : NodeSlots) (each : (n : Node) → IsRowReordered (row_at t n) (row_at u n)) where
  pub cells_reordered : AreReordered (cells t) (cells u)
  unfolding cells
  cells_reordered = record {
    vals = λ e. (each e.node).vals e.feature;
    pairing = λ e. (each e.node).pairing e.feature;
    hold = λ n. (each n).hold;
    entered = λ n. (each n).entered;
  }

  pub room_reordered : room u ≡ room t
  unfolding room
  room_reordered = λ i.
      record {
        places = λ e. (each e.node).places e.feature i;
        mixed = λ e. (each e.node).mixed e.feature i;
        entries = λ n. (each n).entries i;
        rows = λ n. (each n).kept i;
      }

pub objects_reordered : (t u : NodeSlots) → AreRowsReordered (row_in t.objects) (row_in u.objects) → u.resources ≡ t.resources → (n : Node) → IsRowReordered (row_at t n) (row_at u n)
objects_reordered t u h same (node.Object o) = h o.0
objects_reordered t u h same (node.Resource r) = subst (λ (x : Table). IsRowReordered (row_in t.resources r.0) (row_in x r.0)) (sym same) (row_unmoved (row_in t.resources r.0))

pub resources_reordered : (t u : NodeSlots) → AreRowsReordered (row_in t.resources) (row_in u.resources) → u.objects ≡ t.objects → (n : Node) → IsRowReordered (row_at t n) (row_at u n)
resources_reordered t u h same (node.Resource r) = h r.0
resources_reordered t u h same (node.Object o) = subst (λ (x : Table). IsRowReordered (row_in t.objects o.0) (row_in x o.0)) (sym same) (row_unmoved (row_in t.objects o.0))

---------------------------------------------------------------- capacity reserved

module _ (t u : NodeSlots) (each : (n : Node) → IsRowGrown (row_at t n) (row_at u n)) where
  pub promised_value : (e : End) (n : Node) → e.node ≡ n → row_indexes (row_at t n) e.feature + 1 ≤ row_indexes (row_at u n) e.feature → HasGained (λ x. one_if (same_end e x)) no_ends (room t) (room u)
  unfolding room
  promised_value e n is h = record {
    places = λ x. elim (same_end e x) as (λ b. same_end e x ≡ b → row_indexes (row_at t x.node) x.feature + one_if b ≤ row_indexes (row_at u x.node) x.feature) [
      | true ↦ λ q. subst (λ (y : End). row_indexes (row_at t y.node) y.feature + 1 ≤ row_indexes (row_at u y.node) y.feature) (same_end-true e x q) (subst (λ (k : Node). row_indexes (row_at t k) e.feature + 1 ≤ row_indexes (row_at u k) e.feature) (sym is) h)
      | false ↦ λ q. omega (arith, (each x.node).places x.feature)
    ] refl;
    mixed = λ x. (each x.node).mixed x.feature;
    entries = λ m. omega (arith, (each m).entries);
  }

  pub promised_entry : (n : Node) → row_entries (row_at t n) + 1 ≤ row_entries (row_at u n) → HasGained no_values (λ m. one_if (same_node n m)) (room t) (room u)
  unfolding room
  promised_entry n h = record {
    places = λ x. omega (arith, (each x.node).places x.feature);
    mixed = λ x. (each x.node).mixed x.feature;
    entries = λ m. elim (same_node n m) as (λ b. same_node n m ≡ b → row_entries (row_at t m) + one_if b ≤ row_entries (row_at u m)) [
      | true ↦ λ q. subst (λ (k : Node). row_entries (row_at t k) + 1 ≤ row_entries (row_at u k)) (same_node-true n m q) h
      | false ↦ λ q. omega (arith, (each m).entries)
    ] refl;
  }

-- an end for which capacity for any value is reserved may have any
pub promised_mixed : (t : NodeSlots) (e : End) (n : Node) (b : Bool) → e.node ≡ n → (b ≡ true → row_mixed (row_at t n) e.feature ≡ true) → b ≡ true → (room t).mixed e ≡ true
unfolding room
promised_mixed t e n b is h q = subst (λ (k : Node). row_mixed (row_at t k) e.feature ≡ true) (sym is) (h q)

pub same_twice : {X : Type 0} (b : Bool) (z : X) → (if b then z else z) ≡ z
same_twice true z = refl
same_twice false z = refl

-- the reserved capacity is no part of the cells
pub forget_cells : (n : Node) (f : FeatureNo) (k : ℕ) (c : Cells) → cell_edit n (Change f (Forget k)) c ≡ c
forget_cells n f k c = λ i.
    record {
      vals = λ e. (ap (λ (vs : List Value). if same_node n e.node then vs else c.vals e) (same_twice (same_feature f e.feature) (c.vals e)) ∙ same_twice (same_node n e.node) (c.vals e)) i;
      pairing = λ e. (ap (λ (p : Pairing). if same_node n e.node then p else c.pairing e) (same_twice (same_feature f e.feature) (c.pairing e)) ∙ same_twice (same_node n e.node) (c.pairing e)) i;
      hold = λ m. same_twice (same_node n m) (c.hold m) i;
      entered = λ m. same_twice (same_node n m) (c.entered m) i;
    }

pub grown_room : (t u : NodeSlots) → ((n : Node) → IsRowGrown (row_at t n) (row_at u n)) → HasGained no_values no_ends (room t) (room u)
unfolding room
grown_room t u each = record {
  places = λ x. omega (arith, (each x.node).places x.feature);
  mixed = λ x. (each x.node).mixed x.feature;
  entries = λ m. omega (arith, (each m).entries);
}

---------------------------------------------------------------- no row

-- a node without a row is not changed
module _ (t : NodeSlots) (n : Node) (x : RowEdit) (none : row_index_of t n ≡ None) (fits : Fits n x (room t)) where
  no_row : row_at t n ≡ None
  no_row = by n none
    where
      by : (m : Node) → row_index_of t m ≡ None → row_at t m ≡ None
      by (node.Object o) h = ap (row_from t.objects.rows) h
      by (node.Resource r) h = ap (row_from t.resources.rows) h

  unchanged : IsRowEdited x (row_at t n) (row_at t n)
  unchanged = unedited_row x (row_at t n) no_row (fits_at t n x fits)

  pub unedited_cells : cells t ≡ cell_edit n x (cells t)
  unedited_cells = cells_edited t t n x unchanged (λ m ne. refl)

  pub unedited_room : KeepsRoom n x (room t) (room t)
  unedited_room = room_edited t t n x unchanged (λ m ne. refl)

-- a node with a row has an index for it
pub known_place : (t : NodeSlots) (n : Node) → row_index_of t n ≡ None → (room t).rows n ≡ true → ⊥
unfolding room
known_place t (node.Object o) none h = false≢true (ap (λ (p : Option ℕ). is_row (row_from t.objects.rows p)) (sym none) ∙ h)
known_place t (node.Resource r) none h = false≢true (ap (λ (p : Option ℕ). is_row (row_from t.resources.rows p)) (sym none) ∙ h)
