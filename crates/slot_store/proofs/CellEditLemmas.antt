-- What each part of an edit makes of the cells: of the values of an end, of what is known of its feature, of the holders and of what holds
-- a node.
use Rattle.std.proofs.Common.{◌≡◌, ◌≢◌, ℕ, Bool, true, false, ◌&&◌, Option, Some, None, if◌then◌else◌, refl, ap, ◌∙◌, subst}
use Rattle.std.specs.List.{position, remove}
use Rattle.std.specs.Option.{option_map_or}
use Rattle.mm_types.specs.Same.{same_end, same_feature, same_node}
use Rattle.mm_types.specs.declared.numbers.Node.{Node}
use Rattle.mm_types.specs.declared.numbers.Node.TheVariants as node
use Rattle.mm_types.specs.declared.numbers.ObjectNo.{ObjectNo}
use Rattle.mm_types.specs.declared.end.End.{End}
use Rattle.mm_types.proofs.SameLemmas.{same_end-self, same_node-true}
use Rattle.links.proofs.PlaceLemmas.{ne-same_end, same_node_if}
use Rattle.node_slots.specs.declared.row.RowEdit.TheVariants.{Leave}
use Rattle.node_slots.specs.Cells.{Cells, cell_edit}
pub use Rattle.node_slots.proofs.CellLemmas.{same_twice}
use Rattle.slot_store.specs.EditedCells.{cells_after_hold, cells_after_release, without_entry}
use Rattle.slot_store.proofs.OnceLemmas.{without_end}

pub two_tests : {X : Type 0} (a b : Bool) (y z : X) → (if a then (if b then y else z) else z) ≡ (if a && b then y else z)
two_tests true b y z = refl
two_tests false b y z = refl

---------------------------------------------------------------- ends

-- a change at the end d has an effect there
pub here : {X : Type 0} (d x : End) (y z : X) → d ≡ x → (if same_node d.node x.node then (if same_feature d.feature x.feature then y else z) else z) ≡ y
here d x y z is = two_tests _ _ y z ∙ ap (λ (b : Bool). if b then y else z) (subst (λ (e : End). same_end d e ≡ true) is (same_end-self d))

-- a change at the end d has no effect elsewhere
pub there : {X : Type 0} (d x : End) (y z : X) → d ≢ x → (if same_node d.node x.node then (if same_feature d.feature x.feature then y else z) else z) ≡ z
there d x y z ne = two_tests _ _ y z ∙ ap (λ (b : Bool). if b then y else z) (ne-same_end d x ne)

---------------------------------------------------------------- nodes

no_node : (n m : Node) → n ≢ m → same_node n m ≡ false
no_node n m ne = elim (same_node n m) as (λ b. same_node n m ≡ b → b ≡ false) [
  | true ↦ λ p. absurd (ne (same_node-true n m p))
  | false ↦ λ p. refl
] refl

pub if_node : {X : Type 0} (n m : Node) (y z : X) → n ≡ m → (if same_node n m then y else z) ≡ y
if_node n m y z is = ap (λ (b : Bool). if b then y else z) (same_node_if n m is)

pub else_node : {X : Type 0} (n m : Node) (y z : X) → n ≢ m → (if same_node n m then y else z) ≡ z
else_node n m y z ne = ap (λ (b : Bool). if b then y else z) (no_node n m ne)

---------------------------------------------------------------- a holder recorded

pub cells_after_hold-vals : (o : Option (Node × End)) (c : Cells) (x : End) → (cells_after_hold o c).vals x ≡ c.vals x
cells_after_hold-vals None c x = refl
cells_after_hold-vals (Some p) c x = same_twice (same_node p.0 x.node) (c.vals x)

pub cells_after_hold-pairing : (o : Option (Node × End)) (c : Cells) (x : End) → (cells_after_hold o c).pairing x ≡ c.pairing x
cells_after_hold-pairing None c x = refl
cells_after_hold-pairing (Some p) c x = same_twice (same_node p.0 x.node) (c.pairing x)

pub cells_after_hold-entered : (o : Option (Node × End)) (c : Cells) (m : Node) → (cells_after_hold o c).entered m ≡ c.entered m
cells_after_hold-entered None c m = refl
cells_after_hold-entered (Some p) c m = same_twice (same_node p.0 m) (c.entered m)

pub cells_after_release-vals : (o : Option (Node × End)) (c : Cells) (x : End) → (cells_after_release o c).vals x ≡ c.vals x
cells_after_release-vals None c x = refl
cells_after_release-vals (Some p) c x = same_twice (same_node p.0 x.node) (c.vals x)

pub cells_after_release-pairing : (o : Option (Node × End)) (c : Cells) (x : End) → (cells_after_release o c).pairing x ≡ c.pairing x
cells_after_release-pairing None c x = refl
cells_after_release-pairing (Some p) c x = same_twice (same_node p.0 x.node) (c.pairing x)

pub cells_after_release-entered : (o : Option (Node × End)) (c : Cells) (m : Node) → (cells_after_release o c).entered m ≡ c.entered m
cells_after_release-entered None c m = refl
cells_after_release-entered (Some p) c m = same_twice (same_node p.0 m) (c.entered m)

---------------------------------------------------------------- an entry taken out

module _ (e : End) (o : ObjectNo) (c : Cells) where
  abbrev left : Option ℕ → Cells
  left p = option_map_or (λ (i : ℕ). cell_edit (node.Object o) (Leave i) c) p c

  pub entry_out-vals : (x : End) → (without_entry e o c).vals x ≡ c.vals x
  entry_out-vals x = elim (position (same_end e) (c.entered (node.Object o))) as (λ p. (left p).vals x ≡ c.vals x) [ None ↦ refl | Some i ↦ same_twice (same_node (node.Object o) x.node) (c.vals x) ]

  pub entry_out-pairing : (x : End) → (without_entry e o c).pairing x ≡ c.pairing x
  entry_out-pairing x = elim (position (same_end e) (c.entered (node.Object o))) as (λ p. (left p).pairing x ≡ c.pairing x) [ None ↦ refl | Some i ↦ same_twice (same_node (node.Object o) x.node) (c.pairing x) ]

  pub entry_out-hold : (m : Node) → (without_entry e o c).hold m ≡ c.hold m
  entry_out-hold m = elim (position (same_end e) (c.entered (node.Object o))) as (λ p. (left p).hold m ≡ c.hold m) [ None ↦ refl | Some i ↦ same_twice (same_node (node.Object o) m) (c.hold m) ]

  -- the entries of the object itself
  entry_out : (without_entry e o c).entered (node.Object o) ≡ without_end e (c.entered (node.Object o))
  entry_out =
      let ds = c.entered (node.Object o) in
      elim (position (same_end e) ds) as (λ p. (left p).entered (node.Object o) ≡ option_map_or (λ (i : ℕ). remove ds i) p ds) [ None ↦ refl | Some i ↦ if_node (node.Object o) (node.Object o) (remove ds i) ds refl ]

  pub entry_out_here : (m : Node) → node.Object o ≡ m → (without_entry e o c).entered m ≡ without_end e (c.entered m)
  entry_out_here m is = subst (λ (n : Node). (without_entry e o c).entered n ≡ without_end e (c.entered n)) is entry_out

  pub entry_out_there : (m : Node) → node.Object o ≢ m → (without_entry e o c).entered m ≡ c.entered m
  entry_out_there m ne = elim (position (same_end e) (c.entered (node.Object o))) as (λ p. (left p).entered m ≡ c.entered m) [ None ↦ refl | Some i ↦ else_node (node.Object o) m (remove (c.entered m) i) (c.entered m) ne ]
