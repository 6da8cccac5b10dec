-- The recorded holders after an edit are those of the edited set.
use Rattle.std.proofs.Common.{◌≡◌, ℕ, true, false, ltb, ◌&&◌, length, Option, Some, None, if◌then◌else◌, refl, sym, ap, ◌∙◌}
use Rattle.std.specs.List.{position}
use Rattle.std.specs.Option.{option_map_or, option_or}
use Rattle.std.proofs.lemmas.Bool.{eqb-true}
use Rattle.mm_types.specs.Ends.{index_in}
use Rattle.mm_types.specs.Same.{node_value, same_feature, same_node, same_value}
use Rattle.mm_types.specs.declared.numbers.FeatureNo.{FeatureNo}
use Rattle.mm_types.specs.declared.numbers.Node.{Node}
use Rattle.mm_types.specs.declared.numbers.Node.TheVariants as node
use Rattle.mm_types.specs.declared.numbers.ObjectNo.{ObjectNo}
use Rattle.mm_types.specs.declared.end.End.{End}
use Rattle.mm_types.specs.declared.value.Value.{Value}
use Rattle.mm_types.specs.declared.value.Value.TheVariants as value
use Rattle.links.specs.declared.link.Far.TheVariants.{At, Alone}
use Rattle.links.specs.Holders.{holding_end}
use Rattle.links.specs.Links.{Links, end, far_end, joined_link, new_link}
use Rattle.links.proofs.HolderLemmas.{unheld}
use Rattle.node_slots.specs.declared.row.RowEdit.TheVariants.{Change}
use Rattle.node_slots.specs.declared.slot.SlotEdit.TheVariants.{Remove}
use Rattle.node_slots.specs.Cells.{Cells, cell_edit}
use Rattle.slot_store.specs.CellLinks.{link_to}
use Rattle.slot_store.specs.EditedCells.{cells_after_hold, cells_after_release, cut_cells, cut_far, held_far, held_node, put_cells, put_far, put_near, without_value}
use Rattle.slot_store.proofs.CellEditLemmas.{entry_out-hold, same_twice}

-- the holder of m by a pair of a node and its holder
abbrev pub pair_holding : Option (Node × End) → Node → Option End
pair_holding None m = None
pair_holding (Some p) m = if same_node p.0 m then Some p.1 else None

-- the two features of a link are different
abbrev pub AreTwo : End → Option FeatureNo → Type 0
AreTwo e None = Unit {0}
AreTwo e (Some g) = (g.0 ≡ e.feature.0) → ⊥

---------------------------------------------------------------- of links

alone_holding : (h : Option FeatureNo) (e : End) (k : ℕ) (o : ObjectNo) (m : Node) → holding_end (record { end = e; index = k; far = Alone o; container = h }) m ≡ pair_holding (held_node e o None h) m
alone_holding None e k o m = refl
alone_holding (Some h) e k o m = elim (same_feature e.feature h) as (λ b. (if b then (if same_node (node.Object o) m then Some e else None) else None) ≡ pair_holding (if b then Some (node.Object o, e) else None) m) [ true ↦ refl | false ↦ refl ]

module _ (e : End) (k : ℕ) (o : ObjectNo) (g : FeatureNo) (j : ℕ) (m : Node) where
  abbrev far : End
  far = far_end o g

  near_first : (h : Option FeatureNo) → holding_end (record { end = e; index = k; far = At far j; container = h }) m ≡ pair_holding (held_node e o (Some g) h) m
  near_first None = refl
  near_first (Some h) =
      elim (same_feature e.feature h) as (λ b. (if b then (if same_node (node.Object o) m then Some e else None) else (if same_feature g h && same_node e.node m then Some far else None)) ≡ pair_holding (if b then Some (node.Object o, e) else held_far e o (Some g) h) m) [
        | true ↦ refl
        | false ↦ elim (same_feature g h) as (λ b. (if b && same_node e.node m then Some far else None) ≡ pair_holding (if b then Some (e.node, far) else None) m) [ true ↦ refl | false ↦ refl ]
      ]

  far_first : (h : Option FeatureNo) → ((g.0 ≡ e.feature.0) → ⊥) → holding_end (record { end = far; index = j; far = At e k; container = h }) m ≡ pair_holding (held_node e o (Some g) h) m
  far_first None ne = refl
  far_first (Some h) ne =
      elim (same_feature g h) as (λ b. same_feature g h ≡ b → (if b then (if same_node e.node m then Some far else None) else (if same_feature e.feature h && same_node (node.Object o) m then Some e else None)) ≡ pair_holding (if same_feature e.feature h then Some (node.Object o, e) else (if b then Some (e.node, far) else None)) m) [
        | true ↦ λ p. elim (same_feature e.feature h) as (λ b. same_feature e.feature h ≡ b → (if same_node e.node m then Some far else None) ≡ pair_holding (if b then Some (node.Object o, e) else Some (e.node, far)) m) [
          | true ↦ λ q. absurd (ne (eqb-true g.0 h.0 p ∙ sym (eqb-true e.feature.0 h.0 q)))
          | false ↦ λ q. refl
        ] refl
        | false ↦ λ p. elim (same_feature e.feature h) as (λ b. (if b && same_node (node.Object o) m then Some e else None) ≡ pair_holding (if b then Some (node.Object o, e) else None) m) [ true ↦ refl | false ↦ refl ]
      ] refl

  joined_holding : (h : Option FeatureNo) → ((g.0 ≡ e.feature.0) → ⊥) → holding_end (joined_link e k far j h) m ≡ pair_holding (held_node e o (Some g) h) m
  joined_holding h ne =
      elim (ltb e.feature.0 g.0) as (λ b. holding_end (if b then record { end = e; index = k; far = At far j; container = h } else record { end = far; index = j; far = At e k; container = h }) m ≡ pair_holding (held_node e o (Some g) h) m) [
        | true ↦ near_first h
        | false ↦ far_first h ne
      ]

-- the link that a put makes has the contained node and the holder of the pair
pub new_holding : (s : Links) (e : End) (i : ℕ) (o : ObjectNo) (g h : Option FeatureNo) → AreTwo e g → (m : Node) → holding_end (new_link s e i o g h) m ≡ pair_holding (held_node e o g h) m
new_holding s e i o None h two m = alone_holding h e i o m
new_holding s e i o (Some g) h two m = joined_holding e i o g (length (end s (far_end o g))) m h two

-- the same for the link of a position
pub link_holding : (c : Cells) (e : End) (k : ℕ) (o : ObjectNo) (g : Option FeatureNo) → AreTwo e g → (m : Node) → holding_end (link_to c e k o g) m ≡ pair_holding (held_node e o g (c.pairing e).container) m
link_holding c e k o None two m = alone_holding (c.pairing e).container e k o m
link_holding c e k o (Some g) two m = joined_holding e k o g (index_in (c.vals (far_end o g)) (node_value e.node)) m (c.pairing e).container two

---------------------------------------------------------------- of cells

cells_after_hold-hold : (p : Option (Node × End)) (c : Cells) (m : Node) → (cells_after_hold p c).hold m ≡ option_or (pair_holding p m) (c.hold m)
cells_after_hold-hold None c m = refl
cells_after_hold-hold (Some p) c m = elim (same_node p.0 m) as (λ b. (if b then Some p.1 else c.hold m) ≡ option_or (if b then Some p.1 else None) (c.hold m)) [ true ↦ refl | false ↦ refl ]

cells_after_release-hold : (p : Option (Node × End)) (c : Cells) (m : Node) → (cells_after_release p c).hold m ≡ unheld (pair_holding p m) (c.hold m)
cells_after_release-hold None c m = refl
cells_after_release-hold (Some p) c m = elim (same_node p.0 m) as (λ b. (if b then None else c.hold m) ≡ unheld (if b then Some p.1 else None) (c.hold m)) [ true ↦ refl | false ↦ refl ]

pub without-hold : (e : End) (v : Value) (c : Cells) (m : Node) → (without_value e v c).hold m ≡ c.hold m
without-hold e v c m = elim (position (same_value v) (c.vals e)) as (λ p. (option_map_or (λ (i : ℕ). cell_edit e.node (Change e.feature (Remove i)) c) p c).hold m ≡ c.hold m) [
  | None ↦ refl
  | Some i ↦ same_twice (same_node e.node m) (c.hold m)
]

put_far-hold : (e : End) (o : ObjectNo) (g h : Option FeatureNo) (c : Cells) (m : Node) → (put_far e o g h c).hold m ≡ c.hold m
put_far-hold e o None h c m = same_twice (same_node (node.Object o) m) (c.hold m)
put_far-hold e o (Some g) h c m = same_twice (same_node (node.Object o) m) (c.hold m)

cut_far-hold : (e : End) (o : ObjectNo) (g : Option FeatureNo) (c : Cells) (m : Node) → (cut_far e o g c).hold m ≡ c.hold m
cut_far-hold e o None c m = entry_out-hold e o c m
cut_far-hold e o (Some g) c m = without-hold (far_end o g) (node_value e.node) c m

pub put-hold : (e : End) (i : ℕ) (o : ObjectNo) (g h : Option FeatureNo) (c : Cells) (m : Node) → (put_cells e i o g h c).hold m ≡ option_or (pair_holding (held_node e o g h) m) (c.hold m)
put-hold e i o g h c m =
    let near = put_near e i (value.Object o) (Some (record { opposite = g; container = h })) c in
    cells_after_hold-hold (held_node e o g h) (put_far e o g h near) m
    ∙ ap (option_or (pair_holding (held_node e o g h) m)) (put_far-hold e o g h near m ∙ same_twice (same_node e.node m) (c.hold m))

pub cut-hold : (e : End) (o : ObjectNo) (g h : Option FeatureNo) (c : Cells) (m : Node) → (cut_cells e o g h c).hold m ≡ unheld (pair_holding (held_node e o g h) m) (c.hold m)
cut-hold e o g h c m =
    let far = cut_far e o g c in
    cells_after_release-hold (held_node e o g h) (without_value e (value.Object o) far) m
    ∙ ap (unheld (pair_holding (held_node e o g h) m)) (without-hold e (value.Object o) far m ∙ cut_far-hold e o g c m)
