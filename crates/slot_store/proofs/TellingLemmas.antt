-- The pairing of each feature is that of the metamodel, before and after each part of an edit.
use Rattle.std.proofs.Common.{◌≡◌, ℕ, ◌<◌, ◌≤◌, true, false, ltb, List, length, Option, Some, None, if◌then◌else◌, refl, sym, ap, ◌∙◌, subst, inl, inr}
use Rattle.std.specs.List.{position, slice_get}
use Rattle.std.specs.Option.{option_map_or}
use Rattle.mm_types.specs.Ends.{index_in}
use Rattle.mm_types.specs.Same.{node_value, same_value}
use Rattle.mm_types.specs.declared.numbers.FeatureNo.{FeatureNo}
use Rattle.mm_types.specs.declared.numbers.Node.{Node}
use Rattle.mm_types.specs.declared.numbers.Node.TheVariants as node
use Rattle.mm_types.specs.declared.numbers.ObjectNo.{ObjectNo}
use Rattle.mm_types.specs.declared.end.End.{End}
use Rattle.mm_types.specs.declared.value.Value.{Value}
use Rattle.mm_types.specs.declared.value.Value.TheVariants as value
use Rattle.links.specs.LegalSets.{AreKinds, AreOfKind, IsOfKind, Kinds}
use Rattle.links.specs.Links.{far_end, joined_link}
use Rattle.links.specs.declared.link.Far.TheVariants.{At}
use Rattle.links.proofs.PutLemmas.{cases_end}
use Rattle.node_slots.specs.declared.slot.Pairing.{Pairing}
use Rattle.node_slots.specs.declared.slot.SlotEdit.{SlotEdit}
use Rattle.node_slots.specs.declared.slot.SlotEdit.TheVariants.{Insert, Push, Remove, Move}
use Rattle.node_slots.specs.declared.row.RowEdit.TheVariants.{Change}
use Rattle.node_slots.specs.Slots.{pairing_after, values_after}
use Rattle.node_slots.specs.Cells.{Cells, cell_edit}
use Rattle.slot_store.specs.CellLinks.{AreLists, HasValue, cell_links, link_from, link_to}
use Rattle.slot_store.specs.EditedCells.{cut_cells, cut_far, held_node, put_cells, put_far, put_near, without_value}
use Rattle.slot_store.proofs.CellEditLemmas.{entry_out-pairing, entry_out-vals, here, there, cells_after_hold-pairing, cells_after_hold-vals, cells_after_release-pairing, cells_after_release-vals, same_twice}
use Rattle.slot_store.proofs.LinkLemmas.{link_in}
use Rattle.slot_store.proofs.StandLemmas.{HasValue-insert, HasValue-push, HasValue-remove, HasValue-values_after_move}

abbrev pub kind_pairing : Kinds → FeatureNo → Pairing
kind_pairing m f = record { opposite = m.opposite f; container = m.container f }

-- for an object the pairing is that of the metamodel; for a proxy the feature is no containment
abbrev pub ToldAs : Kinds → FeatureNo → Pairing → Value → Type 0
ToldAs m f p (value.Object o) = p ≡ kind_pairing m f
ToldAs m f p (value.Proxy t) = m.container f ≡ None
ToldAs m f p _ = Unit {0}

abbrev pub IsTold : Kinds → Cells → Type 0
IsTold m c = (e : End) (k : ℕ) (v : Value) → slice_get (c.vals e) k ≡ Some v → ToldAs m e.feature (c.pairing e) v

---------------------------------------------------------------- of links

module _ (m : Kinds) (meta : AreKinds m) where
  -- the pairing of a feature by a link that agrees with the kinds, from either side
  joined_told : (e : End) (k : ℕ) (o : ObjectNo) (g : FeatureNo) (j : ℕ) (h : Option FeatureNo) → IsOfKind m (joined_link e k (far_end o g) j h) → (m.opposite e.feature ≡ Some g) × (h ≡ m.container e.feature)
  joined_told e k o g j h =
      elim (ltb e.feature.0 g.0) as (λ b. IsOfKind m (if b then record { end = e; index = k; far = At (far_end o g) j; container = h } else record { end = far_end o g; index = j; far = At e k; container = h }) → (m.opposite e.feature ≡ Some g) × (h ≡ m.container e.feature)) [
        | true ↦ λ kind. (kind.far.0, kind.container)
        | false ↦ λ kind. (kind.far.1, kind.container ∙ sym (meta.one_container e.feature g kind.far.1))
      ]

  module _ (c : Cells) (es : List End) (ok : AreLists c es) (of : AreOfKind m (cell_links c es)) where
    told_to : (e : End) (k : ℕ) (o : ObjectNo) (g : Option FeatureNo) → (c.pairing e).opposite ≡ g → IsOfKind m (link_to c e k o g) → c.pairing e ≡ kind_pairing m e.feature
    told_to e k o None q kind = λ i. record { opposite = (q ∙ sym kind.far) i; container = kind.container i }
    told_to e k o (Some g) q kind =
        let is = joined_told e k o g (index_in (c.vals (far_end o g)) (node_value e.node)) (c.pairing e).container kind in
        λ i. record { opposite = (q ∙ sym is.0) i; container = is.1 i }

    pub told_lists : IsTold m c
    told_lists e k (value.Object o) h = told_to e k o (c.pairing e).opposite refl (of (link_from c e k (value.Object o)) (link_in c es ok e k (value.Object o) h))
    told_lists e k (value.Proxy t) h = sym (of (link_from c e k (value.Proxy t)) (link_in c es ok e k (value.Proxy t) h)).container
    told_lists e k v h = tt

---------------------------------------------------------------- parts of edits

-- a pairing that is the metamodel's is right for all values of an end
told_of : (m : Kinds) (f : FeatureNo) (p q : Pairing) → q ≡ kind_pairing m f → (w : Value) → ToldAs m f p w → ToldAs m f q w
told_of m f p q is (value.Object o) h = is
told_of m f p q is (value.Proxy t) h = h
told_of m f p q is w h = tt

module _ (m : Kinds) (c : Cells) (told : IsTold m c) where
  pub told_same : (d : Cells) → ((x : End) → d.vals x ≡ c.vals x) → ((x : End) → d.pairing x ≡ c.pairing x) → IsTold m d
  told_same d vals pairing e k v h =
      subst (λ (p : Pairing). ToldAs m e.feature p v) (sym (pairing e)) (told e k v (ap (λ (xs : List Value). slice_get xs k) (sym (vals e)) ∙ h))

  -- the values of one end change
  told_change : (d : End) (x : SlotEdit) → ((w : Value) → HasValue (values_after x (c.vals d)) w → ToldAs m d.feature (pairing_after x (c.pairing d)) w) → IsTold m (cell_edit d.node (Change d.feature x) c)
  told_change d x law e k v h = elim (cases_end d e) [
    | inl is ↦
        subst (λ (p : Pairing). ToldAs m e.feature p v) (sym (here d e (pairing_after x (c.pairing e)) (c.pairing e) is))
        (subst (λ (y : End). (w : Value) → HasValue (values_after x (c.vals y)) w → ToldAs m y.feature (pairing_after x (c.pairing y)) w) is law v
        (k, ap (λ (xs : List Value). slice_get xs k) (sym (here d e (values_after x (c.vals e)) (c.vals e) is)) ∙ h))
    | inr ne ↦
        subst (λ (p : Pairing). ToldAs m e.feature p v) (sym (there d e (pairing_after x (c.pairing e)) (c.pairing e) ne))
        (told e k v (ap (λ (xs : List Value). slice_get xs k) (sym (there d e (values_after x (c.vals e)) (c.vals e) ne)) ∙ h))
  ]

  pub told_insert : (d : End) (i : ℕ) (v : Value) (p : Pairing) → i ≤ length (c.vals d) → p ≡ kind_pairing m d.feature → ToldAs m d.feature p v → IsTold m (put_near d i v (Some p) c)
  told_insert d i v p le is new = told_change d (Insert i v (Some p)) (λ w h. elim (HasValue-insert (c.vals d) i v le w h) [
    | inl same ↦ subst (λ (u : Value). ToldAs m d.feature p u) (sym same) new
    | inr old ↦ told_of m d.feature (c.pairing d) p is w (told d old.0 w old.1)
  ])

  pub told_push : (d : End) (v : Value) (p : Pairing) → p ≡ kind_pairing m d.feature → ToldAs m d.feature p v → IsTold m (cell_edit d.node (Change d.feature (Push v p)) c)
  told_push d v p is new = told_change d (Push v p) (λ w h. elim (HasValue-push (c.vals d) v w h) [
    | inl same ↦ subst (λ (u : Value). ToldAs m d.feature p u) (sym same) new
    | inr old ↦ told_of m d.feature (c.pairing d) p is w (told d old.0 w old.1)
  ])

  pub told_proxy : (d : End) (i : ℕ) (t : List ℕ) → i ≤ length (c.vals d) → m.container d.feature ≡ None → IsTold m (put_near d i (value.Proxy t) None c)
  told_proxy d i t le plain = told_change d (Insert i (value.Proxy t) None) (λ w h. elim (HasValue-insert (c.vals d) i (value.Proxy t) le w h) [
    | inl same ↦ subst (λ (u : Value). ToldAs m d.feature (c.pairing d) u) (sym same) plain
    | inr old ↦ told d old.0 w old.1
  ])

  pub told_shift : (d : End) (to from : ℕ) (v : Value) → slice_get (c.vals d) from ≡ Some v → to < length (c.vals d) → IsTold m (cell_edit d.node (Change d.feature (Move to from)) c)
  told_shift d to from v at lt = told_change d (Move to from) (λ w h. let old = HasValue-values_after_move (c.vals d) to from v at lt w h in told d old.0 w old.1)

  pub told_without : (d : End) (v : Value) → IsTold m (without_value d v c)
  told_without d v = elim (position (same_value v) (c.vals d)) as (λ o. IsTold m (option_map_or (λ (i : ℕ). cell_edit d.node (Change d.feature (Remove i)) c) o c)) [
    | None ↦ told
    | Some i ↦ told_change d (Remove i) (λ w h. let old = HasValue-remove (c.vals d) i w h in told d old.0 w old.1)
  ]

---------------------------------------------------------------- edits

module _ (m : Kinds) (meta : AreKinds m) (c : Cells) (told : IsTold m c) (e : End) (o : ObjectNo) where
  told_cut_far : (g : Option FeatureNo) → IsTold m (cut_far e o g c)
  told_cut_far None = told_same m c told (cut_far e o None c) (entry_out-vals e o c) (entry_out-pairing e o c)
  told_cut_far (Some g) = told_without m c told (far_end o g) (node_value e.node)

  pub told_cut : (g h : Option FeatureNo) → IsTold m (cut_cells e o g h c)
  told_cut g h =
      let d = cut_far e o g c in
      let u = without_value e (value.Object o) d in
      told_same m u (told_without m d (told_cut_far g) e (value.Object o)) (cut_cells e o g h c) (cells_after_release-vals (held_node e o g h) u) (cells_after_release-pairing (held_node e o g h) u)

  -- a pairing that is the metamodel's is right for a node; for a resource nothing is required
  told_node : (n : Node) (f : FeatureNo) (p : Pairing) → p ≡ kind_pairing m f → ToldAs m f p (node_value n)
  told_node (node.Object x) f p is = is
  told_node (node.Resource r) f p is = tt

  module _ (i : ℕ) (le : i ≤ length (c.vals e)) (h : Option FeatureNo) (by : h ≡ m.container e.feature) where
    told_put_far : (g : Option FeatureNo) → g ≡ m.opposite e.feature → (d : Cells) → IsTold m d → IsTold m (put_far e o g h d)
    told_put_far None q d now = told_same m d now (put_far e o None h d) (λ x. same_twice _ (d.vals x)) (λ x. same_twice _ (d.pairing x))
    told_put_far (Some g) q d now =
        let p : Pairing = record { opposite = Some e.feature; container = h } in
        let is : p ≡ kind_pairing m g = λ j. record { opposite = (sym (meta.inverse e.feature g (sym q))) j; container = (by ∙ meta.one_container e.feature g (sym q)) j } in
        told_push m d now (far_end o g) (node_value e.node) p is (told_node e.node g p is)

    pub told_put : (g : Option FeatureNo) → g ≡ m.opposite e.feature → IsTold m (put_cells e i o g h c)
    told_put g q =
        let p : Pairing = record { opposite = g; container = h } in
        let is : p ≡ kind_pairing m e.feature = λ j. record { opposite = q j; container = by j } in
        let near = put_near e i (value.Object o) (Some p) c in
        let d = put_far e o g h near in
        told_same m d (told_put_far g q near (told_insert m c told e i (value.Object o) p le is is)) (put_cells e i o g h c) (cells_after_hold-vals (held_node e o g h) d) (cells_after_hold-pairing (held_node e o g h) d)
