-- The lists after an edit are the ends of the edited set.
use Rattle.std.proofs.Common.{◌≡◌, ◌≢◌, ℕ, ◌<◌, Bool, true, false, List, [], ◌∷◌, ◌++◌, length, Option, Some, None, if◌then◌else◌, refl, sym, ap, ◌∙◌, subst, inl, inr}
use Rattle.std.specs.List.{insert, position, remove, slice_get}
use Rattle.std.specs.Option.{option_map_or}
use Rattle.std.proofs.lemmas.Bool.{false≢true}
use Rattle.mm_types.specs.Ends.{index_in}
use Rattle.mm_types.specs.Lists.{values_after_move}
use Rattle.mm_types.specs.Same.{node_value, same_end, same_feature, same_node, same_value}
use Rattle.mm_types.specs.declared.numbers.FeatureNo.{FeatureNo}
use Rattle.mm_types.specs.declared.numbers.Node.TheVariants as node
use Rattle.mm_types.specs.declared.numbers.ObjectNo.{ObjectNo}
use Rattle.mm_types.specs.declared.end.End.{End}
use Rattle.mm_types.specs.declared.value.Value.{Value}
use Rattle.mm_types.specs.declared.value.Value.TheVariants as value
use Rattle.mm_types.proofs.SameLemmas.{same_end-true}
use Rattle.links.specs.Laws.{is_far}
use Rattle.links.specs.LegalSets.{IsDistinct, IsLegalSet, IsPlaced}
use Rattle.links.specs.Links.{In, Links, cut, cut_value, end, far_end, joined_link, list_without, put, put_proxy, shift}
use Rattle.links.specs.Indexed.{indexed_value}
use Rattle.links.specs.Plans.{EditFits, PutFits, put_of}
use Rattle.links.specs.declared.link.Link.{Link}
use Rattle.links.proofs.CutLemmas.{end-cut, end-shift_near, end-shift_other}
use Rattle.links.proofs.PlaceLemmas.{ne-same_end}
use Rattle.links.proofs.PutEndLemmas.{end-put}
use Rattle.links.proofs.PutLemmas.{cases_end, end-put_proxy_near, end-put_proxy_other, indexed_value-joined_far, indexed_value-joined_other}
use Rattle.links.proofs.ScanLemmas.{cut_value_is}
use Rattle.node_slots.specs.declared.row.RowEdit.TheVariants.{Change}
use Rattle.node_slots.specs.declared.slot.SlotEdit.TheVariants.{Move, Remove}
use Rattle.node_slots.specs.Cells.{Cells, cell_edit}
use Rattle.slot_store.specs.CellLinks.{AreLists, cell_links, link_from, link_to}
use Rattle.slot_store.specs.EditedCells.{cut_cells, cut_far, held_node, put_cells, put_far, put_near, without_value}
use Rattle.slot_store.proofs.CellEditLemmas.{cells_after_hold-vals, cells_after_release-vals, entry_out-vals, here, same_twice, there, two_tests}
use Rattle.slot_store.proofs.LinkLemmas.{end-lists, link_in, lists_placed, place_from, slice_get-index_in}
use Rattle.slot_store.proofs.PositionLemmas.{position_is}

---------------------------------------------------------------- parts

-- if at most one of two changes of a list is made, either may be tested first
either_first : (a b : Bool) (y z : List Value) (w : Value) → (a ≡ true → b ≡ true → ⊥) → (if b then (if a then y else z) ++ w ∷ [] else (if a then y else z)) ≡ (if a then y else if b then z ++ w ∷ [] else z)
either_first true true y z w apart = absurd (apart refl refl)
either_first true false y z w apart = refl
either_first false true y z w apart = refl
either_first false false y z w apart = refl

-- if the list has the value, the value is taken out of its position
pub without_is : (c : Cells) (e : End) (v : Value) (k : ℕ) (xs : List Value) → IsDistinct xs → slice_get xs k ≡ Some v → c.vals e ≡ xs → without_value e v c ≡ cell_edit e.node (Change e.feature (Remove k)) c
without_is c e v k xs distinct at same =
    ap (λ (o : Option ℕ). option_map_or (λ (i : ℕ). cell_edit e.node (Change e.feature (Remove i)) c) o c) (ap (position (same_value v)) same ∙ position_is xs v k distinct at)

module _ (c : Cells) (es : List End) (ok : AreLists c es) where
  abbrev was : Links
  was = cell_links c es

  ends : (x : End) → end was x ≡ c.vals x
  ends x = end-lists c es ok x

  ---------------------------------------------------------------- puts

  module _ (e : End) (i : ℕ) (o : ObjectNo) (g h : Option FeatureNo) (legal : IsLegalSet was) (fits : EditFits was (put_of e i o g h)) where
    abbrev near : Cells
    near = put_near e i (value.Object o) (Some (record { opposite = g; container = h })) c

    -- the near list, and the far list after the near one
    put_far_end : (k : Option FeatureNo) (x : End) → (same_end e x ≡ true → is_far o k x ≡ true → ⊥) → (put_far e o k h near).vals x ≡ (if same_end e x then insert (c.vals x) i (value.Object o) else if is_far o k x then c.vals x ++ node_value e.node ∷ [] else c.vals x)
    put_far_end None x apart = same_twice (same_node (node.Object o) x.node) (near.vals x) ∙ two_tests (same_node e.node x.node) (same_feature e.feature x.feature) (insert (c.vals x) i (value.Object o)) (c.vals x)
    put_far_end (Some k) x apart =
        two_tests (same_node (node.Object o) x.node) (same_feature k x.feature) (near.vals x ++ node_value e.node ∷ []) (near.vals x)
        ∙ ap (λ (xs : List Value). if same_end (far_end o k) x then xs ++ node_value e.node ∷ [] else xs) (two_tests (same_node e.node x.node) (same_feature e.feature x.feature) (insert (c.vals x) i (value.Object o)) (c.vals x))
        ∙ either_first (same_end e x) (same_end (far_end o k) x) (insert (c.vals x) i (value.Object o)) (c.vals x) (node_value e.node) apart

    not_both : (k : Option FeatureNo) → EditFits was (put_of e i o k h) → (x : End) → same_end e x ≡ true → is_far o k x ≡ true → ⊥
    not_both None can x a b = false≢true b
    not_both (Some k) can x a b = can.1.apart (λ t. ((same_end-true (far_end o k) x b ∙ sym (same_end-true e x a)) t).feature.0)

    pub ends_put : (x : End) → end (put was e i o g h) x ≡ (put_cells e i o g h c).vals x
    ends_put x =
        end-put was e i o g h legal fits x
        ∙ ap (λ (xs : List Value). if same_end e x then insert xs i (value.Object o) else if is_far o g x then xs ++ node_value e.node ∷ [] else xs) (ends x)
        ∙ sym (cells_after_hold-vals (held_node e o g h) (put_far e o g h near) x ∙ put_far_end g x (not_both g fits x))

  pub ends_put_proxy : (e : End) (i : ℕ) (t : List ℕ) → IsPlaced was → PutFits was e i (value.Proxy t) → (x : End) → end (put_proxy was e i t) x ≡ (put_near e i (value.Proxy t) None c).vals x
  ends_put_proxy e i t placed fits x = elim (cases_end e x) [
    | inl is ↦
        subst (λ (y : End). end (put_proxy was e i t) y ≡ insert (c.vals y) i (value.Proxy t)) is (end-put_proxy_near was e i t placed fits ∙ ap (λ (xs : List Value). insert xs i (value.Proxy t)) (ends e))
        ∙ sym (here e x (insert (c.vals x) i (value.Proxy t)) (c.vals x) is)
    | inr ne ↦ end-put_proxy_other was e i t placed fits x ne ∙ ends x ∙ sym (there e x (insert (c.vals x) i (value.Proxy t)) (c.vals x) ne)
  ]

  pub ends_shift : (e : End) (to from : ℕ) → IsPlaced was → from < length (end was e) → to < length (end was e) → (x : End) → end (shift was e to from) x ≡ (cell_edit e.node (Change e.feature (Move to from)) c).vals x
  ends_shift e to from placed a b x = elim (cases_end e x) [
    | inl is ↦
        subst (λ (y : End). end (shift was e to from) y ≡ values_after_move (c.vals y) to from) is (end-shift_near was placed e to from a b ∙ ap (λ (xs : List Value). values_after_move xs to from) (ends e))
        ∙ sym (here e x (values_after_move (c.vals x) to from) (c.vals x) is)
    | inr ne ↦ end-shift_other was placed e to from a b x ne ∙ ends x ∙ sym (there e x (values_after_move (c.vals x) to from) (c.vals x) ne)
  ]

  ---------------------------------------------------------------- cuts

  module _ (e : End) (k : ℕ) (v : Value) (at : slice_get (c.vals e) k ≡ Some v) where
    -- the link that is cut
    abbrev pub the_link : Link
    the_link = link_from c e k v

    pub link_within : In the_link was
    link_within = link_in c es ok e k v at

    pub cut_is : cut_value was e v ≡ cut was the_link
    cut_is = cut_value_is was e v the_link k (lists_placed c es ok) link_within (place_from c es ok e k v at)

    cut_end : (x : End) → end (cut_value was e v) x ≡ list_without (c.vals x) (indexed_value the_link x)
    cut_end x = ap (λ (s : Links). end s x) cut_is ∙ end-cut was (lists_placed c es ok) the_link link_within x ∙ ap (λ (xs : List Value). list_without xs (indexed_value the_link x)) (ends x)

    -- the near end, for any cells that have the same list there
    without_here : (d : Cells) (x : End) → d.vals e ≡ c.vals e → d.vals x ≡ c.vals x → e ≡ x → (without_value e v d).vals x ≡ list_without (c.vals x) (indexed_value the_link x)
    without_here d x same_e same_x is =
        ap (λ (u : Cells). u.vals x) (without_is d e v k (c.vals e) (ok.distinct e) at same_e)
        ∙ here e x (remove (d.vals x) k) (d.vals x) is
        ∙ ap (λ (xs : List Value). remove xs k) same_x
        ∙ ap (λ (p : Option (ℕ × Value)). list_without (c.vals x) p) (sym (subst (λ (y : End). indexed_value the_link y ≡ Some (k, v)) is (place_from c es ok e k v at)))

    without_there : (d : Cells) (x : End) → d.vals e ≡ c.vals e → e ≢ x → (without_value e v d).vals x ≡ d.vals x
    without_there d x same_e ne = ap (λ (u : Cells). u.vals x) (without_is d e v k (c.vals e) (ok.distinct e) at same_e) ∙ there e x (remove (d.vals x) k) (d.vals x) ne

  pub ends_cut_proxy : (e : End) (k : ℕ) (t : List ℕ) → slice_get (c.vals e) k ≡ Some (value.Proxy t) → (x : End) → end (cut_value was e (value.Proxy t)) x ≡ (without_value e (value.Proxy t) c).vals x
  ends_cut_proxy e k t at x = cut_end e k (value.Proxy t) at x ∙ elim (cases_end e x) [
    | inl is ↦ sym (without_here e k (value.Proxy t) at c x refl refl is)
    | inr ne ↦
        let other = ne-same_end e x ne in
        let out : indexed_value (link_from c e k (value.Proxy t)) x ≡ None = rw other refl in
        ap (λ (p : Option (ℕ × Value)). list_without (c.vals x) p) out ∙ sym (without_there e k (value.Proxy t) at c x refl ne)
  ]

  module _ (e : End) (k : ℕ) (o : ObjectNo) (at : slice_get (c.vals e) k ≡ Some (value.Object o)) where
    abbrev v : Value
    v = value.Object o

    -- the far end of the cut, if the feature has an opposite
    module _ (g : FeatureNo) (q : (c.pairing e).opposite ≡ Some g) where
      abbrev y : End
      y = far_end o g

      abbrev pub j : ℕ
      j = index_in (c.vals y) (node_value e.node)

      at_far : slice_get (c.vals y) j ≡ Some (node_value e.node)
      at_far = let b = (ok.mutual_ e k o g at q).back in slice_get-index_in (c.vals y) (node_value e.node) b.0 b.1

      apart : e ≢ y
      apart same = (ok.mutual_ e k o g at q).apart (λ i. (sym same i).feature.0)

      pub cut_far_is : cut_far e o (Some g) c ≡ cell_edit (node.Object o) (Change g (Remove j)) c
      cut_far_is = without_is c y (node_value e.node) j (c.vals y) (ok.distinct y) at_far refl

      pub far_here : (x : End) → y ≡ x → (cut_far e o (Some g) c).vals x ≡ remove (c.vals x) j
      far_here x is = ap (λ (u : Cells). u.vals x) cut_far_is ∙ here y x (remove (c.vals x) j) (c.vals x) is

      pub far_there : (x : End) → y ≢ x → (cut_far e o (Some g) c).vals x ≡ c.vals x
      far_there x ne = ap (λ (u : Cells). u.vals x) cut_far_is ∙ there y x (remove (c.vals x) j) (c.vals x) ne

    cut_at : (g : Option FeatureNo) → (c.pairing e).opposite ≡ g → (x : End) → list_without (c.vals x) (indexed_value (link_to c e k o g) x) ≡ (without_value e v (cut_far e o g c)).vals x
    cut_at None q x =
        let d = cut_far e o None c in
        let same : (z : End) → d.vals z ≡ c.vals z = λ z. entry_out-vals e o c z in
        elim (cases_end e x) [
          | inl is ↦
              ap (λ (p : Option FeatureNo). list_without (c.vals x) (indexed_value (link_to c e k o p) x)) (sym q) ∙ sym (without_here e k v at d x (same e) (same x) is)
          | inr ne ↦
              let other = ne-same_end e x ne in
              let out : indexed_value (link_to c e k o None) x ≡ None = rw other refl in
              ap (λ (p : Option (ℕ × Value)). list_without (c.vals x) p) out ∙ sym (without_there e k v at d x (same e) ne ∙ same x)
        ]
    cut_at (Some g) q x =
        let far = far_end o g in
        let i = index_in (c.vals far) (node_value e.node) in
        let h = (c.pairing e).container in
        let ne_far : e ≢ far = apart g q in
        let d = cut_far e o (Some g) c in
        let same_e : d.vals e ≡ c.vals e = far_there g q e (λ s. ne_far (sym s)) in
        elim (cases_end e x) [
          | inl is ↦
              let same_x : d.vals x ≡ c.vals x = subst (λ (z : End). d.vals z ≡ c.vals z) is same_e in
              ap (λ (p : Option FeatureNo). list_without (c.vals x) (indexed_value (link_to c e k o p) x)) (sym q) ∙ sym (without_here e k v at d x same_e same_x is)
          | inr ne ↦ elim (cases_end far x) [
            | inl is ↦
                ap (λ (p : Option (ℕ × Value)). list_without (c.vals x) p) (subst (λ (z : End). indexed_value (joined_link e k far i h) z ≡ Some (i, node_value e.node)) is (indexed_value-joined_far e k far i h ne_far))
                ∙ sym (without_there e k v at d x same_e ne ∙ far_here g q x is)
            | inr out ↦
                ap (λ (p : Option (ℕ × Value)). list_without (c.vals x) p) (indexed_value-joined_other e k far i h ne_far x ne out)
                ∙ sym (without_there e k v at d x same_e ne ∙ far_there g q x out)
          ]
        ]

    pub ends_cut : (h : Option FeatureNo) (x : End) → end (cut_value was e v) x ≡ (cut_cells e o (c.pairing e).opposite h c).vals x
    ends_cut h x =
        let g = (c.pairing e).opposite in
        cut_end e k v at x ∙ cut_at g refl x ∙ sym (cells_after_release-vals (held_node e o g h) (without_value e v (cut_far e o g c)) x)
