-- The ends without an opposite that have an object, after each edit.
use Rattle.std.proofs.Common.{◌≡◌, ◌≢◌, ℕ, ◌<◌, ◌≤◌, true, false, List, [], ◌∷◌, ◌++◌, length, Option, Some, None, if◌then◌else◌, refl, sym, ap, ◌∙◌, subst, inl, inr}
use Rattle.std.specs.Prelude.{◌↔◌}
use Rattle.std.specs.List.{insert, position, remove, slice_get}
use Rattle.std.specs.Option.{option_map_or}
use Rattle.std.proofs.lemmas.Option.{none-some}
use Rattle.mm_types.specs.Lists.{values_after_move}
use Rattle.mm_types.specs.Same.{node_value, same_node, same_value}
use Rattle.mm_types.specs.declared.numbers.FeatureNo.{FeatureNo}
use Rattle.mm_types.specs.declared.numbers.Node.{Node}
use Rattle.mm_types.specs.declared.numbers.Node.TheVariants as node
use Rattle.mm_types.specs.declared.numbers.ObjectNo.{ObjectNo}
use Rattle.mm_types.specs.declared.end.End.{End}
use Rattle.mm_types.specs.declared.value.Value.{Value}
use Rattle.mm_types.specs.declared.value.Value.TheVariants as value
use Rattle.links.specs.Laws.{IsFar}
use Rattle.links.specs.LegalSets.{AreKinds, IsDistinct, Kinds}
use Rattle.links.specs.Links.{far_end}
use Rattle.links.specs.Plans.{has_end}
use Rattle.links.proofs.EntriesLemmas.{has_end_left}
use Rattle.links.proofs.ListLemmas.{distinct_remove, removed_absent}
use Rattle.links.proofs.PlaceLemmas.{not_proxy, same_node_value}
use Rattle.links.proofs.PutLemmas.{cases_end}
use Rattle.links.proofs.ForestLemmas.{cases_node}
use Rattle.node_slots.specs.declared.row.RowEdit.TheVariants.{Change}
use Rattle.node_slots.specs.declared.slot.SlotEdit.TheVariants.{Move, Remove}
use Rattle.node_slots.specs.Cells.{Cells, cell_edit}
use Rattle.slot_store.specs.CellLinks.{HasValue, IsOnce}
use Rattle.slot_store.specs.EditedCells.{cut_cells, cut_far, held_node, put_cells, put_far, put_near, without_value}
use Rattle.slot_store.proofs.CellEditLemmas.{cells_after_hold-entered, cells_after_hold-vals, cells_after_release-entered, cells_after_release-vals, else_node, entry_out-vals, entry_out_here, entry_out_there, here, if_node, same_twice, there}
use Rattle.slot_store.proofs.KeptEndLemmas.{without_is}
use Rattle.slot_store.proofs.StandLemmas.{HasValue-insert, HasValue-remove, HasValue-values_after_move, HasValue_insert_new, HasValue_insert_old, HasValue_remove, HasValue_shifted, has_end-push, has_end_new}
use Rattle.slot_store.proofs.OnceLemmas.{has_end-without, has_end_without, once-push, once-without, without_end}

-- the object is in x, which has no opposite
abbrev pub EntersAlone : Kinds → Cells → ObjectNo → End → Type 0
EntersAlone m c o x = (m.opposite x.feature ≡ None) × HasValue (c.vals x) (value.Object o)

-- the entries of each object are the ends without an opposite that have it
abbrev pub AreEntered : Kinds → Cells → Type 0
AreEntered m c = (o : ObjectNo) (x : End) → (has_end (c.entered (node.Object o)) x ≡ true) ↔ EntersAlone m c o x

-- each object has each of its entries once
abbrev pub AreOnce : Cells → Type 0
AreOnce c = (o : ObjectNo) → IsOnce (c.entered (node.Object o))

pub once_same : (c d : Cells) → ((n : Node) → d.entered n ≡ c.entered n) → AreOnce c → AreOnce d
once_same c d same once o = subst IsOnce (sym (same (node.Object o))) (once o)

---------------------------------------------------------------- lists that an edit leaves

put_far-other : (e : End) (o : ObjectNo) (g h : Option FeatureNo) (c : Cells) (x : End) → (IsFar o g x → ⊥) → (put_far e o g h c).vals x ≡ c.vals x
put_far-other e o None h c x out = same_twice (same_node (node.Object o) x.node) (c.vals x)
put_far-other e o (Some g) h c x out = there (far_end o g) x (c.vals x ++ node_value e.node ∷ []) (c.vals x) out

without-other : (e : End) (v : Value) (c : Cells) (x : End) → e ≢ x → (without_value e v c).vals x ≡ c.vals x
without-other e v c x ne = elim (position (same_value v) (c.vals e)) as (λ p. (option_map_or (λ (i : ℕ). cell_edit e.node (Change e.feature (Remove i)) c) p c).vals x ≡ c.vals x) [
  | None ↦ refl
  | Some i ↦ there e x (remove (c.vals x) i) (c.vals x) ne
]

pub without-entered : (e : End) (v : Value) (c : Cells) (n : Node) → (without_value e v c).entered n ≡ c.entered n
without-entered e v c n = elim (position (same_value v) (c.vals e)) as (λ p. (option_map_or (λ (i : ℕ). cell_edit e.node (Change e.feature (Remove i)) c) p c).entered n ≡ c.entered n) [
  | None ↦ refl
  | Some i ↦ same_twice (same_node e.node n) (c.entered n)
]

cut_far-other : (e : End) (o : ObjectNo) (g : Option FeatureNo) (c : Cells) (x : End) → (IsFar o g x → ⊥) → (cut_far e o g c).vals x ≡ c.vals x
cut_far-other e o None c x out = entry_out-vals e o c x
cut_far-other e o (Some g) c x out = without-other (far_end o g) (node_value e.node) c x out

-- after a cut at the far end no list has a value twice
pub cut_far-distinct : (e : End) (o : ObjectNo) (g : Option FeatureNo) (c : Cells) → ((x : End) → IsDistinct (c.vals x)) → (x : End) → IsDistinct ((cut_far e o g c).vals x)
cut_far-distinct e o None c once x = subst IsDistinct (sym (entry_out-vals e o c x)) (once x)
cut_far-distinct e o (Some g) c once x =
    let y = far_end o g in
    elim (position (same_value (node_value e.node)) (c.vals y)) as (λ p. IsDistinct ((option_map_or (λ (i : ℕ). cell_edit y.node (Change y.feature (Remove i)) c) p c).vals x)) [
      | None ↦ once x
      | Some i ↦ elim (cases_end y x) [
        | inl is ↦ subst IsDistinct (sym (here y x (remove (c.vals x) i) (c.vals x) is)) (distinct_remove (c.vals x) i (once x))
        | inr ne ↦ subst IsDistinct (sym (there y x (remove (c.vals x) i) (c.vals x) ne)) (once x)
      ]
    ]

module _ (m : Kinds) (meta : AreKinds m) (c : Cells) (entered : AreEntered m c) where
  -- if the lists without an opposite keep their objects, and the entries stay
  carry : (d : Cells) → ((n : Node) → d.entered n ≡ c.entered n) → ((x : End) (o : ObjectNo) → m.opposite x.feature ≡ None → HasValue (c.vals x) (value.Object o) → HasValue (d.vals x) (value.Object o)) → ((x : End) (o : ObjectNo) → m.opposite x.feature ≡ None → HasValue (d.vals x) (value.Object o) → HasValue (c.vals x) (value.Object o)) → AreEntered m d
  carry d same to from o x = (
    λ h. (let old = (entered o x).0 (sym (ap (λ (ds : List End). has_end ds x) (same (node.Object o))) ∙ h) in (old.0, to x o old.0 old.1)),
    λ now. ap (λ (ds : List End). has_end ds x) (same (node.Object o)) ∙ (entered o x).1 (now.0, from x o now.0 now.1),
  )

  stands_now : (d : Cells) (x : End) (o : ObjectNo) → d.vals x ≡ c.vals x → HasValue (c.vals x) (value.Object o) → HasValue (d.vals x) (value.Object o)
  stands_now d x o is h = subst (λ (xs : List Value). HasValue xs (value.Object o)) (sym is) h

  stood : (d : Cells) (x : End) (o : ObjectNo) → d.vals x ≡ c.vals x → HasValue (d.vals x) (value.Object o) → HasValue (c.vals x) (value.Object o)
  stood d x o is h = subst (λ (xs : List Value). HasValue xs (value.Object o)) is h

  -- an end with no opposite is no far end
  no_far : (e : End) (n : ObjectNo) (g : Option FeatureNo) → m.opposite e.feature ≡ g → (x : End) → m.opposite x.feature ≡ None → IsFar n g x → ⊥
  no_far e n None q x alone f = f
  no_far e n (Some g) q x alone f = none-some e.feature (sym alone ∙ ap (λ (y : End). m.opposite y.feature) (sym f) ∙ meta.inverse e.feature g q)

  with_opposite : (e : End) (g : FeatureNo) → m.opposite e.feature ≡ Some g → (x : End) → m.opposite x.feature ≡ None → e ≢ x
  with_opposite e g q x alone is = none-some g (sym alone ∙ ap (λ (y : End). m.opposite y.feature) (sym is) ∙ q)

  ---------------------------------------------------------------- put

  module _ (e : End) (i : ℕ) (n : ObjectNo) (h : Option FeatureNo) where
    abbrev near : Option FeatureNo → Cells
    near g = put_near e i (value.Object n) (Some (record { opposite = g; container = h })) c

    put_here : (g : Option FeatureNo) (x : End) → (IsFar n g x → ⊥) → e ≡ x → (put_cells e i n g h c).vals x ≡ insert (c.vals x) i (value.Object n)
    put_here g x out is = cells_after_hold-vals (held_node e n g h) (put_far e n g h (near g)) x ∙ put_far-other e n g h (near g) x out ∙ here e x (insert (c.vals x) i (value.Object n)) (c.vals x) is

    put_there : (g : Option FeatureNo) (x : End) → (IsFar n g x → ⊥) → e ≢ x → (put_cells e i n g h c).vals x ≡ c.vals x
    put_there g x out ne = cells_after_hold-vals (held_node e n g h) (put_far e n g h (near g)) x ∙ put_far-other e n g h (near g) x out ∙ there e x (insert (c.vals x) i (value.Object n)) (c.vals x) ne

    -- if the feature has an opposite, the entries stay
    entries_put : (g : FeatureNo) (k : Node) → (put_cells e i n (Some g) h c).entered k ≡ c.entered k
    entries_put g k = cells_after_hold-entered (held_node e n (Some g) h) (put_far e n (Some g) h (near (Some g))) k ∙ same_twice (same_node (node.Object n) k) ((near (Some g)).entered k) ∙ same_twice (same_node e.node k) (c.entered k)

    module _ (q : m.opposite e.feature ≡ None) (le : i ≤ length (c.vals e)) (o : ObjectNo) (x : End) where
      abbrev d : Cells
      d = put_cells e i n None h c

      abbrev pub old_ends : List End
      old_ends = c.entered (node.Object o)

      base : d.entered (node.Object o) ≡ (if same_node (node.Object n) (node.Object o) then old_ends ++ e ∷ [] else old_ends)
      base =
          cells_after_hold-entered (held_node e n None h) (put_far e n None h (near None)) (node.Object o)
          ∙ ap (λ (ds : List End). if same_node (node.Object n) (node.Object o) then ds ++ e ∷ [] else ds) (same_twice (same_node e.node (node.Object o)) old_ends)

      within : e ≡ x → i ≤ length (c.vals x)
      within is = subst (λ (y : End). i ≤ length (c.vals y)) is le

      old_in : EntersAlone m c o x → EntersAlone m d o x
      old_in old = (
        old.0,
        elim (cases_end e x) [
          | inl is ↦ subst (λ (xs : List Value). HasValue xs (value.Object o)) (sym (put_here None x (λ f. f) is)) (HasValue_insert_old (c.vals x) i (value.Object n) (within is) (value.Object o) old.1)
          | inr ne ↦ stands_now d x o (put_there None x (λ f. f) ne) old.1
        ],
      )

      new_in : e ≡ x → node.Object n ≡ node.Object o → EntersAlone m d o x
      new_in is who = (
        ap (λ (y : End). m.opposite y.feature) (sym is) ∙ q,
        subst (λ (xs : List Value). HasValue xs (value.Object o)) (sym (put_here None x (λ f. f) is))
            (subst (λ (p : Node). HasValue (insert (c.vals x) i (value.Object n)) (node_value p)) who (HasValue_insert_new (c.vals x) i (value.Object n) (within is))),
      )

      into : has_end (d.entered (node.Object o)) x ≡ true → EntersAlone m d o x
      into p = elim (cases_node (node.Object n) (node.Object o)) [
        | inl who ↦ elim (has_end-push old_ends e x (subst (λ (ds : List End). has_end ds x ≡ true) (base ∙ if_node (node.Object n) (node.Object o) (old_ends ++ e ∷ []) old_ends who) p)) [
          | inl old ↦ old_in ((entered o x).0 old)
          | inr is ↦ new_in is who
        ]
        | inr ne ↦ old_in ((entered o x).0 (subst (λ (ds : List End). has_end ds x ≡ true) (base ∙ else_node (node.Object n) (node.Object o) (old_ends ++ e ∷ []) old_ends ne) p))
      ]

      pushed : has_end old_ends x ≡ true → has_end (d.entered (node.Object o)) x ≡ true
      pushed p = subst (λ (ds : List End). has_end ds x ≡ true) (sym base) (elim (same_node (node.Object n) (node.Object o)) as (λ b. has_end (if b then old_ends ++ e ∷ [] else old_ends) x ≡ true) [
        | true ↦ has_end_left old_ends (e ∷ []) x p
        | false ↦ p
      ])

      out_of : EntersAlone m d o x → has_end (d.entered (node.Object o)) x ≡ true
      out_of now = elim (cases_end e x) [
        | inl is ↦ elim (HasValue-insert (c.vals x) i (value.Object n) (within is) (value.Object o) (subst (λ (xs : List Value). HasValue xs (value.Object o)) (put_here None x (λ f. f) is) now.1)) [
          | inl new ↦
              let who = sym (same_node_value (node.Object o) (node.Object n) tt new) in
              subst (λ (ds : List End). has_end ds x ≡ true) (sym (base ∙ if_node (node.Object n) (node.Object o) (old_ends ++ e ∷ []) old_ends who))
              (subst (λ (y : End). has_end (old_ends ++ e ∷ []) y ≡ true) is (has_end_new old_ends e))
          | inr old ↦ pushed ((entered o x).1 (now.0, old))
        ]
        | inr ne ↦ pushed ((entered o x).1 (now.0, stood d x o (put_there None x (λ f. f) ne) now.1))
      ]

    -- a put of an object that is not in the list adds one entry
    pub once_put : (g : Option FeatureNo) → m.opposite e.feature ≡ g → i ≤ length (c.vals e) → (HasValue (c.vals e) (value.Object n) → ⊥) → AreOnce c → AreOnce (put_cells e i n g h c)
    once_put None q le absent single o = subst IsOnce (sym (base q le o e)) (
        let ds = c.entered (node.Object o) in
        elim (cases_node (node.Object n) (node.Object o)) [
          | inl who ↦ subst IsOnce (sym (if_node (node.Object n) (node.Object o) (ds ++ e ∷ []) ds who))
              (once-push ds e (single o) (λ p. absent (subst (λ (y : Node). HasValue (c.vals e) (node_value y)) (sym who) ((entered o e).0 p).1)))
          | inr ne ↦ subst IsOnce (sym (else_node (node.Object n) (node.Object o) (ds ++ e ∷ []) ds ne)) (single o)
        ])
    once_put (Some g) q le absent single o = once_same c (put_cells e i n (Some g) h c) (entries_put g) single o

    pub entered_put : (g : Option FeatureNo) → m.opposite e.feature ≡ g → i ≤ length (c.vals e) → AreEntered m (put_cells e i n g h c)
    entered_put None q le = λ o x. (into q le o x, out_of q le o x)
    entered_put (Some g) q le =
        let d = put_cells e i n (Some g) h c in
        let same : (x : End) → m.opposite x.feature ≡ None → d.vals x ≡ c.vals x = λ x alone. put_there (Some g) x (no_far e n (Some g) q x alone) (with_opposite e g q x alone) in
        carry d (entries_put g)
        (λ x o alone. stands_now d x o (same x alone)) (λ x o alone. stood d x o (same x alone))

  ---------------------------------------------------------------- proxies and moves

  pub entered_put_proxy : (e : End) (i : ℕ) (t : List ℕ) → i ≤ length (c.vals e) → AreEntered m (put_near e i (value.Proxy t) None c)
  entered_put_proxy e i t le =
      let d = put_near e i (value.Proxy t) None c in
      carry d (λ k. same_twice (same_node e.node k) (c.entered k))
      (λ x o alone h. elim (cases_end e x) [
        | inl is ↦
            subst (λ (xs : List Value). HasValue xs (value.Object o)) (sym (here e x (insert (c.vals x) i (value.Proxy t)) (c.vals x) is))
            (HasValue_insert_old (c.vals x) i (value.Proxy t) (subst (λ (y : End). i ≤ length (c.vals y)) is le) (value.Object o) h)
        | inr ne ↦ stands_now d x o (there e x (insert (c.vals x) i (value.Proxy t)) (c.vals x) ne) h
      ])
      (λ x o alone h. elim (cases_end e x) [
        | inl is ↦ elim (HasValue-insert (c.vals x) i (value.Proxy t) (subst (λ (y : End). i ≤ length (c.vals y)) is le) (value.Object o) (subst (λ (xs : List Value). HasValue xs (value.Object o)) (here e x (insert (c.vals x) i (value.Proxy t)) (c.vals x) is) h)) [
          | inl new ↦ absurd (not_proxy t (node.Object o) (sym new))
          | inr old ↦ old
        ]
        | inr ne ↦ stood d x o (there e x (insert (c.vals x) i (value.Proxy t)) (c.vals x) ne) h
      ])

  pub entered_shift : (e : End) (to from : ℕ) (w : Value) → slice_get (c.vals e) from ≡ Some w → to < length (c.vals e) → AreEntered m (cell_edit e.node (Change e.feature (Move to from)) c)
  entered_shift e to from w at lt =
      let d = cell_edit e.node (Change e.feature (Move to from)) c in
      let at_x : (x : End) → e ≡ x → slice_get (c.vals x) from ≡ Some w = λ x is. subst (λ (y : End). slice_get (c.vals y) from ≡ Some w) is at in
      let lt_x : (x : End) → e ≡ x → to < length (c.vals x) = λ x is. subst (λ (y : End). to < length (c.vals y)) is lt in
      carry d (λ k. same_twice (same_node e.node k) (c.entered k))
      (λ x o alone h. elim (cases_end e x) [
        | inl is ↦ subst (λ (xs : List Value). HasValue xs (value.Object o)) (sym (here e x (values_after_move (c.vals x) to from) (c.vals x) is)) (HasValue_shifted (c.vals x) to from w (at_x x is) (lt_x x is) (value.Object o) h)
        | inr ne ↦ stands_now d x o (there e x (values_after_move (c.vals x) to from) (c.vals x) ne) h
      ])
      (λ x o alone h. elim (cases_end e x) [
        | inl is ↦ HasValue-values_after_move (c.vals x) to from w (at_x x is) (lt_x x is) (value.Object o) (subst (λ (xs : List Value). HasValue xs (value.Object o)) (here e x (values_after_move (c.vals x) to from) (c.vals x) is) h)
        | inr ne ↦ stood d x o (there e x (values_after_move (c.vals x) to from) (c.vals x) ne) h
      ])

  ---------------------------------------------------------------- cuts

  module _ (e : End) (k : ℕ) (v : Value) (distinct : IsDistinct (c.vals e)) (at : slice_get (c.vals e) k ≡ Some v) where
    at_x : (x : End) → e ≡ x → slice_get (c.vals x) k ≡ Some v
    at_x x is = subst (λ (y : End). slice_get (c.vals y) k ≡ Some v) is at

    removed : (d : Cells) → ((x : End) → d.vals x ≡ c.vals x) → (x : End) → e ≡ x → (without_value e v d).vals x ≡ remove (c.vals x) k
    removed d same x is =
        ap (λ (u : Cells). u.vals x) (without_is d e v k (c.vals e) distinct at (same e))
        ∙ here e x (remove (d.vals x) k) (d.vals x) is
        ∙ ap (λ (xs : List Value). remove xs k) (same x)

  pub entered_cut_proxy : (e : End) (k : ℕ) (t : List ℕ) → IsDistinct (c.vals e) → slice_get (c.vals e) k ≡ Some (value.Proxy t) → AreEntered m (without_value e (value.Proxy t) c)
  entered_cut_proxy e k t distinct at =
      let v = value.Proxy t in
      let d = without_value e v c in
      let left : (x : End) → e ≡ x → d.vals x ≡ remove (c.vals x) k = λ x is. removed e k v distinct at c (λ y. refl) x is in
      carry d (λ n. without-entered e v c n)
      (λ x o alone h. elim (cases_end e x) [
        | inl is ↦ subst (λ (xs : List Value). HasValue xs (value.Object o)) (sym (left x is)) (HasValue_remove (c.vals x) k (value.Object o) v (at_x e k v distinct at x is) (λ same. not_proxy t (node.Object o) (sym same)) h)
        | inr ne ↦ stands_now d x o (without-other e v c x ne) h
      ])
      (λ x o alone h. elim (cases_end e x) [
        | inl is ↦ HasValue-remove (c.vals x) k (value.Object o) (subst (λ (xs : List Value). HasValue xs (value.Object o)) (left x is) h)
        | inr ne ↦ stood d x o (without-other e v c x ne) h
      ])

  module _ (e : End) (k : ℕ) (n : ObjectNo) (h : Option FeatureNo) (distinct : IsDistinct (c.vals e)) (at : slice_get (c.vals e) k ≡ Some (value.Object n)) where
    abbrev cut_d : Option FeatureNo → Cells
    cut_d g = cut_cells e n g h c

    cut_there : (g : Option FeatureNo) (x : End) → (IsFar n g x → ⊥) → e ≢ x → (cut_d g).vals x ≡ c.vals x
    cut_there g x out ne =
        cells_after_release-vals (held_node e n g h) (without_value e (value.Object n) (cut_far e n g c)) x
        ∙ without-other e (value.Object n) (cut_far e n g c) x ne
        ∙ cut_far-other e n g c x out

    cut_here : (x : End) → e ≡ x → (cut_d None).vals x ≡ remove (c.vals x) k
    cut_here x is =
        cells_after_release-vals (held_node e n None h) (without_value e (value.Object n) (cut_far e n None c)) x
        ∙ removed e k (value.Object n) distinct at (cut_far e n None c) (λ y. cut_far-other e n None c y (λ f. f)) x is

    left_entered : (g : Option FeatureNo) (p : Node) → (cut_d g).entered p ≡ (cut_far e n g c).entered p
    left_entered g p = cells_after_release-entered (held_node e n g h) (without_value e (value.Object n) (cut_far e n g c)) p ∙ without-entered e (value.Object n) (cut_far e n g c) p

    module _ (q : m.opposite e.feature ≡ None) (single : AreOnce c) (o : ObjectNo) (x : End) where
      abbrev pub all_ends : List End
      all_ends = c.entered (node.Object o)

      abbrev pub left_ends : List End
      left_ends = (cut_d None).entered (node.Object o)

      left_here : node.Object n ≡ node.Object o → left_ends ≡ without_end e all_ends
      left_here who = left_entered None (node.Object o) ∙ entry_out_here e n c (node.Object o) who

      left_there : node.Object n ≢ node.Object o → left_ends ≡ all_ends
      left_there ne = left_entered None (node.Object o) ∙ entry_out_there e n c (node.Object o) ne

      stays : e ≢ x → EntersAlone m c o x → EntersAlone m (cut_d None) o x
      stays ne old = (old.0, stands_now (cut_d None) x o (cut_there None x (λ f. f) ne) old.1)

      cut_into : has_end left_ends x ≡ true → EntersAlone m (cut_d None) o x
      cut_into p = elim (cases_node (node.Object n) (node.Object o)) [
        | inl who ↦
            let r = has_end-without e all_ends (single o) x (subst (λ (ds : List End). has_end ds x ≡ true) (left_here who) p) in
            stays r.1 ((entered o x).0 r.0)
        | inr ne ↦
            let old = (entered o x).0 (subst (λ (ds : List End). has_end ds x ≡ true) (left_there ne) p) in
            elim (cases_end e x) [
              | inl is ↦ (
                old.0,
                subst (λ (xs : List Value). HasValue xs (value.Object o)) (sym (cut_here x is))
                    (HasValue_remove (c.vals x) k (value.Object o) (value.Object n) (at_x e k (value.Object n) distinct at x is) (λ same. ne (sym (same_node_value (node.Object o) (node.Object n) tt same))) old.1),
              )
              | inr out ↦ stays out old
            ]
      ]

      cut_back : IsDistinct (c.vals x) → EntersAlone m (cut_d None) o x → has_end left_ends x ≡ true
      cut_back once now = elim (cases_end e x) [
        | inl is ↦
            let had = subst (λ (xs : List Value). HasValue xs (value.Object o)) (cut_here x is) now.1 in
            elim (cases_node (node.Object n) (node.Object o)) [
              | inl who ↦ absurd (removed_absent (c.vals x) k (value.Object n) once (at_x e k (value.Object n) distinct at x is) had.0 (had.1 ∙ ap (λ (p : Node). Some (node_value p)) (sym who)))
              | inr ne ↦ subst (λ (ds : List End). has_end ds x ≡ true) (sym (left_there ne)) ((entered o x).1 (now.0, HasValue-remove (c.vals x) k (value.Object o) had))
            ]
        | inr out ↦
            let old = (entered o x).1 (now.0, stood (cut_d None) x o (cut_there None x (λ f. f) out) now.1) in
            elim (cases_node (node.Object n) (node.Object o)) [
              | inl who ↦ subst (λ (ds : List End). has_end ds x ≡ true) (sym (left_here who)) (has_end_without e all_ends (single o) x out old)
              | inr ne ↦ subst (λ (ds : List End). has_end ds x ≡ true) (sym (left_there ne)) old
            ]
      ]

    pub once_cut : (g : Option FeatureNo) → m.opposite e.feature ≡ g → AreOnce c → AreOnce (cut_d g)
    once_cut None q single o = elim (cases_node (node.Object n) (node.Object o)) [
      | inl who ↦ subst IsOnce (sym (left_here q single o e who)) (once-without e (c.entered (node.Object o)) (single o))
      | inr ne ↦ subst IsOnce (sym (left_there q single o e ne)) (single o)
    ]
    once_cut (Some g) q single o = once_same c (cut_d (Some g)) (λ p. left_entered (Some g) p ∙ without-entered (far_end n g) (node_value e.node) c p) single o

    pub entered_cut : (g : Option FeatureNo) → m.opposite e.feature ≡ g → AreOnce c → ((x : End) → IsDistinct (c.vals x)) → AreEntered m (cut_d g)
    entered_cut None q single once = λ o x. (cut_into q single o x, cut_back q single o x (once x))
    entered_cut (Some g) q single once =
        let same : (x : End) → m.opposite x.feature ≡ None → (cut_d (Some g)).vals x ≡ c.vals x = λ x alone. cut_there (Some g) x (no_far e n (Some g) q x alone) (with_opposite e g q x alone) in
        carry (cut_d (Some g)) (λ p. left_entered (Some g) p ∙ without-entered (far_end n g) (node_value e.node) c p)
        (λ x o alone. stands_now (cut_d (Some g)) x o (same x alone)) (λ x o alone. stood (cut_d (Some g)) x o (same x alone))
