-- The invariant after each edit, and that the lists then stand for the edited set.
use Rattle.std.proofs.Common.{◌≡◌, ℕ, ◌<◌, ◌≤◌, List, [], ◌∷◌, length, get_or, Option, Some, None, refl, sym, ap, ◌∙◌, subst}
use Rattle.std.specs.List.{slice_get}
use Rattle.std.specs.Option.{option_or}
use Rattle.std.proofs.lemmas.Option.{slice_get-get_or}
use Rattle.mm_types.specs.Same.{same_node}
use Rattle.mm_types.specs.declared.numbers.FeatureNo.{FeatureNo}
use Rattle.mm_types.specs.declared.numbers.Node.{Node}
use Rattle.mm_types.specs.declared.numbers.ObjectNo.{ObjectNo}
use Rattle.mm_types.specs.declared.end.End.{End}
use Rattle.mm_types.specs.declared.value.Value.{Value}
use Rattle.mm_types.specs.declared.value.Value.TheVariants as value
use Rattle.links.specs.Holders.{holder, holding_end}
use Rattle.links.specs.LegalSets.{AreKinds, AreOfKind, IsHeldOnce, IsLegalSet, Kinds}
use Rattle.links.specs.Links.{Links, cut_value, end}
use Rattle.links.specs.Plans.{EditFits, FarFitsIn, Has, IsEditOfKind, links_after_edit, put_of}
use Rattle.links.specs.declared.plan.Edit.{Edit}
use Rattle.links.specs.declared.plan.Edit.TheVariants as edit
use Rattle.links.proofs.ContainedLemmas.{free_new}
use Rattle.links.proofs.CutNamedLemmas.{IsLinked, has_linked}
use Rattle.links.proofs.HolderLemmas.{holder-cut, holder-put, holder-put_proxy, holder-shift, unheld}
use Rattle.links.proofs.KindLemmas.{plan_keeps_kinds}
use Rattle.links.proofs.LegalLemmas.{edited_legal}
use Rattle.links.proofs.PutLemmas.{apart_of}
use Rattle.node_slots.specs.Cells.{Cells, HasKeys}
use Rattle.slot_store.specs.CellLinks.{HasValue, IsKept, StandsAlone, cell_links, link_from}
use Rattle.slot_store.specs.EditedCells.{cells_after, held_node}
use Rattle.slot_store.proofs.CellEditLemmas.{same_twice}
use Rattle.slot_store.proofs.KeptEndLemmas.{cut_is, ends_cut, ends_cut_proxy, ends_put, ends_put_proxy, ends_shift, link_within}
use Rattle.slot_store.proofs.KeptEntryLemmas.{AreEntered, AreOnce, EntersAlone, entered_cut, entered_cut_proxy, entered_put, entered_put_proxy, entered_shift, once_cut, once_put, once_same, without-entered}
use Rattle.slot_store.proofs.KeptHolderLemmas.{AreTwo, cut-hold, link_holding, new_holding, pair_holding, put-hold, without-hold}
use Rattle.slot_store.proofs.LinkLemmas.{end-lists, lists_placed}
use Rattle.slot_store.proofs.RebuiltLemmas.{rebuilt, rebuilt_links}
use Rattle.slot_store.proofs.TellingLemmas.{IsTold, told_cut, told_lists, told_proxy, told_put, told_shift, told_without}

-- if an object is at an end, the pairing of the feature is that of the metamodel
module _ (m : Kinds) (c : Cells) (told : IsTold m c) (o : ObjectNo) (x : End) where
  opposite_told : HasValue (c.vals x) (value.Object o) → (c.pairing x).opposite ≡ m.opposite x.feature
  opposite_told at = λ i. (told x at.0 (value.Object o) at.1 i).opposite

  alone_told : StandsAlone c o x → EntersAlone m c o x
  alone_told h = (sym (opposite_told h.1) ∙ h.0, h.1)

  told_alone : EntersAlone m c o x → StandsAlone c o x
  told_alone h = (opposite_told h.1 ∙ h.0, h.1)

far_two : (s : Links) (e : End) (o : ObjectNo) (g : Option FeatureNo) → FarFitsIn s e o g → AreTwo e g
far_two s e o None fits = tt
far_two s e o (Some g) fits = fits.apart

-- cells whose lists are the ends of a legal set satisfy the invariant, and stand for the set
module _ (m : Kinds) (meta : AreKinds m) (s : Links) (legal : IsLegalSet s) (of : AreOfKind m s) (d : Cells) (fs : List End) (keys : HasKeys d fs) (told : IsTold m d) (same : (x : End) → end s x ≡ d.vals x) where
  kept_from : ((n : Node) → d.hold n ≡ holder s n) → AreEntered m d → AreOnce d → IsKept d fs × (cell_links d fs ≡ s)
  kept_from holds entered once =
      let is = rebuilt_links m meta s legal.placed of d fs keys told same in (
        record {
          lists = rebuilt m meta s legal.placed of d fs keys told same;
          held = subst IsHeldOnce (sym is) legal.held;
          holds = λ n. holds n ∙ ap (λ (t : Links). holder t n) (sym is);
          entered = λ o x. (λ h. told_alone m d told o x ((entered o x).0 h), λ h. (entered o x).1 (alone_told m d told o x h));
          once = once;
        },
        is,
      )

module _ (m : Kinds) (meta : AreKinds m) (c : Cells) (es : List End) (ok : IsKept c es) (of : AreOfKind m (cell_links c es)) where
  abbrev was : Links
  was = cell_links c es

  legal : IsLegalSet was
  legal = record { placed = lists_placed c es ok.lists; held = ok.held }

  ends : (x : End) → end was x ≡ c.vals x
  ends x = end-lists c es ok.lists x

  told : IsTold m c
  told = told_lists m meta c es ok.lists of

  entered : AreEntered m c
  entered o x = (λ h. alone_told m c told o x ((ok.entered o x).0 h), λ h. (ok.entered o x).1 (told_alone m c told o x h))

  here_is : (e : End) (v : Value) → (at : Has was e v) → slice_get (c.vals e) at.0 ≡ Some v
  here_is e v at = ap (λ (xs : List Value). slice_get xs at.0) (sym (ends e)) ∙ at.1

  within : (e : End) (i : ℕ) → i ≤ length (end was e) → i ≤ length (c.vals e)
  within e i = subst (λ (xs : List Value). i ≤ length xs) (ends e)

  -- the holders after a link is cut
  cut_holder : (e : End) (k : ℕ) (v : Value) → slice_get (c.vals e) k ≡ Some v → (n : Node) → unheld (holding_end (link_from c e k v) n) (holder was n) ≡ holder (cut_value was e v) n
  cut_holder e k v at n =
      sym (ap (λ (s : Links). holder s n) (cut_is c es ok.lists e k v at) ∙ holder-cut was legal.placed ok.held (link_from c e k v) (link_within c es ok.lists e k v at) n)

  two_of : (e : End) (k : ℕ) (o : ObjectNo) (g : Option FeatureNo) → slice_get (c.vals e) k ≡ Some (value.Object o) → (c.pairing e).opposite ≡ g → AreTwo e g
  two_of e k o None at q = tt
  two_of e k o (Some g) at q = (ok.lists.mutual_ e k o g at q).apart

  module _ (x : Edit) (fs : List End) (fits : EditFits was x) (kind : IsEditOfKind m x) (keys : HasKeys (cells_after x c) fs) where
    abbrev now : Cells
    now = cells_after x c

    kept_by : IsTold m now → ((y : End) → end (links_after_edit was x) y ≡ now.vals y) → ((n : Node) → now.hold n ≡ holder (links_after_edit was x) n) → AreEntered m now → AreOnce now → IsKept now fs × (cell_links now fs ≡ links_after_edit was x)
    kept_by telling same holds entering single = kept_from m meta (links_after_edit was x) (edited_legal was x legal fits) (plan_keeps_kinds m meta was (x ∷ []) of (kind, tt)) now fs keys telling same holds entering single

  kept_cut : (e : End) (o : ObjectNo) (fs : List End) → EditFits was (edit.Cut e (value.Object o)) → HasKeys (cells_after (edit.Cut e (value.Object o)) c) fs → IsKept (cells_after (edit.Cut e (value.Object o)) c) fs × (cell_links (cells_after (edit.Cut e (value.Object o)) c) fs ≡ links_after_edit was (edit.Cut e (value.Object o)))
  kept_cut e o fs fits keys =
      let g = (c.pairing e).opposite in
      let h = (c.pairing e).container in
      let k = fits.0 in
      let at = here_is e (value.Object o) fits in
      kept_by (edit.Cut e (value.Object o)) fs fits tt keys (told_cut m meta c told e o g h) (ends_cut c es ok.lists e k o at h)
      (λ n.
      cut-hold e o g h c n ∙ ap (unheld (pair_holding (held_node e o g h) n)) (ok.holds n)
      ∙ ap (λ (p : Option End). unheld p (holder was n)) (sym (link_holding c e k o g (two_of e k o g at refl) n))
      ∙ cut_holder e k (value.Object o) at n)
      (entered_cut m meta c entered e k o h (ok.lists.distinct e) at g (sym (opposite_told m c told o e (k, at))) ok.once ok.lists.distinct)
      (once_cut m meta c entered e k o h (ok.lists.distinct e) at g (sym (opposite_told m c told o e (k, at))) ok.once)

  kept_cut_proxy : (e : End) (t : List ℕ) (fs : List End) → EditFits was (edit.Cut e (value.Proxy t)) → HasKeys (cells_after (edit.Cut e (value.Proxy t)) c) fs → IsKept (cells_after (edit.Cut e (value.Proxy t)) c) fs × (cell_links (cells_after (edit.Cut e (value.Proxy t)) c) fs ≡ links_after_edit was (edit.Cut e (value.Proxy t)))
  kept_cut_proxy e t fs fits keys =
      let v = value.Proxy t in
      let at = here_is e v fits in
      kept_by (edit.Cut e (value.Proxy t)) fs fits tt keys (told_without m c told e v) (ends_cut_proxy c es ok.lists e fits.0 t at)
      (λ n. without-hold e v c n ∙ ok.holds n ∙ cut_holder e fits.0 v at n)
      (entered_cut_proxy m meta c entered e fits.0 t (ok.lists.distinct e) at)
      (once_same c (cells_after (edit.Cut e (value.Proxy t)) c) (without-entered e v c) ok.once)

  kept_put : (e : End) (i : ℕ) (o : ObjectNo) (g h : Option FeatureNo) (fs : List End) → EditFits was (put_of e i o g h) → IsEditOfKind m (put_of e i o g h) → HasKeys (cells_after (put_of e i o g h) c) fs → IsKept (cells_after (put_of e i o g h) c) fs × (cell_links (cells_after (put_of e i o g h) c) fs ≡ links_after_edit was (put_of e i o g h))
  kept_put e i o g h fs fits kind keys =
      let le = within e i fits.0.in_range in
      let free = free_new was e i o g h (apart_of was e o g fits.1) fits.2 in
      kept_by (put_of e i o g h) fs fits kind keys (told_put m meta c told e o i le h kind.1 g kind.0) (ends_put c es ok.lists e i o g h legal fits)
      (λ n.
      put-hold e i o g h c n ∙ ap (option_or (pair_holding (held_node e o g h) n)) (ok.holds n)
      ∙ ap (λ (p : Option End). option_or p (holder was n)) (sym (new_holding was e i o g h (far_two was e o g fits.1) n))
      ∙ sym (holder-put was e i o g h ok.held free n))
      (entered_put m meta c entered e i o h g (sym kind.0) le)
      (once_put m meta c entered e i o h g (sym kind.0) le (λ at. fits.0.absent at.0 (ap (λ (xs : List Value). slice_get xs at.0) (ends e) ∙ at.1)) ok.once)

  kept_put_proxy : (e : End) (i : ℕ) (t : List ℕ) (fs : List End) → EditFits was (edit.PutProxy e i t) → IsEditOfKind m (edit.PutProxy e i t) → HasKeys (cells_after (edit.PutProxy e i t) c) fs → IsKept (cells_after (edit.PutProxy e i t) c) fs × (cell_links (cells_after (edit.PutProxy e i t) c) fs ≡ links_after_edit was (edit.PutProxy e i t))
  kept_put_proxy e i t fs fits kind keys =
      let le = within e i fits.in_range in
      kept_by (edit.PutProxy e i t) fs fits kind keys (told_proxy m c told e i t le kind) (ends_put_proxy c es ok.lists e i t legal.placed fits)
      (λ n. same_twice (same_node e.node n) (c.hold n) ∙ ok.holds n ∙ sym (holder-put_proxy was e i t ok.held n))
      (entered_put_proxy m meta c entered e i t le)
      (once_same c (cells_after (edit.PutProxy e i t) c) (λ n. same_twice (same_node e.node n) (c.entered n)) ok.once)

  kept_shift : (e : End) (to from : ℕ) (fs : List End) → EditFits was (edit.Shift e to from) → HasKeys (cells_after (edit.Shift e to from) c) fs → IsKept (cells_after (edit.Shift e to from) c) fs × (cell_links (cells_after (edit.Shift e to from) c) fs ≡ links_after_edit was (edit.Shift e to from))
  kept_shift e to from fs fits keys =
      let lt : from < length (c.vals e) = subst (λ (xs : List Value). from < length xs) (ends e) fits.0 in
      let lt_to : to < length (c.vals e) = subst (λ (xs : List Value). to < length xs) (ends e) fits.1 in
      let w = get_or (c.vals e) from value.Null in
      let at = slice_get-get_or (c.vals e) from value.Null lt in
      kept_by (edit.Shift e to from) fs fits tt keys (told_shift m c told e to from w at lt_to) (ends_shift c es ok.lists e to from legal.placed fits.0 fits.1)
      (λ n. same_twice (same_node e.node n) (c.hold n) ∙ ok.holds n ∙ sym (holder-shift was e to from ok.held n))
      (entered_shift m meta c entered e to from w at lt_to)
      (once_same c (cells_after (edit.Shift e to from) c) (λ n. same_twice (same_node e.node n) (c.entered n)) ok.once)

  pub kept_edit : (x : Edit) (fs : List End) → EditFits was x → IsEditOfKind m x → HasKeys (cells_after x c) fs → IsKept (cells_after x c) fs × (cell_links (cells_after x c) fs ≡ links_after_edit was x)
  kept_edit (edit.Cut e v) fs fits kind keys = by v (has_linked was legal.placed e v fits) fits keys
    where
      by : (v : Value) → IsLinked v → EditFits was (edit.Cut e v) → HasKeys (cells_after (edit.Cut e v) c) fs → IsKept (cells_after (edit.Cut e v) c) fs × (cell_links (cells_after (edit.Cut e v) c) fs ≡ links_after_edit was (edit.Cut e v))
      by (value.Object o) is fits keys = kept_cut e o fs fits keys
      by (value.Proxy t) is fits keys = kept_cut_proxy e t fs fits keys
      by _ is fits keys = absurd is
  kept_edit (edit.Put l) fs fits kind keys = kept_put l.end l.index l.object l.opposite l.container fs fits kind keys
  kept_edit (edit.Shift e to from) fs fits kind keys = kept_shift e to from fs fits keys
  kept_edit (edit.PutProxy e i t) fs fits kind keys = kept_put_proxy e i t fs fits kind keys
