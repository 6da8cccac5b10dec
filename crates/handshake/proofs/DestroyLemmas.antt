-- The chain of a change that destroys objects: its notifications, and that it replays the change at each remaining end.
use Rattle.std.proofs.Common.{◌≡◌, ℕ, suc, pos, slice_get, Bool, true, false, ◌&&◌, ◌||◌, not, List, [], ◌∷◌, ◌++◌, filter, flat_map, map, Option, Some, None, option_map, option_to_list, unwrap_or, if◌then◌else◌, refl, sym, ap, ◌∙◌, subst, arith}
use Rattle.std.specs.List.{AllByRecursion, list_any}
use Rattle.std.specs.Option.{option_map_or}
use Rattle.std.proofs.lemmas.Bool.{and_parts, false≢true, or_left}
use Rattle.std.proofs.lemmas.List.{map-append}
use Rattle.std.proofs.lemmas.Option.{none-some, same_Some}
use Rattle.std.proofs.Math.Bool.{or-false, and-true}
use Rattle.mm_types.proofs.SameLemmas.{same_end-self, same_end-true, same_node-self}
use Rattle.mm_types.specs.Ends.{Ends, Held, has_value, index_in, is_set, shown_values}
use Rattle.mm_types.specs.SameValues.{same_value-self, same_value-true}
use Rattle.mm_types.specs.Same.{is_nil, same_end, same_node, same_value}
use Rattle.mm_types.specs.Shapes.{Shape, shape}
use Rattle.mm_types.specs.declared.end.End.{End}
use Rattle.mm_types.specs.declared.numbers.FeatureNo.{FeatureNo}
use Rattle.mm_types.specs.declared.numbers.Node.{Node}
use Rattle.mm_types.specs.declared.numbers.Node.TheVariants as node
use Rattle.mm_types.specs.declared.numbers.ObjectNo.{ObjectNo}
use Rattle.mm_types.specs.declared.value.Value.{Value}
use Rattle.mm_types.specs.declared.value.Value.TheVariants as value
use Rattle.mm_values.specs.Values.{ObjectState, stored_under}
use Rattle.links.proofs.AboveLemmas.{above_is, not_above_itself}
use Rattle.links.proofs.FilterLemmas.{filter_alike, filter_keeps}
use Rattle.links.proofs.GoneLemmas.{end-without_nodes}
use Rattle.links.specs.Holders.{above}
use Rattle.links.specs.Laws.{goes}
use Rattle.links.specs.LegalSets.{IsDistinct}
use Rattle.links.specs.Links.{end, without_nodes}
use Rattle.links.specs.Plans.{Has, has_end}
use Rattle.containment.proofs.MemberLemmas.{subtree-has}
use Rattle.containment.proofs.PartLemmas.{legal-at, object-reference}
use Rattle.containment.specs.Forest.{subtree}
use Rattle.models.proofs.EndLemmas.{values-single}
use Rattle.models.proofs.PlaceLemmas.{has-at, index-at}
use Rattle.models.specs.Legal.{IsLegal}
use Rattle.models.specs.Model.{Model, attribute_values, kept_flag, kept_values, reading}
use Rattle.models.specs.Reading.{Reading, held_at, is_live, takes}
use Rattle.notice_chain.specs.Kinds.{no_index}
use Rattle.notice_chain.specs.declared.kind.NoticeKind.TheVariants as kind
use Rattle.notice_chain.specs.declared.notice.Notice.{Notice}
use Rattle.removal.specs.Losses.{is_held_by, is_lost, last_loss, loss, losses, losses_at, values_kept}
use Rattle.removal.specs.Outer.{holds_some, is_in_subtree, outer_ends, touched_ends}
use Rattle.removal.specs.declared.gone.Removal.{Removal}
use Rattle.handshake.specs.Effects.{model_after}
use Rattle.handshake.specs.Refusals.{early_refusal}
use Rattle.handshake.specs.Reports.{lost_notice}
use Rattle.handshake.specs.FeatureChange.{change_notices, ends_after_changes, list_without_value, notice, notice_of}
use Rattle.handshake.specs.FeatureChanges.{chain, changes_of_delete, destroyed_by, lost_with}
use Rattle.handshake.specs.declared.change.Change.{Change}
use Rattle.handshake.specs.declared.change.Change.TheVariants.{Delete}
use Rattle.handshake.specs.declared.change_kind.ChangeKind.TheVariants.{Loses}
use Rattle.handshake.specs.declared.change_kind.FeatureChange.{FeatureChange}
use Rattle.handshake.proofs.ApartLemmas.{change_notices-append}
use Rattle.handshake.proofs.CutEndLemmas.{reference-flag, reference-plain}
use Rattle.handshake.proofs.CutLinkEndLemmas.{held_stands, same_end-symmetric, same_value-symmetric, values-linked}
use Rattle.handshake.proofs.HappenedLemmas.{done, ends_after_changes-at, happened_at, happened_at-append}
use Rattle.handshake.proofs.KnownLemmas.{delete-named}
use Rattle.handshake.proofs.LegalLemmas.{left-object}
use Rattle.handshake.proofs.LostLemmas.{end-held, ends-away, ends-here, ends-notices, loses}
use Rattle.removal.proofs.OuterLemmas.{touched-all, touched-in_order}

---------------------------------------------------------------- lists

filter-passes : (p q : End → Bool) → ((e : End) → p e ≡ true → q e ≡ true) → (es : List End) → AllByRecursion (λ (e : End). q e ≡ true) (filter p es)
filter-passes p q more [] = tt
filter-passes p q more (e ∷ es) =
    elim (p e) as (λ b. p e ≡ b → AllByRecursion (λ (e : End). q e ≡ true) (if b then e ∷ filter p es else filter p es)) [
      | true ↦ λ h. (more e h, filter-passes p q more es)
      | false ↦ λ _. filter-passes p q more es
    ] refl

all_same : (e : Ends) (ds : List End) → AllByRecursion (λ (d : End). e d ≡ e d) ds
all_same e [] = tt
all_same e (d ∷ ds) = (refl, all_same e ds)

-- if an end is not among some ends, none of them is it
none-among : (ds : List End) (x : End) → has_end ds x ≡ false → AllByRecursion (λ (d : End). same_end d x ≡ false) ds
none-among [] x h = tt
none-among (d ∷ ds) x h =
    elim (same_end d x) as (λ b. same_end d x ≡ b → (b || has_end ds x) ≡ false → AllByRecursion (λ (d : End). same_end d x ≡ false) (d ∷ ds)) [
      | true ↦ λ _ none. absurd (false≢true (sym none))
      | false ↦ λ other none. (other, none-among ds x none)
    ] refl h

filter-same : (p q : Value → Bool) → ((v : Value) → p v ≡ q v) → (vs : List Value) → filter p vs ≡ filter q vs
filter-same p q same [] = refl
filter-same p q same (v ∷ vs) = λ i. if same v i then v ∷ filter-same p q same vs i else filter-same p q same vs i

filter-none : (p : Value → Bool) (vs : List Value) → list_any p vs ≡ false → filter (λ v. not (p v)) vs ≡ vs
filter-none p [] h = refl
filter-none p (v ∷ vs) h =
    elim (p v) as (λ b. (b || list_any p vs) ≡ false → (if not b then v ∷ filter (λ v. not (p v)) vs else filter (λ v. not (p v)) vs) ≡ v ∷ vs) [
      | true ↦ λ some. absurd (false≢true (sym some))
      | false ↦ λ rest. ap (λ (ws : List Value). v ∷ ws) (filter-none p vs rest)
    ] h

none-kept : (p q : Value → Bool) → ((v : Value) → q v ≡ false → p v ≡ false) → (vs : List Value) → list_any q vs ≡ false → list_any p vs ≡ false
none-kept p q fewer [] h = refl
none-kept p q fewer (v ∷ vs) h =
    elim (q v) as (λ b. q v ≡ b → (b || list_any q vs) ≡ false → (p v || list_any p vs) ≡ false) [
      | true ↦ λ _ some. absurd (false≢true (sym some))
      | false ↦ λ not_q rest. (λ i. fewer v not_q i || list_any p vs) ∙ none-kept p q fewer vs rest
    ] refl h

-- a list that has a value once loses it in the end, where all else that goes is gone
list_without_value-filter : (p : Value → Bool) (v : Value) (vs : List Value) → p v ≡ true → IsDistinct vs → has_value vs v ≡ true
    → list_without_value (filter (λ w. not (p w && not (same_value w v))) vs) v ≡ filter (λ w. not (p w)) vs
list_without_value-filter p v [] goes_v distinct has = absurd (false≢true has)
list_without_value-filter p v (w ∷ ws) goes_v distinct has =
    let k : List Value = filter (λ w. not (p w && not (same_value w v))) ws in
    let r : List Value = filter (λ w. not (p w)) ws in
    elim (same_value v w) as (λ b. same_value v w ≡ b → (b || has_value ws v) ≡ true → list_without_value (if not (p w && not (same_value w v)) then w ∷ k else k) v ≡ (if not (p w) then w ∷ r else r)) [
      | true ↦ λ same _.
          let is = same_value-true v w same in
          let goes_w : p w ≡ true = ap p (sym is) ∙ goes_v in
          let other : (i : ℕ) (x : Value) → slice_get ws i ≡ Some x → same_value x v ≡ false = λ i x at. elim (same_value x v) as (λ b. same_value x v ≡ b → b ≡ false) [
            | true ↦ λ x_v. let never = distinct 0 (suc i) w refl (at ∙ ap (λ (y : Value). Some y) (same_value-true x v x_v ∙ is)) in absurd (omega (arith, never))
            | false ↦ λ _. refl
          ] refl in
          ap (λ (b : Bool). list_without_value (if not (b && not (same_value w v)) then w ∷ k else k) v) goes_w
          ∙ ap (λ (b : Bool). list_without_value (if not (not b) then w ∷ k else k) v) (same_value-symmetric w v ∙ same)
          ∙ ap (λ (b : Bool). if b then k else w ∷ list_without_value k v) same
          ∙ filter_alike (λ w. not (p w && not (same_value w v))) (λ w. not (p w)) ws (λ i x at. ap (λ (b : Bool). not (p x && not b)) (other i x at) ∙ ap not (and-true (p x)))
          ∙ sym (ap (λ (b : Bool). if not b then w ∷ r else r) goes_w)
      | false ↦ λ other rest.
          let on = list_without_value-filter p v ws goes_v (λ i j x a b. let same = distinct (suc i) (suc j) x a b in omega (arith, same)) rest in
          elim (p w) as (λ b. list_without_value (if not (b && not (same_value w v)) then w ∷ k else k) v ≡ (if not b then w ∷ r else r)) [
            | true ↦ ap (λ (b : Bool). list_without_value (if not (not b) then w ∷ k else k) v) (same_value-symmetric w v ∙ other) ∙ on
            | false ↦ ap (λ (b : Bool). if b then k else w ∷ list_without_value k v) other ∙ ap (λ (ys : List Value). w ∷ ys) on
          ]
    ] refl has

has-not-nil : (vs : List Value) (v : Value) → has_value vs v ≡ true → not (is_nil vs) ≡ true
has-not-nil [] v h = absurd (false≢true h)
has-not-nil (w ∷ ws) v h = refl

---------------------------------------------------------------- the end that contains the object

module _ (s : Model) (legal : IsLegal s) (o : ObjectNo) (live : is_live (reading s) o ≡ true) where
  abbrev r : Reading
  r = reading s

  abbrev g : Node → Bool
  g = is_in_subtree r o

  -- the object itself is destroyed
  goes-itself : g (node.Object o) ≡ true
  goes-itself = subtree-has s legal o (node.Object o) ∙ or_left (same_node (node.Object o) (node.Object o)) _ (same_node-self (node.Object o))

  -- the node that contains it is not destroyed
  holder-stays : (d : End) → r.holder (node.Object o) ≡ Some d → g d.node ≡ false
  holder-stays d held =
      let t = s.links in
      let up = above_is t legal.links.set legal.links.forest (node.Object o) in
      let itself = not_above_itself t legal.links.set legal.links.forest (node.Object o) in
      subtree-has s legal o d.node
      ∙ sym (ap (λ (ns : List Node). list_any (same_node (node.Object o)) ns) (up ∙ ap (λ (q : Option End). option_map_or (λ (e : End). e.node ∷ above t e.node) q []) held))
      ∙ itself

  holder-has : (d : End) → r.holder (node.Object o) ≡ Some d → Has s.links d (value.Object o)
  holder-has d held = held_stands s.links legal.links.set (node.Object o) d held

  -- an end that has an object is the end of a reference
  has-reference : (d : End) (p : ObjectNo) → Has s.links d (value.Object p) → (shape s.metamodel d.feature).is_reference ≡ true
  has-reference d p has =
      let here = legal-at r d (end s.links d) has.0 (value.Object p) (legal.links.ends d) has.1 in
      object-reference s.metamodel r.class d.feature p (and_parts true (takes r d.feature (value.Object p)) here.1).1

  abbrev ds : List End
  ds = touched_ends r o

  references : AllByRecursion (λ (d : End). (shape s.metamodel d.feature).is_reference ≡ true) ds
  references = filter-passes (holds_some r g) (λ (d : End). (shape s.metamodel d.feature).is_reference) (λ e h. (and_parts (shape s.metamodel e.feature).is_reference (list_any (goes g) (r.values e)) h).0) (outer_ends r g)

  -- the values of an end after all other losses are made: the values that it keeps
  kept-held : (d : End) → (shape s.metamodel d.feature).is_reference ≡ true → g d.node ≡ false
      → happened_at s.metamodel (flat_map (lost_with r o) ds) d (held_at r d) ≡ record { values = shown_values (shape s.metamodel d.feature).is_single (values_kept r o d); flag = r.flag d }
  kept-held d reference stays =
      let is = touched-all s legal o live d ∙ (λ i. not (stays i) && (reference i && list_any (goes g) (r.values d))) in
      elim (list_any (goes g) (r.values d)) as (λ b. list_any (goes g) (r.values d) ≡ b → has_end ds d ≡ b → happened_at s.metamodel (flat_map (lost_with r o) ds) d (held_at r d) ≡ record { values = shown_values (shape s.metamodel d.feature).is_single (values_kept r o d); flag = r.flag d }) [
        | true ↦ λ _ has. ends-here s legal o ds d (held_at r d) (touched-in_order s o) has ∙ end-held s legal o d reference
        | false ↦ λ none has.
            ends-away s legal o ds d (held_at r d) (none-among ds d has)
            ∙ ap (λ (vs : List Value). record { values = shown_values (shape s.metamodel d.feature).is_single vs; flag = r.flag d }) (sym (filter-none (is_lost r o d) (r.values d) (none-kept (is_lost r o d) (goes g) (λ v not_g. ap (λ (b : Bool). b && not (is_held_by r o d && same_value v (value.Object o))) not_g) (r.values d) none)))
      ] refl is

  abbrev root : Value
  root = value.Object o

  root-goes : goes g root ≡ true
  root-goes = goes-itself

  -- an end that is not the holder of the object keeps exactly the values that are not destroyed
  kept-elsewhere : (d : End) → is_held_by r o d ≡ false → values_kept r o d ≡ filter (λ w. not (goes g w)) (r.values d)
  kept-elsewhere d other =
      filter-same (λ w. not (is_lost r o d w)) (λ w. not (goes g w)) (λ w. ap (λ (b : Bool). not (goes g w && not (b && same_value w root))) other ∙ ap not (and-true (goes g w))) (r.values d)

  -- the end that contains the object
  module _ (d : End) (held : r.holder (node.Object o) ≡ Some d) where
    abbrev a : Shape
    a = shape s.metamodel d.feature

    holder-reference : a.is_reference ≡ true
    holder-reference = has-reference d o (holder-has d held)

    here : is_held_by r o d ≡ true
    here = ap (λ (q : Option End). option_map_or (same_end d) q false) held ∙ same_end-self d

    root-kept : is_lost r o d root ≡ false
    root-kept =
        ap (λ (b : Bool). goes g root && not (b && same_value root root)) here
        ∙ ap (λ (b : Bool). goes g root && not b) (same_value-self root) ∙ ap (λ (b : Bool). b && false) root-goes

    values-have : has_value (r.values d) root ≡ true
    values-have = let at = holder-has d held in has-at (r.values d) root at.0 (subst (λ (vs : List Value). slice_get vs at.0 ≡ Some root) (sym (values-linked s d holder-reference)) at.1)

    kept-has : has_value (values_kept r o d) root ≡ true
    kept-has =
        let at = index-at (r.values d) root values-have in
        let kept = filter_keeps (λ w. not (is_lost r o d w)) (r.values d) (index_in (r.values d) root) root at (ap not root-kept) in
        has-at (values_kept r o d) root kept.0 kept.1

    -- a single end has nothing else
    only-root : a.is_single ≡ true → r.values d ≡ root ∷ []
    only-root single = by (slice_get (r.values d) 0) (values-single s d legal holder-reference single) values-have
      where
        by : (q : Option Value) → r.values d ≡ option_to_list q → has_value (r.values d) root ≡ true → r.values d ≡ root ∷ []
        by None is has = absurd (false≢true (ap (λ (vs : List Value). has_value vs root) (sym is) ∙ has))
        by (Some x) is has =
            let same : same_value root x ≡ true = sym (or-false (same_value root x)) ∙ ap (λ (vs : List Value). has_value vs root) (sym is) ∙ has in
            is ∙ ap (λ (v : Value). v ∷ []) (sym (same_value-true root x same))

    kept-single : a.is_single ≡ true → values_kept r o d ≡ r.values d
    kept-single single =
        ap (λ (vs : List Value). filter (λ w. not (is_lost r o d w)) vs) (only-root single)
        ∙ ap (λ (b : Bool). if not b then root ∷ [] else []) root-kept ∙ sym (only-root single)

    last-notice : (h : Held) → h ≡ record { values = shown_values a.is_single (values_kept r o d); flag = r.flag d } → notice_of a d (Loses root) h ≡ lost_notice r (loss d root (index_in (values_kept r o d) root))
    last-notice h is =
        let k = index_in (values_kept r o d) root in
        ap (notice_of a d (Loses root)) is
        ∙ elim a.is_single as (λ b. a.is_single ≡ b → (if b then notice a d (record { values = shown_values b (values_kept r o d); flag = r.flag d }) kind.Set root value.Null no_index else notice a d (record { values = shown_values b (values_kept r o d); flag = r.flag d }) kind.Remove root value.Null (pos (index_in (shown_values b (values_kept r o d)) root)))
        ≡ (if b then notice a d (record { values = shown_values b (r.values d); flag = r.flag d }) kind.Set root value.Null no_index else notice a d (record { values = shown_values b (r.values d); flag = r.flag d }) kind.Remove root value.Null (pos k))) [
          | true ↦ λ single. ap (λ (vs : List Value). notice a d (record { values = shown_values true vs; flag = r.flag d }) kind.Set root value.Null no_index) (kept-single single)
          | false ↦ λ many. (λ i. record { notifier = d.node; feature = Some d.feature; kind = kind.Remove; old_value = root; new_value = value.Null; position = pos k; was_set = set many i })
        ] refl
      where
        is_some_set : (vs : List Value) → a.is_single ≡ false → not (is_nil vs) ≡ true → is_set a (record { values = vs; flag = r.flag d }) ≡ true
        is_some_set vs many some = rw many some

        set : a.is_single ≡ false → is_set a (record { values = values_kept r o d; flag = r.flag d }) ≡ is_set a (record { values = r.values d; flag = r.flag d })
        set many = is_some_set (values_kept r o d) many (has-not-nil (values_kept r o d) root kept-has) ∙ sym (is_some_set (r.values d) many (has-not-nil (r.values d) root values-have))

    -- the values that are left after the object itself is taken out
    last-held : done a (Loses root) (record { values = shown_values a.is_single (values_kept r o d); flag = r.flag d }) ≡ record { values = shown_values a.is_single (filter (λ w. not (goes g w)) (r.values d)); flag = r.flag d }
    last-held =
        let before : Bool → Held = λ b. record { values = if b then value.Null ∷ [] else list_without_value (shown_values b (values_kept r o d)) root; flag = if b then a.is_unsettable else r.flag d } in
        let left : Bool → Held = λ b. record { values = shown_values b (filter (λ w. not (goes g w)) (r.values d)); flag = r.flag d } in
        elim a.is_single as (λ b. a.is_single ≡ b → before b ≡ left b) [
          | true ↦ λ single. (λ i. record { values = shown_values true (sym (none-left single) i); flag = off i })
          | false ↦ λ many. (λ i. record { values = all-left i; flag = r.flag d })
        ] refl
      where
        off : a.is_unsettable ≡ r.flag d
        off = (reference-plain s.metamodel d.feature holder-reference).0 ∙ sym (reference-flag s d.node d.feature legal holder-reference)

        none-left : a.is_single ≡ true → filter (λ w. not (goes g w)) (r.values d) ≡ []
        none-left single = ap (λ (vs : List Value). filter (λ w. not (goes g w)) vs) (only-root single) ∙ ap (λ (b : Bool). if not b then root ∷ [] else []) root-goes

        all-left : list_without_value (values_kept r o d) root ≡ filter (λ w. not (goes g w)) (r.values d)
        all-left =
            ap (λ (vs : List Value). list_without_value vs root) (filter-same (λ w. not (is_lost r o d w)) (λ w. not (goes g w && not (same_value w root))) (λ w. ap (λ (b : Bool). not (goes g w && not (b && same_value w root))) here) (r.values d))
            ∙ list_without_value-filter (goes g) root (r.values d) root-goes (subst IsDistinct (sym (values-linked s d holder-reference)) (legal.links.set.placed.distinct d)) values-have

  ---------------------------------------------------------------- the chain

  abbrev last : Option End → List FeatureChange
  last q = map (λ (d : End). loses d root) (option_to_list q)

  pub destroyed-chain : chain r (Delete o) ≡ map (lost_notice r) (losses r o)
  destroyed-chain =
      let m = s.metamodel in
      let h = held_at r in
      let others = flat_map (lost_with r o) ds in
      let next : Ends = ends_after_changes m h others in
      let end_loss : Option End → List Notice = λ q. map (lost_notice r) (option_map_or (λ e. loss e root (index_in (values_kept r o e) root) ∷ []) q []) in
      change_notices-append m h others (last (r.holder (node.Object o)))
      ∙ (λ i. ends-notices s legal o ds h (touched-in_order s o) references (all_same h ds) i
      ++ (elim (r.holder (node.Object o)) as (λ q. r.holder (node.Object o) ≡ q → change_notices m next (last q) ≡ end_loss q) [
        | None ↦ λ _. refl
        | Some d ↦ λ held. ap (λ (n : Notice). n ∷ []) (last-notice d held (next d) (ends_after_changes-at m h others d ∙ kept-held d (holder-reference d held) (holder-stays d held)))
      ] refl) i)
      ∙ sym (map-append (lost_notice r) (flat_map (losses_at r o) ds) (last_loss r o))

  ---------------------------------------------------------------- each end after it

  -- the values that are stored for the features of a remaining node
  values-stay : (n : Node) (f : FeatureNo) → g n ≡ false → kept_values (model_after s (Delete o)).values n f ≡ kept_values s.values n f
  values-stay (node.Object p) f stays = ap (λ (q : Option ObjectState). unwrap_or (option_map (λ (t : ObjectState). (stored_under t f).list) q) []) (left-object s.values (subtree r o) p stays)
  values-stay (node.Resource k) f stays = refl

  flag-stays : (n : Node) (f : FeatureNo) → g n ≡ false → kept_flag (model_after s (Delete o)).values n f ≡ kept_flag s.values n f
  flag-stays (node.Object p) f stays = ap (λ (q : Option ObjectState). unwrap_or (option_map (λ (t : ObjectState). (stored_under t f).flag) q) false) (left-object s.values (subtree r o) p stays)
  flag-stays (node.Resource k) f stays = refl

  links-left : (d : End) → g d.node ≡ false → end (without_nodes s.links g) d ≡ filter (λ w. not (goes g w)) (end s.links d)
  links-left d stays = end-without_nodes s.links g legal.links.set d ∙ ap (λ (b : Bool). if b then [] else filter (λ w. not (goes g w)) (end s.links d)) stays

  reference-model_after : (d : End) → g d.node ≡ false → (shape s.metamodel d.feature).is_reference ≡ true
      → record { values = shown_values (shape s.metamodel d.feature).is_single (filter (λ w. not (goes g w)) (r.values d)); flag = r.flag d } ≡ held_at (reading (model_after s (Delete o))) d
  reference-model_after d stays reference =
      let a = shape s.metamodel d.feature in
      let is : filter (λ w. not (goes g w)) (r.values d) ≡ (if a.is_reference then end (without_nodes s.links g) d else attribute_values a (kept_values (model_after s (Delete o)).values d.node d.feature)) =
      ap (λ (vs : List Value). filter (λ w. not (goes g w)) vs) (values-linked s d reference) ∙ sym (links-left d stays)
      ∙ ap (λ (b : Bool). if b then end (without_nodes s.links g) d else attribute_values a (kept_values (model_after s (Delete o)).values d.node d.feature)) (sym reference) in
      λ i. record { values = shown_values a.is_single (is i); flag = sym (flag-stays d.node d.feature stays) i }

  reference-replays : (d : End) → g d.node ≡ false → (shape s.metamodel d.feature).is_reference ≡ true
      → happened_at s.metamodel (changes_of_delete r o) d (held_at r d) ≡ held_at (reading (model_after s (Delete o))) d
  reference-replays d stays reference =
      let m = s.metamodel in
      let a = shape m d.feature in
      let others = flat_map (lost_with r o) ds in
      let k : Held = record { values = shown_values a.is_single (values_kept r o d); flag = r.flag d } in
      let left : Held = record { values = shown_values a.is_single (filter (λ w. not (goes g w)) (r.values d)); flag = r.flag d } in
      let elsewhere : is_held_by r o d ≡ false → k ≡ left = λ other i. record { values = shown_values a.is_single (kept-elsewhere d other i); flag = r.flag d } in
      happened_at-append m others (last (r.holder (node.Object o))) d (held_at r d)
      ∙ ap (happened_at m (last (r.holder (node.Object o))) d) (kept-held d reference stays)
      ∙ elim (r.holder (node.Object o)) as (λ q. r.holder (node.Object o) ≡ q → happened_at m (last q) d k ≡ left) [
        | None ↦ λ none. elsewhere (ap (λ (q : Option End). option_map_or (same_end d) q false) none)
        | Some e ↦ λ held. elim (same_end e d) as (λ b. same_end e d ≡ b → (if b then done a (Loses root) k else k) ≡ left) [
          | true ↦ λ same.
              last-held d (subst (λ (x : End). r.holder (node.Object o) ≡ Some x) (same_end-true e d same) held)
          | false ↦ λ other. elsewhere (ap (λ (q : Option End). option_map_or (same_end d) q false) held ∙ same_end-symmetric d e ∙ other)
        ] refl
      ] refl
      ∙ reference-model_after d stays reference

  attribute-replays : (d : End) → g d.node ≡ false → (shape s.metamodel d.feature).is_reference ≡ false
      → happened_at s.metamodel (changes_of_delete r o) d (held_at r d) ≡ held_at (reading (model_after s (Delete o))) d
  attribute-replays d stays attribute =
      let m = s.metamodel in
      let a = shape m d.feature in
      let others = flat_map (lost_with r o) ds in
      let none : has_end ds d ≡ false = touched-all s legal o live d ∙ (λ i. not (stays i) && (attribute i && list_any (goes g) (r.values d))) in
      let is : (if a.is_reference then end s.links d else attribute_values a (kept_values s.values d.node d.feature)) ≡ (if a.is_reference then end (without_nodes s.links g) d else attribute_values a (kept_values (model_after s (Delete o)).values d.node d.feature)) =
      ap (λ (x : Bool). if x then end s.links d else attribute_values a (kept_values s.values d.node d.feature)) attribute
      ∙ ap (attribute_values a) (sym (values-stay d.node d.feature stays))
      ∙ ap (λ (x : Bool). if x then end (without_nodes s.links g) d else attribute_values a (kept_values (model_after s (Delete o)).values d.node d.feature)) (sym attribute) in
      happened_at-append m others (last (r.holder (node.Object o))) d (held_at r d)
      ∙ ap (happened_at m (last (r.holder (node.Object o))) d) (ends-away s legal o ds d (held_at r d) (none-among ds d none))
      ∙ elim (r.holder (node.Object o)) as (λ q. r.holder (node.Object o) ≡ q → happened_at m (last q) d (held_at r d) ≡ held_at r d) [
        | None ↦ λ _. refl
        | Some e ↦ λ held. elim (same_end e d) as (λ b. same_end e d ≡ b → (if b then done a (Loses root) (held_at r d) else held_at r d) ≡ held_at r d) [
          | true ↦ λ same. absurd (false≢true (sym attribute ∙ subst (λ (x : End). (shape m x.feature).is_reference ≡ true) (same_end-true e d same) (holder-reference e held)))
          | false ↦ λ _. refl
        ] refl
      ] refl
      ∙ (λ i. record { values = shown_values a.is_single (is i); flag = sym (flag-stays d.node d.feature stays) i })

  pub changes_of_delete-replays : (d : End) → g d.node ≡ false → happened_at s.metamodel (changes_of_delete r o) d (held_at r d) ≡ held_at (reading (model_after s (Delete o))) d
  changes_of_delete-replays d stays =
      elim (shape s.metamodel d.feature).is_reference as (λ b. (shape s.metamodel d.feature).is_reference ≡ b → happened_at s.metamodel (changes_of_delete r o) d (held_at r d) ≡ held_at (reading (model_after s (Delete o))) d) [
        | true ↦ λ reference. reference-replays d stays reference
        | false ↦ λ attribute. attribute-replays d stays attribute
      ] refl

-- if the object that a change destroys lives, the notifications of the losses are the chain of the change
pub lost-chain : (s : Model) (c : Change) (q : Option ObjectNo) (o : ObjectNo) → IsLegal s → early_refusal (reading s) c ≡ None → q ≡ destroyed_by c → Some o ≡ q
    → map (lost_notice (reading s)) (losses (reading s) o) ≡ chain (reading s) c
lost-chain s (Delete p) q o legal early is some =
    let same = same_Some o p (some ∙ is) in
    ap (λ (x : ObjectNo). map (lost_notice (reading s)) (losses (reading s) x)) same ∙ sym (destroyed-chain s legal p (delete-named (reading s) p early))
lost-chain s _ q o legal early is some = absurd (none-some o (sym (some ∙ is)))

pub nothing-destroyed : (c : Change) (q : Option Removal) → option_map (λ (x : Removal). x.object) q ≡ destroyed_by c → ((x : Removal) → q ≡ Some x → ⊥) → destroyed_by c ≡ None
nothing-destroyed c None is none = sym is
nothing-destroyed c (Some x) is none = absurd (none x refl)
