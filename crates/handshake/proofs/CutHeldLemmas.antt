-- The losses of links that are cut, made at each end one after another, give the values of the ends after the cuts.
use Rattle.std.proofs.Common.{◌≡◌, ℕ, zero, suc, ◌≤◌, Bool, true, false, ◌&&◌, ◌||◌, not, List, [], ◌∷◌, filter, flat_map, length, slice_get, Option, Some, None, option_to_list, if◌then◌else◌, refl, sym, ap, ◌∙◌, subst, arith}
use Rattle.std.specs.Option.{option_map_or}
use Rattle.std.proofs.lemmas.Bool.{false≢true}
use Rattle.std.proofs.lemmas.Option.{none-some, same_Some}
use Rattle.mm_meta.proofs.ShapeLemmas.{opposites_are_pairs}
use Rattle.mm_types.proofs.SameLemmas.{same_end-self, same_end-true}
use Rattle.mm_types.specs.Ends.{Held}
use Rattle.mm_types.specs.Same.{node_value, same_end, same_value}
use Rattle.mm_types.specs.Shapes.{is_containment, shape}
use Rattle.mm_types.specs.declared.end.End.{End}
use Rattle.mm_types.specs.declared.numbers.FeatureNo.{FeatureNo}
use Rattle.mm_types.specs.declared.numbers.ObjectNo.{ObjectNo}
use Rattle.mm_types.specs.declared.value.Value.{Value}
use Rattle.mm_types.specs.declared.value.Value.TheVariants as value
use Rattle.links.proofs.CutNamedLemmas.{end-cut_value, there_after}
use Rattle.links.proofs.KindLemmas.{kinds_cut_value}
use Rattle.links.proofs.LegalLemmas.{cut_value_legal}
use Rattle.links.proofs.FilterLemmas.{filter_alike, filter_all, filter_from, length-filter_le}
use Rattle.mm_types.specs.SameValues.{same_value-self, same_value-true}
use Rattle.links.specs.Laws.{AreOnce, AreThere, names, names_far, without_all}
use Rattle.links.proofs.SideLemmas.{both_ends_agree}
use Rattle.links.specs.LegalSets.{AreKinds, AreOfKind, IsDistinct, IsLegalSet, Kinds}
use Rattle.links.specs.Links.{Links, cut_value, end, far_end}
use Rattle.models.proofs.EndLemmas.{values-single}
use Rattle.links.specs.Plans.{Has}
use Rattle.models.specs.Legal.{IsLegal, kinds_of}
use Rattle.models.specs.Model.{Model, kept_flag, reading}
use Rattle.models.specs.Reading.{held_at}
use Rattle.containment.proofs.PartLemmas.{kinds-are}
use Rattle.handshake.proofs.CutLinkEndLemmas.{once-of_different, same_end-symmetric, values-linked}
use Rattle.removal.specs.Laws.{names_of}
use Rattle.handshake.proofs.HappenedLemmas.{done, done-other, done_at, happened_at, happened_at-append}
use Rattle.handshake.proofs.LinkEndNameLemmas.{open-of}
use Rattle.handshake.specs.Displaced.{other_side}
use Rattle.removal.specs.TreeLinkEnds.{link_end}
use Rattle.handshake.specs.Laws.{AreDifferent}
use Rattle.handshake.specs.FeatureChange.{list_without_value}
use Rattle.handshake.specs.FeatureChanges.{loss, losses}
use Rattle.handshake.specs.declared.change_kind.ChangeKind.TheVariants.{Loses}
use Rattle.handshake.specs.declared.change_kind.FeatureChange.{FeatureChange}
use Rattle.removal.specs.declared.link_end.LinkEnd.{LinkEnd}
use Rattle.handshake.proofs.CutEndLemmas.{reference-flag, reference-plain, same-held}

---------------------------------------------------------------- lists

-- a list without repetitions, from which the first occurrence of a value is taken out, does not have the value
list_without_value-filter : (vs : List Value) (v : Value) → IsDistinct vs → list_without_value vs v ≡ filter (λ w. not (same_value v w)) vs
list_without_value-filter [] v distinct = refl
list_without_value-filter (w ∷ ws) v distinct =
    elim (same_value v w) as (λ b. same_value v w ≡ b → (if b then ws else w ∷ list_without_value ws v) ≡ (if not b then w ∷ filter (λ x. not (same_value v x)) ws else filter (λ x. not (same_value v x)) ws)) [
      | true ↦ λ same. sym (filter_all (same_value v) ws (λ k x at.
          elim (same_value v x) as (λ b. same_value v x ≡ b → b ≡ false) [
            | true ↦ λ again. absurd (zero-not_suc k (distinct 0 (suc k) x (ap Some (sym (same_value-true v w same) ∙ same_value-true v x again)) at))
            | false ↦ λ _. refl
          ] refl))
      | false ↦ λ _. ap (λ (xs : List Value). w ∷ xs) (list_without_value-filter ws v (λ j k x a b. suc-same j k (distinct (suc j) (suc k) x a b)))
    ] refl
  where
    zero-not_suc : (k : ℕ) → 0 ≡ suc k → ⊥
    zero-not_suc k h = omega (arith, h)

    suc-same : (j k : ℕ) → suc j ≡ suc k → j ≡ k
    suc-same j k h = omega (arith, h)

pub one-in : (vs : List Value) (k : ℕ) (v : Value) → length vs ≤ 1 → slice_get vs k ≡ Some v → vs ≡ v ∷ []
one-in [] k v few at = absurd (none-some v at)
one-in (w ∷ []) zero v few at = ap (λ (x : Value). x ∷ []) (same_Some w v at)
one-in (w ∷ []) (suc k) v few at = absurd (none-some v at)
one-in (w ∷ x ∷ ws) k v few at = absurd (omega (arith, few))

---------------------------------------------------------------- links of a model

-- the remaining links of a legal model: single ends have at most one, and only references have links
pub record AreLeft (s : Model) (l : Links) : Type 0 where
  pub set : IsLegalSet l
  pub kinds : AreOfKind (kinds_of s.metamodel) l
  pub one : (d : End) → (shape s.metamodel d.feature).is_single ≡ true → length (end l d) ≤ 1
  pub refers : (d : End) (v : Value) → Has l d v → (shape s.metamodel d.feature).is_reference ≡ true

-- the values of an end with these links
abbrev pub held_in : Model → Links → End → Held
held_in s l d = held_at (reading (record s { links = l })) d

pub all-left : (s : Model) → IsLegal s → AreLeft s s.links
all-left s legal =
    record {
      set = legal.links.set;
      kinds = legal.links.kinds;
      one = λ d single. by d single (shape s.metamodel d.feature).is_reference refl;
      refers = λ d v has. (open-of s legal (link_end d v) has).reference;
    }
  where
    by : (d : End) → (shape s.metamodel d.feature).is_single ≡ true → (b : Bool) → (shape s.metamodel d.feature).is_reference ≡ b → length (end s.links d) ≤ 1
    by d single true reference =
        let is = sym (values-linked s d reference) ∙ values-single s d legal reference single in
        subst (λ (vs : List Value). length vs ≤ 1) (sym is) (at-most (slice_get ((reading s).values d) 0))
      where
        at-most : (q : Option Value) → length (option_to_list q) ≤ 1
        at-most None = omega arith
        at-most (Some v) = omega arith
    by d single false attribute = elim (end s.links d) as (λ vs. end s.links d ≡ vs → length vs ≤ 1) [
      | [] ↦ λ _. omega arith
      | v ∷ vs ↦ λ is. absurd (false≢true (sym attribute ∙ (open-of s legal (link_end d v) (0, ap (λ (ws : List Value). slice_get ws 0) is)).reference))
    ] refl

module _ (s : Model) (legal : IsLegal s) where
  abbrev m : Kinds
  m = kinds_of s.metamodel

  ok : AreKinds m
  ok = kinds-are s.metamodel legal.metamodel

  left-cut : (l : Links) (e : End) (v : Value) → AreLeft s l → AreLeft s (cut_value l e v)
  left-cut l e v left =
      let gives : (d : End) → end (cut_value l e v) d ≡ filter (λ w. not (names m e v d w)) (end l d) = end-cut_value m ok l left.set left.kinds e v in
      record {
        set = cut_value_legal l e v left.set;
        kinds = kinds_cut_value m l e v left.kinds;
        one = λ d single. fewer (length-filter_le (λ w. not (names m e v d w)) (end l d)) (left.one d single) (ap (λ (vs : List Value). length vs) (gives d));
        refers = λ d w has.
            let was = filter_from (λ x. not (names m e v d x)) (end l d) has.0 w (subst (λ (vs : List Value). slice_get vs has.0 ≡ Some w) (gives d) has.1) in
            left.refers d w was;
      }
    where
      fewer : {a b c : ℕ} → a ≤ b → b ≤ 1 → c ≡ a → c ≤ 1
      fewer h q is = omega (arith, h, q, is)

  ---------------------------------------------------------------- one loss

  -- a loss at one end of a link gives what the end holds without it
  loss-held : (l k : Links) (d : End) (w : Value) → AreLeft s l → Has l d w → end k d ≡ filter (λ x. not (same_value w x)) (end l d) → done (shape s.metamodel d.feature) (Loses w) (held_in s l d) ≡ held_in s k d
  loss-held l k d w left has cut = by (shape s.metamodel d.feature).is_single refl
    where
      reference : (shape s.metamodel d.feature).is_reference ≡ true
      reference = left.refers d w has

      plain : (shape s.metamodel d.feature).is_unsettable ≡ false
      plain = (reference-plain s.metamodel d.feature reference).0

      off : kept_flag s.values d.node d.feature ≡ false
      off = reference-flag s d.node d.feature legal reference

      by : (b : Bool) → (shape s.metamodel d.feature).is_single ≡ b → done (shape s.metamodel d.feature) (Loses w) (held_in s l d) ≡ held_in s k d
      by true single =
          let only = one-in (end l d) has.0 w (left.one d single) has.1 in
          let none : end k d ≡ [] = cut ∙ ap (filter (λ x. not (same_value w x))) only ∙ ap (λ (b : Bool). if not b then w ∷ [] else []) (same_value-self w) in
          rw (single, reference, none, plain, off) refl
      by false many = rw (many, reference, cut, ← list_without_value-filter (end l d) w (left.set.placed.distinct d)) refl

  ---------------------------------------------------------------- one cut

  module _ (l : Links) (e : End) (v : Value) (left : AreLeft s l) (has : Has l e v) where
    abbrev cut : Links
    cut = cut_value l e v

    gives : (d : End) → end cut d ≡ filter (λ w. not (names m e v d w)) (end l d)
    gives d = end-cut_value m ok l left.set left.kinds e v d

    far-not : (q : Option FeatureNo) (w : Value) → (shape s.metamodel e.feature).opposite ≡ q → names_far e v q e w ≡ false
    far-not q w opposite = by v q opposite
      where
        by : (x : Value) (q : Option FeatureNo) → (shape s.metamodel e.feature).opposite ≡ q → names_far e x q e w ≡ false
        by (value.Object o) (Some g) opposite =
            elim (same_end (far_end o g) e) as (λ b. same_end (far_end o g) e ≡ b → (b && same_value (node_value e.node) w) ≡ false) [
              | true ↦ λ same. absurd ((opposites_are_pairs s.metamodel legal.metamodel e.feature g opposite).apart (ap (λ (x : End). x.feature.0) (same_end-true (far_end o g) e same)))
              | false ↦ λ _. refl
            ] refl
        by x q opposite = refl

    pub near-gives : end cut e ≡ filter (λ w. not (same_value v w)) (end l e)
    near-gives =
        gives e ∙ filter_alike (λ w. not (names m e v e w)) (λ w. not (same_value v w)) (end l e)
        (λ k w at. ap not ((λ i. (same_end-self e i && same_value v w) || far-not (shape s.metamodel e.feature).opposite w refl i) ∙ or-false (same_value v w)))
      where
        or-false : (b : Bool) → (b || false) ≡ b
        or-false true = refl
        or-false false = refl

    -- another end loses the value that the far side of the link names
    other-gives : (d : End) → same_end e d ≡ false → end cut d ≡ filter (λ w. not (names_far e v (shape s.metamodel e.feature).opposite d w)) (end l d)
    other-gives d other = gives d ∙ filter_alike (λ w. not (names m e v d w)) (λ w. not (names_far e v (shape s.metamodel e.feature).opposite d w)) (end l d) (λ k w at. ap (λ (b : Bool). not ((b && same_value v w) || names_far e v (shape s.metamodel e.feature).opposite d w)) other)

    untouched : (d : End) → same_end e d ≡ false → ((w : Value) → names_far e v (shape s.metamodel e.feature).opposite d w ≡ false) → held_in s l d ≡ held_in s cut d
    untouched d other none =
        let same = other-gives d other ∙ filter_all (names_far e v (shape s.metamodel e.feature).opposite d) (end l d) (λ k w at. none w) in
        same-held s l cut d (sym same)

    abbrev At : List FeatureChange → End → Type 0
    At ts d = happened_at s.metamodel ts d (held_in s l d) ≡ held_in s cut d

    abbrev t : LinkEnd
    t = link_end e v

    near-loss : done (shape s.metamodel e.feature) (Loses v) (held_in s l e) ≡ held_in s cut e
    near-loss = loss-held l cut e v left has near-gives

    -- a link of one end
    alone : other_side e.node v (shape s.metamodel e.feature).opposite ≡ None → (d : End) → At (loss t ∷ []) d
    alone none d = elim (same_end e d) as (λ b. same_end e d ≡ b → (if b then done (shape s.metamodel d.feature) (Loses v) (held_in s l d) else held_in s l d) ≡ held_in s cut d) [
      | true ↦ λ same. subst (λ (x : End). done (shape s.metamodel x.feature) (Loses v) (held_in s l x) ≡ held_in s cut x) (same_end-true e d same) near-loss
      | false ↦ λ other. untouched d other (λ w. by v (shape s.metamodel e.feature).opposite w none)
    ] refl
      where
        by : (x : Value) (q : Option FeatureNo) (w : Value) → other_side e.node x q ≡ None → names_far e x q d w ≡ false
        by (value.Object o) (Some g) w h = absurd (none-some _ (sym h))
        by x q w h = refl

    -- a link of two ends, with a notification at both
    module _ (o : ObjectNo) (g : FeatureNo) (is : v ≡ value.Object o) (opposite : (shape s.metamodel e.feature).opposite ≡ Some g) where
      abbrev far : End
      far = far_end o g

      abbrev u : LinkEnd
      u = link_end far (node_value e.node)

      named : (d : End) (w : Value) → names_far e v (shape s.metamodel e.feature).opposite d w ≡ (same_end far d && same_value (node_value e.node) w)
      named d w = λ i. names_far e (is i) (opposite i) d w

      far-other : same_end e far ≡ false
      far-other = elim (same_end e far) as (λ b. same_end e far ≡ b → b ≡ false) [
        | true ↦ λ same. absurd ((opposites_are_pairs s.metamodel legal.metamodel e.feature g opposite).apart (ap (λ (x : End). x.feature.0) (sym (same_end-true e far same))))
        | false ↦ λ _. refl
      ] refl

      far-loss : done (shape s.metamodel g) (Loses (node_value e.node)) (held_in s l far) ≡ held_in s cut far
      far-loss =
          let there : Has l far (node_value e.node) = both_ends_agree m l left.set left.kinds e far opposite (subst (λ (x : Value). Has l e x) is has) in
          loss-held l cut far (node_value e.node) left there
          (other-gives far far-other ∙ filter_alike (λ w. not (names_far e v (shape s.metamodel e.feature).opposite far w)) (λ w. not (same_value (node_value e.node) w)) (end l far)
          (λ k w at. ap not (named far w ∙ ap (λ (b : Bool). b && same_value (node_value e.node) w) (same_end-self far))))

      rest : (d : End) → same_end e d ≡ false → same_end far d ≡ false → held_in s l d ≡ held_in s cut d
      rest d near_not far_not = untouched d near_not (λ w. named d w ∙ ap (λ (b : Bool). b && same_value (node_value e.node) w) far_not)

      -- the two losses in either order
      near-first : (d : End) → At (loss t ∷ loss u ∷ []) d
      near-first d = elim (same_end e d) as (λ b. same_end e d ≡ b → done_at s.metamodel d (loss u) (if b then done (shape s.metamodel d.feature) (Loses v) (held_in s l d) else held_in s l d) ≡ held_in s cut d) [
        | true ↦ λ same. subst (λ (x : End). done_at s.metamodel x (loss u) (done (shape s.metamodel x.feature) (Loses v) (held_in s l x)) ≡ held_in s cut x) (same_end-true e d same)
            (done-other s.metamodel e (loss u) (done (shape s.metamodel e.feature) (Loses v) (held_in s l e)) (same_end-symmetric far e ∙ far-other) ∙ near-loss)
        | false ↦ λ other. elim (same_end far d) as (λ b. same_end far d ≡ b → (if b then done (shape s.metamodel d.feature) (Loses (node_value e.node)) (held_in s l d) else held_in s l d) ≡ held_in s cut d) [
          | true ↦ λ same. subst (λ (x : End). done (shape s.metamodel x.feature) (Loses (node_value e.node)) (held_in s l x) ≡ held_in s cut x) (same_end-true far d same) far-loss
          | false ↦ λ far_not. rest d other far_not
        ] refl
      ] refl

      far-first : (d : End) → At (loss u ∷ loss t ∷ []) d
      far-first d = elim (same_end far d) as (λ b. same_end far d ≡ b → done_at s.metamodel d (loss t) (if b then done (shape s.metamodel d.feature) (Loses (node_value e.node)) (held_in s l d) else held_in s l d) ≡ held_in s cut d) [
        | true ↦ λ same. subst (λ (x : End). done_at s.metamodel x (loss t) (done (shape s.metamodel x.feature) (Loses (node_value e.node)) (held_in s l x)) ≡ held_in s cut x) (same_end-true far d same)
            (done-other s.metamodel far (loss t) (done (shape s.metamodel g) (Loses (node_value e.node)) (held_in s l far)) far-other ∙ far-loss)
        | false ↦ λ far_not. elim (same_end e d) as (λ b. same_end e d ≡ b → (if b then done (shape s.metamodel d.feature) (Loses v) (held_in s l d) else held_in s l d) ≡ held_in s cut d) [
          | true ↦ λ same. subst (λ (x : End). done (shape s.metamodel x.feature) (Loses v) (held_in s l x) ≡ held_in s cut x) (same_end-true e d same) near-loss
          | false ↦ λ other. rest d other far_not
        ] refl
      ] refl

    -- the losses of a link, by its other end, if it has one
    losses-by : (x : Value) (q : Option FeatureNo) → v ≡ x → (shape s.metamodel e.feature).opposite ≡ q → (d : End)
        → At (option_map_or (λ u. if is_containment s.metamodel u.end.feature then loss u ∷ loss t ∷ [] else loss t ∷ loss u ∷ []) (other_side e.node x q) (loss t ∷ [])) d
    losses-by (value.Object o) (Some g) is opposite d =
        elim (is_containment s.metamodel g) as (λ b. At (if b then loss (link_end (far_end o g) (node_value e.node)) ∷ loss t ∷ [] else loss t ∷ loss (link_end (far_end o g) (node_value e.node)) ∷ []) d) [
          | true ↦ far-first o g is opposite d
          | false ↦ near-first o g is opposite d
        ]
    losses-by (value.Object o) None is opposite d = alone (λ i. other_side e.node (is i) (opposite i)) d
    losses-by x q is opposite d = alone (λ i. other_side e.node (is i) (opposite i)) d

    losses-held : (d : End) → At (losses (reading s) t) d
    losses-held d = losses-by v (shape s.metamodel e.feature).opposite refl refl d

  ---------------------------------------------------------------- several cuts

  -- the losses of existing links, each once, give the values of ends without these links
  losses-left : (l : Links) (ts : List LinkEnd) → AreLeft s l → AreThere l (names_of ts) → AreOnce m (names_of ts) → (d : End) → happened_at s.metamodel (flat_map (losses (reading s)) ts) d (held_in s l d) ≡ held_in s (without_all l (names_of ts)) d
  losses-left l [] left there once d = refl
  losses-left l (t ∷ ts) left there once d =
      happened_at-append s.metamodel (losses (reading s) t) (flat_map (losses (reading s)) ts) d (held_in s l d)
      ∙ ap (happened_at s.metamodel (flat_map (losses (reading s)) ts) d) (losses-held l t.end t.value left there.0 d)
      ∙ losses-left (cut_value l t.end t.value) ts (left-cut l t.end t.value left) (there_after m ok l left.set left.kinds (t.end, t.value) (names_of ts) once.0 there.1) once.1 d

  pub losses-cut : (ts : List LinkEnd) → AreThere s.links (names_of ts) → AreDifferent (reading s) ts → (d : End) → happened_at s.metamodel (flat_map (losses (reading s)) ts) d (held_at (reading s) d) ≡ held_in s (without_all s.links (names_of ts)) d
  losses-cut ts there different d = losses-left s.links ts (all-left s legal) there (once-of_different (reading s) ts different) d
