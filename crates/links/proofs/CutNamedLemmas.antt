-- Links that are cut by an end and a value: the ends and the holders afterwards, and the plan that cuts them.
use Rattle.std.proofs.Common.{◌≡◌, ℕ, ◌≤◌, length, Bool, true, false, not, List, [], ◌∷◌, Option, Some, None, if◌then◌else◌, refl, sym, ap, ◌∙◌, subst, inl, inr}
use Rattle.std.specs.Prelude.{◌⊎◌, ◌||◌, find, option_and_then}
use Rattle.std.specs.List.{AllByRecursion, filter, list_any, slice_get}
use Rattle.std.specs.FinSet as set
use Rattle.std.proofs.lemmas.Bool.{true≢false}
use Rattle.std.proofs.lemmas.Option.{none-some, some_pair_parts}
use Rattle.links.proofs.AboveLemmas.{above-under, above_under}
use Rattle.links.proofs.CutLemmas.{end-cut}
use Rattle.links.proofs.CycleLemmas.{cut_less, cut_value_no_cycle}
use Rattle.links.proofs.EndLemmas.{items_HasLinks}
use Rattle.links.proofs.FilterLemmas.{filter_all, filter_from, filter_keeps, filter_twice, length-filter_le, remove-filter}
use Rattle.links.proofs.ForestLemmas.{HoldsLess, under_less}
use Rattle.links.proofs.HolderLemmas.{holder-cut, holder-some, indexed_held, test_some, unheld}
use Rattle.links.proofs.KindLemmas.{kinds_cut_value}
use Rattle.links.proofs.LegalLemmas.{cut_value_legal}
use Rattle.links.proofs.NamedLemmas.{named-value, names_nothing, indexed_value-named, value-named}
use Rattle.links.proofs.ScanLemmas.{cut_value_is, find-none, find-some, is_value_at-indexed, is_value_at-true, one_with}
use Rattle.links.specs.Holders.{HasNoCycle, above, holder, holding_end}
use Rattle.links.specs.Laws.{AreOnce, AreThere, cut_edits, is_named, kept_holder, names, without_all}
use Rattle.links.specs.LegalSets.{AreKinds, AreOfKind, HasTwoSides, IsLegalSet, IsObject, IsPlaced, Kinds}
use Rattle.links.specs.Links.{In, Links, cut, cut_some, cut_value, end, list_without}
use Rattle.links.specs.Indexed.{far_indexed, far_value, has_value, is_value_at, indexed_value}
use Rattle.links.specs.Plans.{EditFits, Has, IsEditOfKind, IsPlanOfKind, Lacks, MakesNoCycle, PlanFits, PlanMakesNoCycle, links_after_edit, links_after_edits}
use Rattle.links.specs.declared.link.Far.TheVariants.{At, Alone, Proxy}
use Rattle.links.specs.declared.link.Far.{Far}
use Rattle.links.specs.declared.link.Link.{Link}
use Rattle.mm_types.specs.Same.{node_value, same_end, same_node}
use Rattle.mm_types.specs.declared.end.End.{End}
use Rattle.mm_types.specs.declared.numbers.Node.TheVariants as node
use Rattle.mm_types.specs.declared.numbers.Node.{Node}
use Rattle.mm_types.specs.declared.value.Value.TheVariants as value
use Rattle.mm_types.specs.declared.value.Value.{Value}

-- an end and a value name a link, which is cut, or they name none, and nothing changes
pub cut_value-cases : (s : Links) → IsPlaced s → (e : End) (v : Value) → ((l : Link) × (k : ℕ) × In l s × (indexed_value l e ≡ Some (k, v)) × (cut_value s e v ≡ cut s l)) ⊎ ((cut_value s e v ≡ s) × Lacks s e v)
unfolding cut_value
cut_value-cases s placed e v =
    elim (find (has_value e v) (set.items s)) as (λ o. find (has_value e v) (set.items s) ≡ o → ((l : Link) × (k : ℕ) × In l s × (indexed_value l e ≡ Some (k, v)) × (cut_some s o ≡ cut s l)) ⊎ ((cut_some s o ≡ s) × Lacks s e v)) [
      | None ↦ λ h. inr (refl, λ k at. let st = (placed.ends e).only k v at in find-none (set.items s) e v st.0 k h ((items_HasLinks s).has st.0 st.1) st.2)
      | Some l ↦ λ h. let found = find-some (set.items s) e v l h in inl (l, found.1.0, (items_HasLinks s).only l found.0, found.1.1, refl)
    ] refl

-- without one link, an end keeps all values except the value of that link
pub end-cut_filter : (s : Links) → IsPlaced s → (l : Link) → In l s → (d : End) → end (cut s l) d ≡ filter (λ w. not (is_value_at w (indexed_value l d))) (end s d)
end-cut_filter s placed l within d =
    end-cut s placed l within d
    ∙ elim (indexed_value l d) as (λ o. indexed_value l d ≡ o → list_without (end s d) o ≡ filter (λ w. not (is_value_at w o)) (end s d)) [
      | None ↦ λ h. sym (filter_all (λ w. false) (end s d) (λ k w at. refl))
      | Some p ↦ λ h. remove-filter (end s d) p.0 p.1 (placed.distinct d) ((placed.ends d).has p.0 p.1 (l, within, h))
    ] refl

-- a node that has a holder is in the end that is its holder
held_stands : (s : Links) → IsPlaced s → (n : Node) (d : End) → holder s n ≡ Some d → Has s d (node_value n)
held_stands s placed n d h =
    let l = holder-some s n d h in
    let at = indexed_held l.0 n d (placed.sides l.0 l.1) l.2 in
    (at.0, (placed.ends d).has at.0 (node_value n) (l.0, l.1, at.1))

-- with one link less there are no new holders
pub cut_value_less : (s : Links) → IsLegalSet s → (e : End) (v : Value) → HoldsLess (cut_value s e v) s
cut_value_less s legal e v n d h = elim (cut_value-cases s legal.placed e v) [
  | inl (l, k, within, at, is) ↦ cut_less s l legal.placed legal.held within n d (ap (λ (t : Links). holder t n) (sym is) ∙ h)
  | inr (is, lacks) ↦ ap (λ (t : Links). holder t n) (sym is) ∙ h
]

-- a node that is cut from its holder has no holder
pub cut_free : (s : Links) → IsLegalSet s → (n : Node) (e : End) → holder s n ≡ Some e → holder (cut_value s e (node_value n)) n ≡ None
cut_free s legal n e h =
    let l = holder-some s n e h in
    let at = indexed_held l.0 n e (legal.placed.sides l.0 l.1) l.2 in
    ap (λ (t : Links). holder t n) (cut_value_is s e (node_value n) l.0 at.0 legal.placed l.1 at.1)
    ∙ holder-cut s legal.placed legal.held l.0 l.1 n
    ∙ ap (λ (o : Option End). unheld o (holder s n)) l.2

---------------------------------------------------------------- one cut

module _ (m : Kinds) (ok : AreKinds m) (s : Links) (legal : IsLegalSet s) (kinds : AreOfKind m s) (e : End) (v : Value) where
  -- each end loses the value of the named link
  pub end-cut_value : (d : End) → end (cut_value s e v) d ≡ filter (λ w. not (names m e v d w)) (end s d)
  end-cut_value d = elim (cut_value-cases s legal.placed e v) [
    | inl (l, k, within, at, is) ↦
        ap (λ (t : Links). end t d) is ∙ end-cut_filter s legal.placed l within d
        ∙ ap (λ (p : Value → Bool). filter (λ w. not (p w)) (end s d)) (λ i w. indexed_value-named m l (kinds l within) (legal.placed.sides l within) e k v at d w i)
    | inr (is, lacks) ↦ ap (λ (t : Links). end t d) is ∙ sym (filter_all (names m e v d) (end s d) (λ j w at. names_nothing m ok s legal kinds e v lacks d w (j, at)))
  ]

  module _ (n : Node) where
    -- the end that held n, unless the name names that link
    abbrev kept : Option End → Option End
    kept o = option_and_then (λ (d : End). if names m e v d (node_value n) then None else Some d) o

    unnamed : (l : Link) (k : ℕ) (within : In l s) → indexed_value l e ≡ Some (k, v) → (d : End) → holder s n ≡ Some d → names m e v d (node_value n) ≡ false → unheld (holding_end l n) (Some d) ≡ Some d
    unnamed l k within at d h q = elim (holding_end l n) as (λ o. holding_end l n ≡ o → unheld o (Some d) ≡ Some d) [
      | None ↦ λ _. refl
      | Some x ↦ λ g.
          let j = holder-some s n d h in
          let same = legal.held l j.0 n x d within j.1 g j.2 in
          let p = indexed_held l n x (legal.placed.sides l within) g in
          let stands = is_value_at-indexed (indexed_value l d) p.0 (node_value n) (subst (λ (y : End). indexed_value l y ≡ Some (p.0, node_value n)) same p.1) in
          absurd (true≢false (sym (value-named m l (kinds l within) (legal.placed.sides l within) e k v at d (node_value n) stands) ∙ q))
    ] refl

    named : (l : Link) (k : ℕ) (within : In l s) → indexed_value l e ≡ Some (k, v) → (d : End) → holder s n ≡ Some d → names m e v d (node_value n) ≡ true → unheld (holding_end l n) (Some d) ≡ None
    named l k within at d h q =
        let j = holder-some s n d h in
        let held = indexed_held j.0 n d (legal.placed.sides j.0 j.1) j.2 in
        let there = is_value_at-true (indexed_value l d) (node_value n) (named-value m l (kinds l within) (legal.placed.sides l within) e k v at d (node_value n) q) in
        let same = one_with s l j.0 d (node_value n) there.0 held.0 legal.placed within j.1 there.1 held.1 in
        ap (λ (o : Option End). unheld o (Some d)) (ap (λ (x : Link). holding_end x n) same ∙ j.2)

    after_cut : (l : Link) (k : ℕ) → In l s → indexed_value l e ≡ Some (k, v) → unheld (holding_end l n) (holder s n) ≡ kept (holder s n)
    after_cut l k within at = elim (holder s n) as (λ o. holder s n ≡ o → unheld (holding_end l n) o ≡ kept o) [
      | None ↦ λ h. elim (holding_end l n) as (λ o. unheld o None ≡ None) [ None ↦ refl | Some x ↦ refl ]
      | Some d ↦ λ h. elim (names m e v d (node_value n)) as (λ b. names m e v d (node_value n) ≡ b → unheld (holding_end l n) (Some d) ≡ (if b then None else Some d)) [
        | true ↦ λ q. named l k within at d h q
        | false ↦ λ q. unnamed l k within at d h q
      ] refl
    ] refl

    -- n loses its holder if the name names the link to it, and otherwise keeps it
    pub holder-cut_value : holder (cut_value s e v) n ≡ kept (holder s n)
    holder-cut_value = elim (cut_value-cases s legal.placed e v) [
      | inl (l, k, within, at, is) ↦ ap (λ (t : Links). holder t n) is ∙ holder-cut s legal.placed legal.held l within n ∙ after_cut l k within at
      | inr (is, lacks) ↦
          ap (λ (t : Links). holder t n) is
          ∙ elim (holder s n) as (λ o. holder s n ≡ o → o ≡ kept o) [
            | None ↦ λ h. refl
            | Some d ↦ λ h. ap (λ (b : Bool). if b then None else Some d) (sym (names_nothing m ok s legal kinds e v lacks d (node_value n) (held_stands s legal.placed n d h)))
          ] refl
    ]

---------------------------------------------------------------- several cuts

kept_more : (m : Kinds) (n : Node) (t : End × Value) (ts : List (End × Value)) (o : Option End) → kept_holder m ts n (option_and_then (λ (d : End). if names m t.0 t.1 d (node_value n) then None else Some d) o) ≡ kept_holder m (t ∷ ts) n o
kept_more m n t ts None = refl
kept_more m n t ts (Some d) = elim (names m t.0 t.1 d (node_value n)) as (λ b. kept_holder m ts n (if b then None else Some d) ≡ (if b || is_named m ts d (node_value n) then None else Some d)) [ true ↦ refl | false ↦ refl ]

pub without_all_legal : (s : Links) (ts : List (End × Value)) → IsLegalSet s → IsLegalSet (without_all s ts)
without_all_legal s [] legal = legal
without_all_legal s (t ∷ ts) legal = without_all_legal (cut_value s t.0 t.1) ts (cut_value_legal s t.0 t.1 legal)

pub without_all_kinds : (m : Kinds) (s : Links) (ts : List (End × Value)) → AreOfKind m s → AreOfKind m (without_all s ts)
without_all_kinds m s [] kinds = kinds
without_all_kinds m s (t ∷ ts) kinds = without_all_kinds m (cut_value s t.0 t.1) ts (kinds_cut_value m s t.0 t.1 kinds)

pub without_all_no_cycle : (s : Links) (ts : List (End × Value)) → IsLegalSet s → HasNoCycle s → HasNoCycle (without_all s ts)
without_all_no_cycle s [] legal free = free
without_all_no_cycle s (t ∷ ts) legal free = without_all_no_cycle (cut_value s t.0 t.1) ts (cut_value_legal s t.0 t.1 legal) (cut_value_no_cycle s t.0 t.1 legal free)

pub without_all_less : (s : Links) (ts : List (End × Value)) → IsLegalSet s → HoldsLess (without_all s ts) s
without_all_less s [] legal n d h = h
without_all_less s (t ∷ ts) legal n d h = cut_value_less s legal t.0 t.1 n d (without_all_less (cut_value s t.0 t.1) ts (cut_value_legal s t.0 t.1 legal) n d h)

-- after the cuts no new node is above a node
pub without_all_above : (s : Links) (ts : List (End × Value)) → IsLegalSet s → HasNoCycle s → (x y : Node) → list_any (same_node y) (above s x) ≡ false → list_any (same_node y) (above (without_all s ts) x) ≡ false
without_all_above s ts legal free x y h =
    let t = without_all s ts in
    elim (list_any (same_node y) (above t x)) as (λ b. list_any (same_node y) (above t x) ≡ b → b ≡ false) [
      | false ↦ λ _. refl
      | true ↦ λ q. absurd (true≢false (sym ((above_under s legal free x y).1 (under_less s t (without_all_less s ts legal) x y (above-under t x y q))) ∙ h))
    ] refl

module _ (m : Kinds) (ok : AreKinds m) where
  pub end-without_all : (s : Links) (ts : List (End × Value)) → IsLegalSet s → AreOfKind m s → (d : End) → end (without_all s ts) d ≡ filter (λ w. not (is_named m ts d w)) (end s d)
  end-without_all s [] legal kinds d = sym (filter_all (λ w. false) (end s d) (λ k w at. refl))
  end-without_all s (t ∷ ts) legal kinds d =
      end-without_all (cut_value s t.0 t.1) ts (cut_value_legal s t.0 t.1 legal) (kinds_cut_value m s t.0 t.1 kinds) d
      ∙ ap (λ (xs : List Value). filter (λ w. not (is_named m ts d w)) xs) (end-cut_value m ok s legal kinds t.0 t.1 d)
      ∙ filter_twice (names m t.0 t.1 d) (is_named m ts d) (end s d)

  pub lacks-without_all : (s : Links) (ts : List (End × Value)) → IsLegalSet s → AreOfKind m s → (d : End) (w : Value) → Lacks s d w → Lacks (without_all s ts) d w
  lacks-without_all s ts legal kinds d w lacks k at =
      let was = filter_from (λ v. not (is_named m ts d v)) (end s d) k w (subst (λ (xs : List Value). slice_get xs k ≡ Some w) (end-without_all s ts legal kinds d) at) in
      lacks was.0 was.1

  pub length-without_all : (s : Links) (ts : List (End × Value)) → IsLegalSet s → AreOfKind m s → (d : End) → length (end (without_all s ts) d) ≤ length (end s d)
  length-without_all s ts legal kinds d = subst (λ (xs : List Value). length xs ≤ length (end s d)) (sym (end-without_all s ts legal kinds d)) (length-filter_le (λ v. not (is_named m ts d v)) (end s d))

  pub holder-without_all : (s : Links) (ts : List (End × Value)) → IsLegalSet s → AreOfKind m s → (n : Node) → holder (without_all s ts) n ≡ kept_holder m ts n (holder s n)
  holder-without_all s [] legal kinds n = elim (holder s n) as (λ o. o ≡ kept_holder m [] n o) [ None ↦ refl | Some d ↦ refl ]
  holder-without_all s (t ∷ ts) legal kinds n =
      holder-without_all (cut_value s t.0 t.1) ts (cut_value_legal s t.0 t.1 legal) (kinds_cut_value m s t.0 t.1 kinds) n
      ∙ ap (kept_holder m ts n) (holder-cut_value m ok s legal kinds t.0 t.1 n)
      ∙ kept_more m n t ts (holder s n)

---------------------------------------------------------------- the plan that cuts them

-- a value that can be in an end
abbrev pub IsLinked : Value → Type 0
IsLinked (value.Object o) = Unit {0}
IsLinked (value.Proxy t) = Unit {0}
IsLinked _ = ⊥

node_linked : (n : Node) → IsObject n → IsLinked (node_value n)
node_linked (node.Object o) is = tt
node_linked (node.Resource r) is = absurd is

near_linked : (e : End) (x : Far) → HasTwoSides e x → IsLinked (far_value x)
near_linked e (At d j) two = node_linked d.node two.2
near_linked e (Alone o) two = tt
near_linked e (Proxy t) two = tt

far_linked : (e d : End) (x : Far) (k : ℕ) (v : Value) → HasTwoSides e x → far_indexed x (node_value e.node) d ≡ Some (k, v) → IsLinked v
far_linked e d (At c j) k v two at = subst (λ (w : Value). IsLinked w) (λ i. ((test_some (same_end c d) (j, node_value e.node) (k, v) at).1 i).1) (node_linked e.node two.1)
far_linked e d (Alone o) k v two at = absurd (none-some _ at)
far_linked e d (Proxy t) k v two at = absurd (none-some _ at)

indexed_linked : (l : Link) (d : End) (k : ℕ) (v : Value) → HasTwoSides l.end l.far → indexed_value l d ≡ Some (k, v) → IsLinked v
indexed_linked l d k v two at =
    elim (same_end l.end d) as (λ b. (if b then Some (l.index, far_value l.far) else far_indexed l.far (node_value l.end.node) d) ≡ Some (k, v) → IsLinked v) [
      | true ↦ λ q. subst (λ (w : Value). IsLinked w) (some_pair_parts l.index k (far_value l.far) v q).1 (near_linked l.end l.far two)
      | false ↦ λ q. far_linked l.end d l.far k v two q
    ] at

-- an end has only objects and proxies
pub has_linked : (s : Links) → IsPlaced s → (e : End) (v : Value) → Has s e v → IsLinked v
has_linked s placed e v has = let st = (placed.ends e).only has.0 v has.1 in indexed_linked st.0 e has.0 v (placed.sides st.0 st.1) st.2

pub cuts_of_kind : (m : Kinds) (ts : List (End × Value)) → IsPlanOfKind m (cut_edits ts)
cuts_of_kind m [] = tt
cuts_of_kind m (t ∷ ts) = (tt, cuts_of_kind m ts)

pub cuts_without_cycle : (s : Links) (ts : List (End × Value)) → PlanMakesNoCycle s (cut_edits ts)
cuts_without_cycle s [] = tt
cuts_without_cycle s (t ∷ ts) = (tt, cuts_without_cycle (cut_value s t.0 t.1) ts)

module _ (m : Kinds) (ok : AreKinds m) where
  -- a value whose link is not cut is at its old position, or at a lower one
  has_after : (s : Links) → IsLegalSet s → AreOfKind m s → (t u : End × Value) → names m t.0 t.1 u.0 u.1 ≡ false → Has s u.0 u.1 → Has (cut_value s t.0 t.1) u.0 u.1
  has_after s legal kinds t u other has =
      let left = filter_keeps (λ w. not (names m t.0 t.1 u.0 w)) (end s u.0) has.0 u.1 has.1 (ap not other) in
      (left.0, subst (λ (xs : List Value). slice_get xs left.0 ≡ Some u.1) (sym (end-cut_value m ok s legal kinds t.0 t.1 u.0)) left.1)

  pub there_after : (s : Links) → IsLegalSet s → AreOfKind m s → (t : End × Value) (us : List (End × Value)) → AllByRecursion (λ (u : End × Value). names m t.0 t.1 u.0 u.1 ≡ false) us → AreThere s us → AreThere (cut_value s t.0 t.1) us
  there_after s legal kinds t [] others there = tt
  there_after s legal kinds t (u ∷ us) others there = (has_after s legal kinds t u others.0 there.0, there_after s legal kinds t us others.1 there.1)

  -- the plan cuts the links that the names name
  pub links_after_edits-cut_edits : (s : Links) (ts : List (End × Value)) → IsLegalSet s → AreOfKind m s → AreThere s ts → AreOnce m ts → links_after_edits s (cut_edits ts) ≡ without_all s ts
  links_after_edits-cut_edits s [] legal kinds there once = refl
  links_after_edits-cut_edits s (t ∷ ts) legal kinds there once =
      links_after_edits-cut_edits (cut_value s t.0 t.1) ts (cut_value_legal s t.0 t.1 legal) (kinds_cut_value m s t.0 t.1 kinds) (there_after s legal kinds t ts once.0 there.1) once.1

  -- the plan fits, if each named link exists and is named once
  pub cuts_fit : (s : Links) (ts : List (End × Value)) → IsLegalSet s → AreOfKind m s → AreThere s ts → AreOnce m ts → PlanFits s (cut_edits ts)
  cuts_fit s [] legal kinds there once = tt
  cuts_fit s (t ∷ ts) legal kinds there once =
      (there.0, cuts_fit (cut_value s t.0 t.1) ts (cut_value_legal s t.0 t.1 legal) (kinds_cut_value m s t.0 t.1 kinds) (there_after s legal kinds t ts once.0 there.1) once.1)
