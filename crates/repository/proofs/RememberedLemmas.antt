-- The remembered fragments, and the remembered adapters that are notified at a node, stay right if no containing link is edited.
use Rattle.std.proofs.Common.{◌≡◌, ◌∙◌, ℕ, Bool, true, false, List, Option, Some, None, refl, sym, ap, subst, inl, inr, eqb-true, arith}
use Rattle.std.specs.Prelude.{◌&&◌, ◌<◌, cond, if◌then◌else◌, is_some, IfSome, [], ◌∷◌, length, not, suc, zero}
use Rattle.std.specs.FinMap as map
use Rattle.std.specs.Ordering.{eq_by_cmp, nat_cmp}
use Rattle.std.proofs.lemmas.Bool.{false≢true}
use Rattle.std.proofs.lemmas.Bool.Decides.{nat_tests}
use Rattle.std.proofs.lemmas.Cmp.{nat_cmp_total}
use Rattle.std.proofs.lemmas.Option.{none-some}
use Rattle.mm_types.specs.Resolved.{Metamodel}
use Rattle.mm_types.specs.Same.{is_feature}
use Rattle.mm_types.specs.Shapes.{shape}
use Rattle.mm_types.specs.declared.numbers.FeatureNo.{FeatureNo}
use Rattle.mm_types.specs.declared.numbers.Node.{Node}
use Rattle.mm_types.specs.declared.numbers.ObjectNo.{ObjectNo}
use Rattle.mm_values.specs.Values.{ValuesState}
use Rattle.links.proofs.AboveLemmas.{above_falls, above_held}
use Rattle.links.proofs.TouchLemmas.{plan-leaves}
use Rattle.links.specs.Laws.{touches_containment}
use Rattle.links.specs.Links.{Links}
use Rattle.links.specs.Plans.{IsPlanOfKind, PlanFits, links_after_edits}
use Rattle.links.specs.declared.plan.Edit.{Edit}
use Rattle.links.specs.declared.plan.Edit.TheVariants as edit
use Rattle.models.specs.Legal.{IsLegal, kinds_of}
use Rattle.models.specs.Model.{model_of, reading}
use Rattle.models.specs.Reading.{Reading, at_end}
use Rattle.containment.proofs.PartLemmas.{contains-reference, kinds-are, values-linked}
use Rattle.fragment_paths.proofs.StayLemmas.{above-stays, fragment-stays, nothing-above}
use Rattle.fragment_paths.specs.Fragments.{fragment}
use Rattle.fragment_paths.specs.Kept.{Kept, MayKeep, is_full_for, with_room}
use Rattle.fragment_paths.specs.Laws.{HaveSameParts}
use Rattle.links.specs.Holders.{HasNoCycle, above, holder}
use Rattle.links.specs.LegalSets.{IsLegalSet}
use Rattle.links.proofs.HolderLemmas.{holder-shift}
use Rattle.repository.specs.Remembered.{is_move, may_change_containers}
use Rattle.notice_chain.specs.Listed.{Above, Listed}
use Rattle.notice_chain.specs.declared.notice.Notice.{Notice}
use Rattle.adapter_list.specs.Hearing.{AreKnown, hearers, hears_node, ordinals_from}
use Rattle.adapter_list.specs.Rounds.{adapters_after_copies, adapters_after_copies_from}
use Rattle.adapter_list.specs.declared.hearers.Hearers.{Hearers}
use Rattle.repository.specs.Repository.{KeepsFragments}

-- the empty map has no text
pub none-at : (X : Type 0) (o : ObjectNo) (t : List ℕ) → map.get {R = nat_cmp} map.empty o.0 ≡ Some t → X
none-at X o t h = absurd (none-some t (sym (map.get-empty nat_cmp o.0) ∙ h))

none-kept : (r : Reading) → KeepsFragments r map.empty
none-kept r o t h = none-at _ o t h

-- fragments that are kept, or forgotten
pub some-kept : (r : Reading) (kept : Kept) (b : Bool) → KeepsFragments r kept → KeepsFragments r (if b then map.empty else kept)
some-kept r kept true keeps = none-kept r
some-kept r kept false keeps = keeps

-- if a feature is a containment, its pair has a containing feature
some-feature : (f : FeatureNo) (x : Option FeatureNo) → is_feature f x ≡ true → is_some x ≡ true
some-feature f (Some g) h = refl
some-feature f None h = h

module _ (m : Metamodel) (v w : ValuesState) (a : Links) (plan : List Edit) (legal : IsLegal (model_of m v a)) (after : IsLegal (model_of m w (links_after_edits a plan)))
    (fits : PlanFits a plan) (kind : IsPlanOfKind (kinds_of m) plan) where
  parts-stay : touches_containment (kinds_of m) plan ≡ false → HaveSameParts m v w a (links_after_edits a plan)
  parts-stay out n f contains =
      let e = at_end n f in
      let refers = contains-reference m f f (is-own (shape m f).containing contains) in
      values-linked (model_of m w (links_after_edits a plan)) e refers
      ∙ plan-leaves (kinds_of m) (kinds-are m legal.metamodel) a plan legal.links.set legal.links.kinds fits kind out e (some-feature f (shape m f).containing contains)
      ∙ sym (values-linked (model_of m v a) e refers)
    where
      is-own : (x : Option FeatureNo) → is_feature f x ≡ true → x ≡ Some f
      is-own (Some g) h = λ i. Some (record { 0 = sym (eqb-true f.0 g.0 h) i })
      is-own None h = absurd (none-some f (subst (λ (b : Bool). (if b then None else Some f) ≡ Some f) h refl))

  pub kept-after : (kept : Kept) → KeepsFragments (reading (model_of m v a)) kept → KeepsFragments (reading (model_of m w (links_after_edits a plan))) (if touches_containment (kinds_of m) plan then map.empty else kept)
  kept-after kept keeps =
      elim (touches_containment (kinds_of m) plan) as (λ b. touches_containment (kinds_of m) plan ≡ b → KeepsFragments (reading (model_of m w (links_after_edits a plan))) (if b then map.empty else kept)) [
        | true ↦ λ h. none-kept (reading (model_of m w (links_after_edits a plan)))
        | false ↦ λ h o t there. fragment-stays m v w a (links_after_edits a plan) legal after (parts-stay h) o ∙ keeps o t there
      ] refl

  -- the adapters that are notified at a node are as before
  pub hearers-after : (rs : List Listed) (h : Hearers) → AreKnown (above a) rs h → touches_containment (kinds_of m) plan ≡ false → AreKnown (above (links_after_edits a plan)) rs h
  hearers-after rs h known out = subst (λ (up : Above). AreKnown up rs h) (λ i n. sym (above-stays m v w a (links_after_edits a plan) legal after (parts-stay out) n) i) known

---------------------------------------------------------------- a value that is moved within its list

-- if each node has its holder, the nodes above it are the same
module _ (a b : Links) (legal : IsLegalSet a) (free : HasNoCycle a) (legal_b : IsLegalSet b) (free_b : HasNoCycle b) (stays : (n : Node) → holder b n ≡ holder a n) where
  above-from : (k : ℕ) (n : Node) → length (above a n) < k → above b n ≡ above a n
  above-from zero n low = absurd (omega (arith, low))
  above-from (suc k) n low =
      elim (holder a n) as (λ x. holder a n ≡ x → above b n ≡ above a n) [
        | None ↦ λ none. nothing-above b legal_b free_b n (stays n ∙ none) ∙ sym (nothing-above a legal free n none)
        | Some e ↦ λ h.
            let falls = above_falls a legal free n e h in
            above_held b legal_b free_b n e (stays n ∙ h) ∙ ap (λ (ns : List Node). e.node ∷ ns) (above-from k e.node (omega (arith, falls, low))) ∙ sym (above_held a legal free n e h)
      ] refl

  above-held : (n : Node) → above b n ≡ above a n
  above-held n = above-from (suc (length (above a n))) n (omega arith)

moved-holders : (a : Links) (plan : List Edit) → IsLegalSet a → is_move plan ≡ true → (n : Node) → holder (links_after_edits a plan) n ≡ holder a n
moved-holders a (edit.Shift e to from ∷ []) legal h n = holder-shift a e to from legal.held n
moved-holders a _ legal h n = absurd (false≢true h)

-- the adapters that are notified at a node are as before, if no node gets another container
pub hearers-kept : (m : Metamodel) (v w : ValuesState) (a : Links) (plan : List Edit) → IsLegal (model_of m v a) → IsLegal (model_of m w (links_after_edits a plan)) → PlanFits a plan → IsPlanOfKind (kinds_of m) plan
    → (rs : List Listed) (h : Hearers) → AreKnown (above a) rs h → may_change_containers (kinds_of m) plan ≡ false → AreKnown (above (links_after_edits a plan)) rs h
hearers-kept m v w a plan legal after fits kind rs h known out =
    elim (touches_containment (kinds_of m) plan) as (λ b. touches_containment (kinds_of m) plan ≡ b → (b && not (is_move plan)) ≡ false → AreKnown (above (links_after_edits a plan)) rs h) [
      | true ↦ λ _ moved.
          let stays = moved-holders a plan legal.links.set (turned (is_move plan) moved) in
          subst (λ (up : Above). AreKnown up rs h) (λ i n. sym (above-held a (links_after_edits a plan) legal.links.set legal.links.forest after.links.set after.links.forest stays n) i) known
      | false ↦ λ untouched _. hearers-after m v w a plan legal after fits kind rs h known untouched
    ] refl out
  where
    turned : (b : Bool) → not b ≡ false → b ≡ true
    turned true h = refl
    turned false h = sym h

-- the adapters that were notified are notified at the same nodes as before
places-told : (up : Above) (x : Node) (k j : ℕ) (cs : List (ℕ × Notice)) (rs : List Listed) → ordinals_from (hears_node up x) k (adapters_after_copies_from j cs rs) ≡ ordinals_from (hears_node up x) k rs
places-told up x k j cs [] = refl
places-told up x k j cs (r ∷ rs) =
    elim (hears_node up x r) as (λ b. (if b then k ∷ ordinals_from (hears_node up x) (suc k) (adapters_after_copies_from (suc j) cs rs) else ordinals_from (hears_node up x) (suc k) (adapters_after_copies_from (suc j) cs rs)) ≡ (if b then k ∷ ordinals_from (hears_node up x) (suc k) rs else ordinals_from (hears_node up x) (suc k) rs)) [
      | true ↦ ap (λ (ks : List ℕ). k ∷ ks) (places-told up x (suc k) (suc j) cs rs)
      | false ↦ places-told up x (suc k) (suc j) cs rs
    ]

pub known-adapters_after_copies : (up : Above) (cs : List (ℕ × Notice)) (rs : List Listed) (h : Hearers) → AreKnown up rs h → AreKnown up (adapters_after_copies cs rs) h
known-adapters_after_copies up cs rs h known =
    elim h.node as (λ o. IfSome o (λ x. h.ordinals.items ≡ hearers up x rs) → IfSome o (λ x. h.ordinals.items ≡ hearers up x (adapters_after_copies cs rs))) [
      | None ↦ λ _. tt
      | Some x ↦ λ is. is ∙ sym (places-told up x 0 0 cs rs)
    ] known

-- a text that is kept, if it is its object's fragment
pub kept-more : (r : Reading) (old new : Kept) (o : ObjectNo) (t : List ℕ) → MayKeep old o t new → fragment r o ≡ Some t → KeepsFragments r old → KeepsFragments r new
kept-more r old new o t may is keeps = elim may [
  | inl put ↦ subst (KeepsFragments r) (sym put) added
  | inr same ↦ subst (KeepsFragments r) (sym same) room
]
  where
    room : KeepsFragments r (with_room old o)
    room = elim (is_full_for old o) as (λ b. KeepsFragments r (if b then map.empty else old)) [ true ↦ none-kept r | false ↦ keeps ]

    added : KeepsFragments r (map.insert (with_room old o) o.0 t)
    added p u h = by (eq_by_cmp nat_cmp p.0 o.0) refl (sym (map.get-insert nat_cmp_total (with_room old o) o.0 t p.0) ∙ h)
      where
        equal : (x y : ℕ) → eq_by_cmp nat_cmp x y ≡ true → x ≡ y
        equal x y q = grind (arith, nat_tests)

        by : (b : Bool) → eq_by_cmp nat_cmp p.0 o.0 ≡ b → cond (eq_by_cmp nat_cmp p.0 o.0) (Some t) (map.get (with_room old o) p.0) ≡ Some u → fragment r p ≡ Some u
        by true q g =
            let same : p ≡ o = λ i. record { 0 = equal p.0 o.0 q i } in
            ap (λ (x : ObjectNo). fragment r x) same ∙ is ∙ sym (ap (λ b. cond b (Some t) (map.get (with_room old o) p.0)) q) ∙ g
        by false q g = room p u (sym (ap (λ b. cond b (Some t) (map.get (with_room old o) p.0)) q) ∙ g)
