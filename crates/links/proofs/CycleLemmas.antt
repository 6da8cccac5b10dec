-- A plan whose new containers are neither the contained nodes nor below them makes no cycle.
use Rattle.std.proofs.Common.{◌≡◌, ◌≢◌, ℕ, true, false, List, [], ◌∷◌, Option, Some, None, refl, sym, ap, ◌∙◌, inl, inr}
use Rattle.std.specs.Prelude.{◌⊎◌, ◌&&◌, if◌then◌else◌, find}
use Rattle.std.specs.Option.{option_or}
use Rattle.std.specs.FinSet as set
use Rattle.std.proofs.lemmas.Option.{none-some}
use Rattle.std.proofs.lemmas.Bool.{false≢true}
use Rattle.links.proofs.ClimbLemmas.{not_under}
use Rattle.links.proofs.ContainedLemmas.{free_new}
use Rattle.links.proofs.EndLemmas.{items_HasLinks}
use Rattle.links.proofs.ForestLemmas.{HoldsLess, no_cycle_less, no_cycle_more}
use Rattle.links.proofs.HolderLemmas.{holder-cut, holder-put, holder-put_proxy, holder-shift, holder-some, through_one, unheld}
use Rattle.links.proofs.LegalLemmas.{edited_legal}
use Rattle.links.proofs.PlaceLemmas.{same_node_if}
use Rattle.links.proofs.PutLemmas.{apart_of}
use Rattle.links.proofs.ScanLemmas.{find-some}
use Rattle.links.specs.Holders.{HasNoCycle, far_holding, held_through, holder, holding_end, is_far_node}
use Rattle.links.specs.LegalSets.{IsHeldOnce, IsLegalSet, IsPlaced}
use Rattle.links.specs.Links.{In, Links, cut, cut_some, cut_value, new_link, no_links, put, put_proxy, shift}
use Rattle.links.specs.Order.{link_cmp}
use Rattle.links.specs.Indexed.{has_value}
use Rattle.links.specs.Plans.{EditFits, IsOutside, MakesNoCycle, PlanFits, PlanMakesNoCycle, links_after_edit, links_after_edits}
use Rattle.links.specs.declared.link.Far.TheVariants.{At, Alone, Proxy}
use Rattle.links.specs.declared.link.Far.{Far}
use Rattle.links.specs.declared.link.Link.{Link}
use Rattle.links.specs.declared.plan.Edit.TheVariants as edit
use Rattle.links.specs.declared.plan.Edit.{Edit}
use Rattle.mm_types.specs.Same.{same_feature, same_node}
use Rattle.mm_types.specs.declared.end.End.{End}
use Rattle.mm_types.specs.declared.numbers.FeatureNo.{FeatureNo}
use Rattle.mm_types.specs.declared.numbers.Node.TheVariants as node
use Rattle.mm_types.specs.declared.numbers.Node.{Node}
use Rattle.mm_types.specs.declared.numbers.ObjectNo.{ObjectNo}
use Rattle.mm_types.specs.declared.value.Value.TheVariants as value
use Rattle.mm_types.specs.declared.value.Value.{Value}

pub unheld_less : (o x : Option End) (e : End) → unheld o x ≡ Some e → x ≡ Some e
unheld_less None x e h = h
unheld_less (Some d) x e h = absurd (none-some e h)

-- a cut makes no new holders
pub cut_less : (s : Links) (l : Link) → IsPlaced s → IsHeldOnce s → In l s → HoldsLess (cut s l) s
cut_less s l placed once within y e h = unheld_less (holding_end l y) (holder s y) e (sym (holder-cut s placed once l within y) ∙ h)

-- a link contains one node, or none
pub held_one : (l : Link) → ((x : Node) × (d : End) × (holding_end l x ≡ Some d)) ⊎ ((x : Node) → holding_end l x ≡ None)
held_one l = through l.container
  where
    near : (f : Far) → ((x : Node) × (d : End) × ((if is_far_node f x then Some l.end else None) ≡ Some d)) ⊎ ((x : Node) → (if is_far_node f x then Some l.end else None) ≡ None)
    near (At d j) = inl (d.node, l.end, (let same = same_node_if d.node d.node refl in rw same refl))
    near (Alone n) = inl (node.Object n, l.end, (let same = same_node_if (node.Object n) (node.Object n) refl in rw same refl))
    near (Proxy t) = inr (λ x. refl)

    far : (h : FeatureNo) (f : Far) → ((x : Node) × (d : End) × (far_holding f h l.end.node x ≡ Some d)) ⊎ ((x : Node) → far_holding f h l.end.node x ≡ None)
    far h (At d j) = elim (same_feature d.feature h) as (λ b. ((x : Node) × (c : End) × ((if b && same_node l.end.node x then Some d else None) ≡ Some c)) ⊎ ((x : Node) → (if b && same_node l.end.node x then Some d else None) ≡ None)) [
      | true ↦ inl (l.end.node, d, (let same = same_node_if l.end.node l.end.node refl in rw same refl))
      | false ↦ inr (λ x. refl)
    ]
    far h (Alone n) = inr (λ x. refl)
    far h (Proxy t) = inr (λ x. refl)

    through : (c : Option FeatureNo) → ((x : Node) × (d : End) × (held_through c l x ≡ Some d)) ⊎ ((x : Node) → held_through c l x ≡ None)
    through None = inr (λ x. refl)
    through (Some h) = elim (same_feature l.end.feature h) as (λ b. ((x : Node) × (d : End) × ((if b then (if is_far_node l.far x then Some l.end else None) else far_holding l.far h l.end.node x) ≡ Some d)) ⊎ ((x : Node) → (if b then (if is_far_node l.far x then Some l.end else None) else far_holding l.far h l.end.node x) ≡ None)) [
      | true ↦ near l.far
      | false ↦ far h l.far
    ]

-- no link contains two nodes
pub held_other : (l : Link) (x y : Node) (d : End) → holding_end l x ≡ Some d → y ≢ x → holding_end l y ≡ None
held_other l x y d h ne = elim (holding_end l y) as (λ o. holding_end l y ≡ o → o ≡ None) [
  | None ↦ λ _. refl
  | Some e ↦ λ g. absurd (ne (through_one l.container l y x e d g h))
] refl

pub put_no_cycle : (s : Links) (e : End) (i : ℕ) (n : ObjectNo) (g c : Option FeatureNo) → IsHeldOnce s → HasNoCycle s → ((x : Node) (d : End) → holding_end (new_link s e i n g c) x ≡ Some d → holder s x ≡ None) → IsOutside s (new_link s e i n g c) → HasNoCycle (put s e i n g c)
put_no_cycle s e i n g c once free can out =
    let l = new_link s e i n g c in
    let t = put s e i n g c in
    let is : (y : Node) → holder t y ≡ option_or (holding_end l y) (holder s y) = holder-put s e i n g c once can in
    elim (held_one l) [
      | inr none ↦ no_cycle_less s t (λ y d h. ap (λ (o : Option End). option_or o (holder s y)) (sym (none y)) ∙ sym (is y) ∙ h) free
      | inl p ↦
          let may = out p.0 p.1 p.2 in
          no_cycle_more s t p.0 p.1 (is p.0 ∙ ap (λ (o : Option End). option_or o (holder s p.0)) p.2)
          (λ y ne. is y ∙ ap (λ (o : Option End). option_or o (holder s y)) (held_other l p.0 y p.1 p.2 ne)) may.0 may.1 free
    ]

cut_some_no_cycle : (s : Links) (o : Option Link) → IsLegalSet s → ((l : Link) → o ≡ Some l → In l s) → HasNoCycle s → HasNoCycle (cut_some s o)
cut_some_no_cycle s None legal h free = free
cut_some_no_cycle s (Some l) legal h free = no_cycle_less s (cut s l) (cut_less s l legal.placed legal.held (h l refl)) free

pub cut_value_no_cycle : (s : Links) (e : End) (v : Value) → IsLegalSet s → HasNoCycle s → HasNoCycle (cut_value s e v)
unfolding cut_value
cut_value_no_cycle s e v legal free = cut_some_no_cycle s (find (has_value e v) (set.items s)) legal (λ l h. (items_HasLinks s).only l (find-some (set.items s) e v l h).0) free

edited_no_cycle : (s : Links) (x : Edit) → IsLegalSet s → EditFits s x → MakesNoCycle s x → HasNoCycle s → HasNoCycle (links_after_edit s x)
edited_no_cycle s (edit.Cut e v) legal fits out free = cut_value_no_cycle s e v legal free
edited_no_cycle s (edit.Put l) legal fits out free = put_no_cycle s l.end l.index l.object l.opposite l.container legal.held free (free_new s l.end l.index l.object l.opposite l.container (apart_of s l.end l.object l.opposite fits.1) fits.2) out
edited_no_cycle s (edit.Shift e to from) legal fits out free = no_cycle_less s (shift s e to from) (λ y d h. sym (holder-shift s e to from legal.held y) ∙ h) free
edited_no_cycle s (edit.PutProxy e i t) legal fits out free = no_cycle_less s (put_proxy s e i t) (λ y d h. sym (holder-put_proxy s e i t legal.held y) ∙ h) free

pub plan_makes_no_cycle : (s : Links) (plan : List Edit) → IsLegalSet s → PlanFits s plan → PlanMakesNoCycle s plan → HasNoCycle s → HasNoCycle (links_after_edits s plan)
plan_makes_no_cycle s [] legal fits out free = free
plan_makes_no_cycle s (x ∷ xs) legal fits out free = plan_makes_no_cycle (links_after_edit s x) xs (edited_legal s x legal fits.0) fits.1 out.1 (edited_no_cycle s x legal fits.0 out.0 free)

pub none_holder : (x : Node) → holder no_links x ≡ None
none_holder x = elim (holder no_links x) as (λ o. holder no_links x ≡ o → o ≡ None) [
  | None ↦ λ _. refl
  | Some e ↦ λ h. let l = holder-some no_links x e h in absurd (false≢true (sym (set.contains-empty link_cmp l.0) ∙ l.1))
] refl

pub none_no_cycle : HasNoCycle no_links
none_no_cycle x u = not_under no_links x x (none_holder x) u
