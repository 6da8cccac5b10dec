-- The rows after an edit of a plan.
use Rattle.std.proofs.Common.{◌≡◌, ◌∙◌, ◌+◌, Bool, true, false, List, ◌∷◌, [], if◌then◌else◌, is_ok, OnOk, Result, Ok, Err, sym, ap, subst, arith}
use Rattle.std.proofs.Math.Logic.{∥∥₁_elim, ∥∥₁_map}
use Rattle.std.proofs.lemmas.List.Sums.{sum_by-append}
use Rattle.std.specs.Coded.{Coded-set}
use Rattle.mm_types.specs.declared.numbers.Node.{Node}
use Rattle.mm_types.specs.declared.end.End.{End}
use Rattle.links.specs.LegalSets.{AreOfKind, Kinds}
use Rattle.links.specs.Links.{Links, coded_links}
use Rattle.links.specs.Plans.{EditFits, HasPlanOfKind, IsEditOfKind, IsPlanOfKind, PlanFits, links_after_edit, links_after_edits}
use Rattle.links.specs.declared.plan.Edit.{Edit}
use Rattle.links.specs.declared.plan.Edit.TheVariants as edit
use Rattle.links.proofs.KindLemmas.{plan_keeps_kinds}
use Rattle.node_slots.specs.declared.node_slots.NodeSlots.{NodeSlots}
use Rattle.node_slots.specs.Cells.{Cells, HasKeys, Room, cells, ends_of}
use Rattle.node_slots.specs.Growth.{HasRoom, Takes, TakesAll, entries, entry, gain, gains}
use Rattle.node_slots.proofs.KeyLemmas.{keys_of}
use Rattle.slot_store.specs.CellLinks.{IsKept, IsStore, IsStoreOfKind, cell_links, store_links}
use Rattle.slot_store.specs.EditedCells.{TakesAtMost, cells_after}
use Rattle.slot_store.proofs.KeptEditLemmas.{kept_edit}
use Rattle.slot_store.proofs.StoreLemmas.{grown_kept, grown_links}

---------------------------------------------------------------- capacity

-- capacity for a plan is capacity for its first edit, and then for the rest
gains_split : (x : Edit) (xs : List Edit) (e : End) → gains (x ∷ xs) e ≡ gains (x ∷ []) e + gains xs e
gains_split x xs e = sum_by-append (gain e) (x ∷ []) xs

entries_split : (x : Edit) (xs : List Edit) (n : Node) → entries (x ∷ xs) n ≡ entries (x ∷ []) n + entries xs n
entries_split x xs n = sum_by-append (entry n) (x ∷ []) xs

pub room_first : (r : Room) (x : Edit) (xs : List Edit) → HasRoom r (x ∷ xs) → HasRoom r (x ∷ [])
room_first r x xs has = record {
  places = λ e. omega (arith, has.places e, gains_split x xs e);
  takes = (has.takes.0, tt);
  entries = λ n. omega (arith, has.entries n, entries_split x xs n);
}

takes_kept : (r s : Room) → ((e : End) → s.mixed e ≡ r.mixed e) → (x : Edit) → Takes r x → Takes s x
takes_kept r s same (edit.Cut e v) takes = tt
takes_kept r s same (edit.Put l) takes = tt
takes_kept r s same (edit.Shift e to from) takes = tt
takes_kept r s same (edit.PutProxy e i t) takes = same e ∙ takes

takes_all_kept : (r s : Room) → ((e : End) → s.mixed e ≡ r.mixed e) → (xs : List Edit) → TakesAll r xs → TakesAll s xs
takes_all_kept r s same [] takes = tt
takes_all_kept r s same (x ∷ xs) takes = (takes_kept r s same x takes.0, takes_all_kept r s same xs takes.1)

pub room_rest : (r s : Room) (x : Edit) (xs : List Edit) → HasRoom r (x ∷ xs) → TakesAtMost (λ e. gain e x) (λ n. entry n x) r s → HasRoom s xs
room_rest r s x xs has takes = record {
  places = λ e. (let one : gains (x ∷ []) e ≡ gain e x = omega arith in omega (arith, has.places e, takes.places e, gains_split x xs e, one));
  takes = takes_all_kept r s takes.mixed xs has.takes.1;
  entries = λ n. (let one : entries (x ∷ []) n ≡ entry n x = omega arith in omega (arith, has.entries n, takes.entries n, entries_split x xs n, one));
}

---------------------------------------------------------------- an edit

module _ (t u : NodeSlots) (kept : ∥ IsStore t ∥₁) (x : Edit) (xs : List Edit) (fits : PlanFits (store_links t) (x ∷ xs)) (kind : HasPlanOfKind (IsStoreOfKind t) (x ∷ xs)) (now : cells u ≡ cells_after x (cells t)) where
  after : IsStore t → IsStore u × (cell_links (cells u) (ends_of u) ≡ links_after_edit (store_links t) x)
  unfolding store_links
  after ok =
      subst (λ (c : Cells). HasKeys c (ends_of u) → IsKept c (ends_of u) × (cell_links c (ends_of u) ≡ links_after_edit (store_links t) x)) (sym now)
      (λ keys. kept_edit kind.0 kind.1.0 (cells t) (ends_of t) ok kind.1.1 x (ends_of u) fits.0 kind.2.0 keys) (keys_of u)

  pub edit_kept : ∥ IsStore u ∥₁
  edit_kept = ∥∥₁_map kept (λ ok. (after ok).0)

  pub edit_links : store_links u ≡ links_after_edit (store_links t) x
  unfolding store_links
  edit_links = ∥∥₁_elim kept (Coded-set coded_links _ _) (λ ok. (after ok).1)

  pub edit_fits : PlanFits (store_links u) xs
  edit_fits = subst (λ (s : Links). PlanFits s xs) (sym edit_links) fits.1

  pub edit_kind : HasPlanOfKind (IsStoreOfKind u) xs
  edit_kind = (
    kind.0,
    (kind.1.0, subst (λ (s : Links). AreOfKind kind.0 s) (sym edit_links) (plan_keeps_kinds kind.0 kind.1.0 (store_links t) (x ∷ []) kind.1.1 (kind.2.0, tt))),
    kind.2.1,
  )

  pub edit_rest : links_after_edits (store_links u) xs ≡ links_after_edits (store_links t) (x ∷ xs)
  edit_rest = ap (λ (s : Links). links_after_edits s xs) edit_links

-- a plan that agrees with the kinds keeps rows that agree with them
pub kinds_applied : (t u : NodeSlots) (plan : List Edit) → store_links u ≡ links_after_edits (store_links t) plan → (m : Kinds) → IsStoreOfKind t m → IsPlanOfKind m plan → IsStoreOfKind u m
kinds_applied t u plan is m of kind = (of.0, subst (λ (s : Links). AreOfKind m s) (sym is) (plan_keeps_kinds m of.0 (store_links t) plan of.1 kind))

pub kinds_same : (t u : NodeSlots) → store_links u ≡ store_links t → (m : Kinds) → IsStoreOfKind t m → IsStoreOfKind u m
kinds_same t u is m of = (of.0, subst (λ (s : Links). AreOfKind m s) (sym is) of.1)

---------------------------------------------------------------- an edit that memory may refuse

module _ (t u : NodeSlots) (kept : ∥ IsStore t ∥₁) (x : Edit) (fits : EditFits (store_links t) x) (kind : HasPlanOfKind (IsStoreOfKind t) (x ∷ [])) where
  pub tried_kept : (is_made : Bool) → cells u ≡ (if is_made then cells_after x (cells t) else cells t) → ∥ IsStore u ∥₁
  tried_kept true now = edit_kept t u kept x [] (fits, tt) kind now
  tried_kept false now = grown_kept t u now kept

  pub tried_links : (is_made : Bool) → cells u ≡ (if is_made then cells_after x (cells t) else cells t) → store_links u ≡ (if is_made then links_after_edit (store_links t) x else store_links t)
  tried_links true now = edit_links t u kept x [] (fits, tt) kind now
  tried_links false now = grown_links t u now

pub tried_kinds : {A B : Type 0} (t u : NodeSlots) (x : Edit) (r : Result A B) → store_links u ≡ (if is_ok r then links_after_edit (store_links t) x else store_links t) → (m : Kinds) → IsStoreOfKind t m → OnOk r (IsEditOfKind m x) → IsStoreOfKind u m
tried_kinds t u x (Ok _) is m of kind = kinds_applied t u (x ∷ []) is m of (kind, tt)
tried_kinds t u x (Err _) is m of kind = kinds_same t u is m of
