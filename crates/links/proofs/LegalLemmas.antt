-- A plan that fits keeps a legal set legal.
use Rattle.std.proofs.Common.{◌≡◌, ℕ, ◌<◌, List, [], ◌∷◌, ◌++◌, length, Option, Some, None, refl, sym, ◌∙◌}
use Rattle.std.specs.Prelude.{find}
use Rattle.std.specs.FinSet as set
use Rattle.std.proofs.lemmas.Bool.{false≢true}
use Rattle.links.proofs.ContainedLemmas.{free_new}
use Rattle.links.proofs.CutLemmas.{cut_placed, none_placed, shift_placed}
use Rattle.links.proofs.EndLemmas.{items_HasLinks}
use Rattle.links.proofs.HolderLemmas.{IsHeldOnce-cut, IsHeldOnce-put, IsHeldOnce-put_proxy, IsHeldOnce-shift}
use Rattle.links.proofs.PutLemmas.{apart_of, put_placed, put_proxy_placed}
use Rattle.links.proofs.ScanLemmas.{find-some}
use Rattle.links.specs.LegalSets.{AreOfKind, IsLegalSet, Kinds}
use Rattle.links.specs.Links.{In, Links, cut_some, cut_value, end, no_links, put, put_proxy, shift}
use Rattle.links.specs.Order.{link_cmp}
use Rattle.links.specs.Indexed.{has_value}
use Rattle.links.specs.Plans.{EditFits, IsPlanOfKind, PlanFits, PlanMakesNoCycle, PutFits, links_after_edit, links_after_edits, put_of}
use Rattle.links.specs.declared.link.Link.{Link}
use Rattle.links.specs.declared.plan.Edit.TheVariants as edit
use Rattle.links.specs.declared.plan.Edit.{Edit}
use Rattle.mm_types.specs.declared.end.End.{End}
use Rattle.mm_types.specs.declared.numbers.FeatureNo.{FeatureNo}
use Rattle.mm_types.specs.declared.numbers.ObjectNo.{ObjectNo}
use Rattle.mm_types.specs.declared.value.Value.TheVariants as value
use Rattle.mm_types.specs.declared.value.Value.{Value}

cut_some_legal : (s : Links) (o : Option Link) → IsLegalSet s → ((l : Link) → o ≡ Some l → In l s) → IsLegalSet (cut_some s o)
cut_some_legal s None legal h = legal
cut_some_legal s (Some l) legal h = record { placed = cut_placed s legal.placed l (h l refl); held = IsHeldOnce-cut s legal.placed legal.held l (h l refl) }

pub cut_value_legal : (s : Links) (e : End) (v : Value) → IsLegalSet s → IsLegalSet (cut_value s e v)
unfolding cut_value
cut_value_legal s e v legal = cut_some_legal s (find (has_value e v) (set.items s)) legal (λ l h. (items_HasLinks s).only l (find-some (set.items s) e v l h).0)

pub put_legal : (s : Links) (e : End) (i : ℕ) (n : ObjectNo) (g c : Option FeatureNo) → IsLegalSet s → EditFits s (put_of e i n g c) → IsLegalSet (put s e i n g c)
put_legal s e i n g c legal fits = record { placed = put_placed s e i n g c legal.placed fits.0 fits.1; held = IsHeldOnce-put s e i n g c legal.held (free_new s e i n g c (apart_of s e n g fits.1) fits.2) }

pub put_proxy_legal : (s : Links) (e : End) (i : ℕ) (t : List ℕ) → IsLegalSet s → PutFits s e i (value.Proxy t) → IsLegalSet (put_proxy s e i t)
put_proxy_legal s e i t legal fits = record { placed = put_proxy_placed s e i t legal.placed fits; held = IsHeldOnce-put_proxy s e i t legal.held }

pub shift_legal : (s : Links) (e : End) (to from : ℕ) → IsLegalSet s → from < length (end s e) → to < length (end s e) → IsLegalSet (shift s e to from)
shift_legal s e to from legal f t = record { placed = shift_placed s legal.placed e to from f t; held = IsHeldOnce-shift s e to from legal.held }

pub edited_legal : (s : Links) (x : Edit) → IsLegalSet s → EditFits s x → IsLegalSet (links_after_edit s x)
edited_legal s (edit.Cut e v) legal fits = cut_value_legal s e v legal
edited_legal s (edit.Put l) legal fits = put_legal s l.end l.index l.object l.opposite l.container legal fits
edited_legal s (edit.Shift e to from) legal fits = shift_legal s e to from legal fits.0 fits.1
edited_legal s (edit.PutProxy e i t) legal fits = put_proxy_legal s e i t legal fits

-- the law of plans
pub plan_keeps_legal : (s : Links) (plan : List Edit) → IsLegalSet s → PlanFits s plan → IsLegalSet (links_after_edits s plan)
plan_keeps_legal s [] legal fits = legal
plan_keeps_legal s (x ∷ xs) legal fits = plan_keeps_legal (links_after_edit s x) xs (edited_legal s x legal fits.0) fits.1

none_in : (l : Link) → In l no_links → ⊥
none_in l h = false≢true (sym (set.contains-empty link_cmp l) ∙ h)

-- no links are a legal set
pub none_legal : IsLegalSet no_links
none_legal = record { placed = none_placed; held = λ l k n x y h g a b. absurd (none_in l h) }

pub none_kinds : (m : Kinds) → AreOfKind m no_links
none_kinds m l h = absurd (none_in l h)

---------------------------------------------------------------- plans end to end

pub links_after_edits-append : (s : Links) (xs ys : List Edit) → links_after_edits s (xs ++ ys) ≡ links_after_edits (links_after_edits s xs) ys
links_after_edits-append s [] ys = refl
links_after_edits-append s (x ∷ xs) ys = links_after_edits-append (links_after_edit s x) xs ys

pub PlanFits-append : (s : Links) (xs ys : List Edit) → PlanFits s xs → PlanFits (links_after_edits s xs) ys → PlanFits s (xs ++ ys)
PlanFits-append s [] ys a b = b
PlanFits-append s (x ∷ xs) ys a b = (a.0, PlanFits-append (links_after_edit s x) xs ys a.1 b)

pub IsPlanOfKind-append : (m : Kinds) (xs ys : List Edit) → IsPlanOfKind m xs → IsPlanOfKind m ys → IsPlanOfKind m (xs ++ ys)
IsPlanOfKind-append m [] ys a b = b
IsPlanOfKind-append m (x ∷ xs) ys a b = (a.0, IsPlanOfKind-append m xs ys a.1 b)

pub PlanMakesNoCycle-append : (s : Links) (xs ys : List Edit) → PlanMakesNoCycle s xs → PlanMakesNoCycle (links_after_edits s xs) ys → PlanMakesNoCycle s (xs ++ ys)
PlanMakesNoCycle-append s [] ys a b = b
PlanMakesNoCycle-append s (x ∷ xs) ys a b = (a.0, PlanMakesNoCycle-append (links_after_edit s x) xs ys a.1 b)
