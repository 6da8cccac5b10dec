-- Edits of the kinds of their features keep links of those kinds.
use Rattle.std.proofs.Common.{◌≡◌, ℕ, List, [], ◌∷◌, true, false, ltb, Option, Some, None, if◌then◌else◌, refl, sym, subst, inl, inr, arith}
use Rattle.std.specs.Prelude.{find}
use Rattle.std.specs.FinSet as set
use Rattle.std.proofs.lemmas.Bool.{ltb-true, ltb-false}
use Rattle.links.proofs.EditLemmas.{In-insert, In-remove, In-renumbered_links}
use Rattle.links.specs.LegalSets.{AreKinds, AreOfKind, FarOfKind, IsOfKind, Kinds}
use Rattle.links.specs.Links.{Links, cut, cut_some, cut_value, joined_link, lower, lowered_far, new_link, new_proxy, put, put_proxy, raise, renumbered_links, shift, shifted_index}
use Rattle.links.specs.Indexed.{far_moved, has_value, renumbered_link}
use Rattle.links.specs.Plans.{IsEditOfKind, IsPlanOfKind, links_after_edit, links_after_edits}
use Rattle.links.specs.declared.link.Far.TheVariants.{At, Alone, Proxy}
use Rattle.links.specs.declared.link.Far.{Far}
use Rattle.links.specs.declared.link.Link.{Link}
use Rattle.links.specs.declared.plan.Edit.TheVariants as edit
use Rattle.links.specs.declared.plan.Edit.{Edit}
use Rattle.mm_types.specs.Same.{same_end}
use Rattle.mm_types.specs.declared.end.End.{End}
use Rattle.mm_types.specs.declared.numbers.FeatureNo.{FeatureNo}
use Rattle.mm_types.specs.declared.numbers.ObjectNo.{ObjectNo}
use Rattle.mm_types.specs.declared.value.Value.TheVariants as value
use Rattle.mm_types.specs.declared.value.Value.{Value}

pub kind_joined : (kinds : Kinds) (x : End) (i : ℕ) (y : End) (j : ℕ) → kinds.opposite x.feature ≡ Some y.feature → kinds.opposite y.feature ≡ Some x.feature → ((y.feature.0 ≡ x.feature.0) → ⊥) → kinds.container x.feature ≡ kinds.container y.feature → IsOfKind kinds (joined_link x i y j (kinds.container x.feature))
kind_joined kinds x i y j xy yx ne cc_ =
    elim (ltb x.feature.0 y.feature.0) as (λ b. ltb x.feature.0 y.feature.0 ≡ b → IsOfKind kinds (if b then record { end = x; index = i; far = At y j; container = kinds.container x.feature } else record { end = y; index = j; far = At x i; container = kinds.container x.feature })) [
      | true ↦ λ h. record { far = (xy, yx, ltb-true x.feature.0 y.feature.0 h); container = refl }
      | false ↦ λ h. let le = ltb-false x.feature.0 y.feature.0 h in record { far = (yx, xy, omega (arith, le, ne)); container = cc_ }
    ] refl

FarOfKind-moved : (kinds : Kinds) (f : FeatureNo) (x : Far) (e : End) (r : ℕ → ℕ) → FarOfKind kinds f x → FarOfKind kinds f (far_moved x e r)
FarOfKind-moved kinds f (At d j) e r h = elim (same_end d e) as (λ b. FarOfKind kinds f (if b then At d (r j) else At d j)) [ true ↦ h | false ↦ h ]
FarOfKind-moved kinds f (Alone n) e r h = h
FarOfKind-moved kinds f (Proxy t) e r h = h

kind_moved : (kinds : Kinds) (l : Link) (e : End) (r : ℕ → ℕ) → IsOfKind kinds l → IsOfKind kinds (renumbered_link l e r)
kind_moved kinds l e r h = elim (same_end l.end e) as (λ b. IsOfKind kinds (if b then record l { index = r l.index } else record l { far = far_moved l.far e r })) [
  | true ↦ record { far = h.far; container = h.container }
  | false ↦ record { far = FarOfKind-moved kinds l.end.feature l.far e r h.far; container = h.container }
]

module _ (m : Kinds) (s : Links) (ks : AreOfKind m s) where
  kinds-renumbered_links : (e : End) (r : ℕ → ℕ) → AreOfKind m (renumbered_links s e r)
  kinds-renumbered_links e r l h = let from = In-renumbered_links s e r l h in subst (λ (k : Link). IsOfKind m k) from.2 (kind_moved m from.0 e r (ks from.0 from.1))

  kinds-insert : (k : Link) → IsOfKind m k → AreOfKind m (set.insert s k)
  kinds-insert k new l h = elim (In-insert s k l h) [
    | inl same ↦ subst (λ (x : Link). IsOfKind m x) (sym same) new
    | inr old ↦ ks l old
  ]

  kinds-remove : (k : Link) → AreOfKind m (set.remove s k)
  kinds-remove k l h = ks l (In-remove s k l h).1

module _ (m : Kinds) (ok : AreKinds m) where
  kind_new : (s : Links) (e : End) (i : ℕ) (n : ObjectNo) (g : Option FeatureNo) → m.opposite e.feature ≡ g → IsOfKind m (new_link s e i n g (m.container e.feature))
  kind_new s e i n None q = record { far = q; container = refl }
  kind_new s e i n (Some g) q = kind_joined m e i _ _ q (ok.inverse e.feature g q) (ok.two e.feature g q) (ok.one_container e.feature g q)

  pub kinds_put : (s : Links) (e : End) (i : ℕ) (n : ObjectNo) → AreOfKind m s → AreOfKind m (put s e i n (m.opposite e.feature) (m.container e.feature))
  unfolding put
  kinds_put s e i n ks = kinds-insert m (renumbered_links s e (raise i)) (kinds-renumbered_links m s ks e (raise i)) (new_link s e i n (m.opposite e.feature) (m.container e.feature)) (kind_new s e i n (m.opposite e.feature) refl)

module _ (m : Kinds) where
  pub kinds_put_proxy : (s : Links) (e : End) (i : ℕ) (t : List ℕ) → m.container e.feature ≡ None → AreOfKind m s → AreOfKind m (put_proxy s e i t)
  unfolding put_proxy
  kinds_put_proxy s e i t plain ks = kinds-insert m (renumbered_links s e (raise i)) (kinds-renumbered_links m s ks e (raise i)) (new_proxy e i t) (record { far = tt; container = sym plain })

  kinds_lowered : (s : Links) (x : Far) → AreOfKind m s → AreOfKind m (lowered_far s x)
  kinds_lowered s (At d j) ks = kinds-renumbered_links m s ks d (lower j)
  kinds_lowered s (Alone n) ks = ks
  kinds_lowered s (Proxy t) ks = ks

  pub kinds_cut : (s : Links) (l : Link) → AreOfKind m s → AreOfKind m (cut s l)
  unfolding cut
  kinds_cut s l ks = kinds_lowered (renumbered_links (set.remove s l) l.end (lower l.index)) l.far (kinds-renumbered_links m (set.remove s l) (kinds-remove m s ks l) l.end (lower l.index))

  pub kinds_shift : (s : Links) (e : End) (to from : ℕ) → AreOfKind m s → AreOfKind m (shift s e to from)
  unfolding shift
  kinds_shift s e to from ks = kinds-renumbered_links m s ks e (shifted_index to from)

  kinds_cut_some : (s : Links) (o : Option Link) → AreOfKind m s → AreOfKind m (cut_some s o)
  kinds_cut_some s None ks = ks
  kinds_cut_some s (Some l) ks = kinds_cut s l ks

  pub kinds_cut_value : (s : Links) (e : End) (v : Value) → AreOfKind m s → AreOfKind m (cut_value s e v)
  unfolding cut_value
  kinds_cut_value s e v ks = kinds_cut_some s (find (has_value e v) (set.items s)) ks

module _ (m : Kinds) (ok : AreKinds m) where
  pub edited_kinds : (s : Links) (x : Edit) → AreOfKind m s → IsEditOfKind m x → AreOfKind m (links_after_edit s x)
  edited_kinds s (edit.Cut e v) ks is = kinds_cut_value m s e v ks
  edited_kinds s (edit.Put l) ks is = subst (λ (t : Links). AreOfKind m t) (λ j. put s l.end l.index l.object (sym is.0 j) (sym is.1 j)) (kinds_put m ok s l.end l.index l.object ks)
  edited_kinds s (edit.Shift e to from) ks is = kinds_shift m s e to from ks
  edited_kinds s (edit.PutProxy e i t) ks is = kinds_put_proxy m s e i t is ks

  -- a plan of the kinds keeps links of the kinds
  pub plan_keeps_kinds : (s : Links) (plan : List Edit) → AreOfKind m s → IsPlanOfKind m plan → AreOfKind m (links_after_edits s plan)
  plan_keeps_kinds s [] ks is = ks
  plan_keeps_kinds s (x ∷ xs) ks is = plan_keeps_kinds (links_after_edit s x) xs (edited_kinds s x ks is.0) is.1
