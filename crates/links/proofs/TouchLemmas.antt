-- A plan that edits no containing link leaves the containment ends, and the ends of their opposites, as they were.
use Rattle.std.proofs.Common.{◌≡◌, ◌∙◌, true, false, List, [], ◌∷◌, Option, Some, None, refl, sym, ap}
use Rattle.std.specs.Prelude.{is_some}
use Rattle.std.proofs.lemmas.Bool.{false≢true, or_parts}
use Rattle.mm_types.proofs.SameLemmas.{same_end-true}
use Rattle.mm_types.specs.Same.{same_end}
use Rattle.mm_types.specs.declared.end.End.{End}
use Rattle.mm_types.specs.declared.numbers.FeatureNo.{FeatureNo}
use Rattle.mm_types.specs.declared.numbers.ObjectNo.{ObjectNo}
use Rattle.mm_types.specs.declared.value.Value.{Value}
use Rattle.mm_types.specs.declared.value.Value.TheVariants as value
use Rattle.links.proofs.CutLemmas.{end-shift_other}
use Rattle.links.proofs.CutNamedLemmas.{end-cut_value}
use Rattle.links.proofs.FilterLemmas.{filter_all}
use Rattle.links.proofs.KindLemmas.{edited_kinds}
use Rattle.links.proofs.LegalLemmas.{edited_legal}
use Rattle.links.proofs.PutLemmas.{apart_of, end-put_other, end-put_proxy_other}
use Rattle.links.specs.Laws.{IsFar, contains_by, edit_end, names, names_far, touches_containment}
use Rattle.links.specs.LegalSets.{AreKinds, AreOfKind, IsLegalSet, Kinds}
use Rattle.links.specs.Links.{Links, end, far_end}
use Rattle.links.specs.Plans.{EditFits, IsEditOfKind, IsPlanOfKind, PlanFits, links_after_edit, links_after_edits}
use Rattle.links.specs.declared.plan.Edit.{Edit}
use Rattle.links.specs.declared.plan.Edit.TheVariants as edit

module _ (m : Kinds) (ok : AreKinds m) where
  ---------------------------------------------------------------- two ends

  apart : (e d : End) → contains_by m e.feature ≡ false → contains_by m d.feature ≡ true → e ≡ d → ⊥
  apart e d out holds is = false≢true (sym out ∙ ap (λ (x : End). contains_by m x.feature) is ∙ holds)

  far-apart : (e d : End) (o : ObjectNo) (g : FeatureNo) → m.opposite e.feature ≡ Some g → contains_by m e.feature ≡ false → contains_by m d.feature ≡ true → far_end o g ≡ d → ⊥
  far-apart e d o g q out holds is =
      let alike : contains_by m e.feature ≡ contains_by m g = ap (λ (c : Option FeatureNo). is_some c) (ok.one_container e.feature g q) in
      false≢true (sym out ∙ alike ∙ ap (λ (x : End). contains_by m x.feature) is ∙ holds)

  not-far : (e d : End) (o : ObjectNo) (g : Option FeatureNo) → m.opposite e.feature ≡ g → contains_by m e.feature ≡ false → contains_by m d.feature ≡ true → IsFar o g d → ⊥
  not-far e d o None q out holds far = far
  not-far e d o (Some g) q out holds far = far-apart e d o g q out holds far

  other-end : (x d : End) → (x ≡ d → ⊥) → same_end x d ≡ false
  other-end x d ne = elim (same_end x d) as (λ b. same_end x d ≡ b → b ≡ false) [
    | true ↦ λ h. absurd (ne (same_end-true x d h))
    | false ↦ λ h. refl
  ] refl

  far-none : (e d : End) (v w : Value) (g : Option FeatureNo) → m.opposite e.feature ≡ g → contains_by m e.feature ≡ false → contains_by m d.feature ≡ true → names_far e v g d w ≡ false
  far-none e d (value.Object o) w (Some g) q out holds = rw (other-end (far_end o g) d (far-apart e d o g q out holds)) refl
  far-none e d (value.Object o) w None q out holds = refl
  far-none e d value.Null w g q out holds = refl
  far-none e d (value.Text t) w g q out holds = refl
  far-none e d (value.Int i) w g q out holds = refl
  far-none e d (value.Bool b) w g q out holds = refl
  far-none e d (value.Literal l) w g q out holds = refl
  far-none e d (value.Proxy t) w g q out holds = refl

  -- a cut at an end that is no containment names no link at a containment end
  names-none : (e d : End) (v w : Value) → contains_by m e.feature ≡ false → contains_by m d.feature ≡ true → names m e v d w ≡ false
  names-none e d v w out holds = rw (other-end e d (apart e d out holds)) (far-none e d v w (m.opposite e.feature) refl out holds)

  ---------------------------------------------------------------- edits

  links_after_edit-leaves : (s : Links) (x : Edit) → IsLegalSet s → AreOfKind m s → EditFits s x → IsEditOfKind m x → contains_by m (edit_end x).feature ≡ false → (d : End) → contains_by m d.feature ≡ true → end (links_after_edit s x) d ≡ end s d
  links_after_edit-leaves s (edit.Cut e v) legal kinds fits kind out d holds = end-cut_value m ok s legal kinds e v d ∙ filter_all (names m e v d) (end s d) (λ k w at. names-none e d v w out holds)
  links_after_edit-leaves s (edit.Put l) legal kinds fits kind out d holds =
      end-put_other s legal.placed l.end l.index l.object l.container fits.0.in_range l.opposite (apart_of s l.end l.object l.opposite fits.1) d (apart l.end d out holds) (not-far l.end d l.object l.opposite (sym kind.0) out holds)
  links_after_edit-leaves s (edit.Shift e to from) legal kinds fits kind out d holds = end-shift_other s legal.placed e to from fits.0 fits.1 d (apart e d out holds)
  links_after_edit-leaves s (edit.PutProxy e i t) legal kinds fits kind out d holds = end-put_proxy_other s e i t legal.placed fits d (apart e d out holds)

  pub plan-leaves : (s : Links) (plan : List Edit) → IsLegalSet s → AreOfKind m s → PlanFits s plan → IsPlanOfKind m plan → touches_containment m plan ≡ false → (d : End) → contains_by m d.feature ≡ true → end (links_after_edits s plan) d ≡ end s d
  plan-leaves s [] legal kinds fits kind out d holds = refl
  plan-leaves s (x ∷ xs) legal kinds fits kind out d holds =
      let none = or_parts (contains_by m (edit_end x).feature) (touches_containment m xs) out in
      plan-leaves (links_after_edit s x) xs (edited_legal s x legal fits.0) (edited_kinds m ok s x kinds kind.0) fits.1 kind.1 none.1 d holds ∙ links_after_edit-leaves s x legal kinds fits.0 kind.0 none.0 d holds
