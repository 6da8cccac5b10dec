-- If no node is under itself, no chain of holders is longer than the number of links.
use Rattle.std.proofs.Common.{◌≡◌, ◌≢◌, ℕ, zero, suc, ◌-◌, Bool, cond, Some, None, refl, sym, ap, ◌∙◌, subst, arith}
use Rattle.std.specs.FinSet as set
use Rattle.std.proofs.lemmas.Bool.{false≢true}
use Rattle.std.proofs.lemmas.Option.{none-some}
use Rattle.links.proofs.ClimbLemmas.{climb_step, climb_stop}
use Rattle.links.proofs.EditLemmas.{In-remove, In_remove}
use Rattle.links.proofs.HolderLemmas.{holder-none, holder-some, holder_is, through_one}
use Rattle.links.specs.Holders.{HasNoCycle, IsForest, climb, holder, holding_end}
use Rattle.links.specs.LegalSets.{IsHeldOnce}
use Rattle.links.specs.Links.{In, Links}
use Rattle.links.specs.Order.{link_cmp, link_cmp_total}
use Rattle.links.specs.declared.link.Link.{Link}
use Rattle.mm_types.specs.declared.end.End.{End}
use Rattle.mm_types.specs.declared.numbers.Node.{Node}

module _ (s : Links) (once : IsHeldOnce s) (x : Node) (l : Link) (within : In l s) (up : End) (holds : holding_end l x ≡ Some up) where
  abbrev less : Links
  less = set.remove s l

  less_once : IsHeldOnce less
  less_once a b n d e p q = once a b n d e (In-remove s l a p).1 (In-remove s l b q).1

  -- without the link, each other node has the same holder
  same_holder : (y : Node) → y ≢ x → holder less y ≡ holder s y
  same_holder y ne =
      elim (holder s y) as (λ o. holder s y ≡ o → holder less y ≡ o) [
        | None ↦ λ h. elim (holder less y) as (λ o. holder less y ≡ o → o ≡ None) [
          | None ↦ λ _. refl
          | Some d ↦ λ g. let m = holder-some less y d g in absurd (holder-none s y m.0 d h (In-remove s l m.0 m.1).1 m.2)
        ] refl
        | Some e ↦ λ h.
            let m = holder-some s y e h in
            let other : m.0 ≢ l = λ same. ne (through_one l.container l y x e up (subst (λ (k : Link). holding_end k y ≡ Some e) same m.2) holds) in
            holder_is less y m.0 e less_once (In_remove s l m.0 other m.1) m.2
      ] refl

  -- a chain that does not meet x is as it was
  same_climb : (m : ℕ) (y : Node) → ((k : ℕ) → climb s k y ≡ Some x → ⊥) → climb less m y ≡ climb s m y
  same_climb zero y free = refl
  same_climb (suc m) y free =
      let here = same_holder y (λ same. free zero (ap Some same)) in
      elim (holder s y) as (λ o. holder s y ≡ o → climb less (suc m) y ≡ climb s (suc m) y) [
        | None ↦ λ h. climb_stop less y m (here ∙ h) ∙ sym (climb_stop s y m h)
        | Some e ↦ λ h.
            climb_step less y e m (here ∙ h)
            ∙ same_climb m e.node (λ k at. free (suc k) (climb_step s y e k h ∙ at))
            ∙ sym (climb_step s y e m h)
      ] refl

  -- a chain without the link is a chain with it
  more_climb : (m : ℕ) (y z : Node) → climb less m y ≡ Some z → climb s m y ≡ Some z
  more_climb zero y z h = h
  more_climb (suc m) y z h =
      elim (holder less y) as (λ o. holder less y ≡ o → climb s (suc m) y ≡ Some z) [
        | None ↦ λ g. absurd (none-some z (sym (climb_stop less y m g) ∙ h))
        | Some e ↦ λ g.
            let k = holder-some less y e g in
            climb_step s y e m (holder_is s y k.0 e once (In-remove s l k.0 k.1).1 k.2) ∙ more_climb m e.node z (sym (climb_step less y e m g) ∙ h)
      ] refl

chains_end : (n : ℕ) (s : Links) → set.len s ≡ n → IsHeldOnce s → HasNoCycle s → (x : Node) → climb s (suc n) x ≡ None
chains_end zero s size once free x =
    elim (holder s x) as (λ o. holder s x ≡ o → climb s (suc zero) x ≡ None) [
      | None ↦ λ h. climb_stop s x zero h
      | Some e ↦ λ h.
          let m = holder-some s x e h in
          absurd (false≢true (sym (set.contains-empty link_cmp m.0) ∙ subst (λ (t : Links). In m.0 t) (set.empty_of_len s size) m.1))
    ] refl
chains_end (suc n) s size once free x =
    elim (holder s x) as (λ o. holder s x ≡ o → climb s (suc (suc n)) x ≡ None) [
      | None ↦ λ h. climb_stop s x (suc n) h
      | Some e ↦ λ h.
          let m = holder-some s x e h in
          let t = set.remove s m.0 in
          let less_size : set.len t ≡ n = set.len-remove link_cmp_total s m.0 ∙ ap (λ (b : Bool). cond b (set.len s - 1) (set.len s)) m.1 ∙ omega (arith, size) in
          climb_step s x e (suc n) h
          ∙ sym (same_climb s once x m.0 m.1 e m.2 (suc n) e.node (λ k at. free x (k, climb_step s x e k h ∙ at)))
          ∙ chains_end n t less_size (less_once s once x m.0 m.1 e m.2) (λ y u. free y (u.0, more_climb s once x m.0 m.1 e m.2 (suc u.0) y y u.1)) e.node
    ] refl

pub IsForest_no_cycle : (s : Links) → IsHeldOnce s → HasNoCycle s → IsForest s
IsForest_no_cycle s once free x = chains_end (set.len s) s refl once free x
