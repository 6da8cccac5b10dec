-- Containment stays without cycles if holders are removed, and if one is added.
use Rattle.std.proofs.Common.{◌≡◌, ◌≢◌, ℕ, zero, suc, Some, None, refl, sym, ap, ◌∙◌, inl, inr}
use Rattle.std.specs.Prelude.{◌⊎◌}
use Rattle.std.proofs.lemmas.Bool.{cases_Bool, true≢false}
use Rattle.std.proofs.lemmas.Option.{none-some, same_Some}
use Rattle.links.proofs.ClimbLemmas.{climb_step, climb_stop, under_holder, under_more}
use Rattle.links.proofs.PlaceLemmas.{same_node_if}
use Rattle.links.specs.Holders.{HasNoCycle, IsUnder, climb, holder}
use Rattle.links.specs.Links.{Links}
use Rattle.mm_types.proofs.SameLemmas.{same_node-true}
use Rattle.mm_types.specs.Same.{same_node}
use Rattle.mm_types.specs.declared.end.End.{End}
use Rattle.mm_types.specs.declared.numbers.Node.{Node}

pub cases_node : (x y : Node) → (x ≡ y) ⊎ (x ≢ y)
cases_node x y = elim (cases_Bool (same_node x y)) [
  | inl h ↦ inl (same_node-true x y h)
  | inr h ↦ inr (λ same. true≢false (sym (same_node_if x y same) ∙ h))
]

-- each holder of t is one of s
abbrev pub HoldsLess : Links → Links → Type 0
HoldsLess t s = (y : Node) (e : End) → holder t y ≡ Some e → holder s y ≡ Some e

pub climb_less : (s t : Links) → HoldsLess t s → (n : ℕ) (y z : Node) → climb t n y ≡ Some z → climb s n y ≡ Some z
climb_less s t less zero y z h = h
climb_less s t less (suc n) y z h =
    elim (holder t y) as (λ o. holder t y ≡ o → climb s (suc n) y ≡ Some z) [
      | None ↦ λ g. absurd (none-some z (sym (climb_stop t y n g) ∙ h))
      | Some e ↦ λ g. climb_step s y e n (less y e g) ∙ climb_less s t less n e.node z (sym (climb_step t y e n g) ∙ h)
    ] refl

pub under_less : (s t : Links) → HoldsLess t s → (y z : Node) → IsUnder t y z → IsUnder s y z
under_less s t less y z (n, at) = (n, climb_less s t less (suc n) y z at)

-- without some of the holders there is still no cycle
pub no_cycle_less : (s t : Links) → HoldsLess t s → HasNoCycle s → HasNoCycle t
no_cycle_less s t less free x u = free x (under_less s t less x x u)

-- a chain goes on from the node at which another one ends
pub climb_on : (s : Links) (j k : ℕ) (p y x : Node) → climb s j p ≡ Some y → climb s k y ≡ Some x → (i : ℕ) × (climb s i p ≡ Some x)
climb_on s zero k p y x a b = (k, ap (λ (z : Node). climb s k z) (same_Some p y a) ∙ b)
climb_on s (suc j) k p y x a b =
    elim (holder s p) as (λ o. holder s p ≡ o → (i : ℕ) × (climb s i p ≡ Some x)) [
      | None ↦ λ h. absurd (none-some y (sym (climb_stop s p j h) ∙ a))
      | Some e ↦ λ h. let more = climb_on s j k e.node y x (sym (climb_step s p e j h) ∙ a) b in (suc more.0, climb_step s p e more.0 h ∙ more.1)
    ] refl

module _ (s t : Links) (x : Node) (d : End) (new : holder t x ≡ Some d) (old : (y : Node) → y ≢ x → holder t y ≡ holder s y) (other : d.node ≢ x) (out : IsUnder s d.node x → ⊥) where
  -- no chain from the new holder comes to x
  never : (j : ℕ) (y : Node) → y ≢ x → (IsUnder s y x → ⊥) → climb t j y ≡ Some x → ⊥
  never zero y ne un h = ne (same_Some y x h)
  never (suc j) y ne un h =
      elim (holder s y) as (λ o. holder s y ≡ o → ⊥) [
        | None ↦ λ g. none-some x (sym (climb_stop t y j (old y ne ∙ g)) ∙ h)
        | Some e ↦ λ g. never j e.node (λ same. un (under_holder s y e x g same)) (λ u. un (under_more s y e x g u)) (sym (climb_step t y e j (old y ne ∙ g)) ∙ h)
      ] refl

  -- a chain is an old one, or comes to x and goes on from the new holder
  split : (n : ℕ) (y z : Node) → climb t n y ≡ Some z → (climb s n y ≡ Some z) ⊎ ((k : ℕ) × (j : ℕ) × (climb t k y ≡ Some x) × (climb t j d.node ≡ Some z))
  split zero y z h = inl h
  split (suc n) y z h = elim (cases_node y x) [
    | inl same ↦ inr (0, n, ap Some same, sym (climb_step t x d n new) ∙ ap (λ (w : Node). climb t (suc n) w) (sym same) ∙ h)
    | inr ne ↦ elim (holder s y) as (λ o. holder s y ≡ o → (climb s (suc n) y ≡ Some z) ⊎ ((k : ℕ) × (j : ℕ) × (climb t k y ≡ Some x) × (climb t j d.node ≡ Some z))) [
      | None ↦ λ g. absurd (none-some z (sym (climb_stop t y n (old y ne ∙ g)) ∙ h))
      | Some e ↦ λ g. elim (split n e.node z (sym (climb_step t y e n (old y ne ∙ g)) ∙ h)) [
        | inl a ↦ inl (climb_step s y e n g ∙ a)
        | inr p ↦ inr (suc p.0, p.1, climb_step t y e p.0 (old y ne ∙ g) ∙ p.2, p.3)
      ]
    ] refl
  ]

  -- x gets a holder that is neither x nor under it: still no cycle
  pub no_cycle_more : HasNoCycle s → HasNoCycle t
  no_cycle_more free y (n, at) = elim (split (suc n) y y at) [
    | inl a ↦ free y (n, a)
    | inr p ↦ let on = climb_on t p.1 p.0 d.node y x p.3 p.2 in never on.0 d.node other out on.1
  ]
