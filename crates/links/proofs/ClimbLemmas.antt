-- Chains of holders: one step up, and the number of steps that are left.
use Rattle.std.proofs.Common.{◌≡◌, ℕ, zero, suc, Option, Some, None, sym, ap, ◌∙◌}
use Rattle.std.specs.Option.{option_and_then}
use Rattle.std.specs.FinSet as set
use Rattle.std.proofs.lemmas.Option.{none-some}
use Rattle.links.specs.Holders.{IsUnder, climb, holder}
use Rattle.links.specs.Links.{Links}
use Rattle.mm_types.specs.declared.end.End.{End}
use Rattle.mm_types.specs.declared.numbers.Node.{Node}

pub climb_step : (s : Links) (x : Node) (e : End) (n : ℕ) → holder s x ≡ Some e → climb s (suc n) x ≡ climb s n e.node
climb_step s x e n h = ap (option_and_then (λ (d : End). climb s n d.node)) h

pub climb_stop : (s : Links) (x : Node) (n : ℕ) → holder s x ≡ None → climb s (suc n) x ≡ None
climb_stop s x n h = ap (option_and_then (λ (d : End). climb s n d.node)) h

-- nothing is above a root
pub not_under : (s : Links) (x y : Node) → holder s x ≡ None → IsUnder s x y → ⊥
not_under s x y h (n, at) = none-some y (sym (climb_stop s x n h) ∙ at)

pub under_holder : (s : Links) (x : Node) (e : End) (y : Node) → holder s x ≡ Some e → e.node ≡ y → IsUnder s x y
under_holder s x e y h same = (zero, climb_step s x e zero h ∙ ap Some same)

-- a node above the holder is above the node that it contains
pub under_more : (s : Links) (x : Node) (e : End) (y : Node) → holder s x ≡ Some e → IsUnder s e.node y → IsUnder s x y
under_more s x e y h (n, at) = (suc n, climb_step s x e (suc n) h ∙ at)

abbrev pub or_zero : Option End → (End → ℕ) → ℕ
or_zero None f = zero
or_zero (Some e) f = suc (f e)

-- how many of the first n steps up there are
abbrev pub steps : ℕ → Links → Node → ℕ
steps zero s x = zero
steps (suc n) s x = or_zero (holder s x) (λ (e : End). steps n s e.node)

-- how many holders are above x
abbrev pub depth : Links → Node → ℕ
depth s x = steps (suc (set.len s)) s x
