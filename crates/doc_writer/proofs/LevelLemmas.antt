-- The number of nodes above a node, after one step up.
use Rattle.std.proofs.Common.{◌≡◌, ℕ, suc, ◌+◌, ◌<◌, ◌≤◌, false, nat_lt, List, [], ◌∷◌, length, Option, Some, None, arith, refl, sym, ap, ◌∙◌}
use Rattle.std.specs.Prelude.{is_some}
use Rattle.std.specs.Option.{option_map_or}
use Rattle.std.proofs.lemmas.Bool.Decides.{nat_tests}
use Rattle.mm_types.specs.declared.end.End.{End}
use Rattle.mm_types.specs.declared.numbers.Node.{Node}
use Rattle.links.proofs.AboveLemmas.{above_held, above_is}
use Rattle.links.specs.Holders.{above, holder}
use Rattle.models.specs.Legal.{IsLegal}
use Rattle.models.specs.Model.{Model}

module _ (s : Model) (legal : IsLegal s) where
  up-one : (n : Node) (e : End) → Some e ≡ holder s.links n → length (above s.links n) ≡ suc (length (above s.links e.node))
  up-one n e h = ap (λ (ns : List Node). length ns) (above_held s.links legal.links.set legal.links.forest n e (sym h))

  up-none : (n : Node) → None ≡ holder s.links n → length (above s.links n) ≡ 0
  up-none n h = ap (λ (ns : List Node). length ns) (above_is s.links legal.links.set legal.links.forest n ∙ ap (λ (x : Option End). option_map_or (λ (e : End). e.node ∷ above s.links e.node) x []) (sym h))

  pub level-on : (n : Node) (e : End) (i level : ℕ) → Some e ≡ holder s.links n → length (above s.links n) + i ≡ level → length (above s.links e.node) + (i + 1) ≡ level
  level-on n e i level h is = let one = up-one n e h in omega (arith, one, is)

  pub level-low : (n : Node) (i level : ℕ) → None ≡ holder s.links n → i < 40 → length (above s.links n) + i ≡ level → false ≡ nat_lt 40 level
  level-low n i level h low is = let none = up-none n h in let at : level < 40 = omega (arith, none, is, low) in grind (arith, nat_tests)

  pub level-end : (n : Node) (i level : ℕ) → 40 ≤ i → i ≤ 40 → length (above s.links n) + i ≡ level → is_some (holder s.links n) ≡ nat_lt 40 level
  level-end n i level high low is =
      elim (holder s.links n) as (λ x. holder s.links n ≡ x → is_some x ≡ nat_lt 40 level) [
        | None ↦ λ h. (let none = up-none n (sym h) in let at : level ≡ 40 = omega (arith, none, is, high, low) in grind (arith, nat_tests))
        | Some e ↦ λ h. (let one = up-one n e (sym h) in let at : 40 < level = omega (arith, one, is, high, low) in grind (arith, nat_tests))
      ] refl
