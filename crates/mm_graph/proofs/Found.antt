-- A class conforms to another exactly if it is found within as many steps as there are classes.
use Rattle.std.proofs.Common.{◌≡◌, ◌↔◌, ◌<◌, ◌≤◌, Bool, true, List, [], ◌∷◌, ℕ, zero, suc, ⊎_elim, arith, length, refl, subst, sym, nat_eq}
use Rattle.std.specs.List.{Contains, list_any}
use Rattle.std.proofs.lemmas.Bool.{eq-eqb, eqb-true, or_cases, or_left, or_right}
use Rattle.std.proofs.lemmas.List.Folds.{list_any_at}
use Rattle.mm_types.specs.Graph.{Conforms, Walk, by_class}
use Rattle.mm_types.specs.Lookups.{conforms_within}
use Rattle.mm_graph.specs.Order.{HasCycle, InRange}
use Rattle.mm_graph.proofs.Belonging.{walk_is_short}

one_passes : (p : ℕ → Bool) (xs : List ℕ) → list_any p xs ≡ true → (x : ℕ) × Contains xs x × (p x ≡ true)
one_passes p [] h = cc
one_passes p (x ∷ xs) h = ⊎_elim
    (λ (here : p x ≡ true). (x, (0, omega arith, refl), here))
    (λ (rest : list_any p xs ≡ true).
    let r : (y : ℕ) × Contains xs y × (p y ≡ true) = one_passes p xs rest in
    (r.0, (suc r.1.0, omega (arith, r.1.1), r.1.2), r.2))
    (or_cases (p x) (list_any p xs) h)

-- a class that is found is reached
found_conforms : (g : List (List ℕ)) (n c d : ℕ) → conforms_within g n c d ≡ true → Conforms g c d
found_conforms g zero c d h = (0, eqb-true c d h)
found_conforms g (suc n) c d h = ⊎_elim
    (λ (same : nat_eq c d ≡ true). (0, eqb-true c d same))
    (λ (step : list_any (λ e. conforms_within g n e d) (by_class g c) ≡ true).
    let e = one_passes (λ e. conforms_within g n e d) (by_class g c) step in
    let rest : Conforms g e.0 d = found_conforms g n e.0 d e.2 in
    (suc rest.0, (e.0, e.1, rest.1)))
    (or_cases (nat_eq c d) (list_any (λ e. conforms_within g n e d) (by_class g c)) h)

-- a class that is reached by few steps is found
reached_found : (g : List (List ℕ)) (n k c d : ℕ) → k ≤ n → Walk g k c d → conforms_within g n c d ≡ true
reached_found g zero zero c d few w = eq-eqb c d w
reached_found g zero (suc k) c d few w = absurd (omega arith)
reached_found g (suc n) zero c d few w = or_left (nat_eq c d) (list_any (λ e. conforms_within g n e d) (by_class g c)) (eq-eqb c d w)
reached_found g (suc n) (suc k) c d few w =
    let rest : conforms_within g n w.0 d ≡ true = reached_found g n k w.0 d (omega arith) w.2 in
    let at = w.1 in
    or_right (nat_eq c d) (list_any (λ e. conforms_within g n e d) (by_class g c))
    (list_any_at (λ e. conforms_within g n e d) (by_class g c) at.0 w.0 at.1 (subst (λ (e : ℕ). conforms_within g n e d ≡ true) (sym at.2) rest))

-- Without cycles a class conforms to exactly the classes that are found within as many steps as there are classes.
pub conforms_found : (g : List (List ℕ)) → InRange g → (HasCycle g → ⊥) → (c d : ℕ) → c < length g
    → (conforms_within g (length g) c d ≡ true) ↔ Conforms g c d
conforms_found g range acyclic c d low = (
  (λ h. found_conforms g (length g) c d h),
  (λ h.
      let short = walk_is_short g range acyclic h.0 c d low h.1 in
      reached_found g (length g) h.0 c d (omega arith) h.1),
)
