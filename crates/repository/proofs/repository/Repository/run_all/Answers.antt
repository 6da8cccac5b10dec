use Rattle.std.proofs.Common.{◌≡◌, ◌≤◌, ◌+◌, ◌∷◌, [], ◌++◌, length, vec_len, vec_capacity, arith, ap, sym, refl, List, append_assoc, ◌∙◌}
use Rattle.std.specs.Vec.Iter.{into_iter_items}
use Rattle.std.proofs.lemmas.List.{append-nil, map-append}
use Rattle.std.proofs.lemmas.Grind.{common_steps}
use Rattle.repository.specs.Views.{command_view, outcome_view}
use Rattle.repository.proofs.RunLemmas.{AllExecuted-push, run-executed}
use Rattle.repository.proofs.repository.Repository.run_all.Goals as goal

empty : {X : Type 0} (xs : List X) → length xs ≡ 0 → xs ≡ []
empty [] h = refl
empty (x ∷ xs) h = absurd (omega arith)

pub commands-preserved : goal.commands-preserved
commands-preserved g c =
    let h = c.in-Some.ensures.steps in
    let heard = g.A.Adapter.heard in
    let room : vec_len c.push_reserved.new.self + length (into_iter_items c.next.new.self) ≤ vec_capacity c.push_reserved.new.self = let e = ap length h.0 in grind (arith, common_steps) in
    let len : length c.push_reserved.new.self.items ≡ length (c.commands.yielded ++ (c.in-Some.command ∷ [])) = grind (arith, common_steps) in
    let all : (c.commands.yielded ++ (c.in-Some.command ∷ [])) ++ into_iter_items c.next.new.self ≡ c.args.commands.items = append_assoc c.commands.yielded (c.in-Some.command ∷ []) (into_iter_items c.next.new.self) ∙ ap (λ xs. c.commands.yielded ++ xs) (sym h.0) ∙ c.commands.invariant.4 in (
      tt,
      tt,
      room,
      len,
      all,
      rw (c.push_reserved.ensures.items, map-append (command_view heard) c.commands.yielded (c.in-Some.command ∷ []), map-append (outcome_view heard) c.commands.outcomes.items (c.execute.result ∷ [])) (AllExecuted-push _ _ _ _ _ _ _ c.commands.invariant.5 c.execute.ensures),
    )

pub returns-clause-run : goal.returns-clause-run
returns-clause-run g c =
    let none : into_iter_items c.commands.command-iterator ≡ [] = empty _ (grind (arith, common_steps)) in
    let all : c.commands.yielded ≡ c.args.commands.items = sym (append-nil _) ∙ ap (λ xs. c.commands.yielded ++ xs) (sym none) ∙ c.commands.invariant.4 in
    rw (← all) (run-executed _ _ _ _ c.commands.invariant.5)

pub returns-clause-steps : goal.returns-clause-steps
returns-clause-steps g c =
    let none : into_iter_items c.commands.command-iterator ≡ [] = empty _ (grind (arith, common_steps)) in
    let all : c.commands.yielded ≡ c.args.commands.items = sym (append-nil _) ∙ ap (λ xs. c.commands.yielded ++ xs) (sym none) ∙ c.commands.invariant.4 in
    rw (← all) c.commands.invariant.5
