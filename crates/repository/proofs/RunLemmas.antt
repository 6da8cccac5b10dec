-- A run, one command at a time.
use Rattle.std.proofs.Common.{◌≡◌, Bool, true, false, List, [], ◌∷◌, ◌++◌, Option, Some, None, Ok, Err, refl, sym, ap, subst, ◌∙◌, if◌then◌else◌}
use Rattle.std.specs.Prelude.{MatchBool}
use Rattle.repository.specs.declared.command.Command.{Command}
use Rattle.repository.specs.State.{State, reads}
use Rattle.notice_chain.specs.View.{View}
use Rattle.repository.specs.Views.{Outcome, brought_adapter}
use Rattle.repository.specs.declared.reply.Failure.{Failure}
use Rattle.mm_types.specs.declared.refused.Refused.{Refused}
use Rattle.repository.specs.Refusals.{change_of}
use Rattle.repository.specs.Step.{Stepped, done_step, refusal_of, step, step_unless}
use Rattle.repository.proofs.KeptNodeLemmas.{metamodel-by}
use Rattle.repository.specs.Run.{AllExecuted, Executed, IsRun, IsWanting, Ran, commands_kept, is_memory, outcomes_kept, run}
use Rattle.mm_types.specs.Conditions.{is_memory_refusal}

pub AllExecuted-push : (cs : List (Command View)) (os : List Outcome) (s t u : State) (c : Command View) (o : Outcome) → AllExecuted s cs os t → Executed t c o u → AllExecuted s (cs ++ (c ∷ [])) (os ++ (o ∷ [])) u
AllExecuted-push [] [] s t u c o h x = (u, subst (λ (q : State). Executed q c o u) (sym h) x, refl)
AllExecuted-push [] (p ∷ os) s t u c o h x = absurd h
AllExecuted-push (d ∷ cs) [] s t u c o h x = absurd h
AllExecuted-push (d ∷ cs) (p ∷ os) s t u c o h x = (h.0, h.1, AllExecuted-push cs os h.0 t u c o h.2 x)

after-memory : (s u : State) (c : Command View) (o : Outcome) → Executed s c o u → is_memory o ≡ true → s ≡ u
after-memory s u c o x e =
    let y : IsWanting s c o u = subst (λ (b : Bool). MatchBool b (IsWanting s c o u) (step s c ≡ record { outcome = o; after = u })) e x in
    sym y.state

stepped : (s u : State) (c : Command View) (o : Outcome) → Executed s c o u → is_memory o ≡ false → step s c ≡ record { outcome = o; after = u }
stepped s u c o x e = subst (λ (b : Bool). MatchBool b (IsWanting s c o u) (step s c ≡ record { outcome = o; after = u })) e x

-- commands that are executed one after another are a run
pub run-executed : (cs : List (Command View)) (os : List Outcome) (s t : State) → AllExecuted s cs os t → IsRun s cs os t
run-executed [] [] s t h = ap (λ (q : State). record { outcomes = []; after = q }) h
run-executed [] (o ∷ os) s t h = absurd h
run-executed (c ∷ cs) [] s t h = absurd h
run-executed (c ∷ cs) (o ∷ os) s t h =
    let go : (b : Bool) → is_memory o ≡ b → run s (if b then commands_kept cs os else c ∷ commands_kept cs os) ≡ record { outcomes = if b then outcomes_kept os else o ∷ outcomes_kept os; after = t } =
    λ (b : Bool). elim b as (λ b. is_memory o ≡ b → run s (if b then commands_kept cs os else c ∷ commands_kept cs os) ≡ record { outcomes = if b then outcomes_kept os else o ∷ outcomes_kept os; after = t }) [
      | true ↦ λ e. ap (λ (q : State). run q (commands_kept cs os)) (after-memory s h.0 c o h.1 e) ∙ run-executed cs os h.0 t h.2
      | false ↦ λ e.
          let one : step s c ≡ record { outcome = o; after = h.0 } = stepped s h.0 c o h.1 e in
          let rest : run h.0 (commands_kept cs os) ≡ record { outcomes = outcomes_kept os; after = t } = run-executed cs os h.0 t h.2 in
          ap (λ (q : Stepped). let r : Ran = run q.after (commands_kept cs os) in record { outcomes = q.outcome ∷ r.outcomes; after = r.after }) one ∙ ap (λ (r : Ran). record { outcomes = o ∷ r.outcomes; after = r.after }) rest
    ] in
    go (is_memory o) refl

-- no command edits the metamodel
done_step-metamodel : (s : State) (c : Command View) → (done_step s c).after.model.metamodel ≡ s.model.metamodel
done_step-metamodel s c = metamodel-by s.model (change_of (reads s) c)

step-metamodel : (s : State) (c : Command View) → (step s c).after.model.metamodel ≡ s.model.metamodel
step-metamodel s c = elim (refusal_of s c) as (λ r. (step_unless s c r).after.model.metamodel ≡ s.model.metamodel) [ Some r ↦ refl | None ↦ done_step-metamodel s c ]

pub executed-metamodel : (s t : State) (c : Command View) (o : Outcome) → Executed s c o t → t.model.metamodel ≡ s.model.metamodel
executed-metamodel s t c o x =
    elim (is_memory o) as (λ b. MatchBool b (IsWanting s c o t) (step s c ≡ record { outcome = o; after = t }) → t.model.metamodel ≡ s.model.metamodel) [
      | true ↦ λ y. ap (λ (u : State). u.model.metamodel) y.state
      | false ↦ λ e. sym (ap (λ (q : Stepped). q.after.model.metamodel) e) ∙ step-metamodel s c
    ] x

---------------------------------------------------------------- refusals

failed : Outcome → Option (Option View)
failed (Ok r) = None
failed (Err f) = Some f.given_back

inner : Option (Option View) → Option View
inner None = None
inner (Some o) = o

abbrev IsFailed : Option (Option View) → Type 0
IsFailed None = ⊥
IsFailed (Some o) = Unit {0}

step-refused : (s : State) (c : Command View) (r : Option Refused) (t : State) (f : Failure View) → step_unless s c r ≡ record { outcome = Err f; after = t } → (t ≡ s) × (f.given_back ≡ brought_adapter c)
unfolding failed inner
step-refused s c (Some r) t f e = (sym (ap (λ (q : Stepped). q.after) e), sym (ap (λ (q : Stepped). inner (failed q.outcome)) e))
step-refused s c None t f e = absurd (subst IsFailed (ap (λ (q : Stepped). failed q.outcome) (sym e)) tt)

pub refused-nothing : (s t : State) (c : Command View) (f : Failure View) → Executed s c (Err f) t → (t ≡ s) × (f.given_back ≡ brought_adapter c)
unfolding failed inner
refused-nothing s t c f x =
    elim (is_memory_refusal f.refused) as (λ b. MatchBool b (IsWanting s c (Err f) t) (step s c ≡ record { outcome = Err f; after = t }) → (t ≡ s) × (f.given_back ≡ brought_adapter c)) [
      | true ↦ λ y. (y.state, ap (λ (o : Outcome). inner (failed o)) y.outcome)
      | false ↦ λ e. step-refused s c (refusal_of s c) t f e
    ] x
