-- Results on which adapters have no influence.
use Rattle.std.proofs.Common.{◌≡◌, Bool, true, false, List, [], Option, Some, None, Ok, refl, ap, ap₂, sym, subst, ◌∙◌}
use Rattle.std.specs.Prelude.{MatchBool}
use Rattle.mm_types.specs.Conditions.{◌where_so◌, ◌else_by◌}
use Rattle.mm_types.specs.declared.refused.Refused.{Refused}
use Rattle.notice_chain.specs.Listed.{Listed}
use Rattle.notice_chain.specs.View.{View}
use Rattle.repository.specs.Alone.{ComesBack, IsAloneToo, KeepsModel, is_change}
use Rattle.repository.specs.Refusals.{early_refusal, full_refusal, late_refusal}
use Rattle.repository.specs.State.{state_of_model, State, reads}
use Rattle.repository.specs.Step.{Stepped, adapters_after, done_step, refusal_of, refused_step, reply, step, step_unless}
use Rattle.repository.specs.declared.command.Command.{Command}
use Rattle.repository.specs.declared.command.Command.TheVariants as command
use Rattle.repository.specs.declared.reply.Reply.{Reply}

-- if there is no refusal, there is none if the last condition is left out
none_of : (a b : Option Refused) (r : Refused) (t : Bool) → (a else_by b else_by (r where_so t)) ≡ None → (a else_by b else_by (r where_so false)) ≡ None
none_of (Some x) b r t h = absurd (cc h)
none_of None (Some y) r t h = absurd (cc h)
none_of None None r t h = refl

both : (s : State) (c : Command View) → refusal_of s c ≡ None → refusal_of (state_of_model s.model) c ≡ None → adapters_after (reads s) [] c ≡ []
    → (refusal_of (state_of_model s.model) c ≡ None) × ((step (state_of_model s.model) c).after ≡ state_of_model (step s c).after.model)
both s c h k nobody = (
  k,
  ap (λ (o : Option Refused). (step_unless (state_of_model s.model) c o).after) k
      ∙ ap (λ (rs : List Listed). let t : State = record { model = (done_step s c).after.model; adapters = rs } in t) nobody
      ∙ sym (ap (λ (o : Option Refused). state_of_model (step_unless s c o).after.model) h),
)

-- adapters have no influence on the refusals of a command, except for a full adapter, and without adapters it attaches none
record HasNoInfluence (s : State) (c : Command View) : Type 0 where
  pub early : early_refusal (reads s) s.adapters c ≡ early_refusal (reads s) [] c
  pub late : late_refusal (reads s) s.adapters c ≡ late_refusal (reads s) [] c
  pub nobody : adapters_after (reads s) [] c ≡ []

-- they have no influence on a change, and any other command leaves the model
abbrev ByKind : State → Command View → Bool → Type 0
ByKind s c b = MatchBool b (HasNoInfluence s c) ((done_step s c).after.model ≡ s.model)

by_kind : (s : State) (c : Command View) → ByKind s c (is_change c)
by_kind s (command.Attach number target deep view) = refl
by_kind s (command.Watch number target deep) = refl
by_kind s (command.Unwatch number target) = refl
by_kind s (command.Detach number) = refl
by_kind s (command.Read q) = refl
by_kind s _ = record { early = refl; late = refl; nobody = refl }

pub alone_too : (s : State) (c : Command View) → IsAloneToo s c
alone_too s c is h =
    let same : HasNoInfluence s c = subst (ByKind s c) is (by_kind s c) in
    let free : (early_refusal (reads s) [] c else_by late_refusal (reads s) [] c else_by full_refusal (reads s) s.adapters c) ≡ None =
    ap₂ (λ (x y : Option Refused). x else_by y else_by full_refusal (reads s) s.adapters c) (sym same.early) (sym same.late) ∙ h in
    both s c h (none_of (early_refusal (reads s) [] c) (late_refusal (reads s) [] c) _ _ free) same.nobody

kept : (s : State) (c : Command View) (o : Option Refused) → (done_step s c).after.model ≡ s.model → (step_unless s c o).after.model ≡ s.model
kept s c (Some r) h = refl
kept s c None h = h

pub keeps_model : (s : State) (c : Command View) → KeepsModel s c
keeps_model s c is = kept s c (refusal_of s c) (subst (ByKind s c) is (by_kind s c))

again : (s : State) (c : Command View) (r : Reply View) (t : State) (o : Option Refused) → refusal_of s c ≡ o → is_change c ≡ true
    → (let y : Stepped = record { outcome = Ok r; after = t } in step s c ≡ y)
    → (q : Reply View) × (let y : Stepped = record { outcome = Ok q; after = state_of_model t.model } in step (state_of_model s.model) c ≡ y)
again s c r t (Some e) eq is x =
    absurd (let h : refused_step s c e ≡ step s c = sym (ap (step_unless s c) eq) in cc (ap (λ (y : Stepped). y.outcome) (h ∙ x)))
again s c r t None eq is x =
    let k = alone_too s c is eq in
    let q = reply (reads (state_of_model s.model)) [] c in
    let is_done : step (state_of_model s.model) c ≡ done_step (state_of_model s.model) c = ap (step_unless (state_of_model s.model) c) k.0 in
    let leaves : (done_step (state_of_model s.model) c).after ≡ state_of_model t.model =
    sym (ap (λ (y : Stepped). y.after) is_done) ∙ k.1 ∙ ap (λ (y : Stepped). state_of_model y.after.model) x in
    (q, is_done ∙ ap (λ (a : State). let y : Stepped = record { outcome = Ok q; after = a } in y) leaves)

pub comes_back : (s : State) (c : Command View) (r : Reply View) (t : State) → ComesBack s c r t
comes_back s c r t is x = again s c r t (refusal_of s c) refl is x
