-- The repository after the answer of a line could not be added to the output, or not written.
use Rattle.std.proofs.Common.{◌≡◌, ◌⊎◌, inl, inr, ℕ, [], List, Option, Result, Ok, Err, OnErr, refl, subst, sym}
use Rattle.std.proofs.KnownBytes.{Appends-nil}
use Rattle.notice_chain.specs.View.{View}
use Rattle.repository.specs.Run.{Executed}
use Rattle.repository.specs.State.{State}
use Rattle.repository.specs.Views.{Outcome}
use Rattle.repository.specs.declared.command.Command.{Command}
use Rattle.script_lines.specs.Forms.{form}
use Rattle.script_program.specs.Batch.{AnswersFront, EndsIn}
use Rattle.script_answers.specs.Dressed.{dressed_line}
use Rattle.script_program.specs.Script.{IsLeft, RunsCommand, RunsLine, RunsRequest, command_printed}
use Rattle.script_program.specs.Session.{Session, pool_after, session}
use Rattle.script_answers.specs.Turns.{Printed}
use Rattle.script_answers.specs.declared.dress.Dress.{Dress}
use Rattle.script_program.specs.declared.request.Request.{Request}
use Rattle.script_program.specs.declared.request.Request.TheVariants as request

-- the state after an error
pub on_error : {V E X : Type 0} (r : Result V E) → X → OnErr r X
on_error (Ok v) x = tt
on_error (Err e) x = x

-- nothing was changed
pub unchanged : {V E : Type 0} (r : Result V E) (Said : Printed → Session → Type 0) (q : State) → OnErr r (IsLeft Said q q)
unchanged r Said q = on_error r (inl refl)

-- a command was executed
pub as_executed : {V E : Type 0} (r : Result V E) (s : Session) (c : Command View) (o : Outcome) (q : State) → Executed s.state c o q → OnErr r (IsLeft (RunsCommand s c) s.state q)
as_executed r s c o q executed =
    on_error r (inr (
      command_printed s.state.model.metamodel c o,
      session q (pool_after s.pool c o),
      record { outcome = o; executed = executed; pool = refl; printed = refl },
      refl,
    ))

-- a request for a command was executed
pub as_request : {V E : Type 0} (r : Result V E) (s : Session) (c : Command View) (q : Request View) (old new : State) → OnErr r (IsLeft (RunsCommand s c) old new) → q ≡ request.Execute c
    → OnErr r (IsLeft (RunsRequest s q) old new)
as_request r s c q old new left is = subst (λ (x : Request View). OnErr r (IsLeft (RunsRequest s x) old new)) (sym is) left

-- nothing of an answer is written
pub unanswered : (d : Dress) (number : ℕ) (line : List ℕ) (s : Session) (q : State) (old : Option (List ℕ)) → IsLeft (RunsLine s (form line)) s.state q
    → ((old ≡ old) × (q ≡ s.state)) ⊎ AnswersFront d number line s (EndsIn q) old old
unanswered d number line s q old (inl same) = inl (refl, same)
unanswered d number line s q old (inr one) =
    inr (record { printed = one.0; after = one.1; left = one.3; ran = one.2; written = ([], dressed_line d number line one.0, Appends-nil old, refl) })
