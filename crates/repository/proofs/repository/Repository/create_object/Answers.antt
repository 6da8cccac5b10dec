use Rattle.std.proofs.Common.{◌≡◌, ◌∙◌, ◌∷◌, [], None, false, refl, ap}
use Rattle.mm_types.specs.declared.numbers.ClassNo.{ClassNo}
use Rattle.mm_types.specs.declared.numbers.ObjectNo.{ObjectNo}
use Rattle.mm_types.specs.declared.refused.Refused.{Refused}
use Rattle.mm_values.specs.declared.value_edit.ValueEdit.TheVariants as edit
use Rattle.std.specs.Prelude.{Option}
use Rattle.models.specs.Model.{Model, reading}
use Rattle.handshake.specs.declared.change.Change.TheVariants.{Create}
use Rattle.change_plans.proofs.ValueLemmas.{is-plain, values-planned}
use Rattle.change_plans.specs.declared.planned.Finding.TheVariants as finding
use Rattle.repository.specs.Prepared.{IsReady}
use Rattle.repository.specs.State.{IsLegal, State}
use Rattle.repository.specs.declared.reply.Answer.TheVariants as answer
use Rattle.repository.proofs.PlanLemmas.{FoundOf, free-as-found, refused-as-found}
use Rattle.repository.proofs.ValueLemmas.{none-goes, ready-of}
use Rattle.repository.proofs.repository.Repository.create_object.Goals as goal

-- a class that is refused is refused as its command is
pub returns-in-Some : goal.returns-in-Some
returns-in-Some g c = refused-as-found c.args.self.now c.model-model.result (Create c.args.class) _ c.in-Some.refused tt c.model-model.ensures c.create_refusal.ensures c.in-Some.is

-- the plan of the new object is ready
ready : (s : State) (x : Model) (k : ClassNo) (o : ObjectNo) (q : Option Refused) → IsLegal s → x ≡ s.model → o ≡ record { 0 = (reading x).next } → FoundOf x (Create k) q → q ≡ None → IsReady s [] (Create k) (answer.Object o) [] [] (edit.NewObject k ∷ []) []
ready s x k o q legal is next found none =
    let free = free-as-found s x (Create k) q is found none in
    let plan = values-planned false s.model (Create k) (edit.NewObject k ∷ []) [] refl legal.model free.0 free.1 refl refl in
    ready-of s s.model [] (Create k) (answer.Object o) [] [] (edit.NewObject k ∷ []) [] false refl free.0 tt (λ rs text _. ap answer.Object (next ∙ ap (λ (m : Model). record { 0 = (reading m).next }) is)) (none-goes (reading s.model) s.adapters (Create k) (is-plain (reading s.model) (Create k) refl))
    (finding.Nothing, plan) (λ _. tt)

pub edit-requires : goal.edit-requires
edit-requires g c =
    record { ready = ([], Create c.args.class, answer.Object c.next_object-object.result, ready c.args.self.now c.model-model.result c.args.class c.next_object-object.result c.create_refusal.result c.lemma_is_legal.ensures c.model-model.ensures c.next_object-object.ensures c.create_refusal.ensures c.in_default.is) }

pub returns-in-Ok : goal.returns-in-Ok
returns-in-Ok g c =
    c.in-Ok.ensures [] (Create c.args.class) (answer.Object c.next_object-object.result) (ready c.args.self.now c.model-model.result c.args.class c.next_object-object.result c.create_refusal.result c.lemma_is_legal.ensures c.model-model.ensures c.next_object-object.ensures c.create_refusal.ensures c.in_default.is)

pub returns-in-Err : goal.returns-in-Err
returns-in-Err g c =
    c.in-Err.ensures [] (Create c.args.class) (answer.Object c.next_object-object.result) (ready c.args.self.now c.model-model.result c.args.class c.next_object-object.result c.create_refusal.result c.lemma_is_legal.ensures c.model-model.ensures c.next_object-object.ensures c.create_refusal.ensures c.in_default.is)
