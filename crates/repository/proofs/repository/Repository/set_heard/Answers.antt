use Rattle.std.proofs.Common.{◌≡◌, ◌∙◌, [], List, None, true, false, not, ap, refl, sym, subst}
use Rattle.mm_types.specs.Shapes.{shape}
use Rattle.std.proofs.lemmas.Bool.{false≢true}
use Rattle.models.specs.Model.{Model, reading}
use Rattle.handshake.proofs.KnownLemmas.{none-else_by}
use Rattle.handshake.specs.Refusals.{early_refusal}
use Rattle.handshake.specs.declared.act.Act.TheVariants.{Set}
use Rattle.handshake.specs.declared.change.Change.{Change}
use Rattle.handshake.specs.declared.change.Change.TheVariants.{At}
use Rattle.notice_chain.specs.Released.{Spot}
use Rattle.notice_chain.specs.declared.notice.Notice.{Notice}
use Rattle.mm_types.specs.declared.end.End.{End}
use Rattle.mm_types.specs.declared.value.Value.{Value}
use Rattle.mm_values.specs.declared.value_edit.ValueEdit.{ValueEdit}
use Rattle.change_plans.specs.Plans.{IsPlanOf, of_values}
use Rattle.change_plans.specs.declared.planned.Finding.TheVariants as finding
use Rattle.change_plans.proofs.ValueLemmas.{is-plain}
use Rattle.repository.specs.State.{State, reads}
use Rattle.repository.specs.Prepared.{IsReady}
use Rattle.repository.proofs.InsideLemmas.{round-here, seen}
use Rattle.repository.proofs.PlanLemmas.{free-as-found, out_of_memory, refused-as-found}
use Rattle.repository.specs.declared.reply.Answer.TheVariants as answer
use Rattle.repository.proofs.ValueLemmas.{none-goes, ready-of}
use Rattle.repository.proofs.repository.Repository.set_heard.Goals as goal

pub returns-in-Some : goal.returns-in-Some
returns-in-Some g c = refused-as-found c.args.self.now c.model-model.result (At c.args.end (Set c.args.value)) _ c.in-Some.refused tt c.model-model.ensures c.attribute_refusal.ensures c.in-Some.is

pub plan_set-requires : goal.plan_set-requires
plan_set-requires g c =
    let free = none-else_by _ _ (sym c.attribute_refusal.ensures ∙ c.in_default.is) in
    record {
      attribute = subst (λ (m : Model). (shape m.metamodel c.args.end.feature).is_reference ≡ false) (sym c.model-model.ensures) c.requires.attribute;
      asked = free.0;
      allowed = free.1;
    }

pub returns-in-Err : goal.returns-in-Err
returns-in-Err g c =
    let change : Change = At c.args.end (Set c.args.value) in
    let free = free-as-found c.args.self.now c.model-model.result change _ c.model-model.ensures c.attribute_refusal.ensures c.in_default.is in
    out_of_memory c.args.self.now [] change tt free.0

-- the plan of the set is ready
ready : (s : State) (x : Model) (e : End) (v : Value) (ss : List Spot) (vs : List ValueEdit) (ns : List Notice) → x ≡ s.model → early_refusal (reads s) (At e (Set v)) ≡ None → (shape s.model.metamodel e.feature).is_reference ≡ false → ss ≡ [] → IsPlanOf true x (At e (Set v)) (of_values vs ns) → IsReady s [] (At e (Set v)) answer.Done ss [] vs ns
ready s x e v ss vs ns is early attribute none plan =
    let c : Change = At e (Set v) in
    ready-of s x [] c answer.Done ss [] vs ns true is early tt (λ rs text _. refl) (none ∙ none-goes (reading x) s.adapters c (is-plain (reading x) c (ap (λ (m : Model). not (shape m.metamodel e.feature).is_reference) is ∙ ap not attribute)))
    (finding.Nothing, plan) (λ (no : true ≡ false). absurd (false≢true (sym no)))

pub returns-in-Err-round : goal.returns-in-Err-round
returns-in-Err-round g c =
    let change : Change = At c.args.end (Set c.args.value) in
    let free = free-as-found c.args.self.now c.model-model.result change _ c.model-model.ensures c.attribute_refusal.ensures c.in_default.is in
    rw (c.round.ensures.kept) (out_of_memory c.args.self.now [] change tt free.0)

pub finish-requires : goal.finish-requires
finish-requires g c =
    let asked = subst (λ (m : Model). early_refusal (reading m) (At c.args.end (Set c.args.value)) ≡ None) c.model-model.ensures (none-else_by _ _ (sym c.attribute_refusal.ensures ∙ c.in_default.is)).0 in
    let kept = c.round.ensures.kept in
    record { ready = ([], At c.args.end (Set c.args.value), c.in-Ok.plan.1, round-here _ _ c.in-Ok.plan.1 _ kept c.in-Ok-round.ensures.round, seen _ _ [] (At c.args.end (Set c.args.value)) answer.Done _ _ _ _ kept (ready c.args.self.now c.model-model.result c.args.end c.args.value c.new-spots.result.items c.in-Ok.plan.0 c.in-Ok.plan.1 c.model-model.ensures asked c.requires.attribute c.new-spots.ensures.items c.in-Ok.ensures)) }

pub returns : goal.returns
returns g c =
    let asked = subst (λ (m : Model). early_refusal (reading m) (At c.args.end (Set c.args.value)) ≡ None) c.model-model.ensures (none-else_by _ _ (sym c.attribute_refusal.ensures ∙ c.in_default.is)).0 in
    let kept = c.round.ensures.kept in
    rw (← kept) (c.finish.ensures [] (At c.args.end (Set c.args.value)) c.in-Ok.plan.1 (round-here _ _ c.in-Ok.plan.1 _ kept c.in-Ok-round.ensures.round) (seen _ _ [] (At c.args.end (Set c.args.value)) answer.Done _ _ _ _ kept (ready c.args.self.now c.model-model.result c.args.end c.args.value c.new-spots.result.items c.in-Ok.plan.0 c.in-Ok.plan.1 c.model-model.ensures asked c.requires.attribute c.new-spots.ensures.items c.in-Ok.ensures)))
