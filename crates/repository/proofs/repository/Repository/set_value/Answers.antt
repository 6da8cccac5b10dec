use Rattle.std.proofs.Common.{◌≡◌, ◌∙◌, ◌∷◌, [], Bool, Option, None, false, not, if◌then◌else◌, refl, sym, ap, subst}
use Rattle.mm_types.specs.Resolved.{Metamodel}
use Rattle.mm_types.specs.Shapes.{shape}
use Rattle.mm_types.specs.declared.end.End.{End}
use Rattle.mm_types.specs.declared.refused.Refused.{Refused}
use Rattle.mm_types.specs.declared.value.Value.{Value}
use Rattle.mm_values.specs.Room.{values_of}
use Rattle.models.specs.Model.{Model, model_of}
use Rattle.handshake.specs.Effects.{put_values}
use Rattle.change_plans.specs.Plans.{IsPlanOf, of_values}
use Rattle.handshake.specs.declared.change.Change.{Change}
use Rattle.handshake.specs.declared.change.Change.TheVariants.{At}
use Rattle.handshake.specs.declared.act.Act.TheVariants.{Set}
use Rattle.adapter_list.specs.Hearing.{is_heard}
use Rattle.change_plans.proofs.ValueLemmas.{is-plain, near-notifiers, values-planned}
use Rattle.change_plans.specs.declared.planned.Finding.TheVariants as finding
use Rattle.repository.specs.Prepared.{IsReady}
use Rattle.repository.specs.Repository.{state}
use Rattle.repository.specs.State.{IsLegal, State, reads}
use Rattle.repository.specs.Views.{command_of}
use Rattle.repository.specs.declared.reply.Answer.TheVariants as answer
use Rattle.repository.proofs.InsideLemmas.{made, unchanged}
use Rattle.repository.proofs.LegalLemmas.{stepped-legal}
use Rattle.repository.proofs.PlanLemmas.{FoundOf, free-as-found, out_of_memory, refused-as-found}
use Rattle.repository.proofs.ValueLemmas.{changed-quietly, none-goes, ready-of}
use Rattle.repository.proofs.repository.Repository.set_value.Goals as goal

-- the plan of a set of an attribute is the edit of one value
flagged : (s : State) (m : Model) (e : End) (v : Value) (flag : Bool) (q : Option Refused) → IsLegal s → m ≡ s.model → FoundOf m (At e (Set v)) q → q ≡ None → flag ≡ (shape m.metamodel e.feature).is_unsettable → (shape s.model.metamodel e.feature).is_reference ≡ false
    → IsPlanOf false s.model (At e (Set v)) (of_values (put_values e (v ∷ []) flag) [])
flagged s m e v flag q legal is found known flag_is attribute =
    let free = free-as-found s m (At e (Set v)) q is found known in
    let same = flag_is ∙ ap (λ (m : Model). (shape m.metamodel e.feature).is_unsettable) is in
    values-planned false s.model (At e (Set v)) _ [] (ap not attribute) legal.model free.0 free.1 (λ i. if sym attribute i then [] else put_values e (v ∷ []) (same i)) refl

pub returns-in-Some : goal.returns-in-Some
returns-in-Some g c =
    let s : State = state g.L.LinkStore.links c.self.inside in
    let change : Change = At c.args.end (Set c.args.value) in
    let is : c.model-model.result ≡ s.model = c.model-model.ensures ∙ ap (λ (t : State). t.model) (sym c.self.view_is) in
    rw (← c.self.view_is) (refused-as-found s c.model-model.result change _ c.in-Some.refused tt is c.attribute_refusal.ensures c.in-Some.is)

pub returns-in-Err : goal.returns-in-Err
returns-in-Err g c =
    let s : State = state g.L.LinkStore.links c.self.inside in
    let change : Change = At c.args.end (Set c.args.value) in
    let is : c.model-model.result ≡ s.model = c.model-model.ensures ∙ ap (λ (t : State). t.model) (sym c.self.view_is) in
    let free = free-as-found s c.model-model.result change _ is c.attribute_refusal.ensures c.in_default.is in
    rw (← c.self.view_is, c.in-Err.ensures.err) (out_of_memory s [] change tt free.0)

-- a set of an attribute that notifies no adapter is ready
ready : (s : State) (m : Model) (e : End) (v : Value) (flag : Bool) (q : Option Refused) → IsLegal s → m ≡ s.model → FoundOf m (At e (Set v)) q → q ≡ None → flag ≡ (shape m.metamodel e.feature).is_unsettable → (shape s.model.metamodel e.feature).is_reference ≡ false → is_heard (reads s).above e.node s.adapters ≡ false
    → IsReady s [] (At e (Set v)) answer.Done [] [] (put_values e (v ∷ []) flag) []
ready s m e v flag q legal is found known flag_is attribute none =
    let c : Change = At e (Set v) in
    ready-of s s.model [] c answer.Done [] [] (put_values e (v ∷ []) flag) [] false refl (free-as-found s m c q is found known).0 tt (λ rs text _. refl) (none-goes (reads s) s.adapters c (is-plain (reads s) c (ap not attribute)))
    (finding.Nothing, flagged s m e v flag q legal is found known flag_is attribute) (λ _. near-notifiers (λ x. is_heard (reads s).above x s.adapters ≡ false) (reads s) c (ap not attribute) none)

-- if memory is refused, the view has not changed
pub invariant_of-self : goal.invariant_of-self
invariant_of-self g c = unchanged g.L.LinkStore.links g.L.LinkStore.kinds c.self.inside c.self.inside.store c.put_value.new.values c.self.inside.adapters c.self.inside.paths c.self.inside.hearers refl c.self.invariant.kinds_are c.in-Err.ensures.err refl c.self.invariant.paths c.self.invariant.hearers c.self.invariant

pub returns : goal.returns
returns g c =
    let s : State = state g.L.LinkStore.links c.self.inside in
    let is : c.model-model.result ≡ s.model = c.model-model.ensures ∙ ap (λ (t : State). t.model) (sym c.self.view_is) in
    let p = ready s c.model-model.result c.args.end c.args.value c.is_unsettable-flag.result _ c.self.invariant.legal is c.attribute_refusal.ensures c.in_default.is (c.is_unsettable-flag.ensures ∙ ap (λ (m : Metamodel). (shape m c.args.end.feature).is_unsettable) c.meta.ensures)
    (subst (λ (t : State). (shape t.model.metamodel c.args.end.feature).is_reference ≡ false) (sym c.self.view_is) c.requires.attribute) (subst (λ (t : State). is_heard (reads t).above c.args.end.node t.adapters ≡ false) (sym c.self.view_is) c.requires.unheard) in
    let values = c.in-Ok.ensures.ok ∙ p.values_made in
    let t : State = record { model = model_of c.self.inside.meta (values_of c.put_value.new.values) (g.L.LinkStore.links c.self.inside.store); adapters = c.self.inside.adapters.0 } in
    rw (← c.self.view_is) (changed-quietly s t [] (At c.args.end (Set c.args.value)) [] _ answer.Done p (λ i. model_of c.self.inside.meta (values i) (p.links_made i)) refl)

pub invariant_of-self-2 : goal.invariant_of-self-2
invariant_of-self-2 g c =
    let s : State = state g.L.LinkStore.links c.self.inside in
    let is : c.model-model.result ≡ s.model = c.model-model.ensures ∙ ap (λ (t : State). t.model) (sym c.self.view_is) in
    let p = ready s c.model-model.result c.args.end c.args.value c.is_unsettable-flag.result _ c.self.invariant.legal is c.attribute_refusal.ensures c.in_default.is (c.is_unsettable-flag.ensures ∙ ap (λ (m : Metamodel). (shape m c.args.end.feature).is_unsettable) c.meta.ensures)
    (subst (λ (t : State). (shape t.model.metamodel c.args.end.feature).is_reference ≡ false) (sym c.self.view_is) c.requires.attribute) (subst (λ (t : State). is_heard (reads t).above c.args.end.node t.adapters ≡ false) (sym c.self.view_is) c.requires.unheard) in
    let legal = stepped-legal _ _ (command_of [] (At c.args.end (Set c.args.value))) _ (subst IsLegal c.self.view_is c.self.invariant.legal) (returns g c) in
    made g.L.LinkStore.links g.L.LinkStore.kinds c.self.inside c.self.inside.store c.put_value.new.values c.self.inside.adapters c.self.inside.paths c.self.inside.hearers [] (At c.args.end (Set c.args.value)) answer.Done [] [] _ [] p refl legal c.self.invariant
    c.self.invariant.kinds_are c.in-Ok.ensures.ok refl c.self.invariant.hearers
