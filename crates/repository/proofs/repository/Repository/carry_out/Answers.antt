use Rattle.std.proofs.Common.{◌≡◌, ◌∙◌, ℕ, Bool, true, false, List, [], ◌∷◌, None, length, ap, refl, sym, subst, eqb-true, arith}
use Rattle.std.specs.Prelude.{◌==◌}
use Rattle.links.specs.declared.plan.Edit.{Edit}
use Rattle.mm_values.specs.declared.value_edit.ValueEdit.{ValueEdit}
use Rattle.models.specs.Model.{Model, reading}
use Rattle.notice_chain.specs.Released.{Spot}
use Rattle.notice_chain.specs.declared.notice.Notice.{Notice}
use Rattle.adapter_list.specs.Hearing.{IsUnheard}
use Rattle.handshake.specs.FeatureChanges.{chain}
use Rattle.handshake.specs.Refusals.{early_refusal}
use Rattle.handshake.specs.declared.change.Change.{Change}
use Rattle.repository.specs.Leaving.{going_with}
use Rattle.repository.specs.Prepared.{IsPlanned, IsReady}
use Rattle.repository.specs.Proper.{IsProper}
use Rattle.repository.specs.Refusals.{IsPlanRefusal}
use Rattle.repository.specs.Repository.{state}
use Rattle.repository.specs.Run.{Executed}
use Rattle.repository.specs.State.{State, reads}
use Rattle.repository.specs.Views.{Outcome, command_of}
use Rattle.repository.specs.declared.reply.Answer.{Answer}
use Rattle.repository.proofs.InsideLemmas.{round-here, seen}
use Rattle.repository.proofs.PlanLemmas.{out_of_memory, planned_err}
use Rattle.repository.proofs.ValueLemmas.{IsAnswerOf, ready-of}
use Rattle.repository.proofs.repository.Repository.carry_out.Goals as goal

nothing-in : {T : Type 0} (xs : List T) → (length xs == 0) ≡ true → xs ≡ []
nothing-in [] h = refl
nothing-in (x ∷ xs) h = let e = eqb-true (length (x ∷ xs)) 0 h in absurd (omega (arith, e))

-- the preparation, by the abstract state
ready : (s v : State) (x : Model) (text : List ℕ) (c : Change) (a : Answer) (ss : List Spot) (es : List Edit) (vs : List ValueEdit) (ns : List Notice) (is_heard : Bool) → s ≡ v → x ≡ v.model → early_refusal (reads v) c ≡ None → IsProper (reads v) text c → IsAnswerOf x c a → ss ≡ going_with (reading x) s.adapters c
    → IsPlanned is_heard x c es vs ns → (is_heard ≡ false → IsUnheard (reads v).above (chain (reads v) c) v.adapters) → IsReady v text c a ss es vs ns
ready s v x text c a ss es vs ns is_heard seen is early proper answers goes planned unheard =
    ready-of v x text c a ss es vs ns is_heard is early proper answers (goes ∙ ap (λ (t : State). going_with (reading x) t.adapters c) seen) planned unheard

pub returns-in-Err : goal.returns-in-Err
returns-in-Err g c = λ text own. planned_err c.args.self.now text c.args.change c.in-Err.refused own c.requires.asked (subst (λ (m : Model). IsPlanRefusal m c.args.change c.in-Err.refused) c.model-model.ensures c.in-Err.ensures.refused)

pub edit-done-requires : goal.edit-done-requires
edit-done-requires g c =
    let s : State = state g.L.LinkStore.links c.self.inside in
    let p = c.in-Ok.prepared in
    let quiet : c.prepare.new.chain ≡ [] = nothing-in c.prepare.new.chain (sym c.is_empty.ensures ∙ c.if-is_empty.true) in
    let none : p.spots.items ≡ [] = nothing-in p.spots.items (ap (λ (n : ℕ). n == 0) (sym p.spots.ok.0) ∙ sym c.is_empty-then-is_empty.ensures ∙ c.if-is_empty-2.true) in
    let text = c.requires.proper.0 in
    record { ready = (text, c.args.change, p.answer, ready s c.args.self.now c.model-model.result text c.args.change p.answer [] (g.E.Edits.edits_of_links p.edits) (g.E.Edits.edits_of_values p.edits) [] c.args.is_heard c.self.view_is c.model-model.ensures c.requires.asked c.requires.proper.1 c.in-Ok.ensures.answer (sym none ∙ c.in-Ok.ensures.spots) (subst (λ (ns : List Notice). IsPlanned c.args.is_heard c.model-model.result c.args.change (g.E.Edits.edits_of_links p.edits) (g.E.Edits.edits_of_values p.edits) ns) quiet (c.in-Ok.ensures.planned c.none-chain.ensures)) c.requires.heard) }

pub returns-then-is_empty-2 : goal.returns-then-is_empty-2
returns-then-is_empty-2 g c = λ text own.
    let s : State = state g.L.LinkStore.links c.self.inside in
    let p = c.in-Ok.prepared in
    let quiet : c.prepare.new.chain ≡ [] = nothing-in c.prepare.new.chain (sym c.is_empty.ensures ∙ c.if-is_empty.true) in
    let none : p.spots.items ≡ [] = nothing-in p.spots.items (ap (λ (n : ℕ). n == 0) (sym p.spots.ok.0) ∙ sym c.is_empty-then-is_empty.ensures ∙ c.if-is_empty-2.true) in
    subst (λ (o : Outcome). Executed c.args.self.now (command_of text c.args.change) o c.edit-done.new.self) (sym (c.replied.ensures g.A.Adapter.heard))
    (c.edit-done.ensures text c.args.change p.answer (ready s c.args.self.now c.model-model.result text c.args.change p.answer [] (g.E.Edits.edits_of_links p.edits) (g.E.Edits.edits_of_values p.edits) [] c.args.is_heard c.self.view_is c.model-model.ensures c.requires.asked own c.in-Ok.ensures.answer (sym none ∙ c.in-Ok.ensures.spots) (subst (λ (ns : List Notice). IsPlanned c.args.is_heard c.model-model.result c.args.change (g.E.Edits.edits_of_links p.edits) (g.E.Edits.edits_of_values p.edits) ns) quiet (c.in-Ok.ensures.planned c.none-chain.ensures)) c.requires.heard))

pub returns-in-Err-round : goal.returns-in-Err-round
returns-in-Err-round g c = λ text own. rw (c.round.ensures.kept) (out_of_memory c.args.self.now text c.args.change own c.requires.asked)

pub finish-requires : goal.finish-requires
finish-requires g c =
    let s : State = state g.L.LinkStore.links c.self.inside in
    let p = c.in-Ok.prepared in
    let text = c.requires.proper.0 in
    let kept = c.round.ensures.kept in
    record { ready = (text, c.args.change, c.prepare.new.chain, round-here _ _ c.prepare.new.chain _ kept c.in-Ok-round.ensures.round, seen _ _ text c.args.change p.answer _ _ _ _ kept (ready s c.args.self.now c.model-model.result text c.args.change p.answer p.spots.items (g.E.Edits.edits_of_links p.edits) (g.E.Edits.edits_of_values p.edits) c.prepare.new.chain c.args.is_heard c.self.view_is c.model-model.ensures c.requires.asked c.requires.proper.1 c.in-Ok.ensures.answer c.in-Ok.ensures.spots (c.in-Ok.ensures.planned c.none-chain.ensures) c.requires.heard)) }

pub returns : goal.returns
returns g c = λ text own.
    let s : State = state g.L.LinkStore.links c.self.inside in
    let p = c.in-Ok.prepared in
    let kept = c.round.ensures.kept in
    rw (← kept) (c.finish.ensures text c.args.change c.prepare.new.chain (round-here _ _ c.prepare.new.chain _ kept c.in-Ok-round.ensures.round) (seen _ _ text c.args.change p.answer _ _ _ _ kept (ready s c.args.self.now c.model-model.result text c.args.change p.answer p.spots.items (g.E.Edits.edits_of_links p.edits) (g.E.Edits.edits_of_values p.edits) c.prepare.new.chain c.args.is_heard c.self.view_is c.model-model.ensures c.requires.asked own c.in-Ok.ensures.answer c.in-Ok.ensures.spots (c.in-Ok.ensures.planned c.none-chain.ensures) c.requires.heard)))
