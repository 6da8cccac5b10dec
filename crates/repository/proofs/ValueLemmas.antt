-- A change that was prepared is ready; and the result of a change that notifies no adapter and takes no target away.
use Rattle.std.proofs.Common.{◌≡◌, ◌∙◌, ◌||◌, Bool, true, false, not, ℕ, List, [], None, refl, sym, ap, subst}
use Rattle.std.specs.Option.{option_map_or}
use Rattle.std.specs.Prelude.{Ok}
use Rattle.std.proofs.lemmas.Bool.{and_parts, false≢true, not-true}
use Rattle.mm_types.specs.Resolved.{Metamodel}
use Rattle.links.specs.declared.plan.Edit.{Edit}
use Rattle.mm_values.specs.declared.value_edit.ValueEdit.{ValueEdit}
use Rattle.models.specs.Model.{Model, reading}
use Rattle.models.specs.Reading.{Reading}
use Rattle.notice_chain.specs.Listed.{Listed, tell_chain}
use Rattle.notice_chain.specs.Released.{Released, Spot, is_gone_at, released_adapters, spots}
use Rattle.removal.specs.Outer.{is_in_subtree}
use Rattle.adapter_list.specs.Hearing.{IsUnheard}
use Rattle.notice_chain.specs.declared.notice.Notice.{Notice}
use Rattle.change_plans.proofs.ValueLemmas.{IsPlain}
use Rattle.handshake.specs.Effects.{model_after}
use Rattle.handshake.specs.Changes.{edits_links_alone, edits_one_kind, edits_values_alone, is_at_reference}
use Rattle.handshake.specs.Refusals.{early_refusal}
use Rattle.handshake.specs.FeatureChanges.{chain, resolves_one}
use Rattle.handshake.specs.declared.change.Change.{Change}
use Rattle.handshake.specs.declared.change.Change.TheVariants.{At, Create}
use Rattle.repository.specs.Answers.{answer_of, is_answered_late}
use Rattle.repository.specs.Leaving.{going_with}
use Rattle.repository.specs.Prepared.{IsPlanned, IsReady}
use Rattle.repository.specs.Proper.{IsProper}
use Rattle.repository.specs.State.{State, reads}
use Rattle.repository.specs.Step.{step}
use Rattle.repository.specs.Views.{command_of}
use Rattle.repository.specs.declared.reply.Answer.{Answer}
use Rattle.repository.proofs.AdapterLemmas.{heard-tells, is_chain_full-nil, tell_chain-nil}
use Rattle.repository.proofs.PlanLemmas.{changed_to}

-- the change is answered before it is planned
answered-early : (c : Change) → edits_one_kind c ≡ true → is_answered_late c ≡ false
answered-early (Create k) h = refl
answered-early (At e a) h = ap (λ (b : Bool). b || false) (not-true (resolves_one (At e a)) h)
answered-early _ h = absurd (false≢true h)

pub answered-early-values : (m : Metamodel) (c : Change) → edits_values_alone m c ≡ true → is_answered_late c ≡ false
answered-early-values m c h = answered-early c (and_parts (edits_one_kind c) (not (is_at_reference m c)) h).0

pub answered-early-links : (m : Metamodel) (c : Change) → edits_links_alone m c ≡ true → is_answered_late c ≡ false
answered-early-links m c h = answered-early c (and_parts (edits_one_kind c) (is_at_reference m c) h).0

-- the result of a change that takes no target away and notifies no adapter, for a state that is known by its parts
pub changed-quietly : (s t : State) (text : List ℕ) (c : Change) (es : List Edit) (vs : List ValueEdit) (a : Answer) → IsReady s text c a [] es vs [] → t.model ≡ model_after s.model c → t.adapters ≡ s.adapters
    → step s (command_of text c) ≡ record { outcome = Ok (record { answer = a; told = []; released = [] }); after = t }
changed-quietly s t text c es vs a ready model adapters =
    let up = (reads s).above in
    let gives : List Spot → Released = λ ss. released_adapters ss (tell_chain up [] s.adapters) in
    changed_to s t text c [] a [] [] ready.proper ready.asked ready.allowed ready.tells (is_chain_full-nil up s.adapters) ready.answered (ap (λ (ss : List Spot). (gives ss).told) ready.spots) (ap (λ (ss : List Spot). (gives ss).views) ready.spots) model
    (adapters ∙ sym (tell_chain-nil up s.adapters) ∙ ap (λ (ss : List Spot). (gives ss).others) ready.spots)

-- the answer of a change, as it is found in the abstract model
abbrev pub IsAnswerOf : Model → Change → Answer → Type 0
IsAnswerOf x c a = (rs : List Listed) (text : List ℕ) → IsProper (reading x) text c → a ≡ answer_of (reading x) rs (command_of text c)

-- no target goes with a change that destroys nothing
pub none-goes : (r : Reading) (rs : List Listed) (c : Change) → IsPlain r c → [] ≡ going_with r rs c
none-goes r rs c plain = ap (λ o. option_map_or (λ x. spots (is_gone_at (is_in_subtree r x)) rs) o []) plain.whose

-- a change that is prepared is ready; its notifications are made if an adapter may have to get them
pub ready-of : (s : State) (x : Model) (text : List ℕ) (c : Change) (a : Answer) (ss : List Spot) (es : List Edit) (vs : List ValueEdit) (ns : List Notice) (is_heard : Bool) → x ≡ s.model → early_refusal (reads s) c ≡ None → IsProper (reads s) text c → IsAnswerOf x c a → ss ≡ going_with (reading x) s.adapters c
    → IsPlanned is_heard x c es vs ns → (is_heard ≡ false → IsUnheard (reads s).above (chain (reads s) c) s.adapters) → IsReady s text c a ss es vs ns
ready-of s x text c a ss es vs ns is_heard is early proper answers goes planned unheard =
    let plan = (subst (λ (y : Model). IsPlanned is_heard y c es vs ns) is planned).1 in
    record {
      asked = early;
      allowed = plan.allowed;
      proper = proper;
      answered = subst (λ (y : Model). a ≡ answer_of (reading y) s.adapters (command_of text c)) is (answers s.adapters text (subst (λ (y : Model). IsProper (reading y) text c) (sym is) proper));
      spots = goes ∙ ap (λ (y : Model). going_with (reading y) s.adapters c) is;
      fits = plan.fits;
      of_kind = plan.of_kind;
      links_made = plan.links_made;
      values_made = plan.values_made;
      tells = heard-tells is_heard (reads s).above ns (chain (reads s) c) s.adapters plan.tells unheard;
    }
