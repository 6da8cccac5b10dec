-- Every command of a legal state leaves a legal one.
use Rattle.std.proofs.Common.{◌≡◌, ℕ, Bool, true, false, IsTrue, List, [], ◌∷◌, Option, Some, None, option_map, Ok, Err, refl, sym, ap, ◌∙◌, subst, arith}
use Rattle.std.specs.Prelude.{MatchBool, Result}
use Rattle.std.specs.List.{AllByRecursion}
use Rattle.std.specs.Option.{option_map_or}
use Rattle.mm_types.specs.declared.numbers.Node.{Node}
use Rattle.mm_types.specs.declared.numbers.Node.TheVariants as node
use Rattle.mm_types.specs.declared.refused.Refused.TheVariants.{AdapterFull}
use Rattle.mm_values.specs.declared.value_edit.ValueEdit.{ValueEdit}
use Rattle.notice_chain.specs.View.{View}
use Rattle.notice_chain.specs.Listed.{Listed, tell_chain}
use Rattle.adapter_list.specs.Refusals.{attach_refusal, watch_refusal}
use Rattle.models.specs.Legal as models
use Rattle.models.specs.Model.{Model, reading}
use Rattle.models.specs.Reading.{Reading}
use Rattle.handshake.specs.Effects as effects
use Rattle.handshake.specs.Effects.{value_edits}
use Rattle.handshake.specs.declared.change.Change.{Change}
use Rattle.handshake.specs.declared.change.Change.TheVariants as change
use Rattle.handshake.proofs.KnownLemmas.{none-else_by, none-where_so}
use Rattle.handshake.proofs.ActLemmas.{edits-all}
use Rattle.handshake.proofs.AllLemmas.{change-keeps-legal}
use Rattle.repository.specs.declared.command.Command.{Command}
use Rattle.repository.specs.declared.command.Command.TheVariants.{Delete, CreateResource, Load, Attach, Watch, Unwatch, Detach}
use Rattle.repository.specs.State.{State, IsLegal, is_there, reads}
use Rattle.repository.specs.Refusals.{chain, change_of, early_refusal, late_refusal}
use Rattle.repository.specs.Run.{Executed, IsWanting, is_memory}
use Rattle.repository.specs.Step.{Stepped, adapters_after_attach, done_step, going_spots, model_after, refusal_of, step, step_unless}
use Rattle.repository.specs.Views.{Outcome}
use Rattle.repository.specs.declared.reply.Reply.{Reply}
use Rattle.repository.specs.Laws.{KeepsLegal}
use Rattle.notice_chain.specs.Released.{Spot, is_gone_at, is_of, released_adapters, spots}
use Rattle.repository.proofs.AdapterLemmas.{tell_chain-nil}
use Rattle.removal.specs.Outer.{is_in_subtree}
use Rattle.web_uris.specs.Joined.{joined_uri}
use Rattle.repository.proofs.AllowedLemmas.{change-allowed}
use Rattle.handshake.specs.Laws.{goes_with}
use Rattle.repository.specs.Loads.{load_of, reads_into}
use Rattle.repository.proofs.LiveLemmas.{Spares, edits-keep, is_there_in, others-spare, plain-spares}
use Rattle.mm_types.specs.declared.document_fault.DocFault.{DocFault}
use Rattle.mm_types.specs.declared.numbers.ResourceNo.{ResourceNo}
use Rattle.resource_docs.specs.declared.doc.Doc.{Doc}
use Rattle.containment.specs.Forest.{subtree}
use Rattle.repository.proofs.LegalAdapterLemmas.{numbers-tell_chain, len-told, spots-told, told-legal, AreLegal, released_adapters-legal, gone-legal, stays-legal, attach-legal, watch-legal}

---------------------------------------------------------------- no node goes

seen-there : (s : Model) (n : Node) → is_there (reading s) n ≡ is_there_in s.values n
seen-there s (node.Object o) = refl
seen-there s (node.Resource k) = refl

-- a node that exists still exists after every change that does not destroy it
change-keeps-node : (s : Model) (c : Change) (n : Node) → goes_with (reading s) c n ≡ false → IsTrue (is_there (reading s) n) → IsTrue (is_there (reading (effects.model_after s c)) n)
change-keeps-node s c n stays h =
    let r = reading s in
    let spared : AllByRecursion (λ (x : ValueEdit). Spares x n) (value_edits r c) =
    edits-all (λ (x : ValueEdit). Spares x n) (plain-spares n) r c (λ o is. others-spare n (subtree r o) (subst (λ (d : Change). goes_with r d n ≡ false) is stays)) (λ u is. tt) in
    seen-there (effects.model_after s c) n ∙ edits-keep (value_edits r c) s.values n spared (sym (seen-there s n) ∙ h)

-- the change of a command destroys a node
abbrev is_gone_with : Reading → Command View → Node → Bool
is_gone_with r c n = option_map_or (λ (x : Change). goes_with r x n) (change_of r c) false

keeps-node : (s : State) (c : Command View) (n : Node) → is_gone_with (reads s) c n ≡ false → IsTrue (is_there (reads s) n) → IsTrue (is_there (reading (model_after s.model c)) n)
keeps-node s c n stays h = by (change_of (reads s) c) stays
  where
    by : (o : Option Change) → option_map_or (λ (x : Change). goes_with (reads s) x n) o false ≡ false → IsTrue (is_there (reading (option_map_or (effects.model_after s.model) o s.model)) n)
    by None stays = h
    by (Some x) stays = change-keeps-node s.model x n stays h

-- a new resource destroys nothing, and neither does a load
resource-stays : (r : Reading) (uri : Option (List ℕ)) (n : Node) → option_map_or (λ (x : Change). goes_with r x n) (option_map change.NewResource uri) false ≡ false
resource-stays r None n = refl
resource-stays r (Some u) n = refl

load-stays : (r : Reading) (k : ResourceNo) (read : Result Doc DocFault) (n : Node) → option_map_or (λ (x : Change). goes_with r x n) (load_of k read) false ≡ false
load-stays r k (Ok doc) n = refl
load-stays r k (Err f) n = refl

---------------------------------------------------------------- the model

model-legal : (s : State) (c : Command View) → models.IsLegal s.model → early_refusal (reads s) s.adapters c ≡ None → late_refusal (reads s) s.adapters c ≡ None → models.IsLegal (model_after s.model c)
model-legal s c legal early late = by (change_of (reads s) c) refl
  where
    by : (o : Option Change) → change_of (reads s) c ≡ o → models.IsLegal (option_map_or (effects.model_after s.model) o s.model)
    by None is = legal
    by (Some x) is =
        let a = change-allowed s c x is early late in
        change-keeps-legal s.model x legal a.early a.late a.read a.brought

---------------------------------------------------------------- a command that nothing refuses

-- the adapters are legal after the chain is delivered
adapters-legal : (s : State) (c : Command View) (told : List Listed) → told ≡ tell_chain (reads s).above (chain (reads s) c) s.adapters → (r t : Reading) → r ≡ reads s → early_refusal r s.adapters c ≡ None → late_refusal r s.adapters c ≡ None
    → ((x : Node) → is_gone_with r c x ≡ false → IsTrue (is_there r x) → IsTrue (is_there t x)) → AreLegal r told → AreLegal t (adapters_after_attach c (released_adapters (going_spots r s.adapters c) told).others)
adapters-legal s (Delete o) told is r t same early late keeps legal = subst (λ (ss : List Spot). AreLegal t (released_adapters ss told).others) (ap (spots (is_gone_at (is_in_subtree r o))) is ∙ spots-told (is_gone_at (is_in_subtree r o)) (reads s).above (chain (reads s) (Delete o)) s.adapters) (gone-legal r t (is_in_subtree r o) told keeps legal)
adapters-legal s (Attach number target deep view) told is r t same early late keeps legal =
    let quiet : told ≡ s.adapters = is ∙ tell_chain-nil (reads s).above s.adapters in
    stays-legal r t _ (λ x. keeps x refl) (attach-legal r told number target deep view early (ap (λ (rs : List Listed). attach_refusal rs number view) quiet ∙ late) legal)
adapters-legal s (Watch number target deep) told is r t same early late keeps legal =
    let quiet : told ≡ s.adapters = is ∙ tell_chain-nil (reads s).above s.adapters in
    stays-legal r t _ (λ x. keeps x refl) (watch-legal r told number target deep early (ap (λ (rs : List Listed). watch_refusal rs number target) quiet ∙ late) legal)
adapters-legal s (Unwatch number target) told is r t same early late keeps legal = stays-legal r t _ (λ x. keeps x refl) (released_adapters-legal r ((number, target) ∷ []) told legal)
adapters-legal s (Detach number) told is r t same early late keeps legal = stays-legal r t _ (λ x. keeps x refl) (released_adapters-legal r (spots (is_of number) s.adapters) told legal)
adapters-legal s (CreateResource u) told is r t same early late keeps legal = stays-legal r t told (λ x. keeps x (resource-stays r (joined_uri [] u) x)) legal
adapters-legal s (Load k text) told is r t same early late keeps legal = stays-legal r t told (λ x. keeps x (load-stays r k (reads_into r k text) x)) legal
adapters-legal s _ told is r t same early late keeps legal = stays-legal r t told (λ x. keeps x refl) legal

done_step-legal : (s : State) (c : Command View) → IsLegal s → refusal_of s c ≡ None → IsLegal (done_step s c).after
done_step-legal s c legal free =
    let r = reads s in
    let t = reading (model_after s.model c) in
    let rs = s.adapters in
    let ns = chain r c in
    let first = none-else_by _ _ free in
    let later = none-else_by _ _ first.1 in
    let up = r.above in
    let told = tell_chain up ns rs in
    let adapters = adapters-legal s c told refl r t refl first.0 later.0 (keeps-node s c) (record {
      few = omega (arith, legal.few, ap (λ (n : ℕ). n) (len-told up ns rs));
      distinct = rw (numbers-tell_chain up ns rs) legal.distinct;
      adapters = told-legal up r ns rs (none-where_so AdapterFull _ later.1) legal.adapters;
    }) in
    record { model = model-legal s c legal.model first.0 later.0; few = adapters.few; distinct = adapters.distinct; adapters = adapters.adapters }

pub step-legal : (s : State) (c : Command View) → KeepsLegal s c
step-legal s c legal =
    elim (refusal_of s c) as (λ r. refusal_of s c ≡ r → IsLegal (step_unless s c r).after) [ Some r ↦ λ e. legal | None ↦ λ e. done_step-legal s c legal e ] refl

-- an executed command leaves a legal state, even if memory may be refused
pub executed-legal : (s t : State) (c : Command View) (o : Outcome) → Executed s c o t → IsLegal s → IsLegal t
executed-legal s t c o x legal =
    elim (is_memory o) as (λ b. MatchBool b (IsWanting s c o t) (step s c ≡ record { outcome = o; after = t }) → IsLegal t) [
      | true ↦ λ y. subst IsLegal (sym y.state) legal
      | false ↦ λ e. subst IsLegal (ap (λ (q : Stepped). q.after) e) (step-legal s c legal)
    ] x

pub stepped-legal : (s t : State) (c : Command View) (r : Reply View) → IsLegal s → step s c ≡ record { outcome = Ok r; after = t } → IsLegal t
stepped-legal s t c r legal e = subst IsLegal (ap (λ (q : Stepped). q.after) e) (step-legal s c legal)
