-- A change that puts one link and notifies no adapter: its answer, and the remembered fragments.
use Rattle.std.proofs.Common.{◌≡◌, ℕ, Bool, true, false, not, ◌&&◌, List, [], ◌∷◌, Option, Some, None, is_some, if◌then◌else◌, refl, sym, ap, subst, ◌∙◌}
use Rattle.std.specs.Option.{option_map_or}
use Rattle.links.specs.declared.plan.Edit.TheVariants as edit
use Rattle.std.proofs.lemmas.Option.{none-some}
use Rattle.std.proofs.lemmas.Bool.{or_parts}
use Rattle.mm_types.specs.declared.end.End.{End}
use Rattle.mm_types.specs.declared.numbers.Node.{Node}
use Rattle.mm_types.specs.declared.numbers.Node.TheVariants as node
use Rattle.mm_types.specs.declared.value.Value.{Value}
use Rattle.mm_types.specs.declared.value.Value.TheVariants as value
use Rattle.models.specs.Model.{Model, reading}
use Rattle.models.specs.Reading.{Reading, is_repeat, position_for, shape_at}
use Rattle.notice_chain.specs.Listed.{Listed}
use Rattle.notice_chain.specs.Released.{is_gone_at, spots}
use Rattle.removal.specs.Outer.{is_in_subtree}
use Rattle.adapter_list.specs.Hearing.{IsUnheard, is_heard}
use Rattle.handshake.specs.FeatureChanges.{chain}
use Rattle.handshake.specs.Displaced.{displaces, is_plain_add}
use Rattle.change_plans.specs.LonePuts.{lone_put, of_put, put_at}
use Rattle.change_plans.specs.Plans.{IsPlanOf}
use Rattle.handshake.specs.Refusals.{early_refusal, late_refusal}
use Rattle.handshake.specs.declared.change.Change.{Change}
use Rattle.handshake.specs.declared.change.Change.TheVariants.{At}
use Rattle.handshake.specs.declared.act.Act.TheVariants.{Add, Set}
use Rattle.links.specs.declared.link.NewLink.{NewLink}
use Rattle.handshake.proofs.CutLinkEndLemmas.{plain-not}
use Rattle.change_plans.proofs.LonePutLemmas.{put-notifiers}
use Rattle.repository.specs.Answers.{answer_of}
use Rattle.repository.specs.Prepared.{IsReady}
use Rattle.repository.specs.Proper.{IsProper}
use Rattle.repository.specs.Puts.{is_put_heard}
use Rattle.repository.specs.State.{State, reads}
use Rattle.repository.specs.Views.{command_of}
use Rattle.repository.specs.declared.reply.Answer.{Answer}
use Rattle.repository.specs.declared.reply.Answer.TheVariants as answer
use Rattle.repository.proofs.AdapterLemmas.{unheard-tells}

not-plain : (a b c : Bool) (x p : NewLink) → (if a then None else if b then None else if c then None else Some x) ≡ Some p → b ≡ false
not-plain true b c x p h = absurd (none-some p h)
not-plain false true c x p h = absurd (none-some p h)
not-plain false false c x p h = refl

-- an object that is added is not in the list
new-added : (r : Reading) (e : End) (v : Value) (i : Option ℕ) (p : NewLink) → lone_put r (At e (Add v i)) ≡ Some p → is_repeat r e v ≡ false
new-added r e (value.Object o) i p h =
    let v = value.Object o in
    (plain-not (shape_at r e).is_reference (is_repeat r e v) (not-plain (displaces r e o) (is_plain_add r e v) (is_some (late_refusal r (At e (Add v i)))) (put_at r e (position_for r e i) o) p h)).1
new-added r e _ i p h = absurd (none-some p h)

pub add-answered : (r : Reading) (rs : List Listed) (e : End) (v : Value) (i : Option ℕ) (p : NewLink) → lone_put r (At e (Add v i)) ≡ Some p → answer.Flag true ≡ answer_of r rs (command_of [] (At e (Add v i)))
add-answered r rs e v i p h = ap (λ (b : Bool). answer.Flag (not b)) (sym (new-added r e v i p h))

-- if the put notifies no adapter, the chain does not either
put-unheard : (s : State) (c : Change) (p : NewLink) → lone_put (reads s) c ≡ Some p → is_put_heard s p ≡ false → IsUnheard (reads s).above (chain (reads s) c) s.adapters
put-unheard s c p lone none =
    let heard_at : Node → Bool = λ x. is_heard (reads s).above x s.adapters in
    let both = or_parts (heard_at p.end.node) (is_some p.opposite && heard_at (node.Object p.object)) none in
    put-notifiers (λ x. heard_at x ≡ false) (reads s) c p lone both.0 (λ some. sym (ap (λ b. b && heard_at (node.Object p.object)) some) ∙ both.1)

-- a change that is one put and notifies no adapter is ready
ready-put : (s : State) (c : Change) (p : NewLink) (a : Answer) → early_refusal (reads s) c ≡ None → IsProper (reads s) [] c → IsPlanOf false s.model c (of_put p) → a ≡ answer_of (reads s) s.adapters (command_of [] c) → IsUnheard (reads s).above (chain (reads s) c) s.adapters → IsReady s [] c a [] (edit.Put p ∷ []) [] []
ready-put s c p a early proper plan answered unheard =
    record {
      asked = early;
      allowed = plan.allowed;
      proper = proper;
      answered = answered;
      spots = ap (λ o. option_map_or (λ x. spots (is_gone_at (is_in_subtree (reads s) x)) s.adapters) o []) plan.removed.whose;
      fits = plan.fits;
      of_kind = plan.of_kind;
      links_made = plan.links_made;
      values_made = plan.values_made;
      tells = unheard-tells (reads s).above (chain (reads s) c) s.adapters unheard;
    }

-- an addition that is one put and notifies no adapter, by the results of its parts
pub add-ready : (s : State) (m : Model) (e : End) (v : Value) (i : Option ℕ) (q : Option NewLink) (p : NewLink) → m ≡ s.model → is_put_heard s p ≡ false → early_refusal (reading m) (At e (Add v i)) ≡ None → q ≡ lone_put (reading m) (At e (Add v i)) → q ≡ Some p
    → IsPlanOf false m (At e (Add v i)) (of_put p) → IsReady s [] (At e (Add v i)) (answer.Flag true) [] (edit.Put p ∷ []) [] []
add-ready s m e v i q p is none early found some plan =
    let c : Change = At e (Add v i) in
    let lone : lone_put (reads s) c ≡ Some p = subst (λ (x : Model). lone_put (reading x) c ≡ Some p) is (sym found ∙ some) in
    ready-put s c p (answer.Flag true) (subst (λ (x : Model). early_refusal (reading x) c ≡ None) is early) tt (subst (λ (x : Model). IsPlanOf false x c (of_put p)) is plan) (add-answered (reads s) s.adapters e v i p lone) (put-unheard s c p lone none)

-- a set, likewise
pub set-ready : (s : State) (m : Model) (e : End) (v : Value) (q : Option NewLink) (p : NewLink) → m ≡ s.model → is_put_heard s p ≡ false → early_refusal (reading m) (At e (Set v)) ≡ None → q ≡ lone_put (reading m) (At e (Set v)) → q ≡ Some p → IsPlanOf false m (At e (Set v)) (of_put p)
    → IsReady s [] (At e (Set v)) answer.Done [] (edit.Put p ∷ []) [] []
set-ready s m e v q p is none early found some plan =
    let c : Change = At e (Set v) in
    ready-put s c p answer.Done (subst (λ (x : Model). early_refusal (reading x) c ≡ None) is early) tt (subst (λ (x : Model). IsPlanOf false x c (of_put p)) is plan) refl (put-unheard s c p (subst (λ (x : Model). lone_put (reading x) c ≡ Some p) is (sym found ∙ some)) none)
