-- The step of a command, by its plan or the refusal of the plan.
use Rattle.std.proofs.Common.{◌≡◌, inl, inr, Bool, true, false, not, List, [], ◌++◌, Option, Some, None, Ok, Err, if◌then◌else◌, refl, ap, sym, subst, ◌∙◌}
use Rattle.std.specs.Prelude.{MatchBool, Result, ◌&&◌, is_some, ℕ, option_map, IfErr, IsErrAnd, IsFalse}
use Rattle.std.specs.Option.{option_map_or}
use Rattle.std.proofs.lemmas.Result.{err_from_is_err_and}
use Rattle.mm_types.specs.Conditions.{◌else_by◌, ◌unless◌, ◌where_so◌, is_memory_refusal}
use Rattle.mm_types.specs.declared.refused.Refused.{Refused}
use Rattle.mm_types.specs.declared.refused.Refused.TheVariants.{NoObject, NoResource, NoClass, Abstract, NoFeature, NotSingle, NotMany, TextLength, AdapterFull, Memory}
use Rattle.mm_types.specs.declared.value.Value.{Value}
use Rattle.mm_types.specs.declared.numbers.AdapterNo.{AdapterNo}
use Rattle.mm_types.specs.declared.numbers.FeatureNo.{FeatureNo}
use Rattle.mm_types.specs.declared.numbers.Node.{Node}
use Rattle.mm_types.specs.declared.numbers.Node.TheVariants as node
use Rattle.mm_types.specs.declared.numbers.ResourceNo.{ResourceNo}
use Rattle.mm_types.specs.Lookups as lookups
use Rattle.mm_types.specs.Resolved.{Metamodel}
use Rattle.mm_types.specs.Shapes.{shape}
use Rattle.notice_chain.specs.Listed.{is_chain_full, tell_chain, told_list}
use Rattle.notice_chain.specs.Released.{Released, released_adapters}
use Rattle.notice_chain.specs.View.{View}
use Rattle.notice_chain.specs.declared.notice.Notice.{Notice}
use Rattle.adapter_list.specs.Refusals.{IsChainRefusal}
use Rattle.models.specs.Legal.{is_short_text}
use Rattle.models.specs.Model.{Model, reading}
use Rattle.models.specs.Reading.{Reading, has_feature, is_node_live, is_resource_there, is_value_live}
use Rattle.models.specs.Existence.{end_refusal, node_refusal, value_refusal}
use Rattle.mm_types.specs.declared.end.End.{End}
use Rattle.handshake.specs.Effects as effects
use Rattle.change_plans.specs.Plans.{looks_first}
use Rattle.handshake.specs.Refusals.{early_refusal, kind_refusal, late_refusal, named_refusal, uri_refusal, value_of}
use Rattle.handshake.specs.FeatureChanges.{chain}
use Rattle.mm_types.specs.declared.document_fault.DocFault.{DocFault}
use Rattle.resource_docs.specs.declared.doc.Doc.{Doc}
use Rattle.handshake.specs.declared.act.Act.{Act}
use Rattle.handshake.specs.declared.act.Act.TheVariants.{Set, Unset, Resolve}
use Rattle.handshake.specs.declared.change.Change.{Change}
use Rattle.handshake.specs.declared.change.Change.TheVariants.{At, Create, Delete, NewResource, Load}
use Rattle.repository.specs.Answers.{answer_of}
use Rattle.repository.specs.declared.command.Command.{Command}
use Rattle.repository.specs.declared.command.Command.TheVariants as command
use Rattle.repository.specs.declared.reply.Answer.{Answer}
use Rattle.repository.specs.declared.reply.Answer.TheVariants as answer
use Rattle.repository.specs.Run.{Executed, is_plain}
use Rattle.repository.specs.State.{State, reads}
use Rattle.repository.specs.Step.{Stepped, done_step, refusal_of, step, step_unless}
use Rattle.repository.specs.Views.{command_of}
use Rattle.repository.specs.Prepared.{TellsAll}
use Rattle.std.proofs.lemmas.Option.{none-some}
use Rattle.web_uris.proofs.JoinFacts.{joined_uri-web}
use Rattle.repository.specs.Leaving.{going_with}
use Rattle.repository.specs.Loads.{load_of, load_refusal, objects_of}
use Rattle.repository.specs.Proper.{IsProper}
use Rattle.repository.specs.Refusals as of_command
use Rattle.repository.specs.Refusals.{IsPlanRefusal, resource_refusal}
use Rattle.handshake.proofs.KnownLemmas.{none-else_by, none-unless}
use Rattle.change_plans.proofs.RefusalLemmas.{IsNot, late-not, late-refused, later-not, unless-not, where-not}
use Rattle.std.proofs.lemmas.Bool.{and_parts}

-- what holds of the notifications that are added to an empty chain holds of the chain
pub of-added : (P : List Notice → Type 0) (old new : List Notice) → old ≡ [] → (ns : List Notice) × (new ≡ old ++ ns) × P ns → P new
of-added P old new empty added = subst P (sym (added.1 ∙ ap (λ (xs : List Notice). xs ++ added.0) empty)) added.2

-- that a change is well-formed, and not refused early
pub record IsAsked (s : State) (text : List ℕ) (c : Change) : Type 0 where
  pub early : early_refusal (reads s) c ≡ None
  pub proper : IsProper (reads s) text c

full : State → Change → Option Refused
full s c = AdapterFull where_so is_chain_full (reads s).above (chain (reads s) c) s.adapters

---------------------------------------------------------------- the refusal of a change

both-same : (b : Bool) → (b && b) ≡ b
both-same true = refl
both-same false = refl

-- a URI that joining gives is refused like the same text
uri-refused : (r : Reading) (u : List ℕ) → resource_refusal r u (Some u) ≡ uri_refusal r u
uri-refused r u = rw (both-same (is_short_text u)) refl

-- if a text's URI is not refused, it is not refused as a change
pub uri-allowed : (r : Reading) (t u : List ℕ) → resource_refusal r t (Some u) ≡ None → uri_refusal r u ≡ None
uri-allowed r t u late =
    let of_text = none-else_by (TextLength unless (is_short_text t && is_short_text u)) _ late in
    let short = and_parts (is_short_text t) (is_short_text u) (none-unless TextLength (is_short_text t && is_short_text u) of_text.0) in
    rw (short.1) of_text.1

-- the refusals of a resource with a URI that joining gives, by its text
module _ (s : State) (u : List ℕ) where
  asked_of : Option (List ℕ) → Option Refused
  asked_of uri = resource_refusal (reads s) u uri else_by (AdapterFull where_so is_chain_full (reads s).above (option_map_or (chain (reads s)) (option_map NewResource uri) []) s.adapters)

-- the refusals of a load, by the result of reading its text
module _ (s : State) (k : ResourceNo) where
  unfoldable pub loaded_as : Result Doc DocFault → Option Refused
  loaded_as x = node_refusal (reads s) (node.Resource k) else_by load_refusal (reads s) k x else_by (AdapterFull where_so is_chain_full (reads s).above (option_map_or (chain (reads s)) (load_of k x) []) s.adapters)

-- the refusal if none is found before planning
refusal-planned : (s : State) (text : List ℕ) (c : Change) → IsProper (reads s) text c → early_refusal (reads s) c ≡ None → refusal_of s (command_of text c) ≡ (late_refusal (reads s) c else_by full s c)
unfolding full asked_of loaded_as
refusal-planned s text (NewResource u) web early =
    ap (asked_of s u) (joined_uri-web [] u web) ∙ ap (λ (o : Option Refused). o else_by full s (NewResource u)) (uri-refused (reads s) u)
refusal-planned s text (Load k doc) proper early = ap (loaded_as s k) proper.0 ∙ rw early refl
refusal-planned s text c brought early = ap (λ (o : Option Refused). o else_by late_refusal (reads s) c else_by full s c) early

-- if two conditions give none of these refusals, both one after the other give none
---------------------------------------------------------------- what is found first is not out of memory

abbrev no_memory : Refused → Bool
no_memory = is_memory_refusal

node-not-memory : (r : Reading) (n : Node) → IsNot no_memory (node_refusal r n)
node-not-memory r n = later-not no_memory _ _ (unless-not no_memory NoObject (is_node_live r n) refl) (unless-not no_memory NoResource (is_resource_there r n) refl)

pub end-not-memory : (r : Reading) (e : End) → IsNot no_memory (end_refusal r e)
end-not-memory r e = later-not no_memory _ _ (node-not-memory r e.node) (unless-not no_memory NoFeature (has_feature r e.node e.feature) refl)

value-not-memory : (r : Reading) (e : End) (v : Value) → IsNot no_memory (value_refusal r e v)
value-not-memory r e v = later-not no_memory _ _ (unless-not no_memory NoObject (is_node_live r e.node && is_value_live r v) refl) (end-not-memory r e)

named-not-memory : (r : Reading) (e : End) (q : Option Value) → IsNot no_memory (option_map_or (value_refusal r e) q (end_refusal r e))
named-not-memory r e None = end-not-memory r e
named-not-memory r e (Some v) = value-not-memory r e v

kind-not-memory : (m : Metamodel) (f : FeatureNo) (a : Act) → IsNot no_memory (kind_refusal m f a)
kind-not-memory m f (Set v) = unless-not no_memory NotSingle (shape m f).is_single refl
kind-not-memory m f Unset = refl
kind-not-memory m f (Resolve i) = refl
kind-not-memory m f _ = where-not no_memory NotMany (shape m f).is_single refl

early-not-memory : (r : Reading) (c : Change) → IsNot no_memory (early_refusal r c)
early-not-memory r (At e a) = later-not no_memory (named_refusal r e a) (kind_refusal r.metamodel e.feature a) (named-not-memory r e (value_of a)) (kind-not-memory r.metamodel e.feature a)
early-not-memory r (Create c) = later-not no_memory _ _ (unless-not no_memory NoClass (is_some (lookups.class r.metamodel c)) refl) (unless-not no_memory Abstract (lookups.is_concrete r.metamodel c) refl)
early-not-memory r (Delete o) = node-not-memory r (node.Object o)
early-not-memory r (Load k doc) = node-not-memory r (node.Resource k)
early-not-memory r _ = refl

---------------------------------------------------------------- what is found later is not plain

pub late-not-plain : (r : Reading) (c : Change) → IsNot is_plain (late_refusal r c)
late-not-plain r c = late-not is_plain (record { wrong_type = refl; text_length = refl; index = refl; duplicate = refl; bound = refl; recursive = refl; limit = refl; resource_exists = refl; not_empty = refl; not_proxy = refl; unloaded = refl; unresolved = refl; unmatched = refl }) r c

full-not-plain : (s : State) (c : Change) → IsNot is_plain (full s c)
unfolding full
full-not-plain s c = where-not is_plain AdapterFull (is_chain_full (reads s).above (chain (reads s) c) s.adapters) refl

not-plain : (s : State) (text : List ℕ) (c : Change) → IsProper (reads s) text c → early_refusal (reads s) c ≡ None → not (option_map_or is_plain (refusal_of s (command_of text c)) false) ≡ true
not-plain s text c brought early =
    ap (λ (o : Option Refused). not (option_map_or is_plain o false)) (refusal-planned s text c brought early)
    ∙ ap not (later-not is_plain (late_refusal (reads s) c) (full s c) (late-not-plain (reads s) c) (full-not-plain s c))

---------------------------------------------------------------- what is executed

refused_as : (s : State) (text : List ℕ) (c : Change) (r : Refused) → is_memory_refusal r ≡ false → refusal_of s (command_of text c) ≡ Some r → Executed s (command_of text c) (Err (record { refused = r; given_back = None })) s
refused_as s text (At e a) r other found = rw other (ap (step_unless s (command_of text (At e a))) found)
refused_as s text c r other found = rw other (ap (step_unless s (command_of text c)) found)

-- the refusal that is found first
found-first : (s : State) (text : List ℕ) (c : Change) (r : Refused) → early_refusal (reads s) c ≡ Some r → refusal_of s (command_of text c) ≡ Some r
found-first s text (NewResource u) r e = absurd (none-some r e)
found-first s text c r e =
    let d : Command View = command_of text c in
    ap (λ (o : Option Refused). o else_by of_command.late_refusal (reads s) s.adapters d else_by of_command.full_refusal (reads s) s.adapters d) e

pub early_err : (s : State) (text : List ℕ) (c : Change) (r : Refused) → early_refusal (reads s) c ≡ Some r → Executed s (command_of text c) (Err (record { refused = r; given_back = None })) s
early_err s text c r e = refused_as s text c r (subst (IsNot no_memory) e (early-not-memory (reads s) c)) (found-first s text c r e)

pub out_of_memory : (s : State) (text : List ℕ) (c : Change) → IsProper (reads s) text c → early_refusal (reads s) c ≡ None → Executed s (command_of text c) (Err (record { refused = Memory; given_back = None })) s
out_of_memory s text (At e a) brought early = record { may = not-plain s text (At e a) brought early; outcome = refl; state = refl }
out_of_memory s text c brought early = record { may = not-plain s text c brought early; outcome = refl; state = refl }

-- the refusal that planning returns in place of a plan is one of these
pub plan_refusal : (s : Model) (c : Change) (r : Refused) → (IsFalse (is_memory_refusal r && looks_first c) → late_refusal (reading s) c ≡ (if is_memory_refusal r then None else Some r)) → IsPlanRefusal s c r
plan_refusal s c r h =
    elim (is_memory_refusal r) as (λ b. (IsFalse (b && looks_first c) → late_refusal (reading s) c ≡ (if b then None else Some r)) → MatchBool b (Unit {0}) (late_refusal (reading s) c ≡ Some r)) [
      | true ↦ λ _. tt
      | false ↦ λ found. found refl
    ] h

-- the same of a refusal that `?` passes on
pub passed_refusal : {T : Type 0} (s : Model) (c : Change) (r : Refused) (result : Result T Refused) → IsErrAnd result (λ q. q ≡ r) → IsPlanRefusal s c r → IfErr result (IsPlanRefusal s c)
passed_refusal s c r result is refused = let p = err_from_is_err_and result is in rw (p.1, p.2) refused

-- a change that planning refuses
pub planned_err : (s : State) (text : List ℕ) (c : Change) (r : Refused) → IsProper (reads s) text c → early_refusal (reads s) c ≡ None → IsPlanRefusal s.model c r → Executed s (command_of text c) (Err (record { refused = r; given_back = None })) s
planned_err s text c Memory brought early h = out_of_memory s text c brought early
planned_err s text c r brought early h = refused_as s text c r refl (refusal-planned s text c brought early ∙ ap (λ (o : Option Refused). o else_by full s c) h)

-- a change that is refused with the first refusal, early or late, that is not for memory
refused-either : (s : State) (text : List ℕ) (c : Change) (r : Refused) (o : Option Refused) → IsProper (reads s) text c → early_refusal (reads s) c ≡ o → (o else_by late_refusal (reads s) c) ≡ Some r → Executed s (command_of text c) (Err (record { refused = r; given_back = None })) s
refused-either s text c r None proper is found =
    planned_err s text c r proper is (plan_refusal s.model c r (λ h. late-refused (reads s) c r found))
refused-either s text c r (Some q) proper is found = early_err s text c r (is ∙ found)

pub first_err : (s : State) (text : List ℕ) (c : Change) (r : Refused) → IsProper (reads s) text c → (early_refusal (reads s) c else_by late_refusal (reads s) c) ≡ Some r → Executed s (command_of text c) (Err (record { refused = r; given_back = None })) s
first_err s text c r proper found = refused-either s text c r (early_refusal (reads s) c) proper refl found

-- the early and late refusals of a change, as they are found in the abstract model `m`
abbrev pub FoundOf : Model → Change → Option Refused → Type 0
FoundOf m c q = q ≡ (early_refusal (reading m) c else_by late_refusal (reading m) c)

found-there : (s : State) (m : Model) (c : Change) (q x : Option Refused) → m ≡ s.model → FoundOf m c q → q ≡ x → (early_refusal (reads s) c else_by late_refusal (reads s) c) ≡ x
found-there s m c q x is found known = ap (λ (m : Model). early_refusal (reading m) c else_by late_refusal (reading m) c) (sym is) ∙ (sym found ∙ known)

pub refused-as-found : (s : State) (m : Model) (c : Change) (q : Option Refused) (r : Refused) → IsProper (reads s) [] c → m ≡ s.model → FoundOf m c q → q ≡ Some r → Executed s (command_of [] c) (Err (record { refused = r; given_back = None })) s
refused-as-found s m c q r proper is found known = first_err s [] c r proper (found-there s m c q (Some r) is found known)

pub free-as-found : (s : State) (m : Model) (c : Change) (q : Option Refused) → m ≡ s.model → FoundOf m c q → q ≡ None → (early_refusal (reads s) c ≡ None) × (late_refusal (reads s) c ≡ None)
free-as-found s m c q is found known = none-else_by _ _ (found-there s m c q None is found known)

-- a change that the adapters refuse
pub chain_err : (s : State) (text : List ℕ) (c : Change) (made : List Notice) (r : Refused) → IsProper (reads s) text c → early_refusal (reads s) c ≡ None → late_refusal (reads s) c ≡ None → TellsAll (reads s).above made (chain (reads s) c) s.adapters → IsChainRefusal (is_chain_full (reads s).above made s.adapters) r → Executed s (command_of text c) (Err (record { refused = r; given_back = None })) s
unfolding full
chain_err s text c made r brought early late heard (inl e) = rw e (out_of_memory s text c brought early)
chain_err s text c made r brought early late heard (inr h) =
    let found : refusal_of s (command_of text c) ≡ Some AdapterFull = refusal-planned s text c brought early ∙ ap (λ (o : Option Refused). o else_by full s c) late ∙ ap (λ b. AdapterFull where_so b) (sym heard.full ∙ h.1) in
    rw (h.0) (refused_as s text c AdapterFull refl found)

-- the reply and the state that a change gives, if these adapters leave
abbrev replied : State → Change → List Notice → Model → Answer → Released → Stepped
replied s c ns m a x = record {
  outcome = Ok (record { answer = a; told = told_list (reads s).above ns s.adapters ++ x.told; released = x.views });
  after = record { model = m; adapters = x.others };
}

done_of : (s : State) (u : List ℕ) → Option Change → Stepped
done_of s u made =
    let ns = option_map_or (chain (reads s)) made [] in
    let x : Released = released_adapters [] (tell_chain (reads s).above ns s.adapters) in
    record {
      outcome = Ok (record { answer = answer_of (reads s) s.adapters (command.CreateResource u); told = told_list (reads s).above ns s.adapters ++ x.told; released = x.views });
      after = record { model = option_map_or (effects.model_after s.model) made s.model; adapters = x.others };
    }

-- the step of a load, by the result of reading its text
done_loaded : (s : State) (k : ResourceNo) → Result Doc DocFault → Stepped
done_loaded s k read =
    let ns = option_map_or (chain (reads s)) (load_of k read) [] in
    let x : Released = released_adapters [] (tell_chain (reads s).above ns s.adapters) in
    record {
      outcome = Ok (record { answer = answer.Loaded (objects_of read); told = told_list (reads s).above ns s.adapters ++ x.told; released = x.views });
      after = record { model = option_map_or (effects.model_after s.model) (load_of k read) s.model; adapters = x.others };
    }

-- the adapters that a change with these notifications releases
abbrev pub releases_of : State → Change → List Notice → Released
releases_of s c ns = released_adapters (going_with (reads s) s.adapters c) (tell_chain (reads s).above ns s.adapters)

done_change : (s : State) (text : List ℕ) (c : Change) → IsProper (reads s) text c → done_step s (command_of text c) ≡ replied s c (chain (reads s) c) (effects.model_after s.model c) (answer_of (reads s) s.adapters (command_of text c)) (releases_of s c (chain (reads s) c))
unfolding done_of done_loaded
done_change s text (NewResource u) web = ap (λ (o : Option (List ℕ)). done_of s u (option_map NewResource o)) (joined_uri-web [] u web)
done_change s text (Load k doc) proper =
    let c = Load k doc in
    ap (done_loaded s k) proper.0
    ∙ ap (λ (a : Answer). replied s c (chain (reads s) c) (effects.model_after s.model c) a (releases_of s c (chain (reads s) c))) (sym (ap (λ (x : Result Doc DocFault). answer.Loaded (objects_of x)) proper.0))
done_change s text _ brought = refl

-- a change that was made, with the notifications that an adapter may have to get
pub changed : (s : State) (text : List ℕ) (c : Change) (made : List Notice) → IsProper (reads s) text c → early_refusal (reads s) c ≡ None → late_refusal (reads s) c ≡ None → TellsAll (reads s).above made (chain (reads s) c) s.adapters → is_chain_full (reads s).above made s.adapters ≡ false
    → step s (command_of text c) ≡ replied s c made (effects.model_after s.model c) (answer_of (reads s) s.adapters (command_of text c)) (releases_of s c made)
unfolding full
changed s text c made brought early late heard free =
    let found : refusal_of s (command_of text c) ≡ None = refusal-planned s text c brought early ∙ ap (λ (o : Option Refused). o else_by full s c) late ∙ ap (λ b. AdapterFull where_so b) (sym heard.full ∙ free) in
    ap (step_unless s (command_of text c)) found ∙ rw (heard.told, heard.adapters) (done_change s text c brought)

-- the same, for a reply and a state that are known by their parts
pub changed_to : (s t : State) (text : List ℕ) (c : Change) (made : List Notice) (a : Answer) (told : List (AdapterNo × Notice)) (views : List (AdapterNo × View)) → IsProper (reads s) text c → early_refusal (reads s) c ≡ None → late_refusal (reads s) c ≡ None → TellsAll (reads s).above made (chain (reads s) c) s.adapters → is_chain_full (reads s).above made s.adapters ≡ false
    → a ≡ answer_of (reads s) s.adapters (command_of text c) → told ≡ told_list (reads s).above made s.adapters ++ (releases_of s c made).told → views ≡ (releases_of s c made).views → t.model ≡ effects.model_after s.model c → t.adapters ≡ (releases_of s c made).others
    → step s (command_of text c) ≡ record { outcome = Ok (record { answer = a; told = told; released = views }); after = t }
changed_to s t text c made a told views brought early late heard free answered told_is views_are model adapters =
    changed s text c made brought early late heard free
    ∙ sym (λ i. record { outcome = Ok (record { answer = answered i; told = told_is i; released = views_are i }); after = record { model = model i; adapters = adapters i } })
