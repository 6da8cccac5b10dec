-- Commands of a repository without adapters: if nothing refuses a command, it makes its change.
use Rattle.std.proofs.Common.{◌≡◌, ◌∙◌, ℕ, true, false, ◌&&◌, List, [], Option, None, is_some, length, nat_lt, option_map, refl, ap}
use Rattle.std.specs.Prelude.{Ok, Result}
use Rattle.std.specs.Option.{option_map_or}
use Rattle.mm_types.specs.Conditions.{◌unless◌, ◌where_so◌, ◌else_by◌}
use Rattle.mm_types.specs.declared.document_fault.DocFault.{DocFault}
use Rattle.mm_types.specs.declared.limits.TheConstants.{RESOURCES}
use Rattle.mm_types.specs.declared.numbers.FeatureNo.{FeatureNo}
use Rattle.mm_types.specs.declared.numbers.Node.TheVariants as node
use Rattle.mm_types.specs.declared.numbers.ObjectNo.{ObjectNo}
use Rattle.mm_types.specs.declared.numbers.ResourceNo.{ResourceNo}
use Rattle.mm_types.specs.declared.refused.Refused.TheVariants.{AdapterFull, BadUri, Limit, ResourceExists, TextLength}
use Rattle.web_uris.specs.Joined.{IsWebUri}
use Rattle.web_uris.proofs.JoinFacts.{joined_uri-web}
use Rattle.models.specs.Legal.{is_short_text}
use Rattle.models.specs.Model.{Model, reading}
use Rattle.models.specs.Reading.{has_uri}
use Rattle.notice_chain.specs.View.{View}
use Rattle.resource_docs.specs.declared.doc.Doc.{Doc}
use Rattle.handshake.specs.Effects.{model_after}
use Rattle.models.specs.Existence.{node_refusal}
use Rattle.handshake.specs.declared.change.Change.TheVariants.{At, Load, NewResource, ResolveAll}
use Rattle.handshake.specs.declared.act.Act.TheVariants.{Resolve}
use Rattle.mm_types.specs.declared.end.End.{End}
use Rattle.reloading.specs.Orders.{IsAllowed}
use Rattle.repository.specs.Loads.{load_of, load_refusal, reads_into}
use Rattle.repository.specs.State.{reads, state_of_model}
use Rattle.repository.specs.Step.{refusal_of, reply, step, step_unless}
use Rattle.repository.specs.declared.command.Command.{Command}
use Rattle.repository.specs.declared.command.Command.TheVariants as command

-- the command succeeds, and leaves a model
abbrev pub IsStep : Model → Command View → Model → Type 0
IsStep t c u = step (state_of_model t) c ≡ record { outcome = Ok (reply (reads (state_of_model t)) [] c); after = state_of_model u }

pub resolved : (t : Model) (e : End) (i : ℕ) → IsAllowed t (At e (Resolve i)) → IsStep t (command.At e (Resolve i)) (model_after t (At e (Resolve i)))
resolved t e i ok = ap (step_unless (state_of_model t) (command.At e (Resolve i))) (λ j. ok.early j else_by ok.late j else_by (AdapterFull where_so false))

pub all-resolved : (t : Model) → IsStep t command.ResolveAll (model_after t ResolveAll)
all-resolved t = refl

-- a text that is read as a document makes its load
pub filled : (t : Model) (j : ResourceNo) (text : List ℕ) (doc : Doc) → reads_into (reading t) j text ≡ Ok doc → IsAllowed t (Load j doc) → IsStep t (command.Load j text) (model_after t (Load j doc))
filled t j text doc read ok =
    let cmd : Command View = command.Load j text in
    let not_refused : refusal_of (state_of_model t) cmd ≡ None =
    ap (λ (x : Result Doc DocFault). node_refusal (reading t) (node.Resource j) else_by load_refusal (reading t) j x else_by (AdapterFull where_so false)) read
    ∙ (λ i. ok.early i else_by ok.late i else_by (AdapterFull where_so false)) in
    ap (step_unless (state_of_model t) cmd) not_refused
    ∙ ap (λ (x : Result Doc DocFault). record { outcome = Ok (reply (reads (state_of_model t)) [] cmd); after = state_of_model (option_map_or (model_after t) (load_of j x) t) }) read

-- a text that joining leaves as it is makes a resource with this URI
pub made : (t : Model) (u : List ℕ) → IsWebUri u → is_short_text u ≡ true → nat_lt (length t.values.uris) RESOURCES ≡ true → has_uri (reading t) u ≡ false → IsStep t (command.CreateResource u) (model_after t (NewResource u))
made t u web short few new =
    let cmd : Command View = command.CreateResource u in
    let own = joined_uri-web [] u web in
    let not_refused : refusal_of (state_of_model t) cmd ≡ None =
    ap (λ (x : Option (List ℕ)). (
    TextLength unless (is_short_text u && option_map_or is_short_text x true) else_by
    Limit unless nat_lt (length t.values.uris) RESOURCES else_by
    BadUri unless is_some x else_by
    ResourceExists where_so option_map_or (has_uri (reading t)) x false) else_by
    (AdapterFull where_so false)) own
    ∙ (λ j. (
    TextLength unless (short j && short j) else_by
    Limit unless few j else_by
    BadUri unless true else_by
    ResourceExists where_so new j) else_by
    (AdapterFull where_so false)) in
    ap (step_unless (state_of_model t) cmd) not_refused
    ∙ ap (λ (x : Option (List ℕ)). record { outcome = Ok (reply (reads (state_of_model t)) [] cmd); after = state_of_model (option_map_or (model_after t) (option_map NewResource x) t) }) own
