-- The load of a text.
use Rattle.std.proofs.Common.{◌≡◌, ◌∙◌, ℕ, zero, suc, true, false, not, List, [], ◌∷◌, Option, Some, None, Ok, Err, length, nat_lt, slice_get, unwrap_or, arith, refl, sym, ap, subst}
use Rattle.std.specs.Prelude.{Result}
use Rattle.std.proofs.lemmas.Bool.Decides.{nat_tests}
use Rattle.std.proofs.lemmas.Option.{none-some, same_Some}
use Rattle.serde_json.specs.Data.{Data}
use Rattle.mm_types.specs.Conditions.{◌else_by◌, ◌unless◌, is_memory_refusal}
use Rattle.mm_types.specs.Resolved.{Metamodel}
use Rattle.mm_types.specs.declared.document_fault.DocFault.{DocFault}
use Rattle.mm_types.specs.declared.numbers.Node.TheVariants as node
use Rattle.mm_types.specs.declared.numbers.ResourceNo.{ResourceNo}
use Rattle.mm_types.specs.declared.refused.Refused.{Refused}
use Rattle.mm_types.specs.declared.refused.Refused.TheVariants.{AdapterFull, Document, Memory, NotEmpty}
use Rattle.models.specs.Reading.{Reading}
use Rattle.resource_docs.specs.Causes.{Answers, IsRead, Reads, parsed_json, reads_bytes, reads_if}
use Rattle.resource_docs.specs.Texts.{base_of}
use Rattle.resource_docs.specs.declared.doc.Doc.{Doc}
use Rattle.doc_loader.specs.Loading.{is_empty_resource}
use Rattle.models.specs.Existence.{node_refusal}
use Rattle.handshake.specs.Laws.{BringsSteadyTexts}
use Rattle.handshake.specs.Changes.{HasReadDocument, IsDocument}
use Rattle.handshake.specs.declared.change.Change.{Change}
use Rattle.handshake.specs.declared.change.Change.TheVariants.{NewResource, Load}
use Rattle.repository.specs.Loads.{load_refusal, reads_into, uri_at}
use Rattle.repository.specs.Proper.{IsProper}
use Rattle.repository.specs.Run.{Executed, is_plain}
use Rattle.repository.specs.State.{State, reads}
use Rattle.repository.specs.Step.{refusal_of, step_unless}
use Rattle.repository.specs.declared.command.Command.TheVariants as command
use Rattle.change_plans.proofs.RefusalLemmas.{IsNot, later-not, unless-not, where-not}
use Rattle.repository.proofs.PlanLemmas.{late-not-plain, loaded_as}

-- bytes that are read as a document are bytes of a JSON value that is read as the document
bytes-read : (m : Metamodel) (uri bytes : List ℕ) (doc : Doc) → reads_bytes m uri bytes ≡ Ok doc → IsRead m uri doc
unfolding reads_bytes
bytes-read m uri bytes doc is = by (parsed_json bytes) is
  where
    by : (o : Option Data) → reads_if m (base_of uri) o ≡ Ok doc → IsRead m uri doc
    by None h = absurd (cc)
    by (Some d) h = record { source = d; gives = h }

-- the document as which a text is read is one that reading gives
pub text-read : (r : Reading) (k : ResourceNo) (text : List ℕ) (doc : Doc) → reads_into r k text ≡ Ok doc → IsDocument r.metamodel doc
text-read r k text doc is = record { uri = uri_at r k; read = bytes-read r.metamodel (uri_at r k) text doc is }

-- a well-formed change brings a document that reading gives
pub proper-read : (r : Reading) (text : List ℕ) (c : Change) → IsProper r text c → HasReadDocument r.metamodel c
proper-read r text (Load k doc) proper = text-read r k text doc proper.0
proper-read r text _ proper = tt

-- joining leaves the texts that a well-formed change brings as they are
pub proper-steady : (r : Reading) (text : List ℕ) (c : Change) → IsProper r text c → BringsSteadyTexts c
proper-steady r text (NewResource u) proper = proper
proper-steady r text (Load k doc) proper = proper.1
proper-steady r text _ proper = tt

---------------------------------------------------------------- what is answered

-- a resource's text is read in its URI
pub read-into : (s : State) (k : ResourceNo) (text : List ℕ) (m : Metamodel) (uri : List ℕ) (x : Result Doc DocFault) → m ≡ s.model.metamodel → Some uri ≡ slice_get s.model.values.uris k.0 → reads_bytes m uri text ≡ x → reads_into (reads s) k text ≡ x
read-into s k text m uri x is some h = (λ i. reads_bytes (sym is i) (sym (ap (λ (o : Option (List ℕ)). unwrap_or o []) some) i) text) ∙ h

-- the result of reading a text in the URI of a resource
pub read-answers : (s : State) (k : ResourceNo) (text : List ℕ) (m : Metamodel) (uri : List ℕ) (x : Result Doc Refused) → m ≡ s.model.metamodel → Some uri ≡ slice_get s.model.values.uris k.0 → Reads x m uri text → Answers x (reads_into (reads s) k text)
read-answers s k text m uri x is some h = subst (Answers x) (sym (read-into s k text m uri _ is some refl)) h

below-length : {X : Type 0} (xs : List X) (i : ℕ) (x : X) → Some x ≡ slice_get xs i → nat_lt i (length xs) ≡ true
below-length [] i x h = absurd (none-some x (sym h))
below-length (y ∷ ys) zero x h = grind (arith, nat_tests)
below-length (y ∷ ys) (suc i) x h = let low = below-length ys i x h in grind (arith, nat_tests)

-- a resource that has a URI exists
pub resource-there : (s : State) (k : ResourceNo) (uri : List ℕ) → Some uri ≡ slice_get s.model.values.uris k.0 → node_refusal (reads s) (node.Resource k) ≡ None
resource-there s k uri some = let there = below-length s.model.values.uris k.0 uri some in rw there refl

loaded-not-plain : (s : State) (k : ResourceNo) (x : Result Doc DocFault) → node_refusal (reads s) (node.Resource k) ≡ None → IsNot is_plain (loaded_as s k x)
unfolding loaded_as
loaded-not-plain s k (Ok doc) there = rw there (later-not is_plain _ _ (late-not-plain (reads s) (Load k doc)) (where-not is_plain AdapterFull _ refl))
loaded-not-plain s k (Err f) there = rw there (later-not is_plain _ _ (later-not is_plain _ _ (unless-not is_plain NotEmpty (is_empty_resource (reads s) k) refl) refl) (where-not is_plain AdapterFull _ refl))

pub load_out_of_memory : (s : State) (k : ResourceNo) (text : List ℕ) → node_refusal (reads s) (node.Resource k) ≡ None → Executed s (command.Load k text) (Err (record { refused = Memory; given_back = None })) s
unfolding loaded_as
load_out_of_memory s k text there = record { may = ap not (loaded-not-plain s k (reads_into (reads s) k text) there); outcome = refl; state = refl }

-- that a load is refused
abbrev Refuses : State → ResourceNo → List ℕ → Refused → Type 0
Refuses s k text r = Executed s (command.Load k text) (Err (record { refused = r; given_back = None })) s

-- a fault is the answer if there is no other refusal
pub load_faulty : (s : State) (k : ResourceNo) (text : List ℕ) (f : DocFault) (r : Refused) → node_refusal (reads s) (node.Resource k) ≡ None → reads_into (reads s) k text ≡ Err f → Some r ≡ load_refusal (reads s) k (Err f)
    → Refuses s k text r
unfolding loaded_as
load_faulty s k text f r there is answered =
    elim (is_empty_resource (reads s) k) as (λ b. is_empty_resource (reads s) k ≡ b → Some r ≡ (NotEmpty unless b else_by Some (Document f)) → Refuses s k text r) [
      | true ↦ λ empty said. as-said (Document f) refl (found (Document f) (rw empty refl)) (same_Some r (Document f) said)
      | false ↦ λ some said. as-said NotEmpty refl (found NotEmpty (rw some refl)) (same_Some r NotEmpty said)
    ] refl answered
  where
    found : (q : Refused) → load_refusal (reads s) k (Err f) ≡ Some q → refusal_of s (command.Load k text) ≡ Some q
    found q h = ap (loaded_as s k) is ∙ rw (there, h) refl

    as-said : (q : Refused) → is_memory_refusal q ≡ false → refusal_of s (command.Load k text) ≡ Some q → r ≡ q → Refuses s k text r
    as-said q other h same = subst (Refuses s k text) (sym same) (rw other (ap (step_unless s (command.Load k text)) h))
