-- If nothing refuses a command, the change that it makes is allowed.
use Rattle.std.proofs.Common.{◌≡◌, ℕ, List, [], Option, Some, None, Ok, Err, option_map, refl, subst}
use Rattle.std.specs.Prelude.{Result}
use Rattle.std.proofs.lemmas.Option.{none-some, same_Some}
use Rattle.mm_types.specs.declared.document_fault.DocFault.{DocFault}
use Rattle.mm_types.specs.declared.numbers.Node.TheVariants as node
use Rattle.mm_types.specs.declared.numbers.ResourceNo.{ResourceNo}
use Rattle.notice_chain.specs.View.{View}
use Rattle.models.specs.Existence.{node_refusal}
use Rattle.resource_docs.specs.declared.doc.Doc.{Doc}
use Rattle.handshake.specs.Changes.{HasReadDocument}
use Rattle.handshake.specs.Laws.{IsBrought}
use Rattle.handshake.specs.Refusals as planned
use Rattle.handshake.specs.declared.change.Change.{Change}
use Rattle.handshake.specs.declared.change.Change.TheVariants as change
use Rattle.web_uris.specs.Joined.{joined_uri}
use Rattle.repository.specs.Loads.{load_of, load_refusal, reads_into}
use Rattle.repository.specs.Refusals.{change_of, early_refusal, late_refusal, resource_refusal}
use Rattle.repository.specs.State.{State, reads}
use Rattle.repository.specs.declared.command.Command.{Command}
use Rattle.repository.specs.declared.command.Command.TheVariants.{At, Create, Delete, CreateResource, Load, ResolveAll}
use Rattle.repository.proofs.LoadLemmas.{text-read}
use Rattle.repository.proofs.PlanLemmas.{uri-allowed}

-- nothing refuses a change, and it brings what reading and joining give
pub record IsAllowed (s : State) (x : Change) : Type 0 where
  pub early : planned.early_refusal (reads s) x ≡ None
  pub late : planned.late_refusal (reads s) x ≡ None
  pub read : HasReadDocument s.model.metamodel x
  pub brought : IsBrought x

same-allowed : (s : State) (y x : Change) → Some y ≡ Some x → IsAllowed s y → IsAllowed s x
same-allowed s y x is allowed = subst (IsAllowed s) (same_Some y x is) allowed

resource-allowed : (s : State) (t : List ℕ) (uri : Option (List ℕ)) (x : Change) → joined_uri [] t ≡ uri → option_map change.NewResource uri ≡ Some x → resource_refusal (reads s) t uri ≡ None → IsAllowed s x
resource-allowed s t None x is made late = absurd (none-some x made)
resource-allowed s t (Some u) x is made late = same-allowed s (change.NewResource u) x made (record { early = refl; late = uri-allowed (reads s) t u late; read = tt; brought = record { base = []; reference = t; gives = is } })

load-allowed : (s : State) (k : ResourceNo) (text : List ℕ) (read : Result Doc DocFault) (x : Change) → reads_into (reads s) k text ≡ read → load_of k read ≡ Some x
    → node_refusal (reads s) (node.Resource k) ≡ None → load_refusal (reads s) k read ≡ None → IsAllowed s x
load-allowed s k text (Err f) x is made early late = absurd (none-some x made)
load-allowed s k text (Ok doc) x is made early late = same-allowed s (change.Load k doc) x made (record { early = early; late = late; read = text-read (reads s) k text doc is; brought = tt })

pub change-allowed : (s : State) (c : Command View) (x : Change) → change_of (reads s) c ≡ Some x → early_refusal (reads s) s.adapters c ≡ None → late_refusal (reads s) s.adapters c ≡ None → IsAllowed s x
change-allowed s (At e a) x is early late = same-allowed s (change.At e a) x is (record { early = early; late = late; read = tt; brought = tt })
change-allowed s (Create c) x is early late = same-allowed s (change.Create c) x is (record { early = early; late = late; read = tt; brought = tt })
change-allowed s (Delete o) x is early late = same-allowed s (change.Delete o) x is (record { early = early; late = late; read = tt; brought = tt })
change-allowed s (CreateResource t) x is early late = resource-allowed s t (joined_uri [] t) x refl is late
change-allowed s (Load k text) x is early late = load-allowed s k text (reads_into (reads s) k text) x refl is early late
change-allowed s ResolveAll x is early late = same-allowed s change.ResolveAll x is (record { early = early; late = late; read = tt; brought = tt })
change-allowed s _ x is early late = absurd (none-some x is)
