-- Why a command is refused. If several refusals apply, the command is refused with the first in the order of their numbers, with one
-- exception: `Unmatched` comes after `Unresolved` and before `NoAdapter`. `Memory` is not among them; `specs/Run.antt` says when a command
-- may fail with `Memory`.
use Rattle.std.specs.Prelude.{◌≡◌, ℕ, ◌&&◌, MatchBool, true, false, nat_lt, length, List, [], Option, Some, None, is_some, option_map}
use Rattle.std.specs.Option.{option_map_or}
use Rattle.mm_types.specs.Conditions.{◌unless◌, ◌where_so◌, ◌else_by◌, is_memory_refusal}
use Rattle.mm_types.specs.declared.numbers.AdapterNo.{AdapterNo}
use Rattle.mm_types.specs.declared.refused.Refused.{Refused}
use Rattle.mm_types.specs.declared.refused.Refused.TheVariants.{NoAdapter, AdapterFull, TextLength, Limit, BadUri, ResourceExists, Dangling}
use Rattle.mm_types.specs.declared.numbers.Node.TheVariants as node
use Rattle.notice_chain.specs.View.{View}
use Rattle.notice_chain.specs.Listed.{Listed, adapter, is_chain_full}
use Rattle.notice_chain.specs.declared.notice.Notice.{Notice}
use Rattle.adapter_list.specs.Refusals.{attach_refusal, watch_refusal}
use Rattle.models.specs.Model.{Model, reading}
use Rattle.models.specs.Reading.{Reading, has_uri}
use Rattle.models.specs.Existence.{end_refusal, node_refusal, object_refusal}
use Rattle.handshake.specs.Refusals as planned
use Rattle.handshake.specs.FeatureChanges as planned_chain
use Rattle.handshake.specs.declared.change.Change.{Change}
use Rattle.handshake.specs.declared.change.Change.TheVariants as change
use Rattle.repository.specs.Loads.{load_of, load_refusal, reads_into}
use Rattle.repository.specs.declared.command.Command.{Command}
use Rattle.repository.specs.declared.command.Command.TheVariants as command
use Rattle.mm_types.specs.declared.read.Read.{Read}
use Rattle.mm_types.specs.declared.read.Read.TheVariants as asks
use Rattle.mm_types.specs.declared.read.ObjectRead.TheVariants.{Fragment}
use Rattle.mm_types.specs.declared.limits.TheConstants.{RESOURCES}
use Rattle.web_uris.specs.Joined.{joined_uri}
use Rattle.models.specs.Legal.{is_short_text}
use Rattle.web_uris.specs.Addresses.{has_mark}
use Rattle.fragment_paths.specs.Fragments.{fragment}
use Rattle.doc_writer.specs.Saved.{save_refusal}

-- the change of the model that a command asks for; none if the command asks for no change, or if its text gives no URI or no document. The
-- change of a load has the document that its text is read as
abbrev pub change_of : Reading → Command View → Option Change
change_of r (command.At e a) = Some (change.At e a)
change_of r (command.Create c) = Some (change.Create c)
change_of r (command.Delete o) = Some (change.Delete o)
change_of r (command.CreateResource t) = option_map change.NewResource (joined_uri [] t)
change_of r (command.Load k text) = load_of k (reads_into r k text)
change_of r command.ResolveAll = Some change.ResolveAll
change_of r _ = None

-- the notifications of the change that a command asks for; none if the command asks for no change
abbrev pub chain : Reading → Command View → List Notice
chain r c = option_map_or (planned_chain.chain r) (change_of r c) []

---------------------------------------------------------------- what is found without memory

abbrev pub adapter_refusal : List Listed → AdapterNo → Option Refused
adapter_refusal rs number = NoAdapter unless is_some (adapter number rs)

-- why a read is refused early: something that the read names doesn't exist
abbrev pub early_read_refusal : Reading → List Listed → Read → Option Refused
early_read_refusal r rs (asks.At e q) = end_refusal r e
early_read_refusal r rs (asks.Of o q) = object_refusal r o
early_read_refusal r rs (asks.Under n q) = node_refusal r n
early_read_refusal r rs (asks.Save k) = node_refusal r (node.Resource k)
early_read_refusal r rs (asks.Adapter number q) = adapter_refusal rs number
early_read_refusal r rs _ = None

abbrev pub early_refusal : Reading → List Listed → Command View → Option Refused
early_refusal r rs (command.CreateResource t) = None
early_refusal r rs (command.Load k text) = node_refusal r (node.Resource k)
early_refusal r rs (command.Attach number target deep view) = node_refusal r target
early_refusal r rs (command.Watch number target deep) = node_refusal r target
early_refusal r rs (command.Unwatch number target) = node_refusal r target else_by adapter_refusal rs number
early_refusal r rs (command.Detach number) = adapter_refusal rs number
early_refusal r rs (command.Read q) = early_read_refusal r rs q
early_refusal r rs c = option_map_or (planned.early_refusal r) (change_of r c) None

---------------------------------------------------------------- what is found later

-- why no resource can be made from a text; `uri` is the URI that the text gives, if it gives one
abbrev pub resource_refusal : Reading → List ℕ → Option (List ℕ) → Option Refused
resource_refusal r t uri =
    TextLength unless (is_short_text t && option_map_or is_short_text uri true) else_by
    Limit unless nat_lt (length r.uris) RESOURCES else_by
    BadUri unless is_some uri else_by
    ResourceExists where_so option_map_or (has_uri r) uri false

-- why a read is refused though all that it names exists
abbrev pub late_read_refusal : Reading → Read → Option Refused
late_read_refusal r (asks.Of o Fragment) = Dangling unless is_some (fragment r o)
late_read_refusal r (asks.Save k) = save_refusal r k
late_read_refusal r (asks.ObjectAt t) = TextLength unless is_short_text t else_by BadUri unless has_mark t
late_read_refusal r _ = None

-- the refusal of a command that is not refused early. A `CreateResource` or a `Load` may be refused because of its text. Apart from this, a
-- change is refused as planning says. `Attach` and `Watch` are refused by the list of adapters, and reads by `late_read_refusal`
abbrev pub late_refusal : Reading → List Listed → Command View → Option Refused
late_refusal r rs (command.CreateResource t) = resource_refusal r t (joined_uri [] t)
late_refusal r rs (command.Load k text) = load_refusal r k (reads_into r k text)
late_refusal r rs (command.Attach number target deep view) = attach_refusal rs number view
late_refusal r rs (command.Watch number target deep) = watch_refusal rs number target
late_refusal r rs (command.Read q) = late_read_refusal r q
late_refusal r rs c = option_map_or (planned.late_refusal r) (change_of r c) None

-- `AdapterFull` if an adapter would be notified of the command, but can't count these notifications and a last notification from each of
-- its targets
abbrev pub full_refusal : Reading → List Listed → Command View → Option Refused
full_refusal r rs c = AdapterFull where_so is_chain_full r.above (chain r c) rs

abbrev pub refusal : Reading → List Listed → Command View → Option Refused
refusal r rs c = early_refusal r rs c else_by late_refusal r rs c else_by full_refusal r rs c

-- a refusal of a change that is not refused early: the refusal that planning finds, or `Memory`
abbrev pub IsPlanRefusal : Model → Change → Refused → Type 0
IsPlanRefusal s c r = MatchBool (is_memory_refusal r) (Unit {0}) (planned.late_refusal (reading s) c ≡ Some r)
