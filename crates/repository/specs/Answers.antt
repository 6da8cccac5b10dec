-- The answers of commands that are not refused.
use Rattle.std.specs.Prelude.{◌≡◌, ℕ, ◌||◌, Bool, List, length, not, Option, Some, None, is_some, unwrap_or, if◌then◌else◌, [], true, false}
use Rattle.std.specs.Option.{option_map_or}
use Rattle.mm_types.specs.declared.numbers.AdapterNo.{AdapterNo}
use Rattle.notice_chain.specs.View.{View}
use Rattle.notice_chain.specs.Listed.{Listed, adapter, is_target}
use Rattle.mm_types.specs.Ends.{has_value, value_in}
use Rattle.mm_types.specs.declared.end.End.{End}
use Rattle.models.specs.Reading.{Reading, is_repeat, is_set, shape_at, value_at}
use Rattle.containment.specs.Above.{resource_of}
use Rattle.containment.specs.Forest.{container, contents, subtree}
use Rattle.repository.specs.declared.command.Command.{Command}
use Rattle.repository.specs.declared.command.Command.TheVariants as command
use Rattle.mm_types.specs.declared.read.Read.{Read}
use Rattle.mm_types.specs.declared.read.Read.TheVariants as asks
use Rattle.mm_types.specs.declared.read.EndRead.TheVariants.{Get, IsSet}
use Rattle.mm_types.specs.declared.read.ObjectRead.TheVariants.{Class, Container, Resource, Validate, Fragment}
use Rattle.mm_types.specs.declared.read.NodeRead.TheVariants.{Contents, Snapshot}
use Rattle.mm_types.specs.declared.read.Tally.TheVariants.{Told, Kept}
use Rattle.handshake.specs.declared.act.Act.{Act}
use Rattle.handshake.specs.declared.act.Act.TheVariants as act
use Rattle.repository.specs.declared.reply.Answer.{Answer}
use Rattle.repository.specs.declared.reply.Answer.TheVariants as answer
use Rattle.repository.specs.declared.reply.FeatureValue.{FeatureValue}
use Rattle.repository.specs.declared.reply.FeatureValue.TheVariants as feature_value
use Rattle.fragment_paths.specs.Fragments.{fragment}
use Rattle.fragment_paths.specs.Finding.{at}
use Rattle.doc_writer.specs.Document.{saved_text}
use Rattle.snapshots.specs.Snapshots.{snapshot_of}
use Rattle.validation.specs.Bounds.{short_features}
use Rattle.repository.specs.Loads.{objects_of, reads_into}
use Rattle.proxies.specs.Resolving.{target_at}
use Rattle.proxies.specs.ResolvingAll.{resolved_count, unresolved_count}
use Rattle.change_plans.specs.declared.planned.Finding.{Finding}
use Rattle.change_plans.specs.declared.planned.Finding.TheVariants as finding
use Rattle.handshake.specs.declared.change.Change.{Change}
use Rattle.handshake.specs.FeatureChanges.{destroyed_by, resolves_all, resolves_one}

-- a count that is read from the view of the adapter with a given number; 0 if no adapter has the number
abbrev pub count_of : List Listed → AdapterNo → (View → ℕ) → ℕ
count_of rs number count = option_map_or (λ a. count a.view) (adapter number rs) 0

-- the value of a single feature, or the list of a many-valued one
abbrev pub feature_value_at : Reading → End → FeatureValue
feature_value_at r e = if (shape_at r e).is_single then feature_value.One (value_at r e) else feature_value.Many (r.values e)

abbrev pub got_answer : FeatureValue → Answer
got_answer (feature_value.One v) = answer.Value v
got_answer (feature_value.Many vs) = answer.Values vs

-- `add` gives whether the list changed, `remove` and `move` the value, `remove_value` whether the value was there, and `resolve` the object
-- that replaces the proxy; the other acts, `set` and `unset`, give `Done`
abbrev pub act_answer : Reading → End → Act → Answer
act_answer r e (act.Add v i) = answer.Flag (not (is_repeat r e v))
act_answer r e (act.Remove i) = answer.Value (value_in (r.values e) i)
act_answer r e (act.RemoveValue v) = answer.Flag (has_value (r.values e) v)
act_answer r e (act.Move to from) = answer.Value (value_in (r.values e) from)
act_answer r e (act.Resolve i) = answer.Object (option_map_or (λ x. x.object) (target_at r e i) (record { 0 = 0 }))
act_answer r e _ = answer.Done

abbrev pub read_answer : Reading → List Listed → Read → Answer
read_answer r rs (asks.At e Get) = got_answer (feature_value_at r e)
read_answer r rs (asks.At e IsSet) = answer.Flag (is_set r e)
read_answer r rs (asks.Of o Class) = answer.Class (unwrap_or (r.class o) (record { 0 = 0 }))
read_answer r rs (asks.Of o Container) = answer.Container (container r o)
read_answer r rs (asks.Of o Resource) = answer.Within (resource_of r.above o)
read_answer r rs (asks.Of o Validate) = answer.Features (short_features r o)
read_answer r rs (asks.Of o Fragment) = answer.Fragment (unwrap_or (fragment r o) [])
read_answer r rs (asks.Under n Contents) = answer.Objects (contents r n)
read_answer r rs (asks.Under n Snapshot) = answer.Snapshot (snapshot_of r n)
read_answer r rs (asks.Save k) = answer.Document (saved_text r k)
read_answer r rs (asks.ObjectAt t) = answer.Found (at r t)
read_answer r rs (asks.Adapter number Told) = answer.Count (count_of rs number (λ v. v.told))
read_answer r rs (asks.Adapter number Kept) = answer.Count (count_of rs number (λ v. length v.kept))

-- `create` gives the object that it made, and `create_resource` the resource. `delete` gives how many objects it destroyed, `load` how many
-- it made, `resolve_all` how many proxies it resolved and how many remain, `watch` whether the adapter got the target, and `unwatch`
-- whether the adapter lost the target. `attach` and `detach` give `Done`
abbrev pub answer_of : Reading → List Listed → Command View → Answer
answer_of r rs (command.At e a) = act_answer r e a
answer_of r rs (command.Create c) = answer.Object (record { 0 = r.next })
answer_of r rs (command.Delete o) = answer.Destroyed (length (subtree r o))
answer_of r rs (command.CreateResource t) = answer.Resource (record { 0 = length r.uris })
answer_of r rs (command.Load k text) = answer.Loaded (objects_of (reads_into r k text))
answer_of r rs command.ResolveAll = answer.Resolved (resolved_count r) (unresolved_count r)
answer_of r rs (command.Watch number target deep) = answer.Flag (not (is_target number target rs))
answer_of r rs (command.Unwatch number target) = answer.Flag (is_target number target rs)
answer_of r rs (command.Read q) = read_answer r rs q
answer_of r rs _ = answer.Done

-- whether the answer of a change is known only when the change is planned. This answer says how many objects a deletion destroys, which
-- object replaces a proxy, or how many proxies are resolved and how many are left
abbrev pub is_answered_late : Change → Bool
is_answered_late c = is_some (destroyed_by c) || resolves_one c || resolves_all c

abbrev pub IsEarlyAnswer : Bool → Answer → Option Answer → Type 0
IsEarlyAnswer false a q = q ≡ Some a
IsEarlyAnswer true a q = q ≡ None

-- the answer of a change, from what planning finds; none if the answer is known before planning
abbrev pub planned_answer : Finding → Option Answer
planned_answer finding.Nothing = None
planned_answer (finding.Removal x) = Some (answer.Destroyed (length x.objects.items))
planned_answer (finding.Target x) = Some (answer.Object x.object)
planned_answer (finding.Counts n) = Some (answer.Resolved n.done n.left)
