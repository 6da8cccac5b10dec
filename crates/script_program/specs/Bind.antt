-- The request of a form: its names are looked up in the metamodel, and its adapter in the pool.
use Rattle.std.specs.Prelude.{ℕ, Bool, List, Option, Some, None, option_and_then, unwrap_or, codes, Result, Ok, Err, if◌then◌else◌}
use Rattle.std.specs.Str.{bytes_eq}
use Rattle.mm_types.specs.Lookups as lookups
use Rattle.mm_types.specs.Resolved.{Metamodel}
use Rattle.mm_types.specs.declared.end.End.{End}
use Rattle.mm_types.specs.declared.numbers.AdapterNo.{AdapterNo}
use Rattle.mm_types.specs.declared.numbers.ClassNo.{ClassNo}
use Rattle.mm_types.specs.declared.numbers.FeatureNo.{FeatureNo}
use Rattle.mm_types.specs.declared.numbers.Node.{Node}
use Rattle.mm_types.specs.declared.numbers.Node.TheVariants as node
use Rattle.mm_types.specs.declared.refused.Refused.{Refused}
use Rattle.mm_types.specs.declared.value.Value.{Value}
use Rattle.mm_types.specs.declared.value.Value.TheVariants as value
use Rattle.notice_chain.specs.View.{View}
use Rattle.models.specs.Reading.{at_end}
use Rattle.handshake.specs.declared.act.Act.TheVariants as act
use Rattle.repository.specs.State.{State, reads}
use Rattle.repository.specs.Views.{command_view}
use Rattle.repository.specs.declared.command.Command.{Command}
use Rattle.repository.specs.declared.command.Command.TheVariants as command
use Rattle.mm_types.specs.declared.read.Read.TheVariants as read
use Rattle.script_lines.specs.declared.form.FeatureForm.{FeatureForm}
use Rattle.script_lines.specs.declared.form.FeatureForm.TheVariants as form
use Rattle.script_lines.specs.declared.form.Form.{Form}
use Rattle.script_lines.specs.declared.form.Form.TheVariants as asks
use Rattle.script_lines.specs.declared.written_value.WrittenValue.{WrittenValue}
use Rattle.script_lines.specs.declared.written_value.WrittenValue.TheVariants as written
use Rattle.script_output.specs.Names.{enum_of}
use Rattle.script_program.specs.Pool.{Pool, box_of}
use Rattle.script_program.specs.Session.{IsBrought, Session, pool_after_take}
use Rattle.script_program.specs.declared.bind.TheConstants.{NOTHING}
use Rattle.script_program.specs.declared.request.Request.{Request}
use Rattle.script_program.specs.declared.request.Request.TheVariants as request

abbrev pub class_number : Metamodel → List ℕ → ClassNo
class_number m name = unwrap_or (lookups.class_by_name m name) (record { 0 = NOTHING })

-- the number of the feature called `name` that a node has: for an object a feature of its class, for a resource `contents`; NOTHING if the
-- node has no feature with this name
abbrev pub feature_number : State → Node → List ℕ → FeatureNo
feature_number s (node.Object o) name =
    unwrap_or (option_and_then (λ c. lookups.feature_by_name s.model.metamodel c name) ((reads s).class o)) (record { 0 = NOTHING })
feature_number s (node.Resource r) name = if bytes_eq name (codes "contents") then lookups.contents s.model.metamodel else record { 0 = NOTHING }

abbrev pub literal_number : Metamodel → FeatureNo → List ℕ → ℕ
literal_number m f name = unwrap_or (option_and_then (λ e. lookups.literal_by_name m e name) (enum_of m f)) NOTHING

-- the value that a written value stands for under a feature; an unknown literal gets the number NOTHING
abbrev pub value_in : Metamodel → FeatureNo → WrittenValue → Value
value_in m f written.Null = value.Null
value_in m f (written.Bool b) = value.Bool b
value_in m f (written.Int n) = value.Int n
value_in m f (written.Text t) = value.Text t
value_in m f (written.Literal name) = value.Literal (literal_number m f name)
value_in m f (written.Object o) = value.Object o

-- the value that a written value stands for under the feature called `name` of a node
abbrev pub named_value : State → Node → List ℕ → WrittenValue → Value
named_value s n name v = value_in s.model.metamodel (feature_number s n name) v

abbrev pub create_command : {A : Type 0} → Metamodel → List ℕ → Command A
create_command m name = command.Create (class_number m name)

-- the end that consists of a node and of its feature with a given name; if the node has no feature with this name, the end has the feature
-- number NOTHING
abbrev pub named_end : State → Node → List ℕ → End
named_end s n name = at_end n (feature_number s n name)

-- the command that asks something of an end, or changes the end
abbrev pub at_command : {A : Type 0} → Metamodel → End → FeatureForm → Command A
at_command m e (form.Read q) = command.Read (read.At e q)
at_command m e (form.Set v) = command.At e (act.Set (value_in m e.feature v))
at_command m e form.Unset = command.At e act.Unset
at_command m e (form.Add v) = command.At e (act.Add (value_in m e.feature v) None)
at_command m e (form.AddAt i v) = command.At e (act.Add (value_in m e.feature v) (Some i))
at_command m e (form.Remove i) = command.At e (act.Remove i)
at_command m e (form.RemoveValue v) = command.At e (act.RemoveValue (value_in m e.feature v))
at_command m e (form.Move to from) = command.At e (act.Move to from)
at_command m e (form.Resolve i) = command.At e (act.Resolve i)

-- the request to attach an adapter of the pool. The first argument is the adapter, or a refusal if the pool can't give the adapter. After a
-- refusal the repository is not called
abbrev pub attach_request : Result View Refused → AdapterNo → Node → Bool → Request View
attach_request (Ok v) number target deep = request.Execute (command.Attach number target deep v)
attach_request (Err r) number target deep = request.Refuse r

abbrev pub bind : Session → Form → Request View
bind s (asks.New class) = request.Execute (create_command s.state.model.metamodel class)
bind s (asks.At n name f) = request.Execute (at_command s.state.model.metamodel (named_end s.state n name) f)
bind s asks.ResolveAll = request.Execute command.ResolveAll
bind s (asks.Load k text) = request.Execute (command.Load k text)
bind s (asks.Resource t) = request.Execute (command.CreateResource t)
bind s (asks.Attach number target deep) = attach_request (box_of s.pool number) number target deep
bind s (asks.Watch number target deep) = request.Execute (command.Watch number target deep)
bind s (asks.Unwatch number target) = request.Execute (command.Unwatch number target)
bind s (asks.Detach number) = request.Execute (command.Detach number)
bind s (asks.Delete o) = request.Execute (command.Delete o)
bind s (asks.Read q) = request.Execute (command.Read q)
bind s (asks.Seen number) = request.Seen number

-- the pool without the adapter that a request attaches; the pool as it is if the request attaches no adapter
abbrev pub pool_of : Pool → Request View → Pool
pool_of pool (request.Execute c) = pool_after_take pool c
pool_of pool (request.Seen number) = pool
pool_of pool (request.Refuse r) = pool

-- if a request attaches an adapter, the pool has this adapter under its number
abbrev pub IsGiven : Pool → Request View → Type 0
IsGiven pool (request.Execute c) = IsBrought pool c
IsGiven pool (request.Seen number) = Unit {0}
IsGiven pool (request.Refuse r) = Unit {0}

-- a request with the view of its adapter in place of the adapter
abbrev pub request_view : {A : Type 0} → (A → View) → Request A → Request View
request_view heard (request.Execute c) = request.Execute (command_view heard c)
request_view heard (request.Seen number) = request.Seen number
request_view heard (request.Refuse r) = request.Refuse r
