-- The commands that change a feature or read something, each under the name of its call (without `e_` and `_to`).
use Rattle.std.specs.Prelude.{ℕ, List, Option}
use Rattle.mm_types.specs.declared.numbers.AdapterNo.{AdapterNo}
use Rattle.mm_types.specs.declared.numbers.FeatureNo.{FeatureNo}
use Rattle.mm_types.specs.declared.numbers.Node.{Node}
use Rattle.mm_types.specs.declared.numbers.Node.TheVariants as node
use Rattle.mm_types.specs.declared.numbers.ObjectNo.{ObjectNo}
use Rattle.mm_types.specs.declared.numbers.ResourceNo.{ResourceNo}
use Rattle.mm_types.specs.declared.value.Value.{Value}
use Rattle.models.specs.Reading.{at_end}
use Rattle.handshake.specs.declared.act.Act.TheVariants as act
use Rattle.repository.specs.declared.command.Command.{Command}
use Rattle.repository.specs.declared.command.Command.TheVariants as command
use Rattle.mm_types.specs.declared.read.Read.TheVariants as asks
use Rattle.mm_types.specs.declared.read.EndRead.TheVariants as end
use Rattle.mm_types.specs.declared.read.ObjectRead.TheVariants as object
use Rattle.mm_types.specs.declared.read.NodeRead.TheVariants as below
use Rattle.mm_types.specs.declared.read.Tally.TheVariants as tally

---------------------------------------------------------------- changes of what a feature has

abbrev pub set : {A : Type 0} → Node → FeatureNo → Value → Command A
set n f v = command.At (at_end n f) (act.Set v)

abbrev pub unset : {A : Type 0} → Node → FeatureNo → Command A
unset n f = command.At (at_end n f) act.Unset

abbrev pub add : {A : Type 0} → Node → FeatureNo → Value → Option ℕ → Command A
add n f v i = command.At (at_end n f) (act.Add v i)

abbrev pub remove : {A : Type 0} → Node → FeatureNo → ℕ → Command A
remove n f i = command.At (at_end n f) (act.Remove i)

abbrev pub remove_value : {A : Type 0} → Node → FeatureNo → Value → Command A
remove_value n f v = command.At (at_end n f) (act.RemoveValue v)

abbrev pub move : {A : Type 0} → Node → FeatureNo → ℕ → ℕ → Command A
move n f to from = command.At (at_end n f) (act.Move to from)

abbrev pub resolve : {A : Type 0} → ObjectNo → FeatureNo → ℕ → Command A
resolve o f i = command.At (at_end (node.Object o) f) (act.Resolve i)

---------------------------------------------------------------- reads

abbrev pub get : {A : Type 0} → Node → FeatureNo → Command A
get n f = command.Read (asks.At (at_end n f) end.Get)

abbrev pub is_set : {A : Type 0} → Node → FeatureNo → Command A
is_set n f = command.Read (asks.At (at_end n f) end.IsSet)

abbrev pub class : {A : Type 0} → ObjectNo → Command A
class o = command.Read (asks.Of o object.Class)

abbrev pub container : {A : Type 0} → ObjectNo → Command A
container o = command.Read (asks.Of o object.Container)

abbrev pub resource : {A : Type 0} → ObjectNo → Command A
resource o = command.Read (asks.Of o object.Resource)

abbrev pub validate : {A : Type 0} → ObjectNo → Command A
validate o = command.Read (asks.Of o object.Validate)

abbrev pub fragment : {A : Type 0} → ObjectNo → Command A
fragment o = command.Read (asks.Of o object.Fragment)

abbrev pub contents : {A : Type 0} → Node → Command A
contents n = command.Read (asks.Under n below.Contents)

abbrev pub snapshot : {A : Type 0} → Node → Command A
snapshot n = command.Read (asks.Under n below.Snapshot)

abbrev pub save : {A : Type 0} → ResourceNo → Command A
save k = command.Read (asks.Save k)

abbrev pub object_at : {A : Type 0} → List ℕ → Command A
object_at t = command.Read (asks.ObjectAt t)

abbrev pub adapter_told : {A : Type 0} → AdapterNo → Command A
adapter_told number = command.Read (asks.Adapter number tally.Told)

abbrev pub adapter_kept : {A : Type 0} → AdapterNo → Command A
adapter_kept number = command.Read (asks.Adapter number tally.Kept)
