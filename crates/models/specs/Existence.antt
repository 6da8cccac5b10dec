-- Why a call is refused for what it names: an object, a resource or a class that does not exist, a class that is abstract, or an end whose
-- node does not have the feature. The look-ups that find the reason take no memory.
use Rattle.std.specs.Prelude.{◌&&◌, Option, is_some}
use Rattle.mm_types.specs.Conditions.{◌unless◌, ◌else_by◌}
use Rattle.mm_types.specs.Lookups as lookups
use Rattle.mm_types.specs.Resolved.{Metamodel}
use Rattle.mm_types.specs.declared.numbers.ClassNo.{ClassNo}
use Rattle.mm_types.specs.declared.numbers.ObjectNo.{ObjectNo}
use Rattle.mm_types.specs.declared.numbers.Node.{Node}
use Rattle.mm_types.specs.declared.end.End.{End}
use Rattle.mm_types.specs.declared.refused.Refused.{Refused}
use Rattle.mm_types.specs.declared.refused.Refused.TheVariants.{NoObject, NoResource, NoClass, Abstract, NoFeature}
use Rattle.mm_types.specs.declared.value.Value.{Value}
use Rattle.models.specs.Reading.{Reading, has_feature, is_live, is_node_live, is_resource_there, is_value_live}

abbrev pub class_refusal : Metamodel → ClassNo → Option Refused
class_refusal m c =
    NoClass unless is_some (lookups.class m c) else_by
    Abstract unless lookups.is_concrete m c

abbrev pub object_refusal : Reading → ObjectNo → Option Refused
object_refusal r o = NoObject unless is_live r o

abbrev pub node_refusal : Reading → Node → Option Refused
node_refusal r n =
    NoObject unless is_node_live r n else_by
    NoResource unless is_resource_there r n

abbrev pub end_refusal : Reading → End → Option Refused
end_refusal r e =
    node_refusal r e.node else_by
    NoFeature unless has_feature r e.node e.feature

-- the refusal of an end and a value for it: first `NoObject` if the node of the end or the value is an object that is not live, and then
-- the refusal of the end by itself
abbrev pub value_refusal : Reading → End → Value → Option Refused
value_refusal r e v =
    NoObject unless (is_node_live r e.node && is_value_live r v) else_by
    end_refusal r e
