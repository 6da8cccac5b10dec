-- What is printed for values, nodes, adapters, features, classes and refusals.
use Rattle.std.specs.Prelude.{ℕ, true, false, List, [], ◌∷◌, ◌++◌, flat_map, Option, Some, None, codes}
use Rattle.std.specs.Fmt.{decimal, signed_decimal}
use Rattle.serde_json.specs.Data.{string}
use Rattle.serde_json.specs.Written.{compact_text}
use Rattle.mm_types.specs.Causes.{cause_text}
use Rattle.mm_types.specs.Refusals.{refusal_text}
use Rattle.mm_types.specs.Resolved.{Metamodel}
use Rattle.mm_types.specs.declared.document_fault.DocFault.{DocFault}
use Rattle.mm_types.specs.declared.numbers.AdapterNo.{AdapterNo}
use Rattle.mm_types.specs.declared.numbers.ClassNo.{ClassNo}
use Rattle.mm_types.specs.declared.numbers.FeatureNo.{FeatureNo}
use Rattle.mm_types.specs.declared.numbers.ObjectNo.{ObjectNo}
use Rattle.mm_types.specs.declared.numbers.Node.{Node}
use Rattle.mm_types.specs.declared.numbers.Node.TheVariants as node
use Rattle.mm_types.specs.declared.refused.Refused.{Refused}
use Rattle.mm_types.specs.declared.value.Value.{Value}
use Rattle.mm_types.specs.declared.value.Value.TheVariants as value
use Rattle.script_lines.specs.declared.grammar.TheConstants.{ADAPTER_MARK, LITERAL_MARK, OBJECT_MARK, RESOURCE_MARK, SPACE}
use Rattle.mm_types.specs.Lookups.{class_name}
use Rattle.script_output.specs.Names.{feature_name, literal_name}

-- a text as a JSON string
abbrev pub json_text : List ℕ → List ℕ
json_text t = compact_text (string t)

-- `#3` or `r0`
abbrev pub node_text : Node → List ℕ
node_text (node.Object o) = OBJECT_MARK ∷ decimal o.0
node_text (node.Resource r) = RESOURCE_MARK ∷ decimal r.0

-- `A7`
abbrev pub adapter_text : AdapterNo → List ℕ
adapter_text a = ADAPTER_MARK ∷ decimal a.0

-- a proxy by its text, such as `proxy "http://m.example/b#/0"`
abbrev pub proxy_text : List ℕ → List ℕ
proxy_text t = codes "proxy " ++ json_text t

-- a value; if it is a literal, `literal` is its name
abbrev pub value_text : List ℕ → Value → List ℕ
value_text literal value.Null = codes "null"
value_text literal (value.Bool true) = codes "true"
value_text literal (value.Bool false) = codes "false"
value_text literal (value.Int n) = signed_decimal n
value_text literal (value.Text t) = json_text t
value_text literal (value.Literal index) = LITERAL_MARK ∷ literal
value_text literal (value.Object o) = OBJECT_MARK ∷ decimal o.0
value_text literal (value.Proxy t) = proxy_text t

-- a value of a feature
abbrev pub feature_value_text : Metamodel → FeatureNo → Value → List ℕ
feature_value_text m f v = value_text (literal_name m f v) v

-- values of a feature, each after a space
abbrev pub spaced_values : Metamodel → FeatureNo → List Value → List ℕ
spaced_values m f vs = flat_map (λ v. SPACE ∷ feature_value_text m f v) vs

-- the values of a feature in brackets, such as `["a" "b"]`
abbrev pub list_text : Metamodel → FeatureNo → List Value → List ℕ
list_text m f [] = codes "[]"
list_text m f (v ∷ vs) = codes "[" ++ feature_value_text m f v ++ spaced_values m f vs ++ codes "]"

-- objects, each after a space
abbrev pub spaced_objects : List ObjectNo → List ℕ
spaced_objects os = flat_map (λ o. SPACE ∷ node_text (node.Object o)) os

-- objects in brackets, such as `[#1 #4]`
abbrev pub objects_text : List ObjectNo → List ℕ
objects_text [] = codes "[]"
objects_text (o ∷ os) = codes "[" ++ node_text (node.Object o) ++ spaced_objects os ++ codes "]"

-- names of features, each after a space
abbrev pub spaced_features : Metamodel → List FeatureNo → List ℕ
spaced_features m fs = flat_map (λ f. SPACE ∷ feature_name m f) fs

-- names of features in brackets, such as `[name favourite]`
abbrev pub features_text : Metamodel → List FeatureNo → List ℕ
features_text m [] = codes "[]"
features_text m (f ∷ fs) = codes "[" ++ feature_name m f ++ spaced_features m fs ++ codes "]"

-- a node, such as `#1` or `r0`, or `null` if there is none
abbrev pub holder_text : Option Node → List ℕ
holder_text None = codes "null"
holder_text (Some n) = node_text n

-- a class by its name, such as `class Book`
abbrev pub class_text : Metamodel → ClassNo → List ℕ
class_text m c = codes "class " ++ class_name m c

-- a space, the number of a fault of a document, and the name of the fault, such as ` 10 ONE_SIDED`
abbrev pub cause_detail : DocFault → List ℕ
cause_detail cause = SPACE ∷ cause_text cause

-- why a command is refused, such as `refused 8 TYPE` or `refused 18 DOCUMENT 10 ONE_SIDED`
abbrev pub refused_text : Refused → List ℕ
refused_text r = codes "refused " ++ refusal_text r
