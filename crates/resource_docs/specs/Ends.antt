-- Which objects of a document refer to which objects of the same document.
use Rattle.std.specs.Prelude.{◌≡◌, ℕ, ◌&&◌, Bool, false, is_some, not, List, nat_eq}
use Rattle.std.specs.List.{enumerate_from, list_any}
use Rattle.std.specs.Option.{option_map_or}
use Rattle.mm_types.specs.Lookups as lookups
use Rattle.mm_types.specs.Resolved.{Metamodel}
use Rattle.mm_types.specs.Same.{same_value}
use Rattle.mm_types.specs.Shapes.{is_containment, shape}
use Rattle.mm_types.specs.declared.numbers.FeatureNo.{FeatureNo}
use Rattle.mm_types.specs.declared.value.Value.{Value}
use Rattle.mm_types.specs.declared.value.Value.TheVariants as value
use Rattle.resource_docs.specs.declared.doc.Content.{Content}
use Rattle.resource_docs.specs.declared.doc.DocObject.{DocObject}
use Rattle.resource_docs.specs.declared.ends.Ends.{Ends}
use Rattle.resource_docs.specs.declared.ends.Naming.{Naming}

abbrev pub same_naming : Naming → Naming → Bool
same_naming j k = nat_eq j.object k.object && (nat_eq j.feature k.feature && nat_eq j.named k.named)

abbrev pub has : Ends → Naming → Bool
has e k = list_any (same_naming k) e.namings.keys

---------------------------------------------------------------- what names what

-- whether the object that the naming k names is among the values vs
abbrev pub is_among : List Value → Naming → Bool
is_among vs k = list_any (same_value (value.Object (record { 0 = k.named }))) vs

abbrev pub by_values : ℕ → ℕ → List Value → Naming → Bool
by_values n f vs k = nat_eq k.object n && (nat_eq k.feature f && is_among vs k)

abbrev pub by_contents : ℕ → List Content → Naming → Bool
by_contents n cs k = list_any (λ c. by_values n c.feature.0 c.values k) cs

abbrev pub by_objects : List DocObject → Naming → Bool
by_objects os k = list_any (λ y. by_contents y.0 y.1.contents k) (enumerate_from 0 os)

abbrev pub IsEndsOf : Ends → List DocObject → Type 0
IsEndsOf e os = (k : Naming) → has e k ≡ by_objects os k

---------------------------------------------------------------- which objects are not named back

abbrev pub new_naming : ℕ → ℕ → ℕ → Naming
new_naming o f b = record { object = o; feature = f; named = b }

abbrev pub unanswered_by : Metamodel → Ends → ℕ → FeatureNo → Value → Bool
unanswered_by m e o f (value.Object b) = option_map_or (λ g. not (has e (new_naming b.0 g.0 o))) (lookups.opposite m f) false
unanswered_by m e o f _ = false

abbrev pub one_sided_by : Metamodel → Ends → ℕ → Content → Bool
one_sided_by m e o c = not (is_containment m c.feature) && list_any (unanswered_by m e o c.feature) c.values

abbrev pub any_one_sided_by : Metamodel → Ends → List DocObject → Bool
any_one_sided_by m e os = list_any (λ x. list_any (one_sided_by m e x.0) x.1.contents) (enumerate_from 0 os)

---------------------------------------------------------------- which objects have to be named back

-- whether the feature of a content has an opposite and is no containment. If so, each object among the values of the content has to name
-- back, under the opposite, the object that has the content
abbrev pub asks_back : Metamodel → Content → Bool
asks_back m c = not (is_containment m c.feature) && is_some (shape m c.feature).opposite
