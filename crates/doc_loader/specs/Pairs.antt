-- Pairs of opposite features, neither of which is a containment. A link of a pair has an end under each of the two features. The edit that
-- puts the link names the end under the feature with the lower number.
use Rattle.std.specs.Prelude.{◌&&◌, Bool, false, not, nat_lt, Option, Some, None, is_some, option_and_then, if◌then◌else◌}
use Rattle.std.specs.Option.{option_map_or}
use Rattle.mm_types.specs.Shapes.{Shape}
use Rattle.mm_types.specs.declared.numbers.FeatureNo.{FeatureNo}

abbrev pub is_below : FeatureNo → FeatureNo → Bool
is_below f g = nat_lt f.0 g.0

abbrev pub if_below : FeatureNo → FeatureNo → Option FeatureNo
if_below g f = if is_below f g then Some f else None

-- the opposite of a feature, if the opposite has the lower number of the two and neither of them is a containment; else none
abbrev pub lower_of : Shape → FeatureNo → Option FeatureNo
lower_of a g = if is_some a.containing then None else option_and_then (if_below g) a.opposite

-- whether a feature has an opposite with a higher number, and neither of the two is a containment
abbrev pub is_lower : Shape → FeatureNo → Bool
is_lower a f = not (is_some a.containing) && option_map_or (is_below f) a.opposite false

-- whether a feature is a reference, but not the higher feature of a pair. If so, the values that a document has under this feature are put
-- by edits that name the ends of this feature, and not the ends of its opposite
abbrev pub is_near : Shape → FeatureNo → Bool
is_near a f = a.is_reference && not (is_some (lower_of a f))
