-- The features of an object that have fewer values than their lower bounds.
use Rattle.std.specs.Prelude.{◌&&◌, ◌||◌, Bool, List, filter, int_le, int_lt, length, not, pos, if◌then◌else◌}
use Rattle.mm_types.specs.Same.{same_value}
use Rattle.mm_types.specs.declared.end.End.{End}
use Rattle.mm_types.specs.declared.numbers.FeatureNo.{FeatureNo}
use Rattle.mm_types.specs.declared.numbers.Node.TheVariants as node
use Rattle.mm_types.specs.declared.numbers.ObjectNo.{ObjectNo}
use Rattle.mm_types.specs.declared.value.Value.TheVariants as value
use Rattle.models.specs.Reading.{Reading, all_features_of, at_end, is_set, shape_at, value_at}

-- whether a single end counts as having no value: its value is null, or its feature is unsettable and not set
abbrev pub is_missing : Reading → End → Bool
is_missing r e = same_value value.Null (value_at r e) || ((shape_at r e).is_unsettable && not (is_set r e))

-- whether an end has too few values. A list has too few if it has fewer values than its lower bound. A single feature has too few if its
-- lower bound is at least 1 and `is_missing` is true
abbrev pub is_too_few : Reading → End → Bool
is_too_few r e =
    let a = shape_at r e in
    if a.is_single
    then int_le (pos 1) a.lower && is_missing r e
    else int_lt (pos (length (r.values e))) a.lower

abbrev pub short_features : Reading → ObjectNo → List FeatureNo
short_features r o = filter (λ f. is_too_few r (at_end (node.Object o) f)) (all_features_of r (node.Object o))
