use Rattle.std.proofs.Common.{◌+◌, ◌*◌, flat_map, map, take}
use Rattle.borrowed_json.specs.View.{members_view, view}
use Rattle.doc_parts.specs.FoundParts.{FindsBelow, parts_at, parts_under}
use Rattle.doc_parts.specs.Parts.{parts_from}
use Rattle.doc_parts.proofs.walk.+walk.Given as goal

abbrev pub decreases-walk : goal.decreases-walk
decreases-walk l = 4 * l.levels

abbrev pub decreases-walk_features : goal.decreases-walk_features
decreases-walk_features l = 4 * l.levels + 3

abbrev pub decreases-walk_feature : goal.decreases-walk_feature
decreases-walk_feature l = 4 * l.levels + 2

abbrev pub decreases-walk_values : goal.decreases-walk_values
decreases-walk_values l = 4 * l.levels + 1

abbrev pub invariant-walk_features-features : goal.invariant-walk_features-features
invariant-walk_features-features l =
    FindsBelow l.meta l.initial.found l.found l.below.part l.below.level (λ path. flat_map (parts_from l.meta l.levels) (flat_map (parts_at l.meta path (members_view l.members)) (take l.feature-index l.features)))

abbrev pub invariant-walk_values-values : goal.invariant-walk_values-values
invariant-walk_values-values l =
    FindsBelow l.meta l.initial.found l.found l.below.part l.below.level (λ path. flat_map (parts_from l.meta l.levels) (parts_under path l.name l.is_single (map view (take l.i l.values))))
