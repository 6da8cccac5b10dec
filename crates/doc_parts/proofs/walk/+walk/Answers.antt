use Rattle.std.proofs.Common.{◌++◌, ◌-◌, ◌∙◌, ap, arith, flat_map, map, sym, take}
use Rattle.std.specs.Prelude.{option_map}
use Rattle.borrowed_json.specs.View.{members_view, view}
use Rattle.doc_parts.specs.FoundParts.{parts_at, parts_under}
use Rattle.doc_parts.specs.Parts.{parts_from}
use Rattle.doc_parts.specs.Keys.{key_of}
use Rattle.doc_parts.proofs.WalkLemmas.{added_known, child, features_next, finds_after, finds_as, finds_nothing, finds_then, no_class_entries, no_feature_entries, no_parts_at, ok_more, parts_at_some, values_next, walked_childless, walked_known, walked_nothing, walks_below}
use Rattle.doc_parts.proofs.walk.+walk.Goals as goal

pub walk-returns-in-Some-features : goal.walk-returns-in-Some-features
walk-returns-in-Some-features t c =
    ok_more c.walk_features.result
    (walked_known c.args.meta.now c.args.levels (c.args.levels - 1) _ _ _ (key_of c.args.key) c.args.level c.in-Some.level (view c.args.json.now) c.in_ok-part.part _ (members_view c.in-Some-seen.members.now) _
    (omega (arith, c.if-levels-eq0.false)) (added_known c.args.meta.now _ _ (key_of c.args.key) c.args.level (view c.args.json.now) _ c.in_ok-part.part c.known-seen.ensures c.in_ok-part.ensures)
    (let e = c.in-Some.ensures.1 in omega (arith, e)) (ap (option_map (λ k. (k.0, members_view k.1.now))) (sym c.in-Some-seen.is) ∙ c.known-seen.ensures) c.in-Some-features.ensures)
    c.walk_features.ensures

pub walk-returns-then-not-has_containment : goal.walk-returns-then-not-has_containment
walk-returns-then-not-has_containment t c =
    walked_childless c.args.meta.now c.args.levels (c.args.levels - 1) _ _ (key_of c.args.key) c.args.level (view c.args.json.now) _ c.in-Some-seen.class (members_view c.in-Some-seen.members.now) (omega (arith, c.if-levels-eq0.false))
    (added_known c.args.meta.now _ _ (key_of c.args.key) c.args.level (view c.args.json.now) _ c.in_ok-part.part c.known-seen.ensures c.in_ok-part.ensures)
    (ap (option_map (λ k. (k.0, members_view k.1.now))) (sym c.in-Some-seen.is) ∙ c.known-seen.ensures) (sym c.has_containment.ensures ∙ c.if-not-has_containment.true)

pub walk-returns-in-None-features : goal.walk-returns-in-None-features
walk-returns-in-None-features t c =
    walked_nothing c.args.meta.now c.args.levels (c.args.levels - 1) _ _ (key_of c.args.key) c.args.level (view c.args.json.now) _ (omega (arith, c.if-levels-eq0.false))
    (added_known c.args.meta.now _ _ (key_of c.args.key) c.args.level (view c.args.json.now) _ c.in_ok-part.part c.known-seen.ensures c.in_ok-part.ensures)
    (no_feature_entries c.args.meta.now (view c.args.json.now) _ (members_view c.in-Some-seen.members.now) (ap (option_map (λ k. (k.0, members_view k.1.now))) (sym c.in-Some-seen.is) ∙ c.known-seen.ensures) c.in-None-features.ensures)

pub walk-returns-in-None : goal.walk-returns-in-None
walk-returns-in-None t c =
    walked_nothing c.args.meta.now c.args.levels (c.args.levels - 1) _ _ (key_of c.args.key) c.args.level (view c.args.json.now) _ (omega (arith, c.if-levels-eq0.false))
    (added_known c.args.meta.now _ _ (key_of c.args.key) c.args.level (view c.args.json.now) _ c.in_ok-part.part c.known-seen.ensures c.in_ok-part.ensures)
    (no_class_entries c.args.meta.now (view c.args.json.now) (ap (option_map (λ k. (k.0, members_view k.1.now))) (sym c.in-None.is) ∙ c.known-seen.ensures))

pub walk_feature-returns-then-not-is_containment : goal.walk_feature-returns-then-not-is_containment
walk_feature-returns-then-not-is_containment t c =
    finds_nothing c.args.meta.now c.args.found.now _ _ _ (λ path. ap (flat_map (parts_from c.args.meta.now c.args.levels)) (no_parts_at c.args.meta.now (members_view c.args.members.now) c.args.feature path (sym c.is_containment.ensures ∙ c.if-not-is_containment.true)))

pub walk_feature-returns-in_ok-reserve-in-Some : goal.walk_feature-returns-in_ok-reserve-in-Some
walk_feature-returns-in_ok-reserve-in-Some t c =
    ok_more c.walk_values.result
    (λ more. finds_as c.args.meta.now c.args.found.now c.walk_values.new.found c.args.below.part c.args.below.level _ _
    (λ path. ap (flat_map (parts_from c.args.meta.now c.args.levels))
    (parts_at_some c.args.meta.now (members_view c.args.members.now) c.args.feature (view c.in-Some.content.now) c.feature_name.result.now c.is_single-single.result c.values_of-values.result.now path
    (sym c.is_containment.ensures ∙ c.if-not-is_containment.false) c.in-Some.ensures c.feature_name.ensures c.is_single-single.ensures c.values_of-values.ensures))
    (finds_after c.args.meta.now c.args.found.now c.reserve.new.self c.walk_values.new.found c.args.below.part c.args.below.level _ c.reserve.ensures more))
    c.walk_values.ensures

pub walk_features-features-preserved : goal.walk_features-features-preserved
walk_features-features-preserved t c =
    finds_as c.args.meta.now c.args.found.now c.walk_feature.new.found c.args.below.part c.args.below.level _ _
    (λ path. features_next (parts_from c.args.meta.now c.args.levels) (parts_at c.args.meta.now path (members_view c.args.members.now)) c.args.features.now c.features.feature-index _ c.features-test.true)
    (finds_then c.args.meta.now c.args.found.now c.features.found c.walk_feature.new.found c.args.below.part c.args.below.level _ _ c.features.invariant c.in_ok-walk_feature.ensures)

pub walk_values-values-preserved : goal.walk_values-values-preserved
walk_values-values-preserved t c =
    finds_as c.args.meta.now c.args.found.now c.walk.new.found c.args.below.part c.args.below.level _ _
    (λ path.
    ap (λ ix. flat_map (parts_from c.args.meta.now c.args.levels) (parts_under path c.args.name.now c.args.is_single (map view (take c.values.i c.args.values.now)))
    ++ parts_from c.args.meta.now c.args.levels (child path c.args.name.now ix (view c.index-values-i.result))) c.in_ok-index.ensures
    ∙ values_next (parts_from c.args.meta.now c.args.levels) path c.args.name.now c.args.is_single c.args.values.now c.values.i c.index-values-i.result c.values-test.true c.index-values-i.is)
    (finds_then c.args.meta.now c.args.found.now c.values.found c.walk.new.found c.args.below.part c.args.below.level _ _ c.values.invariant
    (walks_below c.args.meta.now c.args.levels c.values.found c.walk.new.found c.args.below.part c.args.below.level c.args.name.now c.in_ok-index.index (view c.index-values-i.result) c.in_ok-walk.ensures))
