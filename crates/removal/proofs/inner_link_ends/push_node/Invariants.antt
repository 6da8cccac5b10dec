use Rattle.std.proofs.Common.{◌≡◌, ◌++◌, [], drop, flat_map, if◌then◌else◌}
use Rattle.mm_types.specs.Shapes.{shape}
use Rattle.mm_types.specs.declared.numbers.FeatureNo.{FeatureNo}
use Rattle.mm_types.specs.declared.numbers.Node.TheVariants as node
use Rattle.models.specs.Model.{reading}
use Rattle.models.specs.Reading.{at_end}
use Rattle.removal.specs.Ranks.{is_in}
use Rattle.removal.specs.TreeLinkEnds.{end_link_ends}
use Rattle.removal.proofs.inner_link_ends.push_node.Given as goal

abbrev pub invariant-loop-feature : goal.invariant-loop-feature
invariant-loop-feature g l =
    let r = reading l.model in
    let of_feature = λ (f : FeatureNo). if (shape l.model.metamodel f).is_reference then end_link_ends r (is_in l.numbers) (at_end (node.Object l.object) f) else [] in
    l.link_ends.items ++ flat_map of_feature (drop l.feature-index l.features) ≡ l.fn.link_ends.items ++ flat_map of_feature l.features
