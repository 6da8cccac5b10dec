use Rattle.std.proofs.Common.{◌+◌, ◌*◌, Bool, drop, filter, map, take}
use Rattle.mm_types.specs.declared.numbers.FeatureNo.{FeatureNo}
use Rattle.mm_types.specs.declared.numbers.Node.TheVariants as node
use Rattle.models.specs.Model.{reading}
use Rattle.models.specs.Reading.{at_end, is_set}
use Rattle.serde_json.specs.View.{items_of}
use Rattle.doc_writer.specs.Document.{feature_member, object_data, value_data}
use Rattle.doc_writer.proofs.AddedLemmas.{ItemsLeft, MembersLeft}
use Rattle.doc_writer.proofs.OrderLemmas.{listed}
use Rattle.doc_writer.proofs.values.+object.Given as goal

abbrev pub decreases-write_object : goal.decreases-write_object
decreases-write_object g l = 11 * l.levels

abbrev pub decreases-write_under : goal.decreases-write_under
decreases-write_under g l = 11 * l.levels + 1

abbrev pub decreases-write_found : goal.decreases-write_found
decreases-write_found g l = 11 * l.levels + 2

abbrev pub decreases-write_item : goal.decreases-write_item
decreases-write_item g l = 11 * l.levels + 3

abbrev pub decreases-write_list : goal.decreases-write_list
decreases-write_list g l = 11 * l.levels + 4

abbrev pub decreases-write_items : goal.decreases-write_items
decreases-write_items g l = 11 * l.levels + 5

abbrev pub decreases-write_content : goal.decreases-write_content
decreases-write_content g l = 11 * l.levels + 6

abbrev pub decreases-write_feature : goal.decreases-write_feature
decreases-write_feature g l = 11 * l.levels + 7

abbrev pub decreases-write_if_set : goal.decreases-write_if_set
decreases-write_if_set g l = 11 * l.levels + 8

abbrev pub decreases-write_features : goal.decreases-write_features
decreases-write_features g l = 11 * l.levels + 9

abbrev pub decreases-write_members : goal.decreases-write_members
decreases-write_members g l = 11 * l.levels + 10

abbrev pub invariant-write_list-values : goal.invariant-write_list-values
invariant-write_list-values g l =
    let r = reading l.source.positions.now in
    let made = value_data r l.source.resource (object_data r l.source.resource l.levels) l.end.feature in
    ItemsLeft (items_of (map made (r.values l.end))) (items_of (map made (drop l.index (r.values l.end)))) l.fn.out l.out

abbrev pub invariant-write_features-features : goal.invariant-write_features-features
invariant-write_features-features g l =
    let r = reading l.source.positions.now in
    let made = feature_member r l.source.resource (object_data r l.source.resource l.levels) l.object in
    let set : FeatureNo → Bool = λ f. is_set r (at_end (node.Object l.object) f) in
    MembersLeft (listed (map made (filter set l.features))) (listed (map made (filter set (take l.feature-index l.features)))) (listed (map made (filter set (drop l.feature-index l.features)))) l.fn.out l.out
