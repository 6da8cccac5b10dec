use Rattle.std.proofs.Common.{drop, map}
use Rattle.models.specs.Model.{reading}
use Rattle.serde_json.specs.View.{items_of}
use Rattle.doc_writer.specs.Document.{object_data}
use Rattle.doc_writer.proofs.AddedLemmas.{ItemsLeft}
use Rattle.doc_writer.proofs.document.write_list.Given as goal

abbrev pub invariant-roots : goal.invariant-roots
invariant-roots g l =
    let r = reading l.source.positions.now in
    let made = object_data r l.source.resource r.next in
    ItemsLeft (items_of (map made l.roots)) (items_of (map made (drop l.root-index l.roots))) l.fn.out l.out
