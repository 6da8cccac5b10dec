use Rattle.std.specs.Option.{option_or}
use Rattle.std.specs.Prelude.{flat_map}
use Rattle.doc_loader.specs.ListIndexes.{content_indexes, last_index, index_at}
use Rattle.doc_loader.proofs.PlaceLemmas.{noted-more}
use Rattle.doc_loader.proofs.indexes.ListIndexes.add_object.Goals as goal

pub contents-preserved : goal.contents-preserved
contents-preserved c = λ k.
    let made = content_indexes c.args.meta.now c.args.object in
    noted-more made c.args.contents.now c.contents.content-index c.content-item.result k (index_at c.contents.self k) (index_at c.add_content.new.self k)
    (option_or (last_index (flat_map made c.args.contents.now) k) (index_at c.args.self.now k))
    c.contents-test.true c.content-item.is (c.in_ok-add_content.ensures k) (c.contents.invariant k)
