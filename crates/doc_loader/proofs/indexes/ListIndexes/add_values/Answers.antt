use Rattle.std.specs.Option.{option_or}
use Rattle.std.specs.Prelude.{flat_map}
use Rattle.std.specs.List.{enumerate_from}
use Rattle.doc_loader.specs.ListIndexes.{last_index, index_at, key_and_index}
use Rattle.doc_loader.proofs.PlaceLemmas.{noted_numbered-more}
use Rattle.doc_loader.proofs.indexes.ListIndexes.add_values.Goals as goal

pub values-preserved : goal.values-preserved
values-preserved c = λ k.
    let made = key_and_index c.args.object c.args.feature in
    noted_numbered-more made c.args.values.now c.values.i c.index-values-i.result k (index_at c.values.self k) (index_at c.add_value.new.self k)
    (option_or (last_index (flat_map made (enumerate_from 0 c.args.values.now)) k) (index_at c.args.self.now k))
    c.values-test.true c.index-values-i.is (c.in_ok-add_value.ensures k) (c.values.invariant k)
