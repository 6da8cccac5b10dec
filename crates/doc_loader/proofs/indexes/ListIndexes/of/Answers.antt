use Rattle.std.proofs.Common.{◌∙◌, ap}
use Rattle.std.specs.Option.{option_or}
use Rattle.std.specs.Prelude.{flat_map}
use Rattle.std.specs.List.{enumerate_from}
use Rattle.doc_loader.specs.Loading.{of_object}
use Rattle.doc_loader.specs.ListIndexes.{content_indexes, last_index, index_at}
use Rattle.doc_loader.proofs.PlaceLemmas.{noted_numbered-more}
use Rattle.doc_loader.proofs.indexes.ListIndexes.of.Goals as goal

pub objects-preserved : goal.objects-preserved
objects-preserved c = λ k.
    let made = of_object (content_indexes c.args.meta.now) in
    noted_numbered-more made c.args.objects.now c.objects.i c.index-objects-i.result k (index_at c.objects.indexes k) (index_at c.add_object.new.self k)
    (last_index (flat_map made (enumerate_from 0 c.args.objects.now)) k)
    c.objects-test.true c.index-objects-i.is
    (c.in_ok-add_object.ensures k
    ∙ ap (λ cs. option_or (last_index (flat_map (content_indexes c.args.meta.now (record { 0 = c.objects.i })) cs) k) (index_at c.objects.indexes k)) c.as_slice.ensures)
    (c.objects.invariant k)
