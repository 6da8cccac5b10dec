use Rattle.std.proofs.Common.{◌∙◌, ◌++◌, ap}
use Rattle.std.specs.Prelude.{flat_map}
use Rattle.std.specs.List.{enumerate_from}
use Rattle.doc_loader.specs.LoadEdits.{far_edits}
use Rattle.doc_loader.specs.Loading.{of_object}
use Rattle.doc_loader.specs.ListIndexes.{found_at}
use Rattle.doc_loader.proofs.LinkLemmas.{made_numbered-more}
use Rattle.doc_loader.proofs.far.push_objects.Goals as goal

pub objects-preserved : goal.objects-preserved
objects-preserved c =
    let made = far_edits c.args.source.now.meta.now c.args.source.now.next (found_at c.args.source.now.indexes.now) in
    made_numbered-more (of_object made) c.args.objects.now c.objects.i c.index-objects-i.result c.objects.edits.items c.push_object.new.edits.items
    (c.args.edits.now.items ++ flat_map (of_object made) (enumerate_from 0 c.args.objects.now)) c.objects-test.true c.index-objects-i.is
    (c.in_ok-push_object.ensures ∙ ap (λ cs. c.objects.edits.items ++ flat_map (made (record { 0 = c.objects.i })) cs) c.as_slice.ensures)
    c.objects.invariant
