use Rattle.std.proofs.Common.{◌∙◌, ap, sym, take}
use Rattle.std.specs.Prelude.{◌||◌}
use Rattle.resource_docs.specs.Ends.{by_contents, by_objects}
use Rattle.resource_docs.proofs.AnyLemmas.{any_numbered-more}
use Rattle.resource_docs.proofs.ends.Ends.of.Goals as goal

pub objects-preserved : goal.objects-preserved
objects-preserved c = λ k.
    c.in_ok-add_object.ensures k
    ∙ ap (λ b. b || by_contents c.objects.i c.as_slice.result.now k) (c.objects.invariant k)
    ∙ ap (λ cs. by_objects (take c.objects.i c.args.objects.now) k || by_contents c.objects.i cs k) c.as_slice.ensures
    ∙ sym (any_numbered-more (λ y. by_contents y.0 y.1.contents k) c.args.objects.now c.objects.i c.index-objects-i.result c.objects-test.true c.index-objects-i.is)
