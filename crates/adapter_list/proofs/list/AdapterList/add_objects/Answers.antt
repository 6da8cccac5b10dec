use Rattle.std.proofs.Common.{false}
use Rattle.mm_types.specs.declared.numbers.Node.TheVariants as node
use Rattle.adapter_list.specs.Targets.{is_attached_at}
use Rattle.adapter_list.proofs.PlaceLemmas.{touched-all, touched-more}
use Rattle.adapter_list.proofs.list.AdapterList.add_objects.Goals as goal

pub loop-object-preserved : goal.loop-object-preserved
loop-object-preserved g c = λ k. touched-more (λ o. is_attached_at c.args.self.now.0 (node.Object o) false k) _ _ _ c.args.objects.now c.loop-object.object-index _ c.loop-object-test.true (c.in_ok-add_attached.ensures k) (c.loop-object.invariant k)

pub returns : goal.returns
returns g c = λ k. touched-all (λ o. is_attached_at c.args.self.now.0 (node.Object o) false k) _ _ c.args.objects.now c.loop-object.object-index c.loop-object-test.false (c.loop-object.invariant k)
