use Rattle.std.proofs.Common.{rules}
use Rattle.std.proofs.lemmas.List.Sorted.{IsNonDecreasingBy-from_sort_by_key}
use Rattle.mm_types.specs.declared.numbers.ObjectNo.{ObjectNo}
use Rattle.snapshots.proofs.TakenLemmas.{is-below}
use Rattle.snapshots.proofs.taking.objects_below.Goals as goal

-- src/taking.rt:34:1
pub returns : goal.returns
returns g c =
    let s = c.args.model.now in
    let sorted = c.sort_unstable_by_key.new.self.items in
    let up = IsNonDecreasingBy-from_sort_by_key (λ (o : ObjectNo). o.0) sorted c.sort_unstable_by_key.ensures.sorted (λ a r q k. search rules) in
    is-below s c.lemma_is_legal.ensures c.args.target c.in_ok-objects.objects.items sorted c.in_ok-objects.ensures up c.sort_unstable_by_key.ensures.permutation
