use Rattle.std.proofs.Common.{◌<◌, ap, arith, length, subst, sym}
use Rattle.value_lists.specs.Hashes.{Counts}
use Rattle.value_lists.proofs.HashLemmas.{counts-remove}
use Rattle.value_lists.proofs.counted_list.CountedList.remove.Goals as goal

pub invariant_of-self : goal.invariant_of-self
invariant_of-self c =
    let vs = c.self.inside.list.items in
    let t = c.self.inside.hashes in
    let within : c.args.index < length vs = omega (arith, ap (λ p. length p.items) c.self.view_is, ap length c.try_label.ensures.items, c.requires) in
    subst (λ ws. Counts c.take.new.self ws) (sym c.remove-value.ensures.items) (counts-remove t c.take.new.self vs c.args.index c.hash_of.result c.remove-value.result c.self.invariant within c.remove-value.ensures.value c.hash_of.ensures c.take.ensures.counts)
