use Rattle.std.proofs.Common.{◌<◌, ap, arith, length, subst, sym}
use Rattle.value_lists.specs.Hashes.{Counts}
use Rattle.value_lists.proofs.HashLemmas.{counts-list_after_move}
use Rattle.value_lists.proofs.counted_list.CountedList.move_to.Goals as goal

pub invariant_of-self : goal.invariant_of-self
invariant_of-self c =
    let vs = c.self.inside.list.items in
    let t = c.self.inside.hashes in
    let within : c.args.from < length vs = omega (arith, ap (λ p. length p.items) c.self.view_is, c.requires.from) in
    subst (λ ws. Counts t ws) (sym c.move_to.ensures.items) (counts-list_after_move t vs c.args.to c.args.from c.self.invariant within)
