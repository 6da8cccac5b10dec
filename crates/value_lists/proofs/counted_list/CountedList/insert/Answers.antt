use Rattle.std.proofs.Common.{◌+◌, ◌≤◌, ap, arith, length}
use Rattle.std.proofs.lemmas.List.Edits.{length-insert}
use Rattle.value_lists.specs.Hashes.{count_in}
use Rattle.value_lists.proofs.HashLemmas.{count_fits}
use Rattle.value_lists.proofs.counted_list.CountedList.insert.Goals as goal

pub add-requires-clause-fits : goal.add-requires-clause-fits
add-requires-clause-fits c =
    let vs = c.self.inside.list.items in
    let within : c.args.index ≤ length vs = omega (arith, ap (λ p. length p.items) c.self.view_is, c.requires.in_range) in
    let few : count_in c.self.inside.hashes c.hash_of-hash.result + 1 ≤ length vs + 1 = count_fits c.self.inside.hashes vs c.hash_of-hash.result (length vs + 1) c.self.invariant (omega arith) in
    omega (arith, few, ap length c.in-Ok.ensures.items, length-insert vs c.args.index c.args.value within, c.len-len.ensures)
