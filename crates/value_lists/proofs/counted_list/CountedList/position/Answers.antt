use Rattle.std.proofs.Common.{◌≡◌, true, ap, arith, ◌∙◌}
use Rattle.std.specs.List.{position}
use Rattle.mm_types.specs.Same.{same_value}
use Rattle.value_lists.specs.Hashes.{count_in, is_at}
use Rattle.value_lists.proofs.HashLemmas.{no_position, not_counted, only_position}
use Rattle.value_lists.proofs.counted_list.CountedList.position.Goals as goal

pub returns-in_default : goal.returns-in_default
returns-in_default c =
    let w = c.args.value.now in
    let vs = c.self.inside.list.items in
    no_position (same_value w) vs (not_counted c.self.inside.hashes vs w c.hash_of.result c.self.invariant c.hash_of.ensures c.in_default.ensures) ∙ ap (λ p. position (same_value w) p.items) c.self.view_is

pub returns-in-Some-find : goal.returns-in-Some-find
returns-in-Some-find c =
    let w = c.args.value.now in
    let vs = c.self.inside.list.items in
    let i = c.in-Some-find.index in
    let one : 1 ≡ count_in c.self.inside.hashes c.hash_of.result = omega (arith, c.in-Some.ensures) in
    let at : is_at w i vs ≡ true = ap (λ p. is_at w i p.items) c.self.view_is ∙ c.in-Some-find.ensures in
    only_position c.self.inside.hashes vs w c.hash_of.result i c.self.invariant c.hash_of.ensures one at ∙ ap (λ p. position (same_value w) p.items) c.self.view_is
