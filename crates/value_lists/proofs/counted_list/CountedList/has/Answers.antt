use Rattle.std.proofs.Common.{ap, sym, ◌∙◌}
use Rattle.std.specs.List.{list_any}
use Rattle.std.specs.Option.{is_some}
use Rattle.mm_types.specs.Same.{same_value}
use Rattle.value_lists.proofs.HashLemmas.{any_found, is_some-position, not_counted}
use Rattle.value_lists.proofs.counted_list.CountedList.has.Goals as goal

pub returns-in_default : goal.returns-in_default
returns-in_default c =
    let w = c.args.value.now in
    sym (not_counted c.self.inside.hashes c.self.inside.list.items w c.hash_of.result c.self.invariant c.hash_of.ensures c.in_default.ensures) ∙ ap (λ p. list_any (same_value w) p.items) c.self.view_is

pub returns-then-is_some : goal.returns-then-is_some
returns-then-is_some c = sym (any_found c.args.value.now c.args.self.now.items c.find.result c.find.ensures (sym c.is_some.ensures ∙ c.if-is_some.true))

pub returns : goal.returns
returns c =
    let w = c.args.value.now in
    c.is_some-2.ensures ∙ ap is_some c.position.ensures ∙ is_some-position (same_value w) c.self.inside.list.items ∙ ap (λ p. list_any (same_value w) p.items) c.self.view_is
