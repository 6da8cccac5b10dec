use Rattle.std.proofs.Common.{ap, ◌∙◌}
use Rattle.std.specs.List.{list_any}
use Rattle.std.specs.Option.{is_some}
use Rattle.mm_types.specs.Same.{same_value}
use Rattle.value_lists.proofs.HashLemmas.{is_some-position}
use Rattle.value_lists.proofs.value_list.ValueList.has.Goals as goal

pub returns-in-Plain : goal.returns-in-Plain
returns-in-Plain c =
    let w = c.args.value.now in
    c.is_some.ensures ∙ ap is_some c.position.ensures ∙ is_some-position (same_value w) c.in-Plain.list.items ∙ ap (λ p. list_any (same_value w) p.items) (rw c.in-Plain.is at c.self.view_is)
