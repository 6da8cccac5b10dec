use Rattle.std.proofs.Common.{List, ap, ◌∙◌}
use Rattle.mm_types.specs.declared.numbers.ObjectNo.{ObjectNo}
use Rattle.containment.specs.Forest.{is_node_among}
use Rattle.removal.proofs.gone.Removal.of.Goals as goal

pub returns-clause-found : goal.returns-clause-found
returns-clause-found g c = record {
  objects = c.in_ok-objects.ensures;
  numbers = λ n. c.in_ok-numbers.ensures n ∙ ap (λ (os : List ObjectNo). is_node_among os n) (c.deref.ensures.value ∙ c.in_ok-objects.ensures);
  ends = c.in_ok-ends.ensures;
}
