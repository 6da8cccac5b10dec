use Rattle.std.proofs.Common.{◌≡◌, Some, drop}
use Rattle.doc_parts.specs.Keys.{descend, number_at}
use Rattle.doc_parts.proofs.found.Numbers.descend.Given as goal

abbrev pub invariant-steps : goal.invariant-steps
invariant-steps l = descend (number_at l.self) (Some l.part) (drop l.step-index l.steps) ≡ descend (number_at l.self) (Some l.from) l.steps
