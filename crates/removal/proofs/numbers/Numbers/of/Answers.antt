use Rattle.std.proofs.Common.{arith}
use Rattle.std.proofs.lemmas.Grind.{common_steps}
use Rattle.std.proofs.lemmas.Bool.Decides.{nat_tests}
use Rattle.std.proofs.lemmas.List.Folds.{list_any-append}
use Rattle.removal.proofs.numbers.Numbers.of.Goals as goal

pub loop-object-preserved : goal.loop-object-preserved
loop-object-preserved c = λ q. grind (arith, common_steps, nat_tests, list_any-append, c.loop-object.invariant q)
