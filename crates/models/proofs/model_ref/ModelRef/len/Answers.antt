use Rattle.std.proofs.Common.{arith}
use Rattle.models.proofs.PlaceLemmas.{attribute_values-few}
use Rattle.models.proofs.model_ref.ModelRef.len.Goals as goal

pub overflow_cast-result-2 : goal.overflow_cast-result-2
overflow_cast-result-2 g c =
    let few = attribute_values-few c.args.self.now c.args.end c.lemma_is_legal.ensures in
    rw (c.attribute_len.ensures, c.meta-2.ensures, c.values.ensures) (omega (arith, few))
