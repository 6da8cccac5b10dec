use Rattle.std.proofs.Common.{ap, ◌∙◌}
use Rattle.std.specs.Prelude.{Option, unwrap_or}
use Rattle.mm_types.specs.declared.value.Value.{Value}
use Rattle.mm_types.specs.declared.value.Value.TheVariants as value
use Rattle.models.proofs.EndLemmas.{value_at-first}
use Rattle.models.proofs.model_ref.ModelRef.value_at.Goals as goal

pub returns-then-is_reference : goal.returns-then-is_reference
returns-then-is_reference g c = ap (λ (q : Option Value). unwrap_or q value.Null) c.target_in.ensures ∙ value_at-first c.args.self.now c.args.end
