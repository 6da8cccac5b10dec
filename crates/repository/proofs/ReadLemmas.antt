-- Reads of a single feature.
use Rattle.std.proofs.Common.{◌≡◌, ◌∙◌, Bool, true, false, [], Option, Some, None, Err, refl, sym, ap, subst}
use Rattle.mm_types.specs.Conditions.{◌else_by◌, ◌unless◌, ◌where_so◌, is_memory_refusal}
use Rattle.mm_types.specs.Shapes.{shape}
use Rattle.mm_types.specs.declared.numbers.FeatureNo.{FeatureNo}
use Rattle.mm_types.specs.declared.numbers.Node.{Node}
use Rattle.mm_types.specs.declared.refused.Refused.{Refused}
use Rattle.mm_types.specs.declared.refused.Refused.TheVariants.{NotSingle, AdapterFull}
use Rattle.notice_chain.specs.Listed.{is_chain_full}
use Rattle.models.specs.Existence.{end_refusal}
use Rattle.models.specs.Reading.{at_end}
use Rattle.repository.specs.Commands.{get}
use Rattle.repository.specs.Reads.{IsValueRefusal}
use Rattle.repository.specs.Run.{Executed}
use Rattle.repository.specs.State.{State, reads}
use Rattle.repository.specs.Step.{step_unless}
use Rattle.change_plans.proofs.RefusalLemmas.{IsNot}
use Rattle.repository.proofs.PlanLemmas.{end-not-memory}

none-after : (o : Option Refused) → (o else_by None) ≡ o
none-after None = refl
none-after (Some r) = refl

-- a refused read of a single feature is refused by `e_get` too, and not for memory
pub value-refused : (s : State) (n : Node) (f : FeatureNo) (r : Refused) → IsValueRefusal s n f r → (shape s.model.metamodel f).is_single ≡ true → (is_memory_refusal r ≡ false) × Executed s (get n f) (Err (record { refused = r; given_back = None })) s
value-refused s n f r h single =
    let found : end_refusal (reads s) (at_end n f) ≡ Some r = sym (none-after (end_refusal (reads s) (at_end n f))) ∙ ap (λ (b : Bool). end_refusal (reads s) (at_end n f) else_by (NotSingle unless b)) (sym single) ∙ h in
    let other : is_memory_refusal r ≡ false = subst (IsNot is_memory_refusal) found (end-not-memory (reads s) (at_end n f)) in
    (other, rw other (ap (step_unless s (get n f)) (ap (λ (o : Option Refused). o else_by (None else_by (AdapterFull where_so is_chain_full (reads s).above [] s.adapters))) found)))
