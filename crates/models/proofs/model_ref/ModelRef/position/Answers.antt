use Rattle.std.proofs.Common.{◌≡◌, false, refl, sym, ap, ◌∙◌, arith, subst}
use Rattle.std.specs.Prelude.{MatchOption, slice_get, Some, List, ℕ}
use Rattle.mm_types.specs.Resolved.{Metamodel}
use Rattle.mm_types.specs.Shapes.{shape}
use Rattle.mm_types.specs.declared.numbers.ObjectNo.{ObjectNo}
use Rattle.mm_types.specs.declared.value.Value.{Value}
use Rattle.mm_types.specs.declared.value.Value.TheVariants as value
use Rattle.links.specs.Links.{Links, end}
use Rattle.links.specs.Plans.{Lacks}
use Rattle.models.proofs.PlaceLemmas.{first-few, is_target, position-other, position-target}
use Rattle.models.proofs.model_ref.ModelRef.position.Goals as goal

pub returns-in-Object : goal.returns-in-Object
returns-in-Object g c =
    let reference = sym (ap (λ (m : Metamodel). (shape m c.args.end.feature).is_reference) c.meta.ensures) ∙ sym c.is_reference.ensures ∙ c.if-is_reference.true in
    rw c.in-Object.is
    (position-target c.args.self.now c.args.end (value.Object c.in-Object.object) c.position.result c.lemma_is_legal.ensures reference
    (subst (λ (s : Links). MatchOption c.position.result (Lacks s c.args.end (value.Object c.in-Object.object)) (λ k. slice_get (end s c.args.end) k ≡ Some (value.Object c.in-Object.object))) c.store.ensures.links c.position.ensures))

other-kind : (v : Value) → ((x : ObjectNo) → v ≡ value.Object x → ⊥) → ((t : List ℕ) → v ≡ value.Proxy t → ⊥) → is_target v ≡ false
other-kind (value.Object o) object proxy = absurd (object o refl)
other-kind (value.Proxy t) object proxy = absurd (proxy t refl)
other-kind _ object proxy = refl

pub returns-in_default : goal.returns-in_default
returns-in_default g c =
    let reference = sym (ap (λ (m : Metamodel). (shape m c.args.end.feature).is_reference) c.meta.ensures) ∙ sym c.is_reference.ensures ∙ c.if-is_reference.true in
    position-other c.args.self.now c.args.end c.args.value.now c.lemma_is_legal.ensures reference (other-kind c.args.value.now c.in_default.not-Object c.in_default.not-Proxy)

pub overflow_cast-result : goal.overflow_cast-result
overflow_cast-result g c =
    let few = first-few c.args.self.now c.args.end c.args.value.now c.in_ok-index.index c.lemma_is_legal.ensures (rw (← c.meta-2.ensures, ← c.values.ensures) c.in_ok-index.ensures) in
    omega (arith, few)
