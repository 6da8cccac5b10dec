use Rattle.std.proofs.Common.{◌≡◌, ◌&&◌, ◌∙◌, Bool, true, ap, sym}
use Rattle.mm_types.specs.Ends.{has_value}
use Rattle.mm_types.specs.Resolved.{Metamodel}
use Rattle.mm_types.specs.Shapes.{is_containment, shape}
use Rattle.mm_types.specs.declared.value.Value.{Value}
use Rattle.mm_types.specs.declared.value.Value.TheVariants as value
use Rattle.models.specs.Model.{reading, values_at}
use Rattle.models.specs.Reading.{is_repeat as is_repeat_of}
use Rattle.handshake.proofs.YieldLemmas.{contained-there}
use Rattle.handshake.proofs.plain.is_repeat.Goals as goal

pub returns-then-is_unique : goal.returns-then-is_unique
returns-then-is_unique g c =
    let m = c.args.model.now in
    let e = c.args.end in
    let o = c.in-Object.object in
    let contains : is_containment m.metamodel e.feature ≡ true = ap (λ (x : Metamodel). is_containment x e.feature) (sym c.meta.ensures) ∙ sym c.if-is_containment.ensures in
    let unique : (shape m.metamodel e.feature).is_unique ≡ true = ap (λ (x : Metamodel). (shape x e.feature).is_unique) (sym c.meta-in-Object.ensures) ∙ sym c.if-is_unique.ensures in
    c.is_contained_by.ensures
    ∙ contained-there m e o c.lemma_is_legal.ensures contains
    ∙ sym (ap (λ (b : Bool). b && has_value (values_at m e) (value.Object o)) unique)
    ∙ ap (λ (v : Value). is_repeat_of (reading m) e v) (sym c.in-Object.is)
