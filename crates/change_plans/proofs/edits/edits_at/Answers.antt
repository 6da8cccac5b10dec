use Rattle.std.proofs.Common.{◌≡◌, ◌∙◌, Bool, true, false, [], List, ap, if◌then◌else◌, refl}
use Rattle.mm_types.specs.Resolved.{Metamodel}
use Rattle.mm_types.specs.Shapes.{shape}
use Rattle.mm_types.specs.declared.end.End.{End}
use Rattle.mm_values.specs.declared.value_edit.ValueEdit.{ValueEdit}
use Rattle.models.specs.Model.{reading}
use Rattle.models.specs.Reading.{Reading}
use Rattle.handshake.specs.Effects.{act_edits, if_attribute, value_edits}
use Rattle.handshake.specs.declared.act.Act.{Act}
use Rattle.handshake.specs.declared.act.Act.TheVariants.{Resolve}
use Rattle.handshake.specs.declared.change.Change.TheVariants.{At}
use Rattle.change_plans.proofs.edits.edits_at.Goals as goal

-- an act at an attribute makes these edits of values, and an act at a reference none
edits-made : (r : Reading) (e : End) (a : Act) → if_attribute r e (act_edits r e a) ≡ value_edits r (At e a)
edits-made r e (Resolve i) = elim (shape r.metamodel e.feature).is_reference as (λ b. (let xs : List ValueEdit = if b then [] else [] in xs) ≡ []) [ true ↦ refl | false ↦ refl ]
edits-made r e a = refl

edits-by : (r : Reading) (e : End) (a : Act) (b : Bool) → b ≡ (shape r.metamodel e.feature).is_reference → (if b then [] else act_edits r e a) ≡ value_edits r (At e a)
edits-by r e a b is = ap (λ (x : Bool). let xs : List ValueEdit = if x then [] else act_edits r e a in xs) is ∙ edits-made r e a

pub returns-then-is_reference : goal.returns-then-is_reference
returns-then-is_reference g c =
    c.none.ensures ∙ edits-by (reading c.args.model.now) c.args.end c.args.act true (c.if-is_reference.ensures ∙ ap (λ (m : Metamodel). (shape m c.args.end.feature).is_reference) c.meta.ensures)

pub returns : goal.returns
returns g c =
    c.act_edits.ensures ∙ edits-by (reading c.args.model.now) c.args.end c.args.act false (c.if-is_reference.ensures ∙ ap (λ (m : Metamodel). (shape m c.args.end.feature).is_reference) c.meta.ensures)
