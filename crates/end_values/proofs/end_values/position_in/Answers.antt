use Rattle.std.proofs.Common.{◌∙◌, ap}
use Rattle.mm_types.specs.Same.{same_object, same_value}
use Rattle.mm_types.specs.declared.numbers.ObjectNo.{ObjectNo}
use Rattle.mm_types.specs.declared.value.Value.{Value}
use Rattle.end_values.specs.EndValues.{object_value}
use Rattle.end_values.proofs.EndValueLemmas.{found_objects, not_found}
use Rattle.end_values.proofs.end_values.position_in.Goals as goal

pub returns-in-Object : goal.returns-in-Object
returns-in-Object c =
    c.position.ensures
    ∙ found_objects c.args.value.now (same_object c.in-Object.object) (λ (o : ObjectNo). ap (λ (v : Value). same_value v (object_value o)) c.in-Object.is) c.args.list.now.items

pub returns-in_default : goal.returns-in_default
returns-in_default c = not_found c.args.value.now c.in_default.not-Object c.args.list.now.items
