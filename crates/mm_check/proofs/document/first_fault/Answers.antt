use Rattle.std.proofs.Common.{◌+◌, arith, get_or}
use Rattle.mm_types.specs.declared.meta_fault.Condition.TheVariants.{Name}
use Rattle.mm_types.proofs.FaultOrder.{conditions}
use Rattle.mm_check.proofs.Faulting.{first_fault, none_more, none_yet, number_at, well_formed}
use Rattle.mm_check.proofs.document.first_fault.Goals as goal

pub first_place-requires : goal.first_place-requires
first_place-requires c =
    let number = number_at c.conditions.condition-index Name c.conditions-test.true in
    rw number c.conditions.invariant

pub conditions-init : goal.conditions-init
conditions-init c = none_yet c.args.checker.now

pub conditions-preserved : goal.conditions-preserved
conditions-preserved c =
    let i = c.conditions.condition-index in
    let k = get_or conditions i Name in
    none_more c.args.checker.now k (i + 4) (i + 1 + 4) (number_at i Name c.conditions-test.true) (omega arith) c.conditions.invariant
    (rw c.in_default.is at c.in_ok-place.ensures)

pub returns-in-Some : goal.returns-in-Some
returns-in-Some c =
    let i = c.conditions.condition-index in
    let k = get_or conditions i Name in
    first_fault c.args.checker.now k c.in-Some.place (i + 4) (number_at i Name c.conditions-test.true) c.conditions.invariant
    (rw c.in-Some.is at c.in_ok-place.ensures)

pub returns : goal.returns
returns c = well_formed c.args.checker.now (c.conditions.condition-index + 4) (omega arith) c.conditions.invariant
