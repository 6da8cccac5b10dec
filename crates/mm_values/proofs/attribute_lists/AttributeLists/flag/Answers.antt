use Rattle.std.proofs.Common.{sym, ap, subst, arith}
use Rattle.std.proofs.lemmas.List.{get_or_default}
use Rattle.mm_values.specs.Stored.{Stored}
use Rattle.mm_values.specs.Attributes.{IsRising, place_for}
use Rattle.mm_values.proofs.Place.{stored_at, stored_in_gap}
use Rattle.mm_values.proofs.attribute_lists.AttributeLists.flag.Goals as goal

-- the entry that was read is the entry of the attribute
pub returns-in-Ok : goal.returns-in-Ok
returns-in-Ok c =
    let here = stored_at _ (subst IsRising c.self.view_is c.self.invariant) _ _ c.in-Ok.ensures.found in
    let read = get_or_default _ _ c.index.result.now (place_for 0) c.in-Ok.ensures.found.in_range in
    grind (arith, c.self.view_is, ap (λ (h : Stored). h.flag) here)

-- the attribute has no entry
pub returns-in-Err : goal.returns-in-Err
returns-in-Err c = sym (ap (λ (h : Stored). h.flag) (stored_in_gap _ _ _ c.in-Err.ensures.absent))
