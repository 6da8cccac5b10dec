use Rattle.std.proofs.Common.{List, get_or, sym, ap, ◌∙◌}
use Rattle.node_slots.specs.declared.slot.Slot.{Slot}
use Rattle.node_slots.proofs.SlotLemmas.{first, missing, was}
use Rattle.node_slots.proofs.row.Row.slot.Goals as goal

pub returns-in-Some : goal.returns-in-Some
returns-in-Some c =
    let ss = c.args.self.now.slots in
    let at = first ss c.as_slice-slots.result.now c.args.feature c.slot_index.result c.in-Some.index c.index-slots-index.result c.as_slice-slots.ensures c.slot_index.ensures c.in-Some.is in
    let here = c.index-slots-index.is ∙ ap (λ (xs : List Slot). get_or xs c.in-Some.index c.index-slots-index.result) c.as_slice-slots.ensures in
    sym (was ss c.args.feature c.in-Some.index c.index-slots-index.result c.index-slots-index.result at here)

pub returns-in-None : goal.returns-in-None
returns-in-None c = sym (missing c.args.self.now.slots c.as_slice-slots.result.now c.args.feature c.slot_index.result c.as_slice-slots.ensures c.slot_index.ensures c.in-None.is)
