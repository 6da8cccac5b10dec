use Rattle.std.proofs.Common.{◌∙◌, arith}
use Rattle.std.proofs.lemmas.Grind.{common_steps}
use Rattle.node_slots.specs.Cells.{room}
use Rattle.node_slots.proofs.TakesLemmas.{takes_more}
use Rattle.node_slots.proofs.node_slots.NodeSlots.reserve_for.Goals as goal

pub loop-edit-preserved : goal.loop-edit-preserved
loop-edit-preserved c =
    let v = c.loop-edit.invariant in
    let more = c.in_ok-promise_edit.ensures in
    record {
      cells = more.cells ∙ v.cells;
      room = record {
        places = λ e. grind (arith, common_steps, v.room.places e, more.ok.places e);
        takes = takes_more (room c.loop-edit.self) (room c.promise_edit.new.self) c.as_slice-edits.result.now c.loop-edit.edit-index c.edit-item.result more.ok.mixed (omega arith) c.edit-item.is v.room.takes more.takes;
        entries = λ n. grind (arith, common_steps, v.room.entries n, more.ok.entries n);
      };
    }
