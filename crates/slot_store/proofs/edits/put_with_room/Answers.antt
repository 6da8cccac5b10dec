use Rattle.slot_store.proofs.RoomLemmas.{held_row}
use Rattle.std.proofs.Common.{refl}
use Rattle.slot_store.proofs.edits.put_with_room.Goals as goal

pub put-requires-clause-held : goal.put-requires-clause-held
put-requires-clause-held c = held_row c.reserve_put.new.self _ c.args.link.end c.args.link.index c.args.link.object c.args.link.opposite c.args.link.container refl c.in_ok-places.ensures.room
