use Rattle.std.proofs.Common.{[], ◌∷◌, subst}
use Rattle.links.specs.declared.plan.Edit.{Edit}
use Rattle.node_slots.specs.Cells.{room}
use Rattle.node_slots.specs.Growth.{HasRoom}
use Rattle.slot_store.specs.EditedCells.{PutsObject}
use Rattle.slot_store.proofs.RoomLemmas.{far_row, held_row, near_row, proxy_row}
use Rattle.slot_store.proofs.edits.edit_rows.Goals as goal

pub places_of-places-requires-clause-near : goal.places_of-places-requires-clause-near
places_of-places-requires-clause-near c = near_row c.args.rows.now c.in-Put.link.end c.in-Put.link.index c.in-Put.link.object c.in-Put.link.opposite c.in-Put.link.container (subst (λ (x : Edit). HasRoom (room c.args.rows.now) (x ∷ [])) c.in-Put.is c.requires.room)

pub places_of-places-requires-clause-far : goal.places_of-places-requires-clause-far
places_of-places-requires-clause-far c = far_row c.args.rows.now c.in-Put.link.end c.in-Put.link.index c.in-Put.link.object c.in-Put.link.opposite c.in-Put.link.container (subst (λ (x : Edit). HasRoom (room c.args.rows.now) (x ∷ [])) c.in-Put.is c.requires.room)

pub put-requires-clause-held : goal.put-requires-clause-held
put-requires-clause-held c = held_row c.args.rows.now c.args.edit c.in-Put.link.end c.in-Put.link.index c.in-Put.link.object c.in-Put.link.opposite c.in-Put.link.container c.in-Put.is c.requires.room

pub row_index-row_index-requires : goal.row_index-row_index-requires
row_index-row_index-requires c = proxy_row c.args.rows.now c.in-PutProxy.end c.in-PutProxy.index c.in-PutProxy.text (subst (λ (x : Edit). HasRoom (room c.args.rows.now) (x ∷ [])) c.in-PutProxy.is c.requires.room)

pub put-requires-clause-object : goal.put-requires-clause-object
put-requires-clause-object c = subst PutsObject c.in-Put.is c.requires.object

pub put_in-requires-clause-can : goal.put_in-requires-clause-can
put_in-requires-clause-can c = (subst (λ (x : Edit). HasRoom (room c.args.rows.now) (x ∷ [])) c.in-PutProxy.is c.requires.room).takes.0
