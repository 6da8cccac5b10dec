use Rattle.std.proofs.Common.{arith}
use Rattle.mm_values.specs.declared.value_edit.ValueEdit.TheVariants.{NewObject, DropObject, PutList, InsertValue, RemoveValue, MoveValue, NewUri}
use Rattle.mm_values.proofs.RoomLemmas.{insert_has_place, put_has_place, room_rest}
use Rattle.mm_values.proofs.SlotLemmas.{kept_none, kept_same}
use Rattle.mm_values.proofs.values.Values.apply_edit.Goals as goal

pub returns-in-NewObject-clause-room : goal.returns-in-NewObject-clause-room
returns-in-NewObject-clause-room c rest room = room_rest _ _ (NewObject _) rest (rw c.in-NewObject.is at room) c.add.ensures.kept c.add.ensures.next (omega arith)

pub returns-in-DropObject-clause-room : goal.returns-in-DropObject-clause-room
returns-in-DropObject-clause-room c rest room = room_rest _ _ (DropObject _) rest (rw c.in-DropObject.is at room) c.remove.ensures.kept (omega (arith, c.remove.ensures.next)) (omega arith)

pub returns-in-PutList-clause-room : goal.returns-in-PutList-clause-room
returns-in-PutList-clause-room c rest room = room_rest _ _ (PutList _ _ _ _) rest (rw c.in-PutList.is at room) c.put.ensures.kept (omega (arith, c.put.ensures.next)) (omega arith)

pub put-requires : goal.put-requires
put-requires c = put_has_place _ _ _ _ _ (rw c.in-PutList.is at c.requires)

pub change-requires : goal.change-requires
change-requires c = insert_has_place _ _ _ _ _ _ (rw c.in-InsertValue.is at c.requires)

pub returns-in-InsertValue-clause-room : goal.returns-in-InsertValue-clause-room
returns-in-InsertValue-clause-room c rest room = room_rest _ _ (InsertValue _ _ _ _ _) rest (rw c.in-InsertValue.is at room) c.change.ensures.kept (omega (arith, c.change.ensures.next)) (omega arith)

pub returns-in-RemoveValue-clause-room : goal.returns-in-RemoveValue-clause-room
returns-in-RemoveValue-clause-room c rest room = room_rest _ _ (RemoveValue _ _ _) rest (rw c.in-RemoveValue.is at room) (kept_none _ _ _ _ c.change-in-RemoveValue.ensures.kept) (omega (arith, c.change-in-RemoveValue.ensures.next)) (omega arith)

pub returns-in-MoveValue-clause-room : goal.returns-in-MoveValue-clause-room
returns-in-MoveValue-clause-room c rest room = room_rest _ _ (MoveValue _ _ _ _) rest (rw c.in-MoveValue.is at room) (kept_none _ _ _ _ c.change-in-MoveValue.ensures.kept) (omega (arith, c.change-in-MoveValue.ensures.next)) (omega arith)

pub returns-in-NewUri-clause-room : goal.returns-in-NewUri-clause-room
returns-in-NewUri-clause-room c rest room = room_rest _ _ (NewUri _) rest (rw c.in-NewUri.is at room) (kept_same _ _) (omega arith) c.add-in-NewUri.ensures.room
