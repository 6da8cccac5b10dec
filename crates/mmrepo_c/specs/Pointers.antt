-- What a pointer owns: an empty pointer owns nothing; any other pointer owns the same as a `Box` of its session.
use Rattle.std.specs.Prelude.{Option, Some, None}
use base.Fml.{Fml, ftrue}
use base.Stored.{Coded}
use denote.RawPtr.{Ptr}
use Rattle.std.specs.Box.Ownership.{box_owns}
use Rattle.std.specs.Global.{Global}
use Rattle.std_heap.specs.contracts.GlobalAllocator.TheImpl.{ghosts}
use Rattle.mmrepo_c.specs.contracts.session.Session.{the_row}

abbrev pub slot_owns : Global → Ptr → Option the_row.Denot → Fml
slot_owns alloc at None = ftrue
slot_owns alloc at (Some s) = box_owns (ghosts.dealloc_token alloc) the_row at s

abbrev pub held_coded : Coded the_row.Denot
held_coded = the_row.coded
