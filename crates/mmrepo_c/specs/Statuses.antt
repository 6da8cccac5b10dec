-- The statuses that the calls from C return for a line, a read or a load, and for a metamodel that is refused.
use Rattle.std.specs.Prelude.{ℕ, unwrap_or}
use Rattle.mm_types.specs.Faults.{fault_number}
use Rattle.mm_types.specs.declared.meta_fault.MetaFault.{MetaFault}
use Rattle.script_answers.specs.declared.turn.Turn.{Turn}
use Rattle.script_answers.specs.declared.turn.Turn.TheVariants as turned
use Rattle.mmrepo_c.specs.declared.status.TheConstants.{OK, BLANK, BAD, REFUSED, LOST, MEMORY}

-- the status of a line, a read or a load, by how it is counted
abbrev pub line_status : Turn → ℕ
line_status turned.Blank = BLANK
line_status turned.Bad = BAD
line_status turned.Done = OK
line_status turned.Refused = REFUSED
line_status turned.Lost = LOST

-- the status of a metamodel that is refused: the number of its fault, or `MEMORY` if memory was refused
abbrev pub fault_status : MetaFault → ℕ
fault_status f = unwrap_or (fault_number f) MEMORY
