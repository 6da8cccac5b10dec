-- The calls that were made on a file of the system, and what a method of `Disk` returns.
use Rattle.std.specs.Prelude.{Bool, true, false, List, Result, Ok, Err}
use Rattle.journal.specs.declared.disk.DiskFault.{DiskFault}
use Rattle.journal.specs.declared.disk.DiskFault.TheVariants.{Failed}
use Rattle.file_disk.specs.Events.{Event}
use Rattle.file_disk.specs.declared.file.FileDisk.{FileDisk}

-- the calls on the file, the newest first
abbrev pub events_of : FileDisk → List Event
events_of disk = disk.record.events

-- what a method of `Disk` returns; the truth value says whether the method's call of the system succeeded
abbrev pub outcome_of : Bool → Result (Unit {0}) DiskFault
outcome_of true = Ok tt
outcome_of false = Err Failed
