-- An outbox, and how it gives out the answers that it holds back.
use Rattle.std.specs.Prelude.{◌≡◌, ◌<◌, ◌≤◌, ◌⊎◌, ◌^◌, ℕ, List, [], ◌++◌, length, Option}
use Rattle.std.specs.Io.KnownBytes.{Appends}
use Rattle.script_streams.specs.Streams.{AppendsFront}
use Rattle.script_streams.specs.declared.run_fault.RunFault.{RunFault}
use Rattle.script_streams.specs.declared.run_fault.RunFault.TheVariants as stops
use Rattle.journal.specs.Disk.{LeavesOnly}
use Rattle.journal.specs.Journal.{IsBeforeOrAfter, IsSettled, StandsFor, disk_of, journal_lines, noted_lines}
use Rattle.journal.specs.Lines.{entries}
use Rattle.journal.specs.declared.disk.DiskFault.{DiskFault}
use Rattle.journal.specs.declared.disk.DiskFault.TheVariants as fails
use Rattle.journal.specs.declared.journal.Journal.{Journal}
use Rattle.durable.specs.Printed.{Printed, Runs, answer, kept_line}
use Rattle.durable.specs.declared.outbox.Outbox.{Outbox}

module _ {D W : Type 0} where
  abbrev pub journal_of : Outbox D W → Journal D
  journal_of outbox = outbox.journal

  -- the answers that are held back
  abbrev pub held_by : Outbox D W → List ℕ
  held_by outbox = outbox.held.items

  abbrev pub writer_of : Outbox D W → W
  writer_of outbox = outbox.writer

  -- the disk of the journal
  abbrev pub disk_under : Outbox D W → D
  disk_under outbox = disk_of outbox.journal

  -- the lines to be kept, among the lines whose answers are held back
  abbrev pub noted_by : Outbox D W → List (List ℕ)
  noted_by outbox = noted_lines outbox.journal

  -- the lines that are on the disk
  abbrev pub kept_by : (D → List ℕ) → Outbox D W → List (List ℕ)
  kept_by seen outbox = journal_lines seen outbox.journal

  -- the journal of the outbox is settled, as it is between two calls
  abbrev pub IsAtRest : (D → List ℕ) → (D → List ℕ → Type 0) → Outbox D W → Type 0
  IsAtRest seen may_leave outbox = IsSettled seen may_leave outbox.journal

-- A line was run: its answer is held back, and the line is noted if it is to be kept.
pub record Takes {S D W : Type 0} (runs : Runs S) (s : S) (line : List ℕ) (t : S) (old new : Outbox D W) : Type 0 where
  pub printed : Printed
  pub ran : runs s line printed t
  pub held : held_by new ≡ held_by old ++ answer printed
  pub noted : noted_by new ≡ noted_by old ++ kept_line line printed

-- The lines that were noted are on the disk, and the answers that were held back are written.
pub record Gives {D W : Type 0} (contents : W → Option (List ℕ)) (seen : D → List ℕ) (may_leave : D → List ℕ → Type 0) (old new : Outbox D W) : Type 0 where
  pub settled : IsAtRest seen may_leave new
  pub kept : kept_by seen new ≡ kept_by seen old ++ noted_by old
  pub noted : noted_by new ≡ []
  pub held : held_by new ≡ []
  pub written : Appends (contents (writer_of old)) (contents (writer_of new)) (held_by old)

-- the entries of the file, each a mark, a line and a newline, have 2^62 bytes or more in all, so the file gets no more entries
abbrev pub IsFull : {D W : Type 0} → (D → List ℕ) → Outbox D W → Type 0
IsFull seen outbox = 2 ^ 62 ≤ length (entries (kept_by seen outbox))

-- the fault that a run stops with, if its journal fails with a fault of the disk
abbrev pub run_fault : DiskFault → RunFault
run_fault fails.Memory = stops.Memory
run_fault fails.Failed = stops.Journal
run_fault fails.Full = stops.Journal

-- The answers were not given because of a fault. If a write or the flush failed, a prefix of the answers is written, perhaps all of them,
-- and a file that a crash leaves has the lines that were kept before and all lines that were noted. If a call of the disk failed, the file
-- was full, or memory was refused, no byte of an answer is written.
abbrev pub FailsToGive : {D W : Type 0} → (W → Option (List ℕ)) → (D → List ℕ) → (D → List ℕ → Type 0) → (D → ℕ) → Outbox D W → RunFault → Outbox D W → Type 0
FailsToGive contents seen may_leave faults old stops.Read new = ⊥
FailsToGive contents seen may_leave faults old stops.Write new =
    ((c : List ℕ) → may_leave (disk_under new) c → StandsFor (kept_by seen old ++ noted_by old) c)
    × AppendsFront (contents (writer_of old)) (contents (writer_of new)) (held_by old)
FailsToGive contents seen may_leave faults old stops.TooLong new = ⊥
FailsToGive contents seen may_leave faults old stops.Memory new = writer_of new ≡ writer_of old
FailsToGive contents seen may_leave faults old stops.Journal new =
    (writer_of new ≡ writer_of old) × ((faults (disk_under old) < faults (disk_under new)) ⊎ IsFull seen new)

-- If a crash comes at a moment from `old` to `new`, the file that it leaves has the lines that were kept before, followed by none or all of
-- the noted lines.
abbrev pub LeavesBoth : {D W : Type 0} → (D → List ℕ) → (D → ℕ) → (D → ℕ → List ℕ → Type 0) → Outbox D W → Outbox D W → Type 0
LeavesBoth seen moment left_since old new = LeavesOnly moment left_since (disk_under old) (disk_under new) (IsBeforeOrAfter (kept_by seen old) (noted_by old))
