-- The answers of a dialogue, and which lines of the dialogue a crash leaves in the file of the journal.
use Rattle.std.specs.Prelude.{◌≡◌, ◌≤◌, ◌⊎◌, ◌-◌, ◌^◌, ℕ, true, nat_lt, List, [], ◌++◌, length, Option, IfSome}
use Rattle.std.specs.List.{list_any}
use Rattle.std.specs.Io.KnownBytes.{Appends}
use Rattle.script_lines.specs.Lines.{lines}
use Rattle.script_streams.specs.Streams.{AppendsFront}
use Rattle.script_streams.specs.declared.run_fault.RunFault.{RunFault}
use Rattle.script_streams.specs.declared.run_fault.RunFault.TheVariants.{Read, Write, TooLong, Memory, Journal}
use Rattle.mm_types.specs.declared.limits.TheConstants.{INPUT_BYTES}
use Rattle.journal.specs.Journal.{IsBeforeOrAfter, StandsFor}
use Rattle.durable.specs.Printed.{Printed, Runs, RunsLines, answers, kept_lines}

-- What was written when a run stopped for a fault. `next` has the last of the lines that were run, which were not answered; `text` has the
-- answers to the lines before these. The content of the writer is `old` before the run and `new` after it. After a failed write (`Write`) a
-- prefix of `text` was written, perhaps all of it; for any other fault all of `text` was written. `next` is empty if a read failed
-- (`Read`), since a read can fail only when all lines that were run are answered. `next` is also empty if a write failed; then each line
-- that was run and is to be kept is on the disk.
abbrev pub WritesUntil : RunFault → List (List ℕ) → Option (List ℕ) → Option (List ℕ) → List ℕ → Type 0
WritesUntil Read next old new text = (next ≡ []) × Appends old new text
WritesUntil Write next old new text = (next ≡ []) × AppendsFront old new text
WritesUntil TooLong next old new text = Appends old new text
WritesUntil Memory next old new text = Appends old new text
WritesUntil Journal next old new text = Appends old new text

-- a line is longer than it may be, or there are 2^64 - 1 lines or more
abbrev pub IsTooLong : List (List ℕ) → Type 0
IsTooLong ls = (list_any (λ l. nat_lt INPUT_BYTES (length l)) ls ≡ true) ⊎ (2 ^ 64 - 1 ≤ length ls)

module _ {S : Type 0} (runs : Runs S) where
  -- A file stands for the lines that it had before the run, followed by the lines to be kept among the first n lines of the run, for some
  -- n; no line is skipped, and no line is there in part.
  pub record LeavesFront (s : S) (before : List (List ℕ)) (ls : List (List ℕ)) (file : List ℕ) : Type 0 where
    pub first : List (List ℕ)
    pub rest : List (List ℕ)
    pub lines_are : ls ≡ first ++ rest
    pub printed : List Printed
    pub after : S
    pub ran : RunsLines runs s first printed after
    pub stands : StandsFor (before ++ kept_lines first printed) file

  -- A run stopped for a fault. The answers to some first lines (`first`) were written; if a write failed, perhaps only a prefix of these
  -- answers. The next lines (`next`) were run but not answered. A file that a crash leaves has the lines from before the run and the lines
  -- to be kept among the first lines, and either none or all of the lines to be kept among the next lines.
  pub record Stops (fault : RunFault) (s : S) (before : List (List ℕ)) (ls : List (List ℕ)) (old new : Option (List ℕ)) (may_leave : List ℕ → Type 0) : Type 0 where
    pub first : List (List ℕ)
    pub next : List (List ℕ)
    pub rest : List (List ℕ)
    pub lines_are : ls ≡ first ++ (next ++ rest)
    pub printed : List Printed
    pub after : S
    pub ran : RunsLines runs s first printed after
    pub printed_next : List Printed
    pub after_next : S
    pub ran_next : RunsLines runs after next printed_next after_next
    pub written : WritesUntil fault next old new (answers printed)
    pub left : (c : List ℕ) → may_leave c → IsBeforeOrAfter (before ++ kept_lines first printed) (kept_lines next printed_next) c

  -- A run came to its end: all lines were run and answered, and the lines to be kept are on the disk.
  pub record Ends (s : S) (before : List (List ℕ)) (ls : List (List ℕ)) (old new : Option (List ℕ)) (kept_after : List (List ℕ)) (t : S) : Type 0 where
    pub printed : List Printed
    pub ran : RunsLines runs s ls printed t
    pub written : Appends old new (answers printed)
    pub kept : kept_after ≡ before ++ kept_lines ls printed

  -- `LeavesFront`, `Stops` and `Ends` for a run of the lines of an input, if the bytes of the input are known

  abbrev pub LeavesIn : Option (List ℕ) → S → List (List ℕ) → List ℕ → Type 0
  LeavesIn input s before file = IfSome input (λ bytes. LeavesFront s before (lines bytes) file)

  abbrev pub StopsIn : RunFault → Option (List ℕ) → S → List (List ℕ) → Option (List ℕ) → Option (List ℕ) → (List ℕ → Type 0) → Type 0
  StopsIn fault input s before old new may_leave = IfSome input (λ bytes. Stops fault s before (lines bytes) old new may_leave)

  abbrev pub EndsIn : Option (List ℕ) → S → List (List ℕ) → Option (List ℕ) → Option (List ℕ) → List (List ℕ) → S → Type 0
  EndsIn input s before old new kept_after t = IfSome input (λ bytes. Ends s before (lines bytes) old new kept_after t)
