-- A journal between two calls, and the lines of the files that a crash leaves.
use Rattle.std.specs.Prelude.{◌≡◌, ◌⊎◌, ℕ, List, ◌++◌, length}
use Rattle.journal.specs.Disk.{IsDurable}
use Rattle.journal.specs.Lines.{AreEntries, at_rest, entries, recovered_lines}
use Rattle.journal.specs.declared.journal.Journal.{Journal}

-- the disk that has the file of a journal
abbrev pub disk_of : {D : Type 0} → Journal D → D
disk_of journal = journal.disk

-- the lines that were noted since the last commit
abbrev pub noted_lines : {D : Type 0} → Journal D → List (List ℕ)
noted_lines journal = recovered_lines journal.pending.items

module _ {D : Type 0} (seen : D → List ℕ) where
  -- the lines that are recovered from the file of a journal
  abbrev pub journal_lines : Journal D → List (List ℕ)
  journal_lines journal = recovered_lines (seen journal.disk)

  -- The file of the journal is the entries of its lines and an empty line; a crash leaves exactly that file; `end` is the length of these
  -- entries; and the bytes that wait for a commit are entries.
  pub record IsSettled (may_leave : D → List ℕ → Type 0) (journal : Journal D) : Type 0 where
    pub file : seen journal.disk ≡ at_rest (journal_lines journal)
    pub end : journal.end ≡ length (entries (journal_lines journal))
    pub durable : IsDurable (seen journal.disk) (may_leave journal.disk)
    pub pending : AreEntries journal.pending.items

-- the lines that are recovered from a file are exactly the lines of `ls`
abbrev pub StandsFor : List (List ℕ) → List ℕ → Type 0
StandsFor ls file = recovered_lines file ≡ ls

-- the lines that are recovered from a file are exactly the lines of `ls`, or exactly the lines of `ls` followed by all lines of `more`
abbrev pub IsBeforeOrAfter : List (List ℕ) → List (List ℕ) → List ℕ → Type 0
IsBeforeOrAfter ls more file = StandsFor ls file ⊎ StandsFor (ls ++ more) file
