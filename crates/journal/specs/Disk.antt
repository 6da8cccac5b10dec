-- How the calls of a disk change the file on it, and what a crash may leave of this file.
use Rattle.std.specs.Prelude.{◌<◌, ◌≡◌, ◌⊎◌, ℕ, ◌+◌, ◌≤◌, max, List, ◌++◌, length, take, drop, Result, IsErrOf}
use Rattle.journal.specs.declared.disk.DiskFault.{DiskFault}
use Rattle.journal.specs.declared.disk.DiskFault.TheVariants.{Failed, Full}

-- `new` is the file `old` after `bytes` were written from the offset `at` on; a write that reaches beyond the end of the file makes the
-- file longer.
abbrev pub Overwrites : ℕ → List ℕ → List ℕ → List ℕ → Type 0
Overwrites at bytes old new = new ≡ take at old ++ bytes ++ drop (at + length bytes) old

-- A write of `n` bytes from the offset `at` on was interrupted; the file was `old` before the write, and is `new`. Nothing is known of the
-- bytes in the range of the write, and all other bytes are as they were. The file is not shorter than before, and may have grown, at most
-- up to the end of the range.
pub record Torn (at n : ℕ) (old new : List ℕ) : Type 0 where
  pub front : take at new ≡ take at old
  pub back : drop (at + n) new ≡ drop (at + n) old
  pub at_least : length old ≤ length new
  pub at_most : length new ≤ max (length old) (at + n)

-- A cut of the file `old` to the length `len` was interrupted: the file is `new`, a prefix of `old` that has at least `len` bytes.
pub record PartlyCut (len : ℕ) (old new : List ℕ) : Type 0 where
  pub at_least : len ≤ length new
  pub front : take (length new) old ≡ new

-- each file that a crash may leave after a step is a result of that step on some file that a crash could leave before the step
abbrev pub Follows : (List ℕ → List ℕ → Type 0) → (List ℕ → Type 0) → (List ℕ → Type 0) → Type 0
Follows step old new = (c : List ℕ) → new c → (d : List ℕ) × old d × step d c

-- each file that a crash may leave has exactly the bytes `bytes`
abbrev pub IsDurable : List ℕ → (List ℕ → Type 0) → Type 0
IsDurable bytes may_leave = (c : List ℕ) → may_leave c → c ≡ bytes

-- `old` and `new`: the files that a crash may leave before and after a step. Each file of `new` is a file of `old`
abbrev pub LeavesNoOther : (List ℕ → Type 0) → (List ℕ → Type 0) → Type 0
LeavesNoOther old new = (c : List ℕ) → new c → old c

-- The clock of a disk was at the moment `before` and is at the moment `now`, which may be the same moment. For a moment t up to `before`,
-- `past t` is true of the files that a crash from t to `before` may have left, and `since t` of the files that a crash from t to `now` may
-- have left. Each file of `since t` is a file of `past t`, or a file that a crash may leave now (`may_leave`). Each file of `past t` is a
-- file of `since t`.
pub record Elapses (before now : ℕ) (past since : ℕ → List ℕ → Type 0) (may_leave : List ℕ → Type 0) : Type 0 where
  pub later : before ≤ now
  pub no_other : (t : ℕ) (c : List ℕ) → t ≤ before → since t c → past t c ⊎ may_leave c
  pub kept : (t : ℕ) (c : List ℕ) → t ≤ before → past t c → since t c

-- `old` and `new` are a disk before and after some calls. P is true of each file that a crash can leave from the moment of `old` to the
-- moment of `new`. Let t be a moment up to the moment of `old`. If a crash from t to the moment of `new` can leave a file, then P is true
-- of the file, or a crash from t to the moment of `old` can leave the file too.
pub record LeavesOnly {D : Type 0} (moment : D → ℕ) (left_since : D → ℕ → List ℕ → Type 0) (old new : D) (P : List ℕ → Type 0) : Type 0 where
  pub later : moment old ≤ moment new
  pub each : (c : List ℕ) → left_since new (moment old) c → P c
  pub before : (t : ℕ) (c : List ℕ) → t ≤ moment old → left_since new t c → left_since old t c ⊎ P c

-- `before` and `now` count the failed calls of a disk, before and after a call. The count has not fallen. If the call returns `Failed`, the
-- count has grown. The call never returns `Full`.
pub record HasCause {T : Type 0} (before now : ℕ) (result : Result T DiskFault) : Type 0 where
  pub later : before ≤ now
  pub failed : IsErrOf result Failed → before < now
  pub not_full : IsErrOf result Full → ⊥
