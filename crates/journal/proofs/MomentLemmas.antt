-- What a crash leaves, from call to call of a disk.
use Rattle.std.proofs.Common.{inl, inr, ⊎_elim, ℕ, List, arith}
use Rattle.journal.specs.Disk.{Elapses, LeavesOnly}

module _ {D : Type 0} (moment : D → ℕ) (left_since : D → ℕ → List ℕ → Type 0) where
  -- before the first call
  pub begins : (disk : D) (P : List ℕ → Type 0) → ((c : List ℕ) → left_since disk (moment disk) c → P c) → LeavesOnly moment left_since disk disk P
  begins disk P now = record { later = omega arith; each = now; before = λ t c le left. inl left }

  -- after one more call, if all that it may leave has P
  pub goes_on : (old mid new : D) (P may_leave : List ℕ → Type 0) → LeavesOnly moment left_since old mid P
      → Elapses (moment mid) (moment new) (left_since mid) (left_since new) may_leave → ((c : List ℕ) → may_leave c → P c) → LeavesOnly moment left_since old new P
  goes_on old mid new P may_leave so_far time now = record {
    later = omega (arith, so_far.later, time.later);
    each = λ c left. ⊎_elim (so_far.each c) (now c) (time.no_other (moment old) c so_far.later left);
    before = λ t c le left. ⊎_elim (so_far.before t c le) (λ here. inr (now c here)) (time.no_other t c (omega (arith, le, so_far.later)) left);
  }
