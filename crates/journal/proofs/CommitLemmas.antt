-- What a crash leaves after each call of a commit.
use Rattle.std.proofs.Common.{◌≡◌, inl, ℕ, ◌+◌, ◌<◌, ◌≤◌, List, [], ◌∷◌, ◌++◌, length, ◌∙◌, ap, subst, arith}
use Rattle.journal.specs.Disk.{Elapses, Follows, IsDurable, LeavesNoOther, LeavesOnly, Overwrites, Torn}
use Rattle.journal.specs.Journal.{IsBeforeOrAfter}
use Rattle.journal.specs.Lines.{at_rest, entries, recovered_lines}
use Rattle.journal.specs.declared.entries.TheConstants.{MARK}
use Rattle.journal.proofs.CrashLemmas.{length-file, length-staged, mark_crash, marked_is, stage_crash, staged, staged_is, tail_of}
use Rattle.journal.proofs.MomentLemmas.{begins, goes_on}

module _ {D : Type 0} (seen : D → List ℕ) (may_leave : D → List ℕ → Type 0) (moment : D → ℕ) (left_since : D → ℕ → List ℕ → Type 0)
    (only_now : (file : D) (c : List ℕ) → left_since file (moment file) c → may_leave file c)
    (d : D) (end : ℕ) (text : List ℕ)
    (file : seen d ≡ at_rest (recovered_lines (seen d))) (ends : end ≡ length (entries (recovered_lines (seen d)))) (durable : IsDurable (seen d) (may_leave d))
    (text_is : text ≡ at_rest (recovered_lines text)) (some : 1 < length text) where
  abbrev lines : List (List ℕ)
  lines = recovered_lines (seen d)

  abbrev more : List (List ℕ)
  more = recovered_lines text

  abbrev tail : List ℕ
  tail = tail_of text

  abbrev P : List ℕ → Type 0
  P = IsBeforeOrAfter lines more

  abbrev Leaves : D → Type 0
  Leaves new = LeavesOnly moment left_since d new P

  abbrev Goes : D → D → Type 0
  Goes old new = Elapses (moment old) (moment new) (left_since old) (left_since new) (may_leave new)

  abbrev staged_file : List ℕ
  staged_file = staged (seen d) text end file ends text_is some

  pub room : end + 1 ≤ length (seen d)
  room = omega (arith, length-file (seen d) text end file ends text_is some)

  at_start : Leaves d
  at_start = begins moment left_since d P (λ c left. inl (ap recovered_lines (durable c (only_now d c left))))

  -- the first write
  module _ (d1 : D) (torn1 : Follows (Torn (end + 1) (length tail)) (may_leave d) (may_leave d1)) (time1 : Goes d d1) where
    first : (c : List ℕ) → may_leave d1 c → P c
    first c left = inl (stage_crash (seen d) text end file ends text_is some (length tail) (may_leave d) (may_leave d1) durable torn1 c left)

    pub after_write : Leaves d1
    after_write = goes_on moment left_since d d d1 P (may_leave d1) at_start time1 first

    -- its sync
    module _ (d2 : D) (fewer2 : LeavesNoOther (may_leave d1) (may_leave d2)) (time2 : Goes d1 d2) where
      pub after_sync : Leaves d2
      after_sync = goes_on moment left_since d d1 d2 P (may_leave d2) after_write time2 (λ c left. first c (fewer2 c left))

      module _ (written1 : Overwrites (end + 1) tail (seen d) (seen d1)) (same2 : seen d2 ≡ seen d1) (durable2 : IsDurable (seen d1) (may_leave d2)) where
        first_is : seen d1 ≡ staged_file
        first_is = staged_is (seen d) text end file ends text_is some (seen d1) written1

        pub room2 : end ≤ length (seen d2)
        room2 = omega (arith, ap length same2, ap length first_is, length-staged (seen d) text end file ends text_is some)

        -- the second write
        module _ (d3 : D) (torn3 : Follows (Torn end 1) (may_leave d2) (may_leave d3)) (time3 : Goes d2 d3) where
          second : (c : List ℕ) → may_leave d3 c → P c
          second = mark_crash (seen d) text end file ends text_is some (may_leave d2) (may_leave d3) (subst (λ (f : List ℕ). IsDurable f (may_leave d2)) first_is durable2) torn3

          pub after_mark : Leaves d3
          after_mark = goes_on moment left_since d d2 d3 P (may_leave d3) after_sync time3 second

          pub second_is : Overwrites end (MARK ∷ []) (seen d2) (seen d3) → seen d3 ≡ at_rest (lines ++ more)
          second_is written3 =
              marked_is (seen d) text end file ends text_is some (seen d3) (subst (λ (f : List ℕ). Overwrites end (MARK ∷ []) f (seen d3)) (same2 ∙ first_is) written3)

          -- the last sync
          module _ (d4 : D) (fewer4 : LeavesNoOther (may_leave d3) (may_leave d4)) (time4 : Goes d3 d4) where
            pub after_last : Leaves d4
            after_last = goes_on moment left_since d d3 d4 P (may_leave d4) after_mark time4 (λ c left. second c (fewer4 c left))
