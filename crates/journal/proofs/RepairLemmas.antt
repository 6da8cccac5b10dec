-- What a crash leaves after each call of a repair.
use Rattle.std.proofs.Common.{◌≡◌, ℕ, zero, suc, ◌+◌, ◌-◌, ◌≤◌, List, [], ◌∷◌, ◌++◌, length, take, drop, sym, ◌∙◌, ap, subst, arith, length-append, length-drop, take-append-drop}
use Rattle.std.proofs.lemmas.List.{append-nil, drop_all, take_all, take_at}
use Rattle.journal.specs.Disk.{Elapses, Follows, IsDurable, LeavesNoOther, LeavesOnly, Overwrites, PartlyCut, Torn}
use Rattle.journal.specs.Journal.{StandsFor}
use Rattle.journal.specs.Lines.{at_rest, entries, recovered_lines}
use Rattle.journal.specs.declared.entries.TheConstants.{NEWLINE}
use Rattle.journal.proofs.EntryLemmas.{recovered_lines-entries_alone, recovered_lines-lines, recovered_lines-short, recovered_lines-take-none}
use Rattle.journal.proofs.MomentLemmas.{begins, goes_on}

take-append-beyond : (xs ys : List ℕ) (m n : ℕ) → m ≡ length xs + n → take m (xs ++ ys) ≡ xs ++ take n ys
take-append-beyond [] ys m n is = let same : m ≡ n = omega arith in ap (λ (k : ℕ). take k ys) same
take-append-beyond (x ∷ xs) ys zero n is = absurd (omega arith)
take-append-beyond (x ∷ xs) ys (suc m) n is = ap (λ (l : List ℕ). x ∷ l) (take-append-beyond xs ys m n (omega arith))

-- ---- files

-- a file of entries, with bytes after them that stand for no line
module _ (file : List ℕ) (end : ℕ) (split : file ≡ entries (recovered_lines file) ++ drop end file) (ends : end ≡ length (entries (recovered_lines file)))
    (none : recovered_lines (drop end file) ≡ []) where
  abbrev kept_entries : List ℕ
  kept_entries = entries (recovered_lines file)

  lines_alone : (rest : List ℕ) → recovered_lines rest ≡ [] → recovered_lines (kept_entries ++ rest) ≡ recovered_lines file
  lines_alone rest nothing = recovered_lines-entries_alone (recovered_lines file) rest (recovered_lines-lines file) nothing

  pub room : end ≤ length file
  room = omega (arith, ends, ap length split, length-append kept_entries (drop end file))

  -- whatever a crash in the cut leaves, the lines are there
  pub cut_crash : (c : List ℕ) → PartlyCut end file c → recovered_lines c ≡ recovered_lines file
  cut_crash c cut =
      let n = length c - end in
      let whole : c ≡ take (length c) (kept_entries ++ drop end file) = sym cut.front ∙ ap (λ (l : List ℕ). take (length c) l) split in
      let parts : c ≡ kept_entries ++ take n (drop end file) =
      whole ∙ take-append-beyond kept_entries (drop end file) (length c) n (omega (arith, cut.at_least, ends)) in
      ap recovered_lines parts ∙ lines_alone (take n (drop end file)) (recovered_lines-take-none n (drop end file) none)

  pub cut_is : take end file ≡ kept_entries
  cut_is = ap (λ (l : List ℕ). take end l) split ∙ take_at kept_entries (drop end file) end (sym ends)

  -- whatever a crash in the write of the newline leaves, the lines are there, since one byte is no line
  pub newline_crash : (c : List ℕ) → Torn end 1 kept_entries c → recovered_lines c ≡ recovered_lines file
  newline_crash c torn =
      let front : take end c ≡ kept_entries = torn.front ∙ take_all end kept_entries (omega (arith, ends)) in
      let whole : c ≡ kept_entries ++ drop end c = sym (take-append-drop end c) ∙ ap (λ (l : List ℕ). l ++ drop end c) front in
      ap recovered_lines whole ∙ lines_alone (drop end c) (recovered_lines-short (drop end c) (omega (arith, length-drop end c, ends, torn.at_most)))

  pub newline_is : (c : List ℕ) → Overwrites end (NEWLINE ∷ []) kept_entries c → c ≡ at_rest (recovered_lines file)
  newline_is c written =
      written
      ∙ ap (λ (l : List ℕ). l ++ (NEWLINE ∷ []) ++ drop (end + 1) kept_entries) (take_all end kept_entries (omega (arith, ends)))
      ∙ ap (λ (l : List ℕ). kept_entries ++ (NEWLINE ∷ []) ++ l) (drop_all (end + 1) kept_entries (omega (arith, ends)))
      ∙ append-nil (at_rest (recovered_lines file))

-- ---- calls

module _ {D : Type 0} (seen : D → List ℕ) (may_leave : D → List ℕ → Type 0) (moment : D → ℕ) (left_since : D → ℕ → List ℕ → Type 0)
    (only_now : (file : D) (c : List ℕ) → left_since file (moment file) c → may_leave file c)
    (d : D) (end : ℕ)
    (split : seen d ≡ entries (recovered_lines (seen d)) ++ drop end (seen d)) (ends : end ≡ length (entries (recovered_lines (seen d))))
    (none : recovered_lines (drop end (seen d)) ≡ []) (durable : IsDurable (seen d) (may_leave d)) where
  abbrev P : List ℕ → Type 0
  P = StandsFor (recovered_lines (seen d))

  abbrev Leaves : D → Type 0
  Leaves new = LeavesOnly moment left_since d new P

  abbrev Goes : D → D → Type 0
  Goes old new = Elapses (moment old) (moment new) (left_since old) (left_since new) (may_leave new)

  at_start : Leaves d
  at_start = begins moment left_since d P (λ c left. ap recovered_lines (durable c (only_now d c left)))

  -- the cut
  module _ (d1 : D) (cut1 : Follows (PartlyCut end) (may_leave d) (may_leave d1)) (time1 : Goes d d1) where
    first : (c : List ℕ) → may_leave d1 c → P c
    first c left =
        let from = cut1 c left in
        cut_crash (seen d) end split ends none c (subst (λ (f : List ℕ). PartlyCut end f c) (durable from.0 from.1) from.2)

    pub after_cut : Leaves d1
    after_cut = goes_on moment left_since d d d1 P (may_leave d1) at_start time1 first

    -- its sync
    module _ (d2 : D) (fewer2 : LeavesNoOther (may_leave d1) (may_leave d2)) (time2 : Goes d1 d2) where
      pub after_sync : Leaves d2
      after_sync = goes_on moment left_since d d1 d2 P (may_leave d2) after_cut time2 (λ c left. first c (fewer2 c left))

      module _ (done1 : seen d1 ≡ take end (seen d)) (same2 : seen d2 ≡ seen d1) (durable2 : IsDurable (seen d1) (may_leave d2)) where
        first_is : seen d1 ≡ entries (recovered_lines (seen d))
        first_is = done1 ∙ cut_is (seen d) end split ends none

        pub room2 : end ≤ length (seen d2)
        room2 = omega (arith, ends, ap length (same2 ∙ first_is))

        -- the newline
        module _ (d3 : D) (torn3 : Follows (Torn end 1) (may_leave d2) (may_leave d3)) (time3 : Goes d2 d3) where
          second : (c : List ℕ) → may_leave d3 c → P c
          second c left =
              let from = torn3 c left in
              newline_crash (seen d) end split ends none c (subst (λ (f : List ℕ). Torn end 1 f c) (durable2 from.0 from.1 ∙ first_is) from.2)

          pub after_newline : Leaves d3
          after_newline = goes_on moment left_since d d2 d3 P (may_leave d3) after_sync time3 second

          pub second_is : Overwrites end (NEWLINE ∷ []) (seen d2) (seen d3) → seen d3 ≡ at_rest (recovered_lines (seen d))
          second_is written3 =
              newline_is (seen d) end split ends none (seen d3) (subst (λ (f : List ℕ). Overwrites end (NEWLINE ∷ []) f (seen d3)) (same2 ∙ first_is) written3)

          -- the last sync
          module _ (d4 : D) (fewer4 : LeavesNoOther (may_leave d3) (may_leave d4)) (time4 : Goes d3 d4) where
            pub after_last : Leaves d4
            after_last = goes_on moment left_since d d3 d4 P (may_leave d4) after_newline time4 (λ c left. second c (fewer4 c left))
