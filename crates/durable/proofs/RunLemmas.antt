-- What a dialogue did so far, from line to line.
use Rattle.std.proofs.Common.{◌≡◌, ◌≤◌, ◌⊎◌, ◌∙◌, ◌++◌, inl, inr, ℕ, List, [], ◌∷◌, None, Option, Some, ap, append-nil, append_assoc, refl, subst, sym}
use Rattle.std.specs.Io.KnownBytes.{Appends}
use Rattle.std.proofs.KnownBytes.{Appends-trans}
use Rattle.std.proofs.lemmas.List.Concat.{flat_map-append}
use Rattle.script_streams.specs.Streams.{AppendsFront}
use Rattle.script_streams.specs.declared.run_fault.RunFault.{RunFault}
use Rattle.script_streams.specs.declared.run_fault.RunFault.TheVariants.{Read, Write, TooLong, Memory, Journal}
use Rattle.script_streams.proofs.FrontLemmas.{front_after}
use Rattle.journal.specs.Journal.{IsBeforeOrAfter, StandsFor}
use Rattle.journal.specs.Lines.{recovered_lines}
use Rattle.durable.specs.Answered.{Ends, LeavesFront, Stops, WritesUntil}
use Rattle.durable.specs.Outboxes.{FailsToGive, Gives, IsAtRest, LeavesBoth, Takes, disk_under, held_by, kept_by, noted_by, writer_of}
use Rattle.durable.specs.Printed.{Printed, Runs, RunsLines, answer, answers, kept_line, kept_lines}
use Rattle.durable.specs.declared.outbox.Outbox.{Outbox}

-- The session that runs the lines, and the meaning of the disk and of the writer.
pub record World (S D W : Type 0) : Type 1 where
  pub runs : Runs S
  pub contents : W → Option (List ℕ)
  pub seen : D → List ℕ
  pub may_leave : D → List ℕ → Type 0
  pub moment : D → ℕ
  pub left_since : D → ℕ → List ℕ → Type 0
  pub faults : D → ℕ
  pub counts_now : (file : D) (t : ℕ) (c : List ℕ) → t ≤ moment file → may_leave file c → left_since file t c
  pub only_now : (file : D) (c : List ℕ) → left_since file (moment file) c → may_leave file c

-- ---- lines, one list after another

pub answers-append : (ps qs : List Printed) → answers (ps ++ qs) ≡ answers ps ++ answers qs
answers-append ps qs = flat_map-append answer ps qs

module _ {S : Type 0} (runs : Runs S) where
  pub runs-append : (s : S) (ls : List (List ℕ)) (ps : List Printed) (t : S) (ms : List (List ℕ)) (qs : List Printed) (u : S) → RunsLines runs s ls ps t → RunsLines runs t ms qs u
      → RunsLines runs s (ls ++ ms) (ps ++ qs) u
  runs-append s [] [] t ms qs u one two = subst (λ (x : S). RunsLines runs x ms qs u) one two
  runs-append s [] (p ∷ ps) t ms qs u one two = absurd one
  runs-append s (l ∷ ls) [] t ms qs u one two = absurd one
  runs-append s (l ∷ ls) (p ∷ ps) t ms qs u one two = (one.0, one.1, runs-append one.0 ls ps t ms qs u one.2 two)

  pub kept_lines-append : (s : S) (ls : List (List ℕ)) (ps : List Printed) (t : S) (ms : List (List ℕ)) (qs : List Printed) → RunsLines runs s ls ps t
      → kept_lines (ls ++ ms) (ps ++ qs) ≡ kept_lines ls ps ++ kept_lines ms qs
  kept_lines-append s [] [] t ms qs one = refl
  kept_lines-append s [] (p ∷ ps) t ms qs one = absurd one
  kept_lines-append s (l ∷ ls) [] t ms qs one = absurd one
  kept_lines-append s (l ∷ ls) (p ∷ ps) t ms qs one =
      ap (λ (ks : List (List ℕ)). kept_line l p ++ ks) (kept_lines-append one.0 ls ps t ms qs one.2)
      ∙ sym (append_assoc (kept_line l p) (kept_lines ls ps) (kept_lines ms qs))

-- a fault that comes while answers may be held back, or before they are written
abbrev pub ComesBetween : RunFault → Type 0
ComesBetween Read = ⊥
ComesBetween Write = ⊥
ComesBetween TooLong = Unit {0}
ComesBetween Memory = Unit {0}
ComesBetween Journal = Unit {0}

writes_between : (fault : RunFault) → ComesBetween fault → (next : List (List ℕ)) (a b : Option (List ℕ)) (text : List ℕ) → Appends a b text → WritesUntil fault next a b text
writes_between Read between next a b text written = absurd between
writes_between Write between next a b text written = absurd between
writes_between TooLong between next a b text written = written
writes_between Memory between next a b text written = written
writes_between Journal between next a b text written = written

Appends-none : (a : Option (List ℕ)) → Appends a a []
Appends-none None = tt
Appends-none (Some x) = sym (append-nil x)

-- ---- from a session and an outbox on

module _ {S D W : Type 0} (w : World S D W) (s : S) (o : Outbox D W) where
  abbrev before : List (List ℕ)
  before = kept_by w.seen o

  abbrev old : Option (List ℕ)
  old = w.contents (writer_of o)

  -- Lines were run: the first are answered, and the answers to the next are held back.
  pub record Running (ls : List (List ℕ)) (t : S) (n : Outbox D W) : Type 0 where
    pub first : List (List ℕ)
    pub next : List (List ℕ)
    pub lines_are : ls ≡ first ++ next
    pub printed : List Printed
    pub after : S
    pub ran : RunsLines w.runs s first printed after
    pub printed_next : List Printed
    pub ran_next : RunsLines w.runs after next printed_next t
    pub written : Appends (w.contents (writer_of o)) (w.contents (writer_of n)) (answers printed)
    pub held : held_by n ≡ answers printed_next
    pub kept : kept_by w.seen n ≡ kept_by w.seen o ++ kept_lines first printed
    pub noted : noted_by n ≡ kept_lines next printed_next
    pub at_rest : IsAtRest w.seen w.may_leave n

  pub begun : noted_by o ≡ [] → held_by o ≡ [] → IsAtRest w.seen w.may_leave o → Running [] s o
  begun none empty at_rest = record {
    first = [];
    next = [];
    lines_are = refl;
    printed = [];
    after = s;
    ran = refl;
    printed_next = [];
    ran_next = refl;
    written = Appends-none old;
    held = empty;
    kept = sym (append-nil before);
    noted = none;
    at_rest = at_rest;
  }

  -- ---- one step more

  -- a line is taken
  pub takes : (ls : List (List ℕ)) (t u : S) (n m : Outbox D W) (line : List ℕ) → Running ls t n → Takes w.runs t line u n m → disk_under m ≡ disk_under n → writer_of m ≡ writer_of n
      → IsAtRest w.seen w.may_leave m → Running (ls ++ line ∷ []) u m
  takes ls t u n m line r one same_disk same_writer at_rest =
      let p = one.printed in
      let ran_it : RunsLines w.runs t (line ∷ []) (p ∷ []) u = (u, one.ran, refl) in record {
        first = r.first;
        next = r.next ++ line ∷ [];
        lines_are = ap (λ (xs : List (List ℕ)). xs ++ line ∷ []) r.lines_are ∙ append_assoc r.first r.next (line ∷ []);
        printed = r.printed;
        after = r.after;
        ran = r.ran;
        printed_next = r.printed_next ++ p ∷ [];
        ran_next = runs-append w.runs r.after r.next r.printed_next t (line ∷ []) (p ∷ []) u r.ran_next ran_it;
        written = subst (λ (x : W). Appends old (w.contents x) (answers r.printed)) (sym same_writer) r.written;
        held =
            one.held
            ∙ ap (λ (l : List ℕ). l ++ answer p) r.held
            ∙ ap (λ (l : List ℕ). answers r.printed_next ++ l) (sym (append-nil (answer p)))
            ∙ sym (answers-append r.printed_next (p ∷ []));
        kept = ap (λ (d : D). recovered_lines (w.seen d)) same_disk ∙ r.kept;
        noted =
            one.noted
            ∙ ap (λ (xs : List (List ℕ)). xs ++ kept_line line p) r.noted
            ∙ ap (λ (xs : List (List ℕ)). kept_lines r.next r.printed_next ++ xs) (sym (append-nil (kept_line line p)))
            ∙ sym (kept_lines-append w.runs r.after r.next r.printed_next t (line ∷ []) (p ∷ []) r.ran_next);
        at_rest = at_rest;
      }

  module _ (ls : List (List ℕ)) (t : S) (n : Outbox D W) (r : Running ls t n) where
    -- the answers to all lines so far
    abbrev all_printed : List Printed
    all_printed = r.printed ++ r.printed_next

    ran_all : RunsLines w.runs s (r.first ++ r.next) all_printed t
    ran_all = runs-append w.runs s r.first r.printed r.after r.next r.printed_next t r.ran r.ran_next

    -- the lines that are on the disk, and those that were noted, are those that are to be kept
    kept_all : kept_by w.seen n ++ noted_by n ≡ before ++ kept_lines (r.first ++ r.next) all_printed
    kept_all =
        ap (λ (xs : List (List ℕ)). xs ++ noted_by n) r.kept
        ∙ ap (λ (xs : List (List ℕ)). (before ++ kept_lines r.first r.printed) ++ xs) r.noted
        ∙ append_assoc before (kept_lines r.first r.printed) (kept_lines r.next r.printed_next)
        ∙ ap (λ (xs : List (List ℕ)). before ++ xs) (sym (kept_lines-append w.runs s r.first r.printed r.after r.next r.printed_next r.ran))

    -- the answers that are written and the answers that are held back are the answers to all lines
    held_all : answers r.printed ++ held_by n ≡ answers all_printed
    held_all = ap (λ (l : List ℕ). answers r.printed ++ l) r.held ∙ sym (answers-append r.printed r.printed_next)

    -- the answers are given
    pub gives : (m : Outbox D W) → Gives w.contents w.seen w.may_leave n m → Running ls t m
    gives m one = record {
      first = r.first ++ r.next;
      next = [];
      lines_are = r.lines_are ∙ sym (append-nil (r.first ++ r.next));
      printed = all_printed;
      after = t;
      ran = ran_all;
      printed_next = [];
      ran_next = refl;
      written =
          subst (Appends old (w.contents (writer_of m))) held_all
          (Appends-trans old (w.contents (writer_of n)) (w.contents (writer_of m)) (answers r.printed) (held_by n) r.written one.written);
      held = one.held;
      kept = one.kept ∙ kept_all;
      noted = one.noted;
      at_rest = one.settled;
    }

    pub gives_if : (m : Outbox D W) → (m ≡ n) ⊎ Gives w.contents w.seen w.may_leave n m → Running ls t m
    gives_if m (inl same) = subst (λ (x : Outbox D W). Running ls t x) (sym same) r
    gives_if m (inr one) = gives m one

    -- ---- the end

    pub ends : (m : Outbox D W) → Gives w.contents w.seen w.may_leave n m → Ends w.runs s before ls old (w.contents (writer_of m)) (kept_by w.seen m) t
    ends m one =
        let whole : r.first ++ r.next ≡ ls = sym r.lines_are in record {
          printed = all_printed;
          ran = subst (λ (xs : List (List ℕ)). RunsLines w.runs s xs all_printed t) whole ran_all;
          written =
              subst (Appends old (w.contents (writer_of m))) held_all
              (Appends-trans old (w.contents (writer_of n)) (w.contents (writer_of m)) (answers r.printed) (held_by n) r.written one.written);
          kept = one.kept ∙ kept_all ∙ ap (λ (xs : List (List ℕ)). before ++ kept_lines xs all_printed) whole;
        }

    module _ (all rest : List (List ℕ)) (is : all ≡ ls ++ rest) where
      apart : all ≡ r.first ++ (r.next ++ rest)
      apart = is ∙ ap (λ (xs : List (List ℕ)). xs ++ rest) r.lines_are ∙ append_assoc r.first r.next rest

      together : all ≡ (r.first ++ r.next) ++ rest
      together = is ∙ ap (λ (xs : List (List ℕ)). xs ++ rest) r.lines_are

      -- the files that a crash leaves while the answers are given
      pub leaves_front : (c : List ℕ) → IsBeforeOrAfter (kept_by w.seen n) (noted_by n) c → LeavesFront w.runs s before all c
      leaves_front c (inl alone) =
          record { first = r.first; rest = r.next ++ rest; lines_are = apart; printed = r.printed; after = r.after; ran = r.ran; stands = alone ∙ r.kept }
      leaves_front c (inr with_more) =
          record { first = r.first ++ r.next; rest = rest; lines_are = together; printed = all_printed; after = t; ran = ran_all; stands = with_more ∙ kept_all }

      -- the run stops
      stops : (fault : RunFault) (m : Outbox D W) → WritesUntil fault r.next old (w.contents (writer_of m)) (answers r.printed)
          → ((c : List ℕ) → w.may_leave (disk_under m) c → IsBeforeOrAfter (before ++ kept_lines r.first r.printed) (kept_lines r.next r.printed_next) c)
          → Stops w.runs fault s before all old (w.contents (writer_of m)) (w.may_leave (disk_under m))
      stops fault m written left = record {
        first = r.first;
        next = r.next;
        rest = rest;
        lines_are = apart;
        printed = r.printed;
        after = r.after;
        ran = r.ran;
        printed_next = r.printed_next;
        after_next = t;
        ran_next = r.ran_next;
        written = written;
        left = left;
      }

      left_during : (m : Outbox D W) → LeavesBoth w.seen w.moment w.left_since n m → (c : List ℕ) → w.may_leave (disk_under m) c
          → IsBeforeOrAfter (before ++ kept_lines r.first r.printed) (kept_lines r.next r.printed_next) c
      left_during m during c left =
          subst (λ (p : List (List ℕ) × List (List ℕ)). IsBeforeOrAfter p.0 p.1 c) (λ i. (r.kept i, r.noted i))
          (during.each c (w.counts_now (disk_under m) (w.moment (disk_under n)) c during.later left))

      -- it stops when all lines that were run are on the disk
      stops_kept : (fault : RunFault) (m : Outbox D W) → WritesUntil fault [] old (w.contents (writer_of m)) (answers all_printed)
          → ((c : List ℕ) → w.may_leave (disk_under m) c → StandsFor (before ++ kept_lines (r.first ++ r.next) all_printed) c)
          → Stops w.runs fault s before all old (w.contents (writer_of m)) (w.may_leave (disk_under m))
      stops_kept fault m written left = record {
        first = r.first ++ r.next;
        next = [];
        rest = rest;
        lines_are = together;
        printed = all_printed;
        after = t;
        ran = ran_all;
        printed_next = [];
        after_next = t;
        ran_next = refl;
        written = written;
        left = λ c may. inl (left c may);
      }

      -- the run stops between two settlements
      pub stops_between : (fault : RunFault) → ComesBetween fault → (m : Outbox D W) → disk_under m ≡ disk_under n → writer_of m ≡ writer_of n
          → Stops w.runs fault s before all old (w.contents (writer_of m)) (w.may_leave (disk_under m))
      stops_between fault between m same_disk same_writer =
          stops fault m (writes_between fault between r.next old _ _ (subst (λ (x : W). Appends old (w.contents x) (answers r.printed)) (sym same_writer) r.written))
          (λ c left. inl (ap recovered_lines (r.at_rest.durable c (subst (λ (d : D). w.may_leave d c) same_disk left)) ∙ r.kept))

      -- a read fails, when nothing is held back
      pub stops_reading : held_by n ≡ [] → noted_by n ≡ [] → Stops w.runs Read s before all old (w.contents (writer_of n)) (w.may_leave (disk_under n))
      stops_reading held noted =
          let answered : answers r.printed ≡ answers all_printed = sym (append-nil (answers r.printed)) ∙ ap (λ (l : List ℕ). answers r.printed ++ l) (sym held) ∙ held_all in
          let all_kept = sym (append-nil (kept_by w.seen n)) ∙ ap (λ (ls : List (List ℕ)). kept_by w.seen n ++ ls) (sym noted) ∙ kept_all in
          stops_kept Read n (refl, subst (Appends old (w.contents (writer_of n))) answered r.written) (λ c left. ap recovered_lines (r.at_rest.durable c left) ∙ all_kept)

      -- the run stops in a settlement
      pub stops_within : (fault : RunFault) (m : Outbox D W) → FailsToGive w.contents w.seen w.may_leave w.faults n fault m
          → LeavesBoth w.seen w.moment w.left_since n m → Stops w.runs fault s before all old (w.contents (writer_of m)) (w.may_leave (disk_under m))
      stops_within Read m failed during = absurd failed
      stops_within Write m failed during =
          let front = front_after old (w.contents (writer_of n)) (w.contents (writer_of m)) (answers r.printed) (held_by n) r.written failed.1 in
          stops_kept Write m (refl, subst (AppendsFront old (w.contents (writer_of m))) held_all front) (λ c left. failed.0 c left ∙ kept_all)
      stops_within TooLong m failed during = absurd failed
      stops_within Memory m failed during = stops Memory m (subst (λ (x : W). Appends old (w.contents x) (answers r.printed)) (sym failed) r.written) (left_during m during)
      stops_within Journal m failed during = stops Journal m (subst (λ (x : W). Appends old (w.contents x) (answers r.printed)) (sym failed.0) r.written) (left_during m during)
