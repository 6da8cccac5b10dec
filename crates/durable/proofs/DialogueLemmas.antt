-- A dialogue over an input goes on, and ends.
use Rattle.std.proofs.Common.{◌≡◌, ◌<◌, ◌≤◌, ◌+◌, ◌-◌, ◌^◌, ◌⊎◌, ◌∙◌, ◌++◌, inl, inr, ℕ, List, [], ◌∷◌, Err, None, Option, Result, Some, ap, append-nil, arith, length, refl, subst, sym}
use Rattle.std.proofs.lemmas.List.{length-append}
use Rattle.std.specs.Prelude.{IfErr, IfSome, OnSome}
use Rattle.std.specs.Io.KnownBytes.{IsAtEnd}
use Rattle.script_lines.specs.Lines.{lines}
use Rattle.script_streams.specs.Faults.{IsReadOrMemory}
use Rattle.script_streams.specs.Line.{ReadsLine}
use Rattle.script_streams.specs.Waiting.{StopsLine}
use Rattle.script_streams.specs.declared.run_fault.RunFault.{RunFault}
use Rattle.script_streams.specs.declared.run_fault.RunFault.TheVariants.{Read, Write, TooLong, Memory, Journal}
use Rattle.script_streams.specs.declared.line.LineEnd.{LineEnd}
use Rattle.script_streams.specs.declared.line.LineEnd.TheVariants.{Input}
use Rattle.journal.specs.Disk.{LeavesOnly}
use Rattle.journal.specs.Journal.{IsBeforeOrAfter}
use Rattle.journal.specs.Lines.{recovered_lines}
use Rattle.durable.specs.Answered.{EndsIn, IsTooLong, LeavesIn, StopsIn}
use Rattle.durable.specs.Outboxes.{FailsToGive, Gives, IsAtRest, IsFull, LeavesBoth, Takes, disk_under, held_by, kept_by, noted_by, writer_of}
use Rattle.durable.specs.Waiting.{Becomes, Fails, IsEmptied, leaves_more}
use Rattle.durable.specs.declared.outbox.Outbox.{Outbox}
use Rattle.durable.proofs.InputLemmas.{LinesRead, at_end, none_read, read_end, read_more, too_long, too_many}
use Rattle.durable.proofs.RunLemmas.{ComesBetween, Running, World, ends, gives_if, leaves_front, stops_between, stops_reading, stops_within, takes}

-- from a session, an outbox and an input on
module _ {S D W : Type 0} (w : World S D W) (s : S) (o : Outbox D W) (input : Option (List ℕ)) where
  abbrev before : List (List ℕ)
  before = kept_by w.seen o

  abbrev old : Option (List ℕ)
  old = w.contents (writer_of o)

  abbrev Left : List ℕ → Type 0
  Left = LeavesIn w.runs input s before

  -- the run stops for a fault with this outbox
  abbrev Stopped : RunFault → Outbox D W → Type 0
  Stopped fault n = StopsIn w.runs fault input s before old (w.contents (writer_of n)) (w.may_leave (disk_under n))

  -- a call of the disk has failed since then, or the file is full
  abbrev DiskFails : Outbox D W → Type 0
  DiskFails n = (w.faults (disk_under o) < w.faults (disk_under n)) ⊎ IsFull w.seen n

  -- ---- for an input whose bytes are known, and for any other

  module _ (b : Option (List ℕ)) (done : List (List ℕ)) (t : S) (n : Outbox D W) (read : LinesRead input b done) (r : Running w s o done t n) where
    left_in : (c : List ℕ) → IsBeforeOrAfter (kept_by w.seen n) (noted_by n) c → Left c
    left_in c either = of input b read
      where
        of : (a b : Option (List ℕ)) → LinesRead a b done → LeavesIn w.runs a s before c
        of None b known = tt
        of (Some x) None known = absurd known
        of (Some x) (Some y) known = leaves_front w s o done t n r (lines x) (lines y) known c either

    stops_between_in : (fault : RunFault) → ComesBetween fault → (m : Outbox D W) → disk_under m ≡ disk_under n → writer_of m ≡ writer_of n → Stopped fault m
    stops_between_in fault between m same_disk same_writer = of input b read
      where
        of : (a b : Option (List ℕ)) → LinesRead a b done → StopsIn w.runs fault a s before old (w.contents (writer_of m)) (w.may_leave (disk_under m))
        of None b known = tt
        of (Some x) None known = absurd known
        of (Some x) (Some y) known = stops_between w s o done t n r (lines x) (lines y) known fault between m same_disk same_writer

    stops_reading_in : held_by n ≡ [] → noted_by n ≡ [] → Stopped Read n
    stops_reading_in held noted = of input b read
      where
        of : (a b : Option (List ℕ)) → LinesRead a b done → StopsIn w.runs Read a s before old (w.contents (writer_of n)) (w.may_leave (disk_under n))
        of None b known = tt
        of (Some x) None known = absurd known
        of (Some x) (Some y) known = stops_reading w s o done t n r (lines x) (lines y) known held noted

    stops_within_in : (fault : RunFault) (m : Outbox D W) → FailsToGive w.contents w.seen w.may_leave w.faults n fault m → LeavesBoth w.seen w.moment w.left_since n m → Stopped fault m
    stops_within_in fault m failed during = of input b read
      where
        of : (a b : Option (List ℕ)) → LinesRead a b done → StopsIn w.runs fault a s before old (w.contents (writer_of m)) (w.may_leave (disk_under m))
        of None b known = tt
        of (Some x) None known = absurd known
        of (Some x) (Some y) known = stops_within w s o done t n r (lines x) (lines y) known fault m failed during

    ends_in : (m : Outbox D W) → OnSome input (IsAtEnd b) → Gives w.contents w.seen w.may_leave n m → EndsIn w.runs input s before old (w.contents (writer_of m)) (kept_by w.seen m) t
    ends_in m end one = of input b read end
      where
        of : (a b : Option (List ℕ)) → LinesRead a b done → OnSome a (IsAtEnd b) → EndsIn w.runs a s before old (w.contents (writer_of m)) (kept_by w.seen m) t
        of None b known end = tt
        of (Some x) None known end = absurd known
        of (Some x) (Some y) known end =
            let all : done ≡ lines x = sym (known ∙ (ap (λ bytes. done ++ lines bytes) end ∙ append-nil done)) in
            ends w s o (lines x) t n (subst (λ (ls : List (List ℕ)). Running w s o ls t n) all r) m one

  -- ---- between two lines

  -- Facts between two lines: the lines that were read, the lines that were run, and the files that a crash could have left until now.
  pub record Goes (b : Option (List ℕ)) (t : S) (n : Outbox D W) (number : ℕ) : Type 0 where
    pub done : List (List ℕ)
    pub read : LinesRead input b done
    pub running : Running w s o done t n
    pub leaves : LeavesOnly w.moment w.left_since (disk_under o) (disk_under n) (LeavesIn w.runs input s (kept_by w.seen o))
    pub number_is : number ≡ length done
    pub later : w.faults (disk_under o) ≤ w.faults (disk_under n)

  pub goes_first : Running w s o [] s o → Goes input s o 0
  goes_first r = record {
    done = [];
    read = none_read input;
    running = r;
    leaves = record {
      later = omega arith;
      each = λ c left. left_in input [] s o (none_read input) r c (inl (ap recovered_lines (r.at_rest.durable c (w.only_now (disk_under o) c left))));
      before = λ t c le left. inl left;
    };
    number_is = refl;
    later = omega arith;
  }

  module _ (b : Option (List ℕ)) (t : S) (n : Outbox D W) (number : ℕ) (goes : Goes b t n number) where
    abbrev Waits : Outbox D W → Type 0
    Waits m = Becomes w.contents w.seen w.may_leave w.moment w.left_since w.faults n m

    -- the files that a crash could have left until now, and while answers are given
    pub leaves_on : (m : Outbox D W) → LeavesBoth w.seen w.moment w.left_since n m → LeavesOnly w.moment w.left_since (disk_under o) (disk_under m) Left
    leaves_on m during =
        leaves_more w.contents w.seen w.may_leave w.moment w.left_since w.faults (disk_under o) (disk_under n) (disk_under m) Left _ goes.leaves during
        (left_in b goes.done t n goes.read goes.running)

    -- the answers that were held back were given, or not
    pub goes_given : (m : Outbox D W) → (m ≡ n) ⊎ Gives w.contents w.seen w.may_leave n m → LeavesBoth w.seen w.moment w.left_since n m
        → w.faults (disk_under n) ≤ w.faults (disk_under m) → Goes b t m number
    goes_given m given during later = record {
      done = goes.done;
      read = goes.read;
      running = gives_if w s o goes.done t n goes.running m given;
      leaves = leaves_on m during;
      number_is = goes.number_is;
      later = let so_far = goes.later in omega (arith, so_far, later);
    }

    pub goes_waited : (m : Outbox D W) → Waits m → Goes b t m number
    goes_waited m waited = goes_given m waited.given (waited.moments goes.running.at_rest) waited.later

    -- a line was read, and taken as a slice
    pub goes_on : (c : Option (List ℕ)) (u : S) (m : Outbox D W) (line shown taken : List ℕ) (end : LineEnd) → ReadsLine b c line end → shown ≡ line → (end ≡ Input → 0 < length shown)
        → taken ≡ line → Takes w.runs t taken u n m → disk_under m ≡ disk_under n → writer_of m ≡ writer_of n → IsAtRest w.seen w.may_leave m → Goes c u m (number + 1)
    goes_on c u m line shown taken end read shown_is some taken_is one same_disk same_writer at_rest =
        let some_line = subst (λ (l : List ℕ). end ≡ Input → 0 < length l) shown_is some in
        let takes_line = subst (λ (l : List ℕ). Takes w.runs t l u n m) taken_is one in
        record {
          done = goes.done ++ line ∷ [];
          read = read_more input b c goes.done line end goes.read read some_line;
          running = takes w s o goes.done t u n m line goes.running takes_line same_disk same_writer at_rest;
          leaves = subst (λ (d : D). LeavesOnly w.moment w.left_since (disk_under o) d Left) (sym same_disk) goes.leaves;
          number_is = ap (λ (k : ℕ). k + 1) goes.number_is ∙ sym (length-append goes.done (line ∷ []));
          later = subst (λ (d : D). w.faults (disk_under o) ≤ w.faults d) (sym same_disk) goes.later;
        }

    -- the end was read, and the last answers were given
    pub goes_over : (c : Option (List ℕ)) (m : Outbox D W) (line shown : List ℕ) (end : LineEnd) → ReadsLine b c line end → end ≡ Input → shown ≡ line → length shown ≡ 0
        → Gives w.contents w.seen w.may_leave n m → EndsIn w.runs input s before old (w.contents (writer_of m)) (kept_by w.seen m) t
    goes_over c m line shown end read last shown_is none one =
        let over = subst (λ (e : LineEnd). ReadsLine b c line e) last read in
        let empty = subst (λ (l : List ℕ). length l ≡ 0) shown_is none in
        ends_in c goes.done t n (read_end input b c goes.done line goes.read over empty) goes.running m (at_end input b c goes.done line goes.read over) one

    -- ---- the run stops

    pub stopped_between : (fault : RunFault) → ComesBetween fault → (m : Outbox D W) → disk_under m ≡ disk_under n → writer_of m ≡ writer_of n → Stopped fault m
    stopped_between fault between m same_disk same_writer = stops_between_in b goes.done t n goes.read goes.running fault between m same_disk same_writer

    pub stopped_within : (fault : RunFault) (m : Outbox D W) → FailsToGive w.contents w.seen w.may_leave w.faults n fault m → LeavesBoth w.seen w.moment w.left_since n m → Stopped fault m
    stopped_within fault m failed during = stops_within_in b goes.done t n goes.read goes.running fault m failed during

    pub leaves_between : (m : Outbox D W) → disk_under m ≡ disk_under n → LeavesOnly w.moment w.left_since (disk_under o) (disk_under m) Left
    leaves_between m same_disk = subst (λ (d : D). LeavesOnly w.moment w.left_since (disk_under o) d Left) (sym same_disk) goes.leaves

    -- a read failed when all answers were given, or memory was refused
    stopped_reading : (fault : RunFault) → IsReadOrMemory fault → (fault ≡ Read → IsEmptied n) → Stopped fault n
    stopped_reading Read kind ready = let none = ready refl in stops_reading_in b goes.done t n goes.read goes.running none.held none.noted
    stopped_reading Write kind ready = absurd kind
    stopped_reading TooLong kind ready = absurd kind
    stopped_reading Memory kind ready = stopped_between Memory tt n refl refl
    stopped_reading Journal kind ready = absurd kind

    -- the disk failed, or the file is full
    pub disk_fails : (fault : RunFault) → fault ≡ Journal → (m : Outbox D W) → FailsToGive w.contents w.seen w.may_leave w.faults n fault m → DiskFails m
    disk_fails fault is m failed = elim (subst (λ (f : RunFault). FailsToGive w.contents w.seen w.may_leave w.faults n f m) is failed).1 [
      | inl more ↦ let so_far = goes.later in inl (omega (arith, so_far, more))
      | inr full ↦ inr full
    ]

    -- no settlement finds a line too long
    pub never_too_long : (fault : RunFault) → fault ≡ TooLong → (m : Outbox D W) → FailsToGive w.contents w.seen w.may_leave w.faults n fault m → ⊥
    never_too_long fault is m failed = subst (λ (f : RunFault). FailsToGive w.contents w.seen w.may_leave w.faults n f m) is failed

    -- there are as many lines as can be counted
    pub counts_end : 2 ^ 64 - 1 ≤ number → IfSome input (λ bytes. IsTooLong (lines bytes))
    counts_end many = let is = goes.number_is in too_many goes.done input b goes.read (omega (arith, is, many))

  -- a line is not read

  module _ (b : Option (List ℕ)) (t : S) (n m : Outbox D W) (number : ℕ) (goes : Goes b t n number) where
    abbrev NotRead : RunFault → Type 0
    NotRead fault =
        StopsLine (λ x. IsAtRest w.seen w.may_leave x) IsEmptied (Becomes w.contents w.seen w.may_leave w.moment w.left_since w.faults)
        (Fails w.contents w.seen w.may_leave w.moment w.left_since w.faults) b n fault m

    pub stopped_waiting : (fault : RunFault) → NotRead fault → Stopped fault m
    stopped_waiting fault (inl wait) =
        let then = goes_waited b t n number goes wait.before wait.became in
        stopped_within b t wait.before number then fault m wait.failed.stopped (wait.failed.moments then.running.at_rest)
    stopped_waiting fault (inr (inl read)) = stopped_reading b t m number (goes_waited b t n number goes m read.became) fault read.kind read.ready
    stopped_waiting fault (inr (inr long)) =
        subst (λ (f : RunFault). Stopped f m) (sym long.kind) (stopped_between b t m number (goes_waited b t n number goes m long.became) TooLong tt m refl refl)

    pub leaves_waiting : (fault : RunFault) → NotRead fault → LeavesOnly w.moment w.left_since (disk_under o) (disk_under m) Left
    leaves_waiting fault (inl wait) =
        let then = goes_waited b t n number goes wait.before wait.became in
        leaves_on b t wait.before number then m (wait.failed.moments then.running.at_rest)
    leaves_waiting fault (inr (inl read)) = (goes_waited b t n number goes m read.became).leaves
    leaves_waiting fault (inr (inr long)) = (goes_waited b t n number goes m long.became).leaves

    long_of : NotRead TooLong → IfSome input (λ bytes. IsTooLong (lines bytes))
    long_of (inl wait) = absurd wait.failed.stopped
    long_of (inr (inl read)) = absurd read.kind
    long_of (inr (inr long)) = too_long goes.done input b goes.read long.long

    disk_of : NotRead Journal → DiskFails m
    disk_of (inl wait) = disk_fails b t wait.before number (goes_waited b t n number goes wait.before wait.became) Journal refl m wait.failed.stopped
    disk_of (inr (inl read)) = absurd read.kind
    disk_of (inr (inr long)) = absurd (cc long.kind)

    pub long_waiting : (fault : RunFault) → fault ≡ TooLong → NotRead fault → IfSome input (λ bytes. IsTooLong (lines bytes))
    long_waiting fault is failed = long_of (subst NotRead is failed)

    pub disk_waiting : (fault : RunFault) → fault ≡ Journal → NotRead fault → DiskFails m
    disk_waiting fault is failed = disk_of (subst NotRead is failed)

-- a property of an error
pub at_error : {T E : Type 0} (r : Result T E) (P : E → Type 0) (e : E) → IfErr r P → r ≡ Err e → P e
at_error r P e holds is = subst (λ x. IfErr x P) is holds
