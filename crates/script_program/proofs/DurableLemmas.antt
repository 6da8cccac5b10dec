-- The lines that a run keeps in a journal, as models.
use Rattle.std.proofs.Common.{◌≡◌, ◌≤◌, ◌∙◌, ◌++◌, ⊎_elim, inl, inr, ℕ, List, [], ◌∷◌, Option, Some, None, ap, arith, subst, sym}
use Rattle.std.specs.Prelude.{IfSome}
use Rattle.std.specs.Io.KnownBytes.{Appends}
use Rattle.durable.specs.Answered.{Ends, EndsIn, LeavesFront, LeavesIn, Stops, StopsIn, WritesUntil}
use Rattle.durable.specs.Printed as durable
use Rattle.journal.specs.Disk.{LeavesOnly}
use Rattle.journal.specs.Lines.{recovered_lines}
use Rattle.mm_types.specs.Resolved.{Metamodel}
use Rattle.models.specs.Model.{Model}
use Rattle.repository.specs.State.{State, empty_state}
use Rattle.script_lines.specs.Lines.{lines}
use Rattle.durable.specs.Heads.{begun_lines}
use Rattle.script_program.specs.Kept.{EndsJournaled, IsJournalOf, LeavesJournaled, RunsJournaled, StopsJournaled, model_after_lines, model_of}
use Rattle.script_program.specs.Session.{Session}
use Rattle.script_program.proofs.KeptLemmas.{RanAll, Runs, kept_all, model_of-append, none_refused, ran_all}
use Rattle.script_streams.specs.declared.run_fault.RunFault.{RunFault}

module _ {S : Type 0} (of : S → Session) (m : Metamodel) (j : S) (before : List (List ℕ)) (from : model_of m before ≡ Some (of j).state.model) where
  -- the earlier lines, and the lines that were kept of some others
  kept_so_far : (k : S) (ls : List (List ℕ)) (ps : List durable.Printed) → RanAll (of j) ls ps (of k) → model_of m (before ++ durable.kept_lines ls ps) ≡ Some (of k).state.model
  kept_so_far k ls ps all = model_of-append m (of j).state.model before (durable.kept_lines ls ps) (Some (of k).state.model) from all.again

  ends_of : (ls : List (List ℕ)) (old new : Option (List ℕ)) (kept : List (List ℕ)) (k : S) → Ends (Runs of) j before ls old new kept k → EndsJournaled m (of j) ls old new kept (of k)
  ends_of ls old new kept k e =
      let all = ran_all of j k ls e.printed e.ran in
      record {
        printed = all.printed;
        ran = all.ran;
        written = subst (Appends old new) all.text e.written;
        recalled = ap (model_of m) e.kept ∙ kept_so_far k ls e.printed all;
      }

  stops_of : (fault : RunFault) (ls : List (List ℕ)) (old new : Option (List ℕ)) (may_leave : List ℕ → Type 0) → Stops (Runs of) fault j before ls old new may_leave
      → StopsJournaled m fault (of j) ls old new may_leave
  stops_of fault ls old new may_leave e =
      let all = ran_all of j e.after e.first e.printed e.ran in
      let more = ran_all of e.after e.after_next e.next e.printed_next e.ran_next in
      let one = kept_so_far e.after e.first e.printed all in
      let two = model_of-append m (of e.after).state.model (before ++ durable.kept_lines e.first e.printed) (durable.kept_lines e.next e.printed_next)
      (Some (of e.after_next).state.model) one more.again in
      record {
        first = e.first;
        next = e.next;
        rest = e.rest;
        lines_are = e.lines_are;
        printed = all.printed;
        after = of e.after;
        ran = all.ran;
        printed_next = more.printed;
        after_next = of e.after_next;
        ran_next = more.ran;
        written = subst (WritesUntil fault e.next old new) all.text e.written;
        left = λ c may. ⊎_elim (λ here. inl (ap (model_of m) here ∙ one)) (λ later. inr (ap (model_of m) later ∙ two)) (e.left c may);
      }

  leaves_of : (ls : List (List ℕ)) (file : List ℕ) → LeavesFront (Runs of) j before ls file → LeavesJournaled m (of j) ls file
  leaves_of ls file e =
      let all = ran_all of j e.after e.first e.printed e.ran in
      record {
        first = e.first;
        rest = e.rest;
        lines_are = e.lines_are;
        printed = all.printed;
        after = of e.after;
        ran = all.ran;
        recalled = ap (model_of m) e.stands ∙ kept_so_far e.after e.first e.printed all;
      }

  -- ---- the same of an input, if its bytes are known

  pub ends_in : (input old new : Option (List ℕ)) (kept : List (List ℕ)) (k : S) → EndsIn (Runs of) input j before old new kept k
      → IfSome input (λ bytes. EndsJournaled m (of j) (lines bytes) old new kept (of k))
  ends_in None old new kept k e = tt
  ends_in (Some bytes) old new kept k e = ends_of (lines bytes) old new kept k e

  pub stops_in : (fault : RunFault) (input old new : Option (List ℕ)) (may_leave : List ℕ → Type 0) → StopsIn (Runs of) fault input j before old new may_leave
      → IfSome input (λ bytes. StopsJournaled m fault (of j) (lines bytes) old new may_leave)
  stops_in fault None old new may_leave e = tt
  stops_in fault (Some bytes) old new may_leave e = stops_of fault (lines bytes) old new may_leave e

  pub leaves_in : (input : Option (List ℕ)) (file : List ℕ) → LeavesIn (Runs of) input j before file
      → IfSome input (λ bytes. LeavesJournaled m (of j) (lines bytes) file)
  leaves_in None file e = tt
  leaves_in (Some bytes) file e = leaves_of (lines bytes) file e

-- ---- lines that are run again

pub leaves_all : {S : Type 0} (of : S → Session) (m : Metamodel) (j k : S) (bytes head rest : List ℕ) → (of j).state ≡ empty_state m → recovered_lines bytes ≡ head ∷ recovered_lines rest
    → durable.RunsKept (Runs of) j (recovered_lines rest) k → model_of m (begun_lines head (recovered_lines bytes)) ≡ Some (of k).state.model
leaves_all of m j k bytes head rest empty found run =
    ap (λ (ls : List (List ℕ)). model_of m (begun_lines head ls)) found ∙ ap (λ (s : State). model_after_lines s.model (recovered_lines rest)) (sym empty) ∙ kept_all of j k (recovered_lines rest) run

-- a session that is refused a line again
refuses_of : {S : Type 0} (of : S → Session) (j : S) (ls : List (List ℕ)) → durable.Refuses (Runs of) j ls → durable.Refuses RunsJournaled (of j) ls
refuses_of of j [] refused = refused
refuses_of of j (l ∷ ls) refused = (
  refused.0,
  of refused.1,
  refused.2,
  elim refused.3 [
    | inl here ↦ inl here
    | inr later ↦ inr (later.0, refuses_of of refused.1 ls later.1)
  ],
)

after_first : List (List ℕ) → List (List ℕ)
after_first [] = []
after_first (l ∷ ls) = ls

-- a journal whose lines leave a model is not refused for a line
pub never_refused : {S : Type 0} (of : S → Session) (m : Metamodel) (model : Model) (j : S) (bytes head rest : List ℕ) → (of j).state ≡ empty_state m → IsJournalOf m head bytes model
    → recovered_lines bytes ≡ head ∷ recovered_lines rest → durable.Refuses (Runs of) j (recovered_lines rest) → ⊥
unfolding after_first
never_refused of m model j bytes head rest empty is found refused =
    let same : recovered_lines rest ≡ is.lines_after = ap after_first (sym found ∙ is.lines_are) in
    none_refused (of j) (recovered_lines rest) model (ap (λ (s : State). s.adapters) empty)
    (ap (λ (s : State). model_after_lines s.model (recovered_lines rest)) empty ∙ ap (model_after_lines (empty_state m).model) same ∙ is.leaves) (refuses_of of j (recovered_lines rest) refused)

-- ---- from moment to moment

module _ {D : Type 0} (moment : D → ℕ) (left_since : D → ℕ → List ℕ → Type 0) where
  pub leaves_weaker : (old new : D) (P Q : List ℕ → Type 0) → ((c : List ℕ) → P c → Q c) → LeavesOnly moment left_since old new P → LeavesOnly moment left_since old new Q
  leaves_weaker old new P Q weaker h = record {
    later = h.later;
    each = λ c left. weaker c (h.each c left);
    before = λ t c le left. ⊎_elim (λ was. inl was) (λ p. inr (weaker c p)) (h.before t c le left);
  }

  pub leaves_then : (x y z : D) (P : List ℕ → Type 0) → LeavesOnly moment left_since x y P → LeavesOnly moment left_since y z P → LeavesOnly moment left_since x z P
  leaves_then x y z P one two = record {
    later = let a = one.later in let b = two.later in omega (arith, a, b);
    each = λ c left. ⊎_elim (λ was. one.each c was) (λ p. p) (two.before (moment x) c one.later left);
    before = λ t c le left. ⊎_elim (λ was. one.before t c le was) (λ p. inr p) (two.before t c (let a = one.later in omega (arith, le, a)) left);
  }

  -- a disk that is not called
  pub leaves_same : (may_leave : D → List ℕ → Type 0) → ((file : D) (c : List ℕ) → left_since file (moment file) c → may_leave file c) → (d : D) (P : List ℕ → Type 0)
      → ((c : List ℕ) → may_leave d c → P c) → LeavesOnly moment left_since d d P
  leaves_same may_leave only_now d P holds = record { later = omega arith; each = λ c left. holds c (only_now d c left); before = λ t c le left. inl left }
