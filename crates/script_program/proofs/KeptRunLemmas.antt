-- A run from the lines of a journal on.
use Rattle.std.proofs.Common.{◌≡◌, inl, inr, Err, ℕ, List, Ok, OnOk, Option, None, Result, Some, refl, subst}
use Rattle.std.specs.Prelude.{IfErr, IfSome}
use Rattle.journal.specs.Disk.{LeavesOnly}
use Rattle.journal.specs.Lines.{recovered_lines}
use Rattle.mm_types.specs.Resolved.{Metamodel}
use Rattle.script_lines.specs.Lines.{lines}
use Rattle.durable.specs.Heads.{IsBegunOrNot, begun_lines}
use Rattle.script_program.specs.Kept.{EndsJournaled, EndsKept, LeavesJournaled, LeavesKeptIn, StopsJournaled, StopsKept, kept_outcome, model_of}
use Rattle.script_program.specs.Session.{Session}
use Rattle.script_program.specs.declared.kept_run.KeptFault.TheVariants.{Stopped, Unopened}
use Rattle.durable.specs.declared.opening.JournalFault.{JournalFault}
use Rattle.script_program.proofs.DurableLemmas.{leaves_then, leaves_weaker}
use Rattle.script_streams.specs.declared.run_fault.RunFault.{RunFault}

-- ---- outcomes

pub on_done : {V E X : Type 0} (r : Result V E) → X → OnOk r X
on_done (Ok v) x = x
on_done (Err e) x = tt

pub kept_ok : (X : Type 0) (r : Result (Unit {0}) RunFault) → OnOk r X → OnOk (kept_outcome r) X
kept_ok X (Ok done) x = x
kept_ok X (Err fault) x = tt

pub kept_stopped : (r : Result (Unit {0}) RunFault) (P : RunFault → Type 0) (fault : RunFault) → IfErr r P → kept_outcome r ≡ Err (Stopped fault) → P fault
kept_stopped (Ok done) P fault h is = absurd (cc is)
kept_stopped (Err other) P fault h is = subst P (cc is) h

pub kept_opened : (r : Result (Unit {0}) RunFault) (fault : JournalFault) → kept_outcome r ≡ Err (Unopened fault) → ⊥
kept_opened (Ok done) fault is = absurd (cc is)
kept_opened (Err other) fault is = absurd (cc is)

-- ---- after the lines of a file

module _ (m : Metamodel) (head file : List ℕ) (s : Session) (had : model_of m (begun_lines head (recovered_lines file)) ≡ Some s.state.model) where
  pub ends_kept : (input old new : Option (List ℕ)) (after : List ℕ) (t : Session) → IfSome input (λ bytes. EndsJournaled m s (lines bytes) old new (recovered_lines after) t)
      → IfSome input (λ bytes. EndsKept m head file (lines bytes) old new after t)
  ends_kept None old new after t ends = tt
  ends_kept (Some bytes) old new after t ends = record { start = s; had = had; ends = ends }

  pub stops_kept : (fault : RunFault) (input old new : Option (List ℕ)) (may_leave : List ℕ → Type 0) → IfSome input (λ bytes. StopsJournaled m fault s (lines bytes) old new may_leave)
      → IfSome input (λ bytes. StopsKept m fault head file (lines bytes) old new may_leave)
  stops_kept fault None old new may_leave stops = tt
  stops_kept fault (Some bytes) old new may_leave stops = record { start = s; had = had; stops = stops }

  leaves_kept : (input : Option (List ℕ)) (c : List ℕ) → IfSome input (λ bytes. LeavesJournaled m s (lines bytes) c) → LeavesKeptIn m head file input c
  leaves_kept None c leaves = inr tt
  leaves_kept (Some bytes) c leaves = inr (record { start = s; had = had; leaves = leaves })

  -- at any moment of the recovery, and then of the run
  pub leaves_both : {D : Type 0} (moment : D → ℕ) (left_since : D → ℕ → List ℕ → Type 0) (x y z : D) (input : Option (List ℕ))
      → LeavesOnly moment left_since x y (IsBegunOrNot head (recovered_lines file)) → LeavesOnly moment left_since y z (λ c. IfSome input (λ bytes. LeavesJournaled m s (lines bytes) c))
      → LeavesOnly moment left_since x z (LeavesKeptIn m head file input)
  leaves_both moment left_since x y z input one two =
      leaves_then moment left_since x y z (LeavesKeptIn m head file input) (leaves_weaker moment left_since x y _ _ (λ c same. inl same) one)
      (leaves_weaker moment left_since y z _ _ (leaves_kept input) two)
