-- What an outbox becomes by calls of `before_wait`. If each call succeeds, the outbox has given the answers that it held back; without a
-- call the outbox stays as it is. This file also says what the outbox becomes if a call fails.
use Rattle.std.specs.Prelude.{◌≡◌, ◌≤◌, ◌⊎◌, ℕ, List, [], ◌++◌, Option, refl}
use Rattle.std.specs.Io.KnownBytes.{Appends}
use Rattle.std.proofs.Common.{inl, inr, ⊎_elim, sym, ◌∙◌, ap, subst, arith, append-nil, append_assoc}
use Rattle.std.proofs.KnownBytes.{Appends-trans}
use Rattle.journal.specs.Disk.{LeavesOnly}
use Rattle.journal.specs.Journal.{IsBeforeOrAfter, StandsFor}
use Rattle.journal.specs.Lines.{recovered_lines}
use Rattle.durable.specs.Outboxes.{FailsToGive, Gives, IsAtRest, LeavesBoth, disk_under, held_by, kept_by, noted_by, writer_of}
use Rattle.durable.specs.declared.outbox.Outbox.{Outbox}
use Rattle.script_streams.specs.declared.run_fault.RunFault.{RunFault}

-- no answer is held back, and no noted line waits for a commit
pub record IsEmptied {D W : Type 0} (x : Outbox D W) : Type 0 where
  pub held : held_by x ≡ []
  pub noted : noted_by x ≡ []

module _ {D W : Type 0} (contents : W → Option (List ℕ)) (seen : D → List ℕ) (may_leave : D → List ℕ → Type 0) (moment : D → ℕ) (left_since : D → ℕ → List ℕ → Type 0)
    (faults : D → ℕ) where
  abbrev Box : Type 0
  Box = Outbox D W

  abbrev pub GivesIfAny : Box → Box → Type 0
  GivesIfAny x y = (y ≡ x) ⊎ Gives contents seen may_leave x y

  abbrev pub AtRest : Box → Type 0
  AtRest x = IsAtRest seen may_leave x

  -- The outbox gave the answers that it held back, or it is as it was.
  pub record Becomes (x y : Box) : Type 0 where
    pub given : GivesIfAny x y
    pub moments : AtRest x → LeavesBoth seen moment left_since x y
    pub later : faults (disk_under x) ≤ faults (disk_under y)

  -- The outbox failed to give its answers because of a fault.
  pub record Fails (x : Box) (fault : RunFault) (y : Box) : Type 0 where
    pub stopped : FailsToGive contents seen may_leave faults x fault y
    pub moments : AtRest x → LeavesBoth seen moment left_since x y
    pub later : faults (disk_under x) ≤ faults (disk_under y)

  -- ---- one call after another

  -- if P is true of each file that a crash leaves at a moment from x to y, and of each file that a crash leaves at a moment from y to z,
  -- then P is true of each file that a crash leaves at a moment from x to z
  pub leaves_more : (x y z : D) (P Q : List ℕ → Type 0) → LeavesOnly moment left_since x y P → LeavesOnly moment left_since y z Q → ((c : List ℕ) → Q c → P c)
      → LeavesOnly moment left_since x z P
  leaves_more x y z P Q one two weaker = record {
    later = omega (arith, one.later, two.later);
    each = λ c left. ⊎_elim (λ was. one.each c was) (λ q. weaker c q) (two.before (moment x) c one.later left);
    before = λ t c le left. ⊎_elim (λ was. one.before t c le was) (λ q. inr (weaker c q)) (two.before t c (omega (arith, le, one.later)) left);
  }

  rests : (x y : Box) → GivesIfAny x y → AtRest x → AtRest y
  rests x y (inl same) at_rest = subst AtRest (sym same) at_rest
  rests x y (inr one) at_rest = one.settled

  -- the lines of the file followed by the noted lines are the same before and after the answers are given
  all_of : (x y : Box) → Gives contents seen may_leave x y → kept_by seen y ++ noted_by y ≡ kept_by seen x ++ noted_by x
  all_of x y one = ap (λ (ls : List (List ℕ)). kept_by seen y ++ ls) one.noted ∙ append-nil (kept_by seen y) ∙ one.kept

  all_stand : (x y : Box) → Gives contents seen may_leave x y → (c : List ℕ) → IsBeforeOrAfter (kept_by seen y) (noted_by y) c → StandsFor (kept_by seen x ++ noted_by x) c
  all_stand x y one c (inl before) = before ∙ one.kept
  all_stand x y one c (inr after) = after ∙ all_of x y one

  either_stands : (x y : Box) → GivesIfAny x y → (c : List ℕ) → IsBeforeOrAfter (kept_by seen y) (noted_by y) c → IsBeforeOrAfter (kept_by seen x) (noted_by x) c
  either_stands x y (inl same) c either = subst (λ (o : Box). IsBeforeOrAfter (kept_by seen o) (noted_by o) c) same either
  either_stands x y (inr one) c either = inr (all_stand x y one c either)

  leaves_both : (x y z : Box) → GivesIfAny x y → (AtRest x → LeavesBoth seen moment left_since x y) → (AtRest y → LeavesBoth seen moment left_since y z) → AtRest x
      → LeavesBoth seen moment left_since x z
  leaves_both x y z given one two at_rest =
      leaves_more (disk_under x) (disk_under y) (disk_under z) _ _ (one at_rest) (two (rests x y given at_rest)) (either_stands x y given)

  gives_twice : (x y z : Box) → Gives contents seen may_leave x y → Gives contents seen may_leave y z → Gives contents seen may_leave x z
  gives_twice x y z one two = record {
    settled = two.settled;
    kept = two.kept ∙ all_of x y one;
    noted = two.noted;
    held = two.held;
    written =
        subst (Appends (contents (writer_of x)) (contents (writer_of z))) (ap (λ (l : List ℕ). held_by x ++ l) one.held ∙ append-nil (held_by x))
        (Appends-trans (contents (writer_of x)) (contents (writer_of y)) (contents (writer_of z)) (held_by x) (held_by y) one.written two.written);
  }

  gives_on : (x y z : Box) → GivesIfAny x y → GivesIfAny y z → GivesIfAny x z
  gives_on x y z (inl same) two = subst (λ (o : Box). GivesIfAny o z) same two
  gives_on x y z (inr one) (inl same) = inr (subst (λ (o : Box). Gives contents seen may_leave x o) (sym same) one)
  gives_on x y z (inr one) (inr two) = inr (gives_twice x y z one two)

  -- ---- the laws of a wait

  pub stays_so : ((file : D) (c : List ℕ) → left_since file (moment file) c → may_leave file c) → (x : Box) → Becomes x x
  stays_so only_now x = record {
    given = inl refl;
    moments = λ at_rest. record {
      later = omega arith;
      each = λ c left. inl (ap recovered_lines (at_rest.durable c (only_now (disk_under x) c left)));
      before = λ t c le left. inl left;
    };
    later = omega arith;
  }

  pub becomes_more : (x y z : Box) → Becomes x y → Becomes y z → Becomes x z
  becomes_more x y z one two = record {
    given = gives_on x y z one.given two.given;
    moments = leaves_both x y z one.given one.moments two.moments;
    later = let a = one.later in let b = two.later in omega (arith, a, b);
  }
