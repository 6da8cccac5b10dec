-- Why a line is not read, for a caller that does something before each wait.
use Rattle.std.specs.Prelude.{◌≡◌, ◌⊎◌, ℕ, List, Option, IfSome}
use Rattle.script_streams.specs.Faults.{IsReadOrMemory}
use Rattle.script_streams.specs.Line.{BeginsTooLong}
use Rattle.script_streams.specs.declared.run_fault.RunFault.{RunFault}
use Rattle.script_streams.specs.declared.run_fault.RunFault.TheVariants.{Read, Write, TooLong, Memory, Journal}

module _ {X : Type 0} (can_wait is_ready : X → Type 0) (becomes : X → X → Type 0) (fails : X → RunFault → X → Type 0) where
  -- Any number of calls of `before_wait` succeeded, perhaps none, and the next call of it failed with `fault`.
  pub record FailsToWait (old : X) (fault : RunFault) (new : X) : Type 0 where
    pub before : X
    pub became : becomes old before
    pub may : can_wait before
    pub failed : fails before fault new

  -- A read failed when the caller had nothing left to do, or memory was refused.
  pub record FailsToRead (old : X) (fault : RunFault) (new : X) : Type 0 where
    pub became : becomes old new
    pub may : can_wait new
    pub kind : IsReadOrMemory fault
    pub ready : fault ≡ Read → is_ready new

  -- A line was too long.
  pub record FindsTooLong (input : Option (List ℕ)) (old : X) (fault : RunFault) (new : X) : Type 0 where
    pub became : becomes old new
    pub may : can_wait new
    pub kind : fault ≡ TooLong
    pub long : IfSome input BeginsTooLong

  -- a piece of a line was not read: a call of `before_wait` failed, a read failed, or memory was refused
  abbrev pub StopsPiece : X → RunFault → X → Type 0
  StopsPiece old fault new = FailsToWait old fault new ⊎ FailsToRead old fault new

  -- a line was not read: one of its pieces was not read, or the line was too long
  abbrev pub StopsLine : Option (List ℕ) → X → RunFault → X → Type 0
  StopsLine input old fault new = FailsToWait old fault new ⊎ (FailsToRead old fault new ⊎ FindsTooLong input old fault new)
