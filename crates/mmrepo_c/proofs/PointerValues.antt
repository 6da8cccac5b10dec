-- A pointer and a loose `Box` own the same memory as a `Box` of a session.
use mir.Syntax.{impl, tnil, dnil}
use mathlib.Core.List.{[]}
use mathlib.Core.Path.{◌≡◌, refl, subst}
use denote.RattleType.{RattleType}
use denote.Signature.{Slot, plain}
use Rattle.std.specs.Prelude.{Bool, true, false, IsSome, Option, Some, None}
use Rattle.std_alloc.proofs.BoxSteps.Form.{Bx}
use Rattle.std_heap.specs.contracts.Global as heap_type
use Rattle.std_heap.specs.contracts.GlobalAllocator.TheImpl.{ghosts, dict}
use Rattle.std_heap.proofs.Global.TheLaws as heap
use Rattle.mmrepo_c.specs.contracts.session.Session as session_type
use Rattle.mmrepo_c.proofs.session.Session.TheLaws as session
use Rattle.mmrepo_c.specs.contracts.loose.Loose as loose
use Rattle.mmrepo_c.specs.contracts.pointer.SessionPointer as pointer

-- a `Box` of a session, in the memory of the process
abbrev pub E : Bx
E = record { row = session_type.the_row; laws = session.the_row_laws; al = record { row = heap_type.the_row; laws = heap.the_row_laws; g = ghosts; d = dict; drops = impl [] tnil dnil } }

abbrev pub FromLoose : Slot 0
FromLoose = plain (λ _. loose.the_row session_type.the_row heap_type.the_row ghosts)

abbrev pub FromRow : RattleType
FromRow = pointer.the_row

abbrev pub FromSlot : Slot 0
FromSlot = plain (λ _. FromRow)

abbrev pub FromAlloc : Slot 0
FromAlloc = plain (λ _. heap_type.the_row)

abbrev IsFalse : Bool → Type 0
IsFalse true = ⊥
IsFalse false = Unit {0}

pub what : {A : Type 0} (o : Option A) → IsSome o → (a : A) × (o ≡ Some a)
what None is = absurd (subst IsFalse is tt)
what (Some a) is = (a, refl)
