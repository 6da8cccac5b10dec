-- A session of C as the definitions of scripts see it, a new session, and what a read does: it prints an answer, and leaves the session as
-- it was.
use Rattle.std.specs.Prelude.{◌≡◌, ℕ, List, [], map, replicate, Some}
use Rattle.mm_types.specs.Resolved.{Metamodel}
use Rattle.notice_chain.specs.View.{View}
use Rattle.repository.specs.State.{empty_state}
use Rattle.script_program.specs.Session.{Session, session}
use Rattle.script_answers.specs.Turns.{Printed}
use Rattle.mmrepo_c.specs.declared.session.Session.{Session as Held}
use Rattle.mmrepo_c.specs.declared.session.TheConstants.{BOXES}

-- the repository of a session, and its pool of adapters
abbrev pub running_session : Held → Session
running_session h = session h.interpreter.repository h.interpreter.pool

-- the text that the last line, read or load of a session printed
abbrev pub answer : Held → List ℕ
answer h = h.interpreter.output

-- an adapter that was notified of nothing, and keeps no notification
abbrev pub new_view : View
new_view = record { told = 0; room = Some 0; kept = [] }

-- the adapters of a new session, none of which was notified of anything
abbrev pub AreUnheard : {A : Type 0} → (A → View) → List A → Type 0
AreUnheard heard boxes = map (λ a. Some (heard a)) boxes ≡ replicate BOXES (Some new_view)

-- a new session: an empty repository, all adapters in the pool, and no answer
pub record Begins (m : Metamodel) (h : Held) : Type 0 where
  pub runs : running_session h ≡ session (empty_state m) (replicate BOXES (Some new_view))
  pub silent : answer h ≡ []

-- what `asked` gives for a session was printed, and the session is as it was
pub record Reads (s : Session) (asked : Session → Printed) (p : Printed) (t : Session) : Type 0 where
  pub printed : p ≡ asked s
  pub kept : t ≡ s
