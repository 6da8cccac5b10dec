-- The first state of a session.
use Rattle.std.proofs.Common.{◌≡◌, ◌∙◌, ap, ℕ, List, [], Ok}
use Rattle.mm_types.specs.Resolved.{Metamodel}
use Rattle.notice_chain.specs.View.{View}
use Rattle.repository.specs.State.{empty_state}
use Rattle.script_program.specs.Session.{first_session, session}
use Rattle.mm_check.specs.Documents.{Gives}
use Rattle.mmrepo_c.specs.Calls.{Accepts}
use Rattle.mmrepo_c.specs.Sessions.{AreUnheard, Begins, answer, running_session}
use Rattle.mmrepo_c.specs.declared.session.Session.{Session as Held}

pub begins : {A : Type 0} (heard : A → View) (m : Metamodel) (boxes : List A) (h : Held)
    → running_session h ≡ first_session heard m boxes → AreUnheard heard boxes → answer h ≡ [] → Begins m h
begins heard m boxes h first unheard silent = record { runs = first ∙ ap (session (empty_state m)) unheard; silent = silent }

pub accepts : (bytes : List ℕ) (m : Metamodel) (h : Held) → Gives bytes (Ok m) → Begins m h → Accepts bytes h
accepts bytes m h given begun = record { metamodel = m; given = given; begun = begun }
