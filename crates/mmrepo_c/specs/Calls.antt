-- What the calls from C return, and what they leave in the handle.
use Rattle.std.specs.Prelude.{◌≡◌, ◌<◌, ◌≤◌, ◌⊎◌, ℕ, Bool, true, false, IsUtf8, List, [], length, Option, Some, None, Result, Ok, Err}
use Rattle.mm_types.specs.Resolved.{Metamodel}
use Rattle.mm_types.specs.declared.limits.TheConstants.{INPUT_BYTES}
use Rattle.mm_types.specs.declared.numbers.Node.{Node}
use Rattle.mm_types.specs.declared.numbers.Node.TheVariants as node
use Rattle.mm_types.specs.declared.numbers.ResourceNo.{ResourceNo}
use Rattle.mm_types.specs.declared.meta_fault.MetaFault.{MetaFault}
use Rattle.mm_check.specs.Documents.{Gives, IsRefusedFor}
use Rattle.script_lines.specs.Forms.{form}
use Rattle.repository.specs.declared.command.Command.TheVariants.{Load}
use Rattle.script_program.specs.Lists.{list_len_printed, list_value_printed}
use Rattle.script_program.specs.Script.{RunsCommand, RunsLine}
use Rattle.script_program.specs.Session.{Session}
use Rattle.script_answers.specs.Turns.{Printed, printed_line}
use Rattle.script_answers.specs.declared.turn.Turn.{Turn}
use Rattle.mmrepo_c.specs.Filled.{filled_buffer}
use Rattle.mmrepo_c.specs.Sessions.{Begins, Reads, answer, running_session}
use Rattle.mmrepo_c.specs.Statuses.{fault_status, line_status}
use Rattle.mmrepo_c.specs.declared.session.Session.{Session as Held}
use Rattle.mmrepo_c.specs.declared.status.TheConstants.{OK, BAD, CLOSED, TOO_LONG, MEMORY}

-- a new session over the metamodel of an accepted document
pub record Accepts (bytes : List ℕ) (h : Held) : Type 0 where
  pub metamodel : Metamodel
  pub given : Gives bytes (Ok metamodel)
  pub begun : Begins metamodel h

-- a document was opened: the handle has a new session; or the status says why the document is refused, and the handle is closed
abbrev pub OpensDocument : List ℕ → ℕ → Option Held → Type 0
OpensDocument bytes status None = (f : MetaFault) × IsRefusedFor bytes f × (status ≡ fault_status f)
OpensDocument bytes status (Some h) = (status ≡ OK) × Accepts bytes h

-- the status that opening a document returns, and the handle after the call
abbrev pub Opens : List ℕ → ℕ → Option Held → Type 0
Opens bytes status new =
    ((INPUT_BYTES < length bytes) × (status ≡ TOO_LONG) × (new ≡ None)) ⊎ ((length bytes ≤ INPUT_BYTES) × OpensDocument bytes status new)

-- a line was run: the text that the line printed is now the answer of the session; or memory was refused to the run itself, and the handle
-- is closed
abbrev pub AnswersLine : Held → List ℕ → ℕ → Option Held → Type 0
AnswersLine h line status None = status ≡ MEMORY
AnswersLine h line status (Some t) = (turn : Turn) × (status ≡ line_status turn) × RunsLine (running_session h) (form line) (printed_line (answer t) turn) (running_session t)

-- the status that running a line in the session of a handle returns, and the handle after the call
abbrev pub Answers : Option Held → List ℕ → ℕ → Option Held → Type 0
Answers None line status new = (status ≡ CLOSED) × (new ≡ None)
Answers (Some h) line status new =
    ((INPUT_BYTES < length line) × (status ≡ TOO_LONG) × (new ≡ Some h)) ⊎ ((length line ≤ INPUT_BYTES) × AnswersLine h line status new)

-- a read was made. `asked` gives what the read prints in a session. Either this text is now the answer of the session; or memory was
-- refused for the text, and the handle is closed
abbrev pub ReadsSession : Held → (Session → Printed) → ℕ → Option Held → Type 0
ReadsSession h asked status None = status ≡ MEMORY
ReadsSession h asked status (Some t) = (turn : Turn) × (status ≡ line_status turn) × Reads (running_session h) asked (printed_line (answer t) turn) (running_session t)

-- the status that reading a list in the session of a handle returns, and the handle after the call; `name` is the name of the feature, and
-- `asked` gives what the read prints in a session
abbrev pub ReadsList : Option Held → List ℕ → (Session → Printed) → ℕ → Option Held → Type 0
ReadsList None name asked status new = (status ≡ CLOSED) × (new ≡ None)
ReadsList (Some h) name asked status new = (¬ IsUtf8 name × (status ≡ BAD) × (new ≡ Some h)) ⊎ (IsUtf8 name × ReadsSession h asked status new)

-- the resource with a given number; `node_of` is this resource for `true`, and the object with the number for `false`
abbrev pub resource_of : ℕ → ResourceNo
resource_of number = record { 0 = number }

abbrev pub node_of : Bool → ℕ → Node
node_of true number = node.Resource (resource_of number)
node_of false number = node.Object (record { 0 = number })

-- what a read of the length of a list prints
abbrev pub asked_len : Node → List ℕ → Session → Printed
asked_len n name s = list_len_printed s.state n name

-- what a read of the value at an index of a list prints
abbrev pub asked_value : Node → List ℕ → ℕ → Session → Printed
asked_value n name i s = list_value_printed s.state n name i

-- a document was to be loaded. Either the command `Load` was done or refused, and the text that it printed is now the answer of the
-- session; or memory was refused to the call itself, and the handle is closed
abbrev pub LoadsDocument : Held → ResourceNo → List ℕ → ℕ → Option Held → Type 0
LoadsDocument h k text status None = status ≡ MEMORY
LoadsDocument h k text status (Some t) = (turn : Turn) × (status ≡ line_status turn) × RunsCommand (running_session h) (Load k text) (printed_line (answer t) turn) (running_session t)

-- the status that a load in the session of a handle returns, and the handle after the call
abbrev pub Loads : Option Held → ResourceNo → List ℕ → ℕ → Option Held → Type 0
Loads None k text status new = (status ≡ CLOSED) × (new ≡ None)
Loads (Some h) k text status new = LoadsDocument h k text status new

-- the text that the last line, read or load of a handle printed; no text if the handle is closed
abbrev pub text_of : Option Held → List ℕ
text_of None = []
text_of (Some h) = answer h

-- the text of a handle was copied into a buffer, as far as the buffer can hold it; the count is the length of the whole text, and the
-- handle is as it was
pub record Copies (held : Option Held) (room : List ℕ) (count : ℕ) (filled_room : List ℕ) (new : Option Held) : Type 0 where
  pub counted : count ≡ length (text_of held)
  pub copied : filled_room ≡ filled_buffer (text_of held) room
  pub kept : new ≡ held
