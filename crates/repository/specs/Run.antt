-- What lists of commands do, and when a command may fail with MEMORY.
use Rattle.std.specs.Prelude.{◌≡◌, ◌&&◌, Bool, true, false, not, IsTrue, List, [], ◌∷◌, None, MatchBool, Result, Ok, Err, if◌then◌else◌}
use Rattle.std.specs.Option.{option_map_or}
use Rattle.mm_types.specs.declared.refused.Refused.{Refused}
use Rattle.mm_types.specs.declared.refused.Refused.TheVariants.{NoObject, NoResource, NoClass, Abstract, NoFeature, NotSingle, NotMany, NoAdapter, AdapterTaken, Memory}
use Rattle.notice_chain.specs.View.{View}
use Rattle.repository.specs.declared.command.Command.{Command}
use Rattle.repository.specs.declared.command.Command.TheVariants as command
use Rattle.mm_types.specs.declared.read.Read.{Read}
use Rattle.mm_types.specs.declared.read.Read.TheVariants as asks
use Rattle.mm_types.specs.declared.read.EndRead.TheVariants.{IsSet}
use Rattle.mm_types.specs.declared.read.ObjectRead.TheVariants.{Class, Container, Resource}
use Rattle.repository.specs.declared.reply.Answer.{Answer}
use Rattle.repository.specs.declared.reply.Brief.{Brief}
use Rattle.repository.specs.declared.reply.Brief.TheVariants.{Unheard, Replied}
use Rattle.repository.specs.declared.reply.Reply.{Reply}
use Rattle.repository.specs.State.{State}
use Rattle.repository.specs.Views.{Outcome, changed_view}
use Rattle.repository.specs.Step.{failure, refusal_of, step}
use Rattle.mm_types.specs.Conditions.{is_memory_refusal}

-- whether an outcome is MEMORY
abbrev pub is_memory : Outcome → Bool
is_memory (Ok r) = false
is_memory (Err f) = is_memory_refusal f.refused

-- whether a refusal is always found before memory is taken. If this refusal is the first that applies to a command, the command does not
-- fail with MEMORY
abbrev pub is_plain : Refused → Bool
is_plain NoObject = true
is_plain NoResource = true
is_plain NoClass = true
is_plain Abstract = true
is_plain NoFeature = true
is_plain NotSingle = true
is_plain NotMany = true
is_plain NoAdapter = true
is_plain AdapterTaken = true
is_plain _ = false

-- whether a read may take memory, to copy something or to search for something
abbrev pub read_takes_memory : Read → Bool
read_takes_memory (asks.At e IsSet) = false
read_takes_memory (asks.Of o Class) = false
read_takes_memory (asks.Of o Container) = false
read_takes_memory (asks.Of o Resource) = false
read_takes_memory (asks.Adapter number q) = false
read_takes_memory _ = true

-- whether a command may take memory
abbrev pub takes_memory : Command View → Bool
takes_memory (command.Read q) = read_takes_memory q
takes_memory _ = true

-- whether a command may fail with MEMORY: it may take memory; and no refusal applies to it, or `is_plain` is not true of the first that
-- applies
abbrev pub may_want_memory : State → Command View → Bool
may_want_memory s c = takes_memory c && not (option_map_or is_plain (refusal_of s c) false)

-- a command that may fail with MEMORY failed with MEMORY: nothing changed, no adapter was notified, and if the command was given an
-- adapter, this adapter is given back
pub record IsWanting (s : State) (c : Command View) (o : Outcome) (t : State) : Type 0 where
  pub may : IsTrue (may_want_memory s c)
  pub outcome : o ≡ Err (failure c Memory)
  pub state : t ≡ s

-- the outcome of a command that is given no adapter; and `read_outcome`, the outcome of a command that is given no adapter and notifies
-- none, such as a read
abbrev pub change_outcome : Result (Reply View) Refused → Outcome
change_outcome (Ok r) = Ok r
change_outcome (Err r) = Err (record { refused = r; given_back = None })

abbrev pub read_outcome : {X : Type 0} → (X → Answer) → Result X Refused → Outcome
read_outcome f (Ok x) = Ok (record { answer = f x; told = []; released = [] })
read_outcome f (Err r) = Err (record { refused = r; given_back = None })

-- the outcome of a change at an end, from a `Brief`. If the change was done without a reply (`Unheard`), its answer is a
abbrev pub brief_outcome : {A : Type 0} → (A → View) → Answer → Brief A → Outcome
brief_outcome heard a (Unheard r) = read_outcome (λ u. a) r
brief_outcome heard a (Replied r) = change_outcome (changed_view heard r)

-- the outcome of a read, from its answer or its refusal
abbrev pub answered_outcome : Result Answer Refused → Outcome
answered_outcome = read_outcome (λ a. a)

-- a command was executed: its outcome and the state after it are those of the step, or the command failed with MEMORY
abbrev pub Executed : State → Command View → Outcome → State → Type 0
Executed s c o t = MatchBool (is_memory o) (IsWanting s c o t) (step s c ≡ record { outcome = o; after = t })

-- the commands of a list were executed one after another, each in the state that the command before it left
abbrev pub AllExecuted : State → List (Command View) → List Outcome → State → Type 0
AllExecuted s [] [] t = s ≡ t
AllExecuted s [] (o ∷ os) t = ⊥
AllExecuted s (c ∷ cs) [] t = ⊥
AllExecuted s (c ∷ cs) (o ∷ os) t = (u : State) × Executed s c o u × AllExecuted u cs os t

-- the outcomes of a list of commands, and the state after them
pub record Ran : Type 0 where
  pub outcomes : List Outcome
  pub after : State

-- one step after another
abbrev pub run : State → List (Command View) → Ran
run s [] = record { outcomes = []; after = s }
run s (c ∷ cs) =
    let one = step s c in
    let rest = run one.after cs in
    record { outcomes = one.outcome ∷ rest.outcomes; after = rest.after }

-- the outcomes other than MEMORY; and `commands_kept`, the commands that had these outcomes
abbrev pub outcomes_kept : List Outcome → List Outcome
outcomes_kept [] = []
outcomes_kept (o ∷ os) = if is_memory o then outcomes_kept os else o ∷ outcomes_kept os

abbrev pub commands_kept : List (Command View) → List Outcome → List (Command View)
commands_kept cs [] = []
commands_kept [] (o ∷ os) = []
commands_kept (c ∷ cs) (o ∷ os) = if is_memory o then commands_kept cs os else c ∷ commands_kept cs os

-- the commands cs had the outcomes os. Take the commands that did not fail with MEMORY. A run of these commands alone in the state s gives
-- exactly the outcomes that they had, and leaves the state t
abbrev pub IsRun : State → List (Command View) → List Outcome → State → Type 0
IsRun s cs os t = run s (commands_kept cs os) ≡ record { outcomes = outcomes_kept os; after = t }
