-- Commands and outcomes with views instead of adapters: contracts determine only the views of adapters.
use Rattle.std.specs.Prelude.{ℕ, List, map, Option, Some, None, Result, Ok, Err, option_map}
use Rattle.handshake.specs.declared.change.Change.{Change}
use Rattle.handshake.specs.declared.change.Change.TheVariants as change
use Rattle.mm_types.specs.declared.refused.Refused.{Refused}
use Rattle.notice_chain.specs.View.{View}
use Rattle.repository.specs.declared.command.Command.{Command}
use Rattle.repository.specs.declared.command.Command.TheVariants as command
use Rattle.repository.specs.declared.reply.Reply.{Reply}
use Rattle.repository.specs.declared.reply.Failure.{Failure}

-- the outcome of a command: its reply, or its failure
abbrev pub Outcome : Type 0
Outcome = Result (Reply View) (Failure View)

-- the command that asks for a change; if the change is a load, `text` is the text of its document
abbrev pub command_of : {A : Type 0} → List ℕ → Change → Command A
command_of text (change.At e a) = command.At e a
command_of text (change.Create c) = command.Create c
command_of text (change.Delete o) = command.Delete o
command_of text (change.NewResource u) = command.CreateResource u
command_of text (change.Load k doc) = command.Load k text
command_of text change.ResolveAll = command.ResolveAll

-- the adapter that a command is given, if it is given one
abbrev pub brought_adapter : {A : Type 0} → Command A → Option A
brought_adapter (command.Attach number target deep adapter) = Some adapter
brought_adapter _ = None

module _ {A : Type 0} (heard : A → View) where
  abbrev pub command_view : Command A → Command View
  command_view (command.At e a) = command.At e a
  command_view (command.Create c) = command.Create c
  command_view (command.Delete o) = command.Delete o
  command_view (command.CreateResource t) = command.CreateResource t
  command_view (command.Load k text) = command.Load k text
  command_view command.ResolveAll = command.ResolveAll
  command_view (command.Attach number target deep adapter) = command.Attach number target deep (heard adapter)
  command_view (command.Watch number target deep) = command.Watch number target deep
  command_view (command.Unwatch number target) = command.Unwatch number target
  command_view (command.Detach number) = command.Detach number
  command_view (command.Read q) = command.Read q

  abbrev pub reply_view : Reply A → Reply View
  reply_view r = record { answer = r.answer; told = r.told; released = map (λ b. (b.0, heard b.1)) r.released }

  abbrev pub failure_view : Failure A → Failure View
  failure_view f = record { refused = f.refused; given_back = option_map heard f.given_back }

  abbrev pub outcome_view : Result (Reply A) (Failure A) → Outcome
  outcome_view (Ok r) = Ok (reply_view r)
  outcome_view (Err f) = Err (failure_view f)

  -- the reply, with views instead of adapters, or the refusal of a command that is given no adapter
  abbrev pub changed_view : Result (Reply A) Refused → Result (Reply View) Refused
  changed_view (Ok r) = Ok (reply_view r)
  changed_view (Err r) = Err r
