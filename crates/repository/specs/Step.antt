-- What a command does: its outcome and the state after it.
use Rattle.std.specs.Prelude.{List, [], ◌∷◌, ◌++◌, Option, Some, None, Ok, Err, if◌then◌else◌}
use Rattle.std.specs.Option.{option_map_or}
use Rattle.mm_types.specs.declared.numbers.AdapterNo.{AdapterNo}
use Rattle.mm_types.specs.declared.refused.Refused.{Refused}
use Rattle.notice_chain.specs.View.{View}
use Rattle.notice_chain.specs.Listed.{Listed, adapters_after_watch, is_target, tell_chain, told_list}
use Rattle.notice_chain.specs.Released.{Released, Spot, is_any, is_gone_at, is_of, released_adapters, released_where, spots}
use Rattle.models.specs.Model.{Model, reading}
use Rattle.models.specs.Reading.{Reading}
use Rattle.removal.specs.Outer.{is_in_subtree}
use Rattle.handshake.specs.Effects as effects
use Rattle.repository.specs.declared.command.Command.{Command}
use Rattle.repository.specs.declared.command.Command.TheVariants as command
use Rattle.repository.specs.declared.reply.Reply.{Reply}
use Rattle.repository.specs.declared.reply.Failure.{Failure}
use Rattle.repository.specs.State.{State, reads}
use Rattle.repository.specs.Views.{Outcome, brought_adapter}
use Rattle.repository.specs.Refusals.{chain, change_of, refusal}
use Rattle.repository.specs.Answers.{answer_of}

-- the outcome of a command, and the state after it
pub record Stepped : Type 0 where
  pub outcome : Outcome
  pub after : State

-- the failure of a refused command: it gives back the adapter that the command was given, if any; and `refused_step`, which leaves the
-- state as it was
abbrev pub failure : Command View → Refused → Failure View
failure c r = record { refused = r; given_back = brought_adapter c }

abbrev pub refused_step : State → Command View → Refused → Stepped
refused_step s c r = record { outcome = Err (failure c r); after = s }

-- the targets that a command takes away: `delete` takes away the targets at the objects that it destroys, `unwatch` the target that it
-- names, and `detach` all targets of the adapter that it names; any other command takes no target away
abbrev pub going_spots : Reading → List Listed → Command View → List Spot
going_spots r rs (command.Delete o) = spots (is_gone_at (is_in_subtree r o)) rs
going_spots r rs (command.Unwatch number target) = (number, target) ∷ []
going_spots r rs (command.Detach number) = spots (is_of number) rs
going_spots r rs _ = []

-- the adapter that a command attaches, as a list; empty if the command attaches none
abbrev pub attached_adapters : Command View → List Listed
attached_adapters (command.Attach number target deep view) = record { no = number; targets = record { node = target; deep = deep } ∷ []; view = view } ∷ []
attached_adapters _ = []

-- the adapters rs after a command attached an adapter, or gave an adapter a target that the adapter did not have; rs itself if the command
-- did neither
abbrev pub adapters_after_attach : Command View → List Listed → List Listed
adapters_after_attach (command.Attach number target deep view) rs = rs ++ attached_adapters (command.Attach number target deep view)
adapters_after_attach (command.Watch number target deep) rs = if is_target number target rs then rs else adapters_after_watch number (record { node = target; deep = deep }) rs
adapters_after_attach _ rs = rs

-- the result of taking away the targets that a command takes away (`going_spots`), after the adapters were notified of the chain of the
-- command. Which adapters are notified depends on the nodes that are above the notifier before the command
abbrev pub releases : Reading → List Listed → Command View → Released
releases r rs c = released_adapters (going_spots r rs c) (tell_chain r.above (chain r c) rs)

abbrev pub reply : Reading → List Listed → Command View → Reply View
reply r rs c =
    record {
      answer = answer_of r rs c;
      told = told_list r.above (chain r c) rs ++ (releases r rs c).told;
      released = (releases r rs c).views;
    }

abbrev pub adapters_after : Reading → List Listed → Command View → List Listed
adapters_after r rs c = adapters_after_attach c (releases r rs c).others

abbrev pub model_after : Model → Command View → Model
model_after s c = option_map_or (effects.model_after s) (change_of (reading s) c) s

abbrev pub done_step : State → Command View → Stepped
done_step s c =
    record {
      outcome = Ok (reply (reads s) s.adapters c);
      after = record { model = model_after s.model c; adapters = adapters_after (reads s) s.adapters c };
    }

-- the first refusal that applies, if any
abbrev pub refusal_of : State → Command View → Option Refused
refusal_of s c = refusal (reads s) s.adapters c

abbrev pub step_unless : State → Command View → Option Refused → Stepped
step_unless s c (Some r) = refused_step s c r
step_unless s c None = done_step s c

abbrev pub step : State → Command View → Stepped
step s c = step_unless s c (refusal_of s c)

-- the result of `close`, which releases all adapters: the number of each adapter, with its view after its last notification
abbrev pub adapters_at_close : State → List (AdapterNo × View)
adapters_at_close s = (released_where is_any s.adapters).views
