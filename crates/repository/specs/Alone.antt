-- If a change is not refused, its effect on the model does not depend on the adapters.
use Rattle.std.specs.Prelude.{◌≡◌, Bool, true, false, None, Ok}
use Rattle.notice_chain.specs.View.{View}
use Rattle.repository.specs.Run.{Executed}
use Rattle.repository.specs.State.{state_of_model, State}
use Rattle.repository.specs.Step.{refusal_of, step}
use Rattle.repository.specs.declared.command.Command.{Command}
use Rattle.repository.specs.declared.command.Command.TheVariants as command
use Rattle.repository.specs.declared.reply.Reply.{Reply}

-- whether a command asks for a change of the model
abbrev pub is_change : Command View → Bool
is_change (command.Attach number target deep view) = false
is_change (command.Watch number target deep) = false
is_change (command.Unwatch number target) = false
is_change (command.Detach number) = false
is_change (command.Read q) = false
is_change _ = true

-- if the command c asks for a change and is not refused in the state s, it is also not refused without the adapters of s. The model after c
-- is the same in both cases
abbrev pub IsAloneToo : State → Command View → Type 0
IsAloneToo s c =
    is_change c ≡ true → refusal_of s c ≡ None
    → (refusal_of (state_of_model s.model) c ≡ None) × ((step (state_of_model s.model) c).after ≡ state_of_model (step s c).after.model)

-- a command that asks for no change leaves the model as it is
abbrev pub KeepsModel : State → Command View → Type 0
KeepsModel s c = is_change c ≡ false → (step s c).after.model ≡ s.model

-- if the command c asked for a change and was executed with the reply r, it is also done without the adapters of s. The model after c is
-- the same in both cases
abbrev pub ComesBack : State → Command View → Reply View → State → Type 0
ComesBack s c r t =
    is_change c ≡ true → Executed s c (Ok r) t
    → (q : Reply View) × (step (state_of_model s.model) c ≡ record { outcome = Ok q; after = state_of_model t.model })
