-- A resource with a given URI is made, and a document is loaded into it.
use Rattle.std.specs.Prelude.{◌≡◌, ℕ, List, Option, Some, None, Ok, Err}
use Rattle.mm_types.specs.declared.numbers.ResourceNo.{ResourceNo}
use Rattle.mm_types.specs.declared.refused.Refused.TheVariants.{NoResource}
use Rattle.repository.specs.Run.{Executed, change_outcome}
use Rattle.repository.specs.State.{State}
use Rattle.repository.specs.Views.{Outcome}
use Rattle.repository.specs.declared.command.Command.TheVariants.{CreateResource, Load}
use Rattle.repository.specs.declared.reply.Answer.{Answer}
use Rattle.repository.specs.declared.reply.Answer.TheVariants as answer

-- the resource that an answer names, or none; the answer of a command that makes a resource always names a resource
abbrev pub made_resource : Answer → Option ResourceNo
made_resource (answer.Resource k) = Some k
made_resource _ = None

-- the command that loads a document into a resource was executed; if no resource is given, the outcome is the refusal NoResource, and the
-- state is as it was
abbrev pub LoadsInto : Option ResourceNo → State → List ℕ → Outcome → State → Type 0
LoadsInto (Some k) s document o t = Executed s (Load k document) o t
LoadsInto None s document o t = (o ≡ change_outcome (Err NoResource)) × (t ≡ s)

-- the first argument is the outcome of the command that makes the resource. If the resource was made, the command that loads the document
-- was executed; otherwise nothing more was done, and the outcome is the first argument
abbrev pub LoadsIfMade : Outcome → State → List ℕ → Outcome → State → Type 0
LoadsIfMade (Ok r) s document o t = LoadsInto (made_resource r.answer) s document o t
LoadsIfMade (Err f) s document o t = (o ≡ Err f) × (t ≡ s)

-- The command that makes a resource with a given URI was executed. If it was done, the command that loads a document into the resource was
-- executed too. `o` is the outcome of the last command that was executed, and `t` is the state after this command.
pub record MakesAndLoads (s : State) (uri document : List ℕ) (o : Outcome) (t : State) : Type 0 where
  pub made : Outcome
  pub between : State
  pub makes : Executed s (CreateResource uri) made between
  pub loads : LoadsIfMade made between document o t
