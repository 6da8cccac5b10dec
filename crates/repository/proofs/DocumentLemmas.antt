-- Fragments and addresses, whose refusals are found by reading the model.
use Rattle.std.proofs.Common.{◌≡◌, ◌∙◌, ℕ, true, List, [], Option, Some, None, is_some, Ok, refl, ap}
use Rattle.std.specs.Prelude.{unwrap_or}
use Rattle.mm_types.specs.Conditions.{◌else_by◌, ◌unless◌}
use Rattle.mm_types.specs.declared.numbers.ObjectNo.{ObjectNo}
use Rattle.mm_types.specs.declared.refused.Refused.TheVariants.{BadUri, Dangling, TextLength}
use Rattle.web_uris.specs.Addresses.{has_mark}
use Rattle.fragment_paths.specs.Finding.{at}
use Rattle.fragment_paths.specs.Fragments.{fragment}
use Rattle.models.specs.Existence.{object_refusal}
use Rattle.models.specs.Legal.{is_short_text}
use Rattle.repository.specs.Commands as commands
use Rattle.repository.specs.State.{State, reads}
use Rattle.repository.specs.Step.{Stepped, step}
use Rattle.mm_types.specs.declared.read.Read.TheVariants.{ObjectAt, Of}
use Rattle.mm_types.specs.declared.read.ObjectRead.TheVariants.{Fragment}
use Rattle.repository.specs.declared.reply.Answer.{Answer}
use Rattle.repository.specs.declared.reply.Answer.TheVariants as answer
use Rattle.repository.proofs.QuietLemmas.{read_done}

-- a read with this answer
abbrev read_as : State → Answer → Stepped
read_as s a = record { outcome = Ok (record { answer = a; told = []; released = [] }); after = s }

pub fragment_read : (s : State) (o : ObjectNo) (t : List ℕ) → object_refusal (reads s) o ≡ None → fragment (reads s) o ≡ Some t → step s (commands.fragment o) ≡ read_as s (answer.Fragment t)
fragment_read s o t live given =
    read_done s (Of o Fragment) live (ap (λ (f : Option (List ℕ)). Dangling unless is_some f) given)
    ∙ ap (λ (f : Option (List ℕ)). read_as s (answer.Fragment (unwrap_or f []))) given

pub object_found : (s : State) (t : List ℕ) → is_short_text t ≡ true → has_mark t ≡ true → step s (commands.object_at t) ≡ read_as s (answer.Found (at (reads s) t))
object_found s t short marked =
    read_done s (ObjectAt t) refl
    (ap (λ b. TextLength unless b else_by BadUri unless has_mark t) short ∙ ap (λ b. BadUri unless b) marked)
