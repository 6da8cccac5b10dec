-- Commands that notify no adapter.
use Rattle.std.proofs.Common.{◌≡◌, ◌∙◌, List, [], Option, Some, None, Ok, refl, ap}
use Rattle.mm_types.specs.Conditions.{◌else_by◌, ◌where_so◌}
use Rattle.mm_types.specs.declared.refused.Refused.{Refused}
use Rattle.mm_types.specs.declared.refused.Refused.TheVariants.{AdapterFull}
use Rattle.mm_types.specs.declared.numbers.AdapterNo.{AdapterNo}
use Rattle.mm_types.specs.declared.numbers.FeatureNo.{FeatureNo}
use Rattle.mm_types.specs.declared.numbers.Node.{Node}
use Rattle.mm_types.specs.declared.numbers.Node.TheVariants as node
use Rattle.mm_types.specs.declared.numbers.ObjectNo.{ObjectNo}
use Rattle.mm_types.specs.declared.numbers.ResourceNo.{ResourceNo}
use Rattle.notice_chain.specs.View.{View}
use Rattle.notice_chain.specs.Listed.{Above, Listed, is_chain_full, tell_chain}
use Rattle.doc_writer.specs.Saved.{save_refusal}
use Rattle.models.specs.Existence.{end_refusal, node_refusal, object_refusal}
use Rattle.models.specs.Model.{Model}
use Rattle.models.specs.Reading.{at_end}
use Rattle.repository.specs.Answers.{answer_of, read_answer}
use Rattle.repository.specs.Commands as commands
use Rattle.repository.specs.Refusals.{adapter_refusal, early_read_refusal, late_read_refusal}
use Rattle.repository.specs.State.{State, reads}
use Rattle.repository.specs.Step.{Stepped, step, step_unless}
use Rattle.repository.specs.declared.command.Command.{Command}
use Rattle.repository.specs.declared.command.Command.TheVariants as command
use Rattle.mm_types.specs.declared.read.Read.{Read}
use Rattle.mm_types.specs.declared.read.Read.TheVariants.{Adapter, At, Of, Save, Under}
use Rattle.mm_types.specs.declared.read.EndRead.TheVariants.{Get, IsSet}
use Rattle.mm_types.specs.declared.read.ObjectRead.TheVariants.{Class, Container, Resource, Validate}
use Rattle.mm_types.specs.declared.read.NodeRead.TheVariants.{Contents, Snapshot}
use Rattle.mm_types.specs.declared.read.Tally.TheVariants.{Kept, Told}
use Rattle.repository.specs.declared.reply.Answer.{Answer}
use Rattle.repository.proofs.AdapterLemmas.{is_chain_full-nil, tell_chain-nil}

-- the step of a command that notifies and releases no adapter, and then changes the adapters in this way
pub done_quiet : (up : Above) (m : Model) (rs : List Listed) (j : List Listed → List Listed) (a : Answer) → (let y : Stepped = record {
  outcome = Ok (record { answer = a; told = []; released = [] });
  after = record { model = m; adapters = j (tell_chain up [] rs) };
} in y) ≡ record {
  outcome = Ok (record { answer = a; told = []; released = [] });
  after = record { model = m; adapters = j rs };
}
done_quiet up m rs j a = ap (λ (qs : List Listed). let y : Stepped = record {
  outcome = Ok (record { answer = a; told = []; released = [] });
  after = record { model = m; adapters = j qs };
} in y) (tell_chain-nil up rs)

-- the step of a read
pub done_read : (s : State) (a : Answer) → (let y : Stepped = record {
  outcome = Ok (record { answer = a; told = []; released = [] });
  after = record { model = s.model; adapters = tell_chain (reads s).above [] s.adapters };
} in y) ≡ record { outcome = Ok (record { answer = a; told = []; released = [] }); after = s }
done_read s a = done_quiet (reads s).above s.model s.adapters (λ rs. rs) a

-- no adapter is too full for a chain of no notifications
pub refusal_quiet : (up : Above) (o : Option Refused) (rs : List Listed) → (o else_by (AdapterFull where_so is_chain_full up [] rs)) ≡ o
refusal_quiet up (Some r) rs = refl
refusal_quiet up None rs = rw (is_chain_full-nil up rs) refl

---------------------------------------------------------------- reads that nothing refuses

-- a read's answer, and the state as it was
abbrev pub answered : State → Command View → Stepped
answered s c = record { outcome = Ok (record { answer = answer_of (reads s) s.adapters c; told = []; released = [] }); after = s }

-- a read gives its answer if the model has no refusal for it
pub read_done : (s : State) (q : Read) → early_read_refusal (reads s) s.adapters q ≡ None → late_read_refusal (reads s) q ≡ None → step s (command.Read q) ≡ answered s (command.Read q)
read_done s q early late =
    let full : Option Refused = AdapterFull where_so is_chain_full (reads s).above [] s.adapters in
    ap (step_unless s (command.Read q))
    (ap (λ (o : Option Refused). o else_by late_read_refusal (reads s) q else_by full) early
    ∙ ap (λ (o : Option Refused). o else_by full) late
    ∙ refusal_quiet (reads s).above None s.adapters)
    ∙ done_read s (read_answer (reads s) s.adapters q)

---------------------------------------------------------------- reads, by the names of their calls

pub get_done : (s : State) (n : Node) (f : FeatureNo) → end_refusal (reads s) (at_end n f) ≡ None → step s (commands.get n f) ≡ answered s (commands.get n f)
get_done s n f there = read_done s (At (at_end n f) Get) there refl

pub is_set_done : (s : State) (n : Node) (f : FeatureNo) → end_refusal (reads s) (at_end n f) ≡ None → step s (commands.is_set n f) ≡ answered s (commands.is_set n f)
is_set_done s n f there = read_done s (At (at_end n f) IsSet) there refl

pub class_done : (s : State) (o : ObjectNo) → object_refusal (reads s) o ≡ None → step s (commands.class o) ≡ answered s (commands.class o)
class_done s o there = read_done s (Of o Class) there refl

pub container_done : (s : State) (o : ObjectNo) → object_refusal (reads s) o ≡ None → step s (commands.container o) ≡ answered s (commands.container o)
container_done s o there = read_done s (Of o Container) there refl

pub resource_done : (s : State) (o : ObjectNo) → object_refusal (reads s) o ≡ None → step s (commands.resource o) ≡ answered s (commands.resource o)
resource_done s o there = read_done s (Of o Resource) there refl

pub validate_done : (s : State) (o : ObjectNo) → object_refusal (reads s) o ≡ None → step s (commands.validate o) ≡ answered s (commands.validate o)
validate_done s o there = read_done s (Of o Validate) there refl

pub contents_done : (s : State) (n : Node) → node_refusal (reads s) n ≡ None → step s (commands.contents n) ≡ answered s (commands.contents n)
contents_done s n there = read_done s (Under n Contents) there refl

pub snapshot_done : (s : State) (n : Node) → node_refusal (reads s) n ≡ None → step s (commands.snapshot n) ≡ answered s (commands.snapshot n)
snapshot_done s n there = read_done s (Under n Snapshot) there refl

pub save_done : (s : State) (k : ResourceNo) → node_refusal (reads s) (node.Resource k) ≡ None → save_refusal (reads s) k ≡ None → step s (commands.save k) ≡ answered s (commands.save k)
save_done s k there fits = read_done s (Save k) there fits

pub told_done : (s : State) (number : AdapterNo) → adapter_refusal s.adapters number ≡ None → step s (commands.adapter_told number) ≡ answered s (commands.adapter_told number)
told_done s number there = read_done s (Adapter number Told) there refl

pub kept_done : (s : State) (number : AdapterNo) → adapter_refusal s.adapters number ≡ None → step s (commands.adapter_kept number) ≡ answered s (commands.adapter_kept number)
kept_done s number there = read_done s (Adapter number Kept) there refl
