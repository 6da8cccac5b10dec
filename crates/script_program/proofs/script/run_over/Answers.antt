use Rattle.std.proofs.Common.{Option, Some, None}
use Rattle.std.specs.Prelude.{IfSome}
use Rattle.script_program.specs.Session.{session_with}
use Rattle.script_program.proofs.ScriptLemmas.{silent}
use Rattle.script_program.proofs.script.run_over.Goals as goal

all_some : {X : Type 0} (P : X → Type 0) (o : Option X) → ((x : X) → P x) → IfSome o P
all_some P None h = tt
all_some P (Some x) h = h x

pub returns-in-Err-clause-stopped : goal.returns-in-Err-clause-stopped
returns-in-Err-clause-stopped g c = λ e. all_some _ _ (λ input. silent c.args.dress (session_with g.A.Adapter.heard c.args.repository.now c.args.boxes.items) input _)
