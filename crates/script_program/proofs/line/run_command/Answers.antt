use Rattle.std.proofs.Common.{◌≡◌, ◌∙◌, ◌++◌, Option, ap, ap₂}
use Rattle.mm_types.specs.Resolved.{Metamodel}
use Rattle.mm_types.specs.declared.numbers.AdapterNo.{AdapterNo}
use Rattle.mm_types.specs.declared.numbers.FeatureNo.{FeatureNo}
use Rattle.repository.proofs.RunLemmas.{executed-metamodel}
use Rattle.repository.specs.Views.{command_view, outcome_view}
use Rattle.script_program.specs.Answers.{feature_of, outcome_text}
use Rattle.script_program.specs.Pool.{Pool}
use Rattle.script_answers.specs.Turns.{printed_line}
use Rattle.script_program.proofs.SessionLemmas.{pool_after_return-after}
use Rattle.script_program.specs.Session.{pool_after_return, session}
use Rattle.script_program.proofs.LeftLemmas.{as_executed}
use Rattle.script_program.proofs.line.run_command.Goals as goal

pub returns-clause-ok : goal.returns-clause-ok
returns-clause-ok g c =
    λ before out given.
    let heard = g.A.Adapter.heard in
    let s = c.args.repository.now in
    let t = c.execute-outcome.new.self in
    let v = command_view heard c.args.command in
    let o = outcome_view heard c.execute-outcome.result in
    let text = outcome_text s.model.metamodel (feature_of v) o in
    let kept : c.meta.result.now ≡ s.model.metamodel = c.meta.ensures ∙ executed-metamodel s t v o c.execute-outcome.ensures in
    let back = c.give_back.ensures ∙ ap₂ (λ (p : Pool) (number : Option AdapterNo). pool_after_return p number o) out (c.number_of-no.ensures heard) ∙ pool_after_return-after before s t v o given c.execute-outcome.ensures in
    record {
      text = text;
      added = c.in_ok-print_outcome.ensures.ok ∙ ap₂ (λ (m : Metamodel) (f : FeatureNo). c.args.output.now ++ outcome_text m f o) kept (c.feature_of-feature.ensures heard);
      said = record { outcome = o; executed = c.execute-outcome.ensures; pool = back; printed = ap (printed_line text) (c.turn_of-turn.ensures heard) };
    }

-- the command was executed, and its answer could not be added
pub returns-in_err-print_outcome-clause-left : goal.returns-in_err-print_outcome-clause-left
returns-in_err-print_outcome-clause-left g c = λ before.
    let heard = g.A.Adapter.heard in
    as_executed c.from_residual.result (session c.args.repository.now before) (command_view heard c.args.command) (outcome_view heard c.execute-outcome.result) c.execute-outcome.new.self
    c.execute-outcome.ensures
