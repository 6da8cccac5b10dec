use Rattle.std.proofs.Common.{◌≡◌, ◌∙◌, ◌++◌, Ok, Err, ap, ap₂, fold, map, refl, sym}
use Rattle.mm_types.specs.Resolved.{Metamodel}
use Rattle.mm_types.specs.declared.numbers.FeatureNo.{FeatureNo}
use Rattle.repository.specs.Run.{change_outcome}
use Rattle.repository.specs.Views.{Outcome, reply_view}
use Rattle.repository.proofs.RunLemmas.{executed-metamodel}
use Rattle.script_answers.specs.Turns.{printed_line}
use Rattle.script_program.specs.Answers.{feature_of, outcome_text}
use Rattle.script_program.specs.Pool.{with_box}
use Rattle.script_program.proofs.line.finish_change.Goals as goal

pub returns-in_ok-print_reply-in-Ok : goal.returns-in_ok-print_reply-in-Ok
returns-in_ok-print_reply-in-Ok g c = λ s k none is executed.
    let heard = g.A.Adapter.heard in
    let o : Outcome = Ok (reply_view heard c.in-Ok.reply) in
    let done = rw c.in-Ok.is at executed in
    let kept : c.meta.result.now ≡ s.model.metamodel = c.meta.ensures ∙ executed-metamodel s c.args.repository.now k o done in
    record {
      text = outcome_text s.model.metamodel (feature_of k) o;
      added = c.in_ok-print_reply-in-Ok.ensures.ok ∙ ap₂ (λ (m : Metamodel) (f : FeatureNo). c.args.output.now ++ outcome_text m f o) kept (sym is);
      said = record {
        outcome = o;
        executed = done;
        pool = rw none (c.put_all.ensures ∙ ap (λ bs. fold with_box c.args.pool.now (map (λ b. (b.0, heard b.1)) bs)) c.into_vec.ensures);
        printed = refl;
      };
    }

pub returns-in_ok-print_refusal-in-Err : goal.returns-in_ok-print_refusal-in-Err
returns-in_ok-print_refusal-in-Err g c = λ s k none is executed.
    let o : Outcome = change_outcome (Err c.in-Err.refused) in
    record {
      text = outcome_text s.model.metamodel (feature_of k) o;
      added = c.in_ok-print_refusal-in-Err.ensures.ok;
      said = record { outcome = o; executed = rw c.in-Err.is at executed; pool = refl; printed = ap (printed_line (outcome_text s.model.metamodel (feature_of k) o)) c.turn_of_refusal.ensures };
    }
