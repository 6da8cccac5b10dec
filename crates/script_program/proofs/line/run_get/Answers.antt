use Rattle.std.proofs.Common.{◌∙◌, ◌++◌, [], None, Ok, Err, ap, option_map, refl, unwrap_or}
use Rattle.mm_types.specs.Resolved.{Metamodel}
use Rattle.mm_types.specs.declared.value.Value.{Value}
use Rattle.mm_types.specs.declared.value.Value.TheVariants.{Null}
use Rattle.models.specs.Found.{found_value}
use Rattle.repository.specs.Run.{Executed}
use Rattle.repository.specs.Views.{Outcome}
use Rattle.repository.specs.Commands.{get}
use Rattle.repository.specs.declared.reply.Answer.TheVariants as answer
use Rattle.repository.proofs.ReadLemmas.{value-refused}
use Rattle.script_program.specs.Answers.{outcome_text, refusal_line}
use Rattle.script_program.proofs.line.run_get.Goals as goal

read : Value → Outcome
read v = Ok (record { answer = answer.Value v; told = []; released = [] })

pub returns-in_ok-print_found-in-Ok : goal.returns-in_ok-print_found-in-Ok
unfolding read
returns-in_ok-print_found-in-Ok g c =
    λ pool.
    let s = c.args.repository.now in
    let f = c.args.end.feature in
    let v : Value = unwrap_or (option_map found_value c.in-Ok.value) Null in
    let ran : Executed s (get c.args.end.node f) (read v) s = c.in-Ok.ensures.ok in
    record {
      text = outcome_text s.model.metamodel f (read v);
      added = c.in_ok-print_found-in-Ok.ensures.ok ∙ ap (λ (m : Metamodel). c.args.output.now ++ outcome_text m f (read v)) c.meta.ensures;
      said = record { outcome = read v; executed = ran; pool = refl; printed = refl };
    }

pub returns-in_ok-print_refusal-in-Err : goal.returns-in_ok-print_refusal-in-Err
returns-in_ok-print_refusal-in-Err g c =
    λ pool.
    let s = c.args.repository.now in
    let r = c.in-Err.refused in
    let found = value-refused s c.args.end.node c.args.end.feature r c.in-Err.ensures.err c.requires.single in
    record {
      text = refusal_line r;
      added = c.in_ok-print_refusal-in-Err.ensures.ok;
      said = record { outcome = Err (record { refused = r; given_back = None }); executed = found.1; pool = refl; printed = rw found.0 refl };
    }
