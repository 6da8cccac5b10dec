use Rattle.std.proofs.Common.{ap}
use Rattle.script_program.specs.Answers.{refusal_line}
use Rattle.script_answers.specs.Turns.{printed_line}
use Rattle.script_program.proofs.frequent.print_refused.Goals as goal

pub returns : goal.returns
returns c = λ m k.
    let text = refusal_line c.args.refused in
    record { text = text; added = c.in_ok-print_refusal.ensures.ok; said = ap (printed_line text) c.turn_of_refusal.ensures }
