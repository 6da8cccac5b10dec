use Rattle.std.proofs.Common.{List, ℕ, ap}
use Rattle.script_answers.specs.Turns.{printed_line}
use Rattle.script_answers.specs.declared.turn.Turn.TheVariants as turned
use Rattle.script_program.proofs.frequent.print_change.Goals as goal

pub returns-in_ok-short_text-in-Ok : goal.returns-in_ok-short_text-in-Ok
returns-in_ok-short_text-in-Ok c = λ m k a is.
    record { text = c.args.done.now; added = c.in_ok-short_text-in-Ok.ensures.ok; said = rw c.in-Ok.is (ap (λ (x : List ℕ). printed_line x turned.Done) is) }

pub returns-in-Err : goal.returns-in-Err
returns-in-Err c = λ m k a is. rw c.in-Err.is (c.print_refused.ensures m k)
