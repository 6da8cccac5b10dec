use Rattle.std.proofs.Common.{◌≡◌, ◌∙◌, ◌++◌, ◌∷◌, [], List, ℕ, map, append_assoc, ap, subst}
use Rattle.std.specs.Prelude.{OnOk}
use Rattle.script_program.specs.Answers.{answer_line, answer_text, notified_text}
use Rattle.script_lines.specs.declared.grammar.TheConstants.{NEWLINE}
use Rattle.script_program.proofs.answers.print_reply.Goals as goal

pub returns : goal.returns
returns g c =
    let m = c.args.meta.now in
    let r = c.args.reply.now in
    let views = map (λ b. (b.0, g.A.Adapter.heard b.1)) r.released in
    let printed = c.print_notified in
    let told = rw (c.as_slice.ensures, c.as_slice-2.ensures) at printed.ensures.ok in
    let line = c.in_ok-line_end.ensures.ok ∙ ap (λ (x : List ℕ). x ++ (NEWLINE ∷ [])) c.in_ok-print_answer.ensures.ok ∙ append_assoc c.args.output.now (answer_text m c.args.feature r.answer) (NEWLINE ∷ []) in
    record { ok = subst (λ (x : List ℕ). OnOk printed.result (printed.new.output ≡ x)) (ap (λ (x : List ℕ). x ++ notified_text m r.told views) line ∙ append_assoc c.args.output.now (answer_line m c.args.feature r.answer) (notified_text m r.told views)) told }
