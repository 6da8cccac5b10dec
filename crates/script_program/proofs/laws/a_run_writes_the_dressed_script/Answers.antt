use Rattle.std.proofs.Common.{◌≡◌, ◌∙◌, ◌++◌, ℕ, inl, inr, List, ap, append-nil, subst, sym}
use Rattle.script_lines.specs.Lines.{lines}
use Rattle.script_program.specs.Batch.{RunsBatch}
use Rattle.script_answers.specs.Dressed.{dressed_output, dressed_output_from, lines_until_end}
use Rattle.script_program.specs.Lost.{lost_lines, script}
use Rattle.script_program.specs.Script.{RunsLines}
use Rattle.script_program.specs.Session.{Session}
use Rattle.script_answers.specs.Turns.{Printed}
use Rattle.script_answers.specs.declared.dress.Dress.{Dress}
use Rattle.script_answers.proofs.DressLemmas.{dressed_first, kept_append}
use Rattle.script_program.proofs.LostLemmas.{front, whole}
use Rattle.script_program.proofs.ScriptLemmas.{runs_length}
use Rattle.script_program.proofs.laws.a_run_writes_the_dressed_script.Goals as goal

writes : (d : Dress) (s t : Session) (bytes : List ℕ) (first : List (List ℕ)) (printed : List Printed) → RunsBatch d s bytes first printed t
    → dressed_output d (lines bytes) (script s bytes (lost_lines printed)) ≡ dressed_output d first printed
writes d s t bytes first printed h =
    let all : lines bytes ≡ first ++ h.rest = h.runs.lines_are in
    elim h.ends [
      | inl none ↦
          let same : lines bytes ≡ first = all ∙ (ap (λ r. first ++ r) none ∙ append-nil first) in
          let is = whole s t bytes printed (subst (λ ls. RunsLines s ls printed t) (sym same) h.runs.ran) in
          ap (λ ls. dressed_output d ls (script s bytes (lost_lines printed))) same ∙ ap (dressed_output d first) is
      | inr stop ↦
          let more = front s t bytes first h.rest printed all h.runs.ran in
          let cut : lines_until_end d (script s bytes (lost_lines printed)) ≡ lines_until_end d printed = ap (lines_until_end d) more.1 ∙ kept_append d printed more.0 stop in
          ap (λ ls. dressed_output d ls (script s bytes (lost_lines printed))) all
          ∙ (ap (dressed_output_from d 1 (first ++ h.rest)) (cut ∙ h.runs.none_behind)
          ∙ (dressed_first d 1 first h.rest printed (runs_length s t first printed h.runs.ran)
          ∙ ap (dressed_output_from d 1 first) (sym h.runs.none_behind)))
    ]

pub returns : goal.returns
returns c d s t bytes first printed h = writes d s t bytes first printed h
