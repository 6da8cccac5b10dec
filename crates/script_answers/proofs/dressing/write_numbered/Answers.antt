use Rattle.std.proofs.Common.{◌≡◌, ◌∙◌, ◌∷◌, ◌++◌, [], codes, length, rules, subst, sym}
use Rattle.std.specs.Fmt.{decimal}
use Rattle.std.specs.Io.KnownBytes.{Appends}
use Rattle.std.proofs.lemmas.Result.{err_from_is_err_and}
use Rattle.script_lines.specs.declared.grammar.TheConstants.{NEWLINE}
use Rattle.script_streams.specs.Streams.{AppendsFront}
use Rattle.script_streams.proofs.FrontLemmas.{next_piece, stopped_piece}
use Rattle.script_answers.specs.Dressed.{numbered_lines}
use Rattle.script_answers.proofs.DressLemmas.{all_numbered, next_numbered}
use Rattle.script_answers.proofs.dressing.write_numbered.Goals as goal

pub returns-in_err-write_parts-clause-err : goal.returns-in_err-write_parts-clause-err
returns-in_err-write_parts-clause-err g c =
    let i = c.lines.invariant in
    let k = c.args.number in
    let line = c.in-Some.line.now in
    let next = next_numbered k c.lines.rest.now line c.in-Some.more.now c.in-Some.ensures.lines_are in
    let shown : c.as_bytes-digits.result.now ≡ decimal k = c.as_bytes-digits.ensures.value ∙ c.format.ensures.text in
    let part : AppendsFront (g.W.Write.contents c.lines.writer) (g.W.Write.contents c.write_parts.new.writer) (decimal k ++ (codes ": " ++ (line ++ NEWLINE ∷ []))) =
    subst (λ d. AppendsFront (g.W.Write.contents c.lines.writer) (g.W.Write.contents c.write_parts.new.writer) (d ++ (codes ": " ++ (line ++ NEWLINE ∷ [])))) shown c.in_err-write_parts.ensures.err in
    let p = err_from_is_err_and c.from_residual.result c.from_residual.ensures.1 in
    rw p.1 (stopped_piece _ _ _ _ i.0 (numbered_lines k c.lines.rest.now) _ (numbered_lines k c.in-Some.more.now) i.1 i.2 next part)

pub lines-preserved : goal.lines-preserved
lines-preserved g c =
    let i = c.lines.invariant in
    let k = c.args.number in
    let line = c.in-Some.line.now in
    let next = next_numbered k c.lines.rest.now line c.in-Some.more.now c.in-Some.ensures.lines_are in
    let shown : c.as_bytes-digits.result.now ≡ decimal k = c.as_bytes-digits.ensures.value ∙ c.format.ensures.text in
    let one : Appends (g.W.Write.contents c.lines.writer) (g.W.Write.contents c.write_parts.new.writer) (decimal k ++ (codes ": " ++ (line ++ NEWLINE ∷ []))) =
    subst (λ d. Appends (g.W.Write.contents c.lines.writer) (g.W.Write.contents c.write_parts.new.writer) (d ++ (codes ": " ++ (line ++ NEWLINE ∷ [])))) shown c.in_ok-write_parts.ensures.ok in
    next_piece _ _ _ _ i.0 (numbered_lines k c.lines.rest.now) _ (numbered_lines k c.in-Some.more.now) i.1 i.2 next one

pub returns-clause-ok : goal.returns-clause-ok
returns-clause-ok g c =
    let i = c.lines.invariant in
    let none : length c.lines.rest.now ≡ 0 = search rules in
    subst (Appends _ _) (sym (all_numbered c.args.number c.args.answer.now i.0 c.lines.rest.now none i.2)) i.1
