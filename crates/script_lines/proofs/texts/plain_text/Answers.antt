use Rattle.std.proofs.Common.{◌∙◌, ◌≡◌, ◌<◌, ◌≤◌, ◌-◌, arith, get_or, length, rules, sym, ap, true, take, drop, Some}
use Rattle.std.specs.List.{list_all}
use Rattle.std.proofs.lemmas.Str.{IsCharBoundary-after_ascii}
use Rattle.script_lines.specs.Values.{is_plain}
use Rattle.script_lines.proofs.TextLemmas.{read-plain}
use Rattle.script_lines.proofs.ValueLemmas.{text_read}
use Rattle.script_lines.proofs.texts.plain_text.Goals as goal

pub range-requires-clause-start_boundary : goal.range-requires-clause-start_boundary
range-requires-clause-start_boundary c =
    let some : 0 < length c.args.word.now = omega arith in
    let first : get_or c.args.word.now 0 0 < 128 = search rules in
    λ _. IsCharBoundary-after_ascii c.args.word.now 0 c.utf8.word some first

pub returns : goal.returns
returns c =
    let w = c.args.word.now in
    let long : 2 ≤ length w = search rules in
    let first : get_or w 0 0 ≡ 34 = search rules in
    let last : get_or w (length w - 1) 0 ≡ 34 = search rules in
    let bytes_are = c.as_bytes-bytes.ensures.value in
    let plain : list_all is_plain (take (length w - 1 - 1) (drop 1 w)) ≡ true =
    ap (λ b. list_all is_plain (take (length b - 1 - 1) (drop 1 b))) (sym bytes_are) ∙ (sym c.are_plain.ensures ∙ c.if-not-are_plain.false) in
    let text_is : c.range.result.now ≡ take (length w - 1 - 1) (drop 1 w) = c.range.ensures.value ∙ ap (λ b. take (length b - 1 - 1) (drop 1 w)) bytes_are in
    sym (text_read w _ last c.utf8.word (read-plain w long first last plain)) ∙ ap Some (sym text_is)
