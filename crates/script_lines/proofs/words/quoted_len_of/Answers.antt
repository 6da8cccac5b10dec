use Rattle.std.proofs.Common.{◌≡◌, ◌+◌, ◌-◌, arith, drop, length, sym, take}
use Rattle.std.proofs.lemmas.List.{length-drop, take_all}
use Rattle.std.proofs.lemmas.List.Quantifiers.{position-Some}
use Rattle.script_lines.specs.Words.{is_mark}
use Rattle.script_lines.proofs.WordLemmas.{quoted_unescaped}
use Rattle.script_lines.proofs.words.quoted_len_of.Goals as goal

pub returns-in-Some-clause-value : goal.returns-in-Some-clause-value
returns-in-Some-clause-value c =
    let bs = c.args.bytes.now in
    let i = c.in-Some.i in
    let found = position-Some is_mark bs i 0 (sym c.in-Some.ensures) in
    let e = quoted_unescaped bs i found.0 found.2 c.if-bytes-i-eq-QUOTE.true in
    let whole : take (length bs - (i + 1)) (drop (i + 1) bs) ≡ drop (i + 1) bs = take_all _ _ (rw (length-drop (i + 1) bs) (omega arith)) in
    rw (e, c.plain_len_of.ensures.value, whole) (omega arith)
