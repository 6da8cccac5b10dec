use Rattle.std.proofs.Common.{◌∙◌, ◌≡◌, ◌+◌, ◌<◌, Some, arith, ap, codes, drop, get_or, length, option_map, rules, sym}
use Rattle.std.proofs.lemmas.Str.{IsCharBoundary-after_ascii}
use Rattle.frequent_lines.specs.Frequent.{at_in}
use Rattle.script_lines.specs.Values.{object_in}
use Rattle.frequent_lines.specs.Verbs.{long_verb, long_verb_in}
use Rattle.frequent_lines.specs.declared.frequent.Frequent.TheVariants as frequent
use Rattle.frequent_lines.proofs.VerbLemmas.{container_is, container_read, fragment_is, fragment_read, long_is, long_read, other_read, space_at}
use Rattle.frequent_lines.proofs.frequent.other_line_of.Goals as goal

pub range_from-requires : goal.range_from-requires
range_from-requires c =
    let line = c.args.line.now in
    let verb = c.in-Some.verb in
    let read : long_verb_in line ≡ Some verb = search rules in
    let space = space_at line (long_verb verb) _ (long_is line verb read) in
    rw c.verb_len_of.ensures (λ _. IsCharBoundary-after_ascii line (length (long_verb verb)) c.utf8.line space.0 (omega arith))

pub returns-in-Some : goal.returns-in-Some
returns-in-Some c =
    let line = c.args.line.now in
    let verb = c.in-Some.verb in
    let read : long_verb_in line ≡ Some verb = search rules in
    let rest : c.range_from.result.now ≡ drop (length (long_verb verb) + 1) line =
    c.range_from.ensures.value ∙ ap (λ n. drop (n + 1) line) c.verb_len_of.ensures in
    c.long_line_of.ensures ∙ (ap (at_in (long_verb verb)) rest ∙ sym (long_read line verb read))

pub range_from-requires-then-asks_container : goal.range_from-requires-then-asks_container
range_from-requires-then-asks_container c =
    let line = c.args.line.now in
    let space : (9 < length line) × (get_or line 9 0 ≡ 32) = space_at line (codes "container") (drop 10 line) (container_is line (sym c.asks_container.ensures ∙ c.if-asks_container.true)) in
    λ _. IsCharBoundary-after_ascii line 9 c.utf8.line space.0 (omega arith)

pub returns-then-asks_container : goal.returns-then-asks_container
returns-then-asks_container c =
    let read = container_read c.args.line.now (sym c.asks_container.ensures ∙ c.if-asks_container.true) in
    c.container_of.ensures ∙ (ap (λ text. option_map frequent.Container (object_in text)) c.range_from-then-asks_container.ensures.value ∙ sym read)

pub range_from-requires-then-asks_fragment : goal.range_from-requires-then-asks_fragment
range_from-requires-then-asks_fragment c =
    let line = c.args.line.now in
    let space : (8 < length line) × (get_or line 8 0 ≡ 32) = space_at line (codes "fragment") (drop 9 line) (fragment_is line (sym c.asks_fragment.ensures ∙ c.if-asks_fragment.true)) in
    λ _. IsCharBoundary-after_ascii line 8 c.utf8.line space.0 (omega arith)

pub returns-then-asks_fragment : goal.returns-then-asks_fragment
returns-then-asks_fragment c =
    let read = fragment_read c.args.line.now (sym c.asks_fragment.ensures ∙ c.if-asks_fragment.true) in
    c.fragment_of.ensures ∙ (ap (λ text. option_map frequent.Fragment (object_in text)) c.range_from-then-asks_fragment.ensures.value ∙ sym read)

pub returns : goal.returns
returns c =
    other_read c.args.line.now c.requires (sym c.long_verb_of.ensures ∙ c.in_default.is)
    (sym c.asks_container.ensures ∙ c.if-asks_container.false) (sym c.asks_fragment.ensures ∙ c.if-asks_fragment.false)
