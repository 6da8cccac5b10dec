use Rattle.std.proofs.Common.{◌∙◌, ◌≡◌, Some, arith, ap, drop, option_map, sym}
use Rattle.std.proofs.lemmas.Str.{IsCharBoundary-after_ascii}
use Rattle.frequent_lines.specs.Frequent.{at_in, frequent_in, frequent_with}
use Rattle.script_lines.specs.Values.{name_in}
use Rattle.frequent_lines.specs.Verbs.{short_verb, short_verb_in}
use Rattle.frequent_lines.specs.declared.frequent.Frequent.TheVariants as frequent
use Rattle.frequent_lines.proofs.FrequentLemmas.{line_asks}
use Rattle.frequent_lines.proofs.VerbLemmas.{short_at, short_read, short_space}
use Rattle.frequent_lines.proofs.frequent.frequent_of.Goals as goal

pub returns-in_default-clause-line : goal.returns-in_default-clause-line
returns-in_default-clause-line c = line_asks c.args.line.now _ c.other_line_of.ensures

pub range_from-rest-requires : goal.range_from-rest-requires
range_from-rest-requires c =
    let line = c.args.line.now in
    let space = short_space line c.in-Some.verb (sym c.short_verb_of.ensures ∙ c.in-Some.is) in
    λ _. IsCharBoundary-after_ascii line 3 c.utf8.line space.0 (omega arith)

pub returns-in-New : goal.returns-in-New
returns-in-New c =
    let line = c.args.line.now in
    let verb : short_verb_in line ≡ Some c.in-Some.verb = sym c.short_verb_of.ensures ∙ c.in-Some.is in
    let is : c.new_of.result ≡ frequent_in line =
    c.new_of.ensures ∙ (ap (λ text. option_map frequent.New (name_in text)) c.range_from-rest.ensures.value
    ∙ (ap (λ v. frequent_with (short_verb v) (drop 4 line)) (sym c.in-New.is) ∙ sym (short_read line c.in-Some.verb verb))) in
    record { read = is; line = line_asks line _ is }

pub returns : goal.returns
returns c =
    let line = c.args.line.now in
    let verb : short_verb_in line ≡ Some c.in-Some.verb = sym c.short_verb_of.ensures ∙ c.in-Some.is in
    let is : c.short_line_of.result ≡ frequent_in line =
    c.short_line_of.ensures ∙ (ap (at_in (short_verb c.in-Some.verb)) c.range_from-rest.ensures.value
    ∙ (sym (short_at c.in-Some.verb (drop 4 line) c.in_default-verb.not-New) ∙ sym (short_read line c.in-Some.verb verb))) in
    record { read = is; line = line_asks line _ is }
