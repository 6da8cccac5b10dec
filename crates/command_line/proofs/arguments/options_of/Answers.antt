use Rattle.std.proofs.Common.{◌≡◌, ◌∙◌, ap, codes, option_map, sym}
use Rattle.std.proofs.lemmas.Result.{err_from_is_err_and}
use Rattle.clap.specs.Words.{App, app_of, first_of, found_of, is_simple, matches_of, rows_of, takes}
use Rattle.clap.proofs.CallerLemmas.{some_of_text}
use Rattle.clap.proofs.WalkLemmas.{first_value-rows}
use Rattle.command_line.specs.CommandLine.{is_set, program, texts, values}
use Rattle.command_line.proofs.ArgumentLemmas.{meta_given, simple}
use Rattle.command_line.proofs.arguments.options_of.Goals as goal

pub returns-in_err-matches-clause-passes : goal.returns-in_err-matches-clause-passes
returns-in_err-matches-clause-passes c =
    let is : app_of c.in_ok-command.field-0 ≡ program = c.in_ok-command.ensures in
    let p = err_from_is_err_and c.from_residual-in_err-matches.result c.from_residual-in_err-matches.ensures.1 in
    rw (p.1, p.2) (λ h. c.in_err-matches.ensures.passes (ap (λ (a : App). takes a (texts c.args.words.now)) is ∙ h))

pub unwrap-requires : goal.unwrap-requires
unwrap-requires c =
    let is : app_of c.in_ok-command.field-0 ≡ program = c.in_ok-command.ensures in
    some_of_text _ c.get_str.result _ c.get_str.ensures (meta_given c.in_ok-command.field-0 c.in_ok-matches.matches is c.in_ok-matches.ensures.parsed)

pub returns-clause-value : goal.returns-clause-value
returns-clause-value c =
    let is : app_of c.in_ok-command.field-0 ≡ program = c.in_ok-command.ensures in
    let words = texts c.args.words.now in
    let found = found_of c.in_ok-matches.matches in
    let rows : rows_of found ≡ matches_of program words =
    (c.in_ok-matches.ensures.matches (ap is_simple is ∙ simple)).0 ∙ ap (λ (a : App). matches_of a words) is in
    record {
      meta = ap (first_of (codes "meta")) (sym rows) ∙ (sym (first_value-rows found (codes "meta")) ∙ (sym c.get_str.ensures ∙ ap (option_map (λ s. s.now)) c.unwrap.ensures));
      script = ap (first_of (codes "script")) (sym rows) ∙ (sym (first_value-rows found (codes "script")) ∙ sym c.get_str-2.ensures);
      load = c.in_ok-load.ensures ∙ ap (values (codes "load")) rows;
      save = c.in_ok-save.ensures ∙ ap (values (codes "save")) rows;
      echo = c.is_set.ensures ∙ ap (is_set (codes "echo")) rows;
      number = c.is_set-2.ensures ∙ ap (is_set (codes "number")) rows;
      stop = c.is_set-3.ensures ∙ ap (is_set (codes "stop")) rows;
      strict = c.is_set-4.ensures ∙ ap (is_set (codes "strict")) rows;
      live = c.is_set-5.ensures ∙ ap (is_set (codes "live")) rows;
      journal = ap (first_of (codes "journal")) (sym rows) ∙ (sym (first_value-rows found (codes "journal")) ∙ sym c.get_str-3.ensures);
      explain = c.is_set-6.ensures ∙ ap (is_set (codes "explain")) rows;
    }
