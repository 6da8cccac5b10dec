use Rattle.std.proofs.Common.{◌≡◌, ◌∙◌, None, Some, ap, codes, false, option_map, rules, sym}
use Rattle.std.specs.Option.{option_map_or}
use Rattle.std.specs.Str.{bytes_eq}
use Rattle.clap.specs.Words.{first_of, found_of, rows_of}
use Rattle.clap.proofs.WalkLemmas.{first_value-rows}
use Rattle.command_line.proofs.arguments.is_set.Goals as goal

pub returns-in-Some : goal.returns-in-Some
returns-in-Some c =
    let found = found_of c.args.matches.now in
    let name = c.args.name.now in
    let first : first_of name (rows_of found) ≡ Some c.in-Some.value.now =
    sym (first_value-rows found name) ∙ (sym c.get_str.ensures ∙ ap (option_map (λ s. s.now)) c.in-Some.is) in
    let same : c.eq.result ≡ bytes_eq c.in-Some.value.now (codes "true") = search rules in
    same ∙ sym (ap (λ o. option_map_or (λ v. bytes_eq v (codes "true")) o false) first)

pub returns-in-None : goal.returns-in-None
returns-in-None c =
    let found = found_of c.args.matches.now in
    let name = c.args.name.now in
    let first : first_of name (rows_of found) ≡ None = sym (first_value-rows found name) ∙ (sym c.get_str.ensures ∙ ap (option_map (λ s. s.now)) c.in-None.is) in
    sym (ap (λ o. option_map_or (λ v. bytes_eq v (codes "true")) o false) first)
