use Rattle.std.proofs.Common.{◌≡◌, ◌∙◌, List, [], Option, None, Some, ap, map, option_map, sym}
use Rattle.std.specs.Prelude.{unwrap_or}
use Rattle.std.proofs.lemmas.Result.{IfOk-weaker}
use Rattle.clap.specs.Words.{Text, all_of, found_of, rows_of}
use Rattle.clap.proofs.WalkLemmas.{raw_values-rows}
use Rattle.command_line.specs.CommandLine.{values}
use Rattle.command_line.proofs.arguments.values_of.Goals as goal

pub returns-in-Some : goal.returns-in-Some
returns-in-Some c =
    let found = found_of c.args.matches.now in
    let name = c.args.name.now in
    let given : all_of name (rows_of found) ≡ Some (map (λ s. s.now) c.in-Some.found.now) =
    sym (raw_values-rows found name) ∙ (sym c.get_strs.ensures ∙ ap (option_map (λ s. map (λ v. v.now) s.now)) c.in-Some.is) in
    IfOk-weaker c.from_slice.result _ _ (λ v h. ap (map (λ s. s.now)) h ∙ sym (ap (λ (o : Option (List Text)). unwrap_or o []) given)) c.from_slice.ensures.items

pub returns-in-None : goal.returns-in-None
returns-in-None c =
    let found = found_of c.args.matches.now in
    let name = c.args.name.now in
    let given : all_of name (rows_of found) ≡ None =
    sym (raw_values-rows found name) ∙ (sym c.get_strs.ensures ∙ ap (option_map (λ s. map (λ v. v.now) s.now)) c.in-None.is) in
    ap (map (λ s. s.now)) c.new.ensures.items ∙ sym (ap (λ (o : Option (List Text)). unwrap_or o []) given)
