use Rattle.std.proofs.Common.{◌≡◌, ◌∙◌, ap, ap₂, codes}
use Rattle.std.proofs.lemmas.Result.{IfOk-weaker}
use Rattle.clap.specs.Simple.{app_of_fields}
use Rattle.clap.specs.Words.{app_of, new_app, with_rule}
use Rattle.command_line.specs.CommandLine.{with_version}
use Rattle.command_line.proofs.arguments.command.Goals as goal

pub returns : goal.returns
returns c =
    let named : app_of c.version.result ≡ with_version (new_app (codes "mmrepo")) = ap app_of_fields c.version.ensures ∙ ap with_version c.new.ensures.app in
    let start : app_of c.after_help.result ≡ with_version (new_app (codes "mmrepo")) = ap app_of_fields c.after_help.ensures ∙ (ap app_of_fields c.about.ensures ∙ named) in
    let one = c.in_ok-arg.ensures.shape c.meta.ensures.local ∙ ap₂ with_rule start c.meta.ensures.rule in
    let two = c.in_ok-arg-2.ensures.shape c.file.ensures.local ∙ ap₂ with_rule one c.file.ensures.rule in
    let three = c.in_ok-arg-3.ensures.shape c.each.ensures.local ∙ ap₂ with_rule two c.each.ensures.rule in
    let four = c.in_ok-arg-4.ensures.shape c.each-2.ensures.local ∙ ap₂ with_rule three c.each-2.ensures.rule in
    let five = c.in_ok-arg-5.ensures.shape c.flag.ensures.local ∙ ap₂ with_rule four c.flag.ensures.rule in
    let six = c.in_ok-arg-6.ensures.shape c.flag-2.ensures.local ∙ ap₂ with_rule five c.flag-2.ensures.rule in
    let seven = c.in_ok-arg-7.ensures.shape c.flag-3.ensures.local ∙ ap₂ with_rule six c.flag-3.ensures.rule in
    let eight = c.in_ok-arg-8.ensures.shape c.flag-4.ensures.local ∙ ap₂ with_rule seven c.flag-4.ensures.rule in
    let nine = c.in_ok-arg-9.ensures.shape c.flag-5.ensures.local ∙ ap₂ with_rule eight c.flag-5.ensures.rule in
    let ten = c.in_ok-arg-10.ensures.shape c.file-2.ensures.local ∙ ap₂ with_rule nine c.file-2.ensures.rule in
    IfOk-weaker c.arg-11.result _ _ (λ r h. h.shape c.flag-6.ensures.local ∙ ap₂ with_rule ten c.flag-6.ensures.rule) c.arg-11.ensures
