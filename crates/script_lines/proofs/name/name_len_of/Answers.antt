use Rattle.std.proofs.Common.{◌∙◌, sym}
use Rattle.script_lines.proofs.NameLemmas.{first_failing}
use Rattle.script_lines.proofs.WordLemmas.{first_at, none_in}
use Rattle.script_lines.proofs.name.name_len_of.Goals as goal

pub returns-in-Some : goal.returns-in-Some
returns-in-Some c = first_at _ c.args.bytes.now _ (sym c.in-Some.ensures) ∙ first_failing _ c.args.bytes.now

pub returns-in-None : goal.returns-in-None
returns-in-None c = none_in _ c.args.bytes.now (sym c.in-None.ensures) ∙ first_failing _ c.args.bytes.now
