use Rattle.std.proofs.Common.{sym}
use Rattle.script_lines.proofs.WordLemmas.{first_at, none_in, space_is}
use Rattle.script_lines.proofs.words.plain_len_of.Goals as goal

pub returns-in-Some-clause-value : goal.returns-in-Some-clause-value
returns-in-Some-clause-value c = first_at _ c.args.bytes.now _ (sym c.in-Some.ensures)

pub returns-in-Some-clause-end : goal.returns-in-Some-clause-end
returns-in-Some-clause-end c = λ low. space_is c.args.bytes.now _ (sym c.in-Some.ensures)

pub returns-in-None-clause-value : goal.returns-in-None-clause-value
returns-in-None-clause-value c = none_in _ c.args.bytes.now (sym c.in-None.ensures)
