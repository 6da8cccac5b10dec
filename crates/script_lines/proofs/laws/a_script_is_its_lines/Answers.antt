use Rattle.script_lines.proofs.LineLemmas.{cut, whole}
use Rattle.script_lines.proofs.laws.a_script_is_its_lines.Goals as goal

pub returns-clause-whole : goal.returns-clause-whole
returns-clause-whole c bytes = whole bytes

pub returns-clause-cut : goal.returns-clause-cut
returns-clause-cut c bytes = cut bytes
