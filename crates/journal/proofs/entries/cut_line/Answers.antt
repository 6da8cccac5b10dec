use Rattle.journal.proofs.CutLemmas.{cut_at, ended_lines-nowhere}
use Rattle.journal.proofs.entries.cut_line.Goals as goal

pub returns-in-None : goal.returns-in-None
returns-in-None c = ended_lines-nowhere c.args.bytes.now c.in-None.ensures

pub returns-in-Some : goal.returns-in-Some
returns-in-Some c = cut_at c.args.bytes.now _ c.in-Some.ensures.0 c.in-Some.ensures.1
