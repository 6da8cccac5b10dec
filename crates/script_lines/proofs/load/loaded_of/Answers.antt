use Rattle.std.proofs.Common.{sym}
use Rattle.script_lines.proofs.FormLemmas.{no_load_begins}
use Rattle.script_lines.proofs.load.loaded_of.Goals as goal

pub returns-then-not-may_load : goal.returns-then-not-may_load
returns-then-not-may_load c = no_load_begins c.args.line.now (sym c.if-not-may_load.ensures)
