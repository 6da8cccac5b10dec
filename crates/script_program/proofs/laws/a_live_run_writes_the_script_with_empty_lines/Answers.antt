use Rattle.std.proofs.Common.{ap}
use Rattle.script_program.specs.Live.{live_text}
use Rattle.script_program.proofs.LiveLemmas.{with_empty_lines}
use Rattle.script_program.proofs.LostLemmas.{whole}
use Rattle.script_program.proofs.laws.a_live_run_writes_the_script_with_empty_lines.Goals as goal

pub returns-clause-texts : goal.returns-clause-texts
returns-clause-texts c printed = with_empty_lines printed

pub returns-clause-script : goal.returns-clause-script
returns-clause-script c s t bytes printed h = ap live_text (whole s t bytes printed h)
