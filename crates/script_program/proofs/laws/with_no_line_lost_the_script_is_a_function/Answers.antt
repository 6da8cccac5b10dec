use Rattle.script_program.proofs.LostLemmas.{none_lost}
use Rattle.script_program.proofs.laws.with_no_line_lost_the_script_is_a_function.Goals as goal

pub returns : goal.returns
returns c s t bytes printed h none = none_lost s t bytes printed h none
