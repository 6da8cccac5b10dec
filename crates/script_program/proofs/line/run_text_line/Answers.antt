use Rattle.script_program.proofs.line.run_text_line.Goals as goal

pub returns-in-Some-clause-left : goal.returns-in-Some-clause-left
returns-in-Some-clause-left g c = rw c.in-Some.ensures.line c.run_frequent.ensures.left
