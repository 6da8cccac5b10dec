use Rattle.script_program.proofs.LostLemmas.{are_commands, as_many, front, whole}
use Rattle.script_program.proofs.laws.what_lines_print_is_the_script.Goals as goal

pub returns-clause-whole : goal.returns-clause-whole
returns-clause-whole c s t bytes printed h = whole s t bytes printed h

pub returns-clause-front : goal.returns-clause-front
returns-clause-front c s t bytes first rest printed cut h = front s t bytes first rest printed cut h

pub returns-clause-lost : goal.returns-clause-lost
returns-clause-lost c s t ls printed h = are_commands s t ls printed h

pub returns-clause-as_many : goal.returns-clause-as_many
returns-clause-as_many c printed = as_many printed
