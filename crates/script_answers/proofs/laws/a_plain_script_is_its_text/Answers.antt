use Rattle.script_answers.proofs.DressLemmas.{plain_text, stopped_text}
use Rattle.script_answers.proofs.laws.a_plain_script_is_its_text.Goals as goal

pub returns-clause-whole : goal.returns-clause-whole
returns-clause-whole c ls printed same = plain_text ls printed same

pub returns-clause-stop : goal.returns-clause-stop
returns-clause-stop c ls printed same = stopped_text ls printed same
