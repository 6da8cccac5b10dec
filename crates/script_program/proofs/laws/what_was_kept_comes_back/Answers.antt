use Rattle.std.proofs.Common.{◌∙◌, ap}
use Rattle.models.specs.Model.{Model}
use Rattle.script_program.specs.Kept.{kept_lines, model_after_lines}
use Rattle.script_program.proofs.KeptLemmas.{lines_again, none_refused}
use Rattle.script_program.proofs.laws.what_was_kept_comes_back.Goals as goal

pub returns-clause-again : goal.returns-clause-again
returns-clause-again c s t ls printed run = lines_again s t ls printed run

pub returns-clause-done : goal.returns-clause-done
returns-clause-done c s t x ls printed run same none refused =
    none_refused x (kept_lines ls printed) t.state.model none (ap (λ (m : Model). model_after_lines m (kept_lines ls printed)) same ∙ lines_again s t ls printed run) refused
