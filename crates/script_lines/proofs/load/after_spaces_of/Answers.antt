use Rattle.script_lines.proofs.LoadLemmas.{spaces_trimmed}
use Rattle.script_lines.proofs.load.after_spaces_of.Goals as goal

pub returns : goal.returns
returns c = spaces_trimmed c.args.text.now c.trim_start_matches.result.now c.trim_start_matches.ensures.matches
