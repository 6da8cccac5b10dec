use Rattle.std.specs.Option.{option_copied}
use Rattle.end_values.proofs.EndValueLemmas.{not_there}
use Rattle.end_values.proofs.end_values.is_object.Goals as goal

pub returns-in_default : goal.returns-in_default
returns-in_default c = not_there c.args.value.now c.in_default.not-Object (option_copied c.args.there)
