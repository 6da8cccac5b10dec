use Rattle.end_values.proofs.EndValueLemmas.{only_objects}
use Rattle.end_values.proofs.end_values.into_object.Goals as goal

pub unreachable-requires : goal.unreachable-requires
unreachable-requires c = only_objects c.args.value c.requires c.in_default.not-Object
