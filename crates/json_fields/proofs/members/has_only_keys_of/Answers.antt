use Rattle.std.proofs.Common.{◌∙◌}
use Rattle.json_fields.proofs.FieldLemmas.{keys_among}
use Rattle.json_fields.proofs.members.has_only_keys_of.Goals as goal

pub returns : goal.returns
returns c = c.all_keys_among.ensures ∙ keys_among c.args.names.now c.args.more.now c.args.members.now.entries
