use Rattle.std.proofs.Common.{◌∙◌}
use Rattle.borrowed_json.proofs.KeyLemmas.{keys_among}
use Rattle.borrowed_json.proofs.members.has_only_keys.Goals as goal

pub returns : goal.returns
returns c = c.all_keys_among.ensures ∙ keys_among c.args.names.now c.args.members.now
