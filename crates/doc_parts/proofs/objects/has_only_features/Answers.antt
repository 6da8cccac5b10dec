use Rattle.std.proofs.Common.{◌∙◌, sym}
use Rattle.borrowed_json.proofs.KeyLemmas.{all_keys}
use Rattle.doc_parts.specs.Faults.{is_readable}
use Rattle.doc_parts.proofs.objects.has_only_features.Goals as goal

pub returns : goal.returns
returns c = c.are_readable.ensures ∙ sym (all_keys (is_readable c.args.meta.now c.args.class) c.args.members.now)
