use Rattle.std.proofs.Common.{◌∙◌, ap}
use Rattle.std.specs.List.{list_any}
use Rattle.doc_parts.specs.FoundParts.{has_other_member, part_seen}
use Rattle.doc_parts.proofs.KnowLemmas.{any_with_other_key}
use Rattle.doc_parts.proofs.checks.has_unknown_feature.Goals as goal

pub returns : goal.returns
returns c = λ ps known. c.is_any_with_other_key.ensures ∙ ap (list_any (λ r. has_other_member c.args.meta.now (part_seen r))) c.as_slice.ensures.value ∙ any_with_other_key c.args.meta.now ps c.args.found.now.parts.items known.parts
