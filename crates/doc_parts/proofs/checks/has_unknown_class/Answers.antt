use Rattle.std.proofs.Common.{◌∙◌, ap}
use Rattle.std.specs.List.{list_any}
use Rattle.doc_parts.specs.FoundParts.{lacks_class, part_seen}
use Rattle.doc_parts.proofs.KnowLemmas.{any_without_class}
use Rattle.doc_parts.proofs.checks.has_unknown_class.Goals as goal

pub returns : goal.returns
returns c = λ ps known. c.is_any_without_class.ensures ∙ ap (list_any (λ r. lacks_class c.args.meta.now (part_seen r))) c.as_slice.ensures.value ∙ any_without_class c.args.meta.now ps c.args.found.now.parts.items known.parts
