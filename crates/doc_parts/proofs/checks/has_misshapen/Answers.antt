use Rattle.std.proofs.Common.{◌∙◌, ap}
use Rattle.std.specs.List.{list_any}
use Rattle.doc_parts.specs.FoundParts.{looks_misshapen, part_seen}
use Rattle.doc_parts.proofs.KnowLemmas.{any_misshapen}
use Rattle.doc_parts.proofs.checks.has_misshapen.Goals as goal

pub returns : goal.returns
returns c = λ m ps known. c.is_any_misshapen.ensures ∙ ap (list_any (λ r. looks_misshapen (part_seen r))) c.as_slice.ensures.value ∙ any_misshapen m ps c.args.found.now.parts.items known.parts
