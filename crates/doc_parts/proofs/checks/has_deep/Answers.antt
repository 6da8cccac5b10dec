use Rattle.std.proofs.Common.{◌∙◌, Bool, ap}
use Rattle.std.specs.List.{list_any}
use Rattle.doc_parts.specs.Faults.{is_deep_at}
use Rattle.doc_parts.specs.FoundParts.{Seen, part_seen}
use Rattle.doc_parts.proofs.KnowLemmas.{any_seen}
use Rattle.doc_parts.proofs.checks.has_deep.Goals as goal

pub returns : goal.returns
returns c = λ m ps known.
    let test : Seen → Bool = λ s. is_deep_at s.level in
    c.is_any_deep.ensures ∙ ap (list_any (λ r. test (part_seen r))) c.as_slice.ensures.value ∙ any_seen m test ps c.args.found.now.parts.items known.parts
