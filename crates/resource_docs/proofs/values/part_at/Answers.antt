use Rattle.std.proofs.Common.{◌∙◌, ap, sym}
use Rattle.std.specs.Prelude.{option_map}
use Rattle.web_uris.specs.Paths.{new_step}
use Rattle.doc_parts.proofs.FindLemmas.{number_under}
use Rattle.resource_docs.specs.Values.{object_of}
use Rattle.resource_docs.proofs.values.part_at.Goals as goal

pub returns-in-Some-clause-value : goal.returns-in-Some-clause-value
returns-in-Some-clause-value c = λ ps path known first.
    ap (option_map object_of) (c.in-Some.ensures ∙ sym (number_under c.args.source.now.found.now.numbers ps path c.args.number (new_step c.args.name.now c.args.index) known.finds first))

pub returns-in-None-clause-value : goal.returns-in-None-clause-value
returns-in-None-clause-value c = λ ps path known first.
    ap (option_map object_of) (c.in-None.ensures ∙ sym (number_under c.args.source.now.found.now.numbers ps path c.args.number (new_step c.args.name.now c.args.index) known.finds first))
