use Rattle.borrowed_json.specs.View.{view}
use Rattle.resource_docs.specs.Texts.{base_of}
use Rattle.resource_docs.proofs.ReadingLemmas.{single_value}
use Rattle.resource_docs.proofs.values.read_one.Goals as goal

pub returns-clause-value : goal.returns-clause-value
returns-clause-value c = λ ps path known first.
    single_value c.args.source.now.meta.now (base_of c.args.source.now.uri.now) ps path c.args.feature c.args.kind.now (view c.args.json.now) c.in_ok-value.value c.is_link.result c.one_read.result
    (c.in_ok-value.ensures.value ps path known first) c.is_link.ensures c.one_read.ensures.value
