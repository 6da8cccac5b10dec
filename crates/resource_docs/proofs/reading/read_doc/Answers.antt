use Rattle.std.proofs.Common.{subst}
use Rattle.resource_docs.specs.Causes.{Reads}
use Rattle.resource_docs.proofs.CauseLemmas.{not_json}
use Rattle.resource_docs.proofs.reading.read_doc.Goals as goal

pub returns-in-Ok : goal.returns-in-Ok
returns-in-Ok c = subst (Reads c.read_doc_text.result c.args.meta.now c.args.uri.now) c.in-Ok.ensures.cases.0 c.read_doc_text.ensures

pub returns-in-Err : goal.returns-in-Err
returns-in-Err c = not_json c.args.meta.now c.args.uri.now c.args.bytes.now (λ utf8. absurd (c.in-Err.ensures.cases.0 utf8))
