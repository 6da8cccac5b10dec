use Rattle.std.proofs.Common.{◌∙◌, Err, ap, subst}
use Rattle.borrowed_json.specs.View.{view}
use Rattle.resource_docs.specs.Causes.{Answers}
use Rattle.resource_docs.proofs.CauseLemmas.{is_json, not_json}
use Rattle.resource_docs.proofs.reading.read_doc_text.Goals as goal

pub returns-in-Ok : goal.returns-in-Ok
returns-in-Ok c = subst (Answers c.read_value.result) (is_json c.args.meta.now c.args.uri.now c.args.text.now (view c.in-Ok.value) c.utf8.text c.in-Ok.ensures.value) c.read_value.ensures

pub returns : goal.returns
returns c = not_json c.args.meta.now c.args.uri.now c.args.text.now (λ _. c.read_json.ensures.syntax (c.in-Err-Syntax.is ∙ ap Err c.in-Err-Syntax.field-0-is))
