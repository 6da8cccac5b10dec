use Rattle.std.proofs.Common.{◌∙◌, sym}
use Rattle.borrowed_json.specs.View.{view}
use Rattle.doc_parts.proofs.ContentLemmas.{many_values}
use Rattle.doc_parts.proofs.entries.values_of.Goals as goal

pub returns : goal.returns
returns c = many_values c.args.meta.now c.args.feature (view c.args.content.now) c.in-Some.values.now (sym c.is_single.ensures ∙ c.if-is_single.false) c.in-Some.ensures
