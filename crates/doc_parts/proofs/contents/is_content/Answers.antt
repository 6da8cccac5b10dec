use Rattle.std.proofs.Common.{◌∙◌, sym}
use Rattle.borrowed_json.specs.View.{view}
use Rattle.doc_parts.specs.Parts.{new_entry}
use Rattle.doc_parts.proofs.ContentLemmas.{content_by_parts}
use Rattle.doc_parts.proofs.contents.is_content.Goals as goal

pub returns-in-Some : goal.returns-in-Some
returns-in-Some c =
    content_by_parts c.args.meta.now (new_entry c.args.feature (view c.args.content.now)) c.is_single-single.result c.in-Some.found.now c.values_of.result.now c.are_values.result
    c.is_single-single.ensures (sym c.is_shaped.ensures ∙ c.if-not-is_shaped.false) c.in-Some.ensures c.values_of.ensures c.are_values.ensures
