use Rattle.std.proofs.Common.{◌++◌, ap, ◌∙◌}
use Rattle.json.specs.Tree.{json_tokens}
use Rattle.serde_json.specs.Read.{read}
use Rattle.serde_json.specs.Written.{outline}
use Rattle.models.specs.Model.{reading}
use Rattle.doc_writer.specs.Document.{document}
use Rattle.doc_writer.proofs.AddedLemmas.{read-added, text-added}
use Rattle.doc_writer.proofs.document.document_text.Goals as goal

pub returns-clause-text : goal.returns-clause-text
returns-clause-text g c =
    let d = document (reading c.args.positions.now) c.args.resource in
    let is = c.in_ok-write_document.ensures.tokens ∙ ap (λ ts. ts ++ json_tokens (outline d)) c.new-out.ensures.tokens in
    c.text_of.ensures.text ∙ text-added d c.write_document.new.out.tokens is

pub returns-clause-reads : goal.returns-clause-reads
returns-clause-reads g c =
    let d = document (reading c.args.positions.now) c.args.resource in
    let a = c.in_ok-write_document.ensures in
    let is = a.tokens ∙ ap (λ ts. ts ++ json_tokens (outline d)) c.new-out.ensures.tokens in
    λ shallow. ap read c.text_of.ensures.text ∙ read-added d c.write_document.new.out.tokens is a.reads c.text_of.ensures.reads_back shallow
