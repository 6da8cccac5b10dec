use Rattle.std.proofs.Common.{◌∙◌, ap, slice_get}
use Rattle.models.specs.Model.{Model}
use Rattle.repository.proofs.LoadLemmas.{read-answers, resource-there}
use Rattle.repository.proofs.repository.Repository.load.Goals as goal

pub load_read-requires : goal.load_read-requires
load_read-requires g c =
    let uri = c.in-Some.ensures ∙ ap (λ (m : Model). slice_get m.values.uris c.args.resource.0) c.model-model.ensures in
    record {
      there = resource-there c.args.self.now c.args.resource _ uri;
      read = (c.args.bytes.now, read-answers c.args.self.now c.args.resource c.args.bytes.now _ _ c.read_doc-read.result (c.meta.ensures ∙ ap (λ (m : Model). m.metamodel) c.model-model.ensures) uri c.read_doc-read.ensures);
    }

pub returns : goal.returns
returns g c =
    let uri = c.in-Some.ensures ∙ ap (λ (m : Model). slice_get m.values.uris c.args.resource.0) c.model-model.ensures in
    c.load_read.ensures c.args.bytes.now (read-answers c.args.self.now c.args.resource c.args.bytes.now _ _ c.read_doc-read.result (c.meta.ensures ∙ ap (λ (m : Model). m.metamodel) c.model-model.ensures) uri c.read_doc-read.ensures)
