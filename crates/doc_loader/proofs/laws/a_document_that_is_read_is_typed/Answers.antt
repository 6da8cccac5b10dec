use Rattle.doc_loader.proofs.TypedLemmas.{read-typed}
use Rattle.doc_loader.proofs.laws.a_document_that_is_read_is_typed.Goals as goal

pub returns : goal.returns
returns c = read-typed
