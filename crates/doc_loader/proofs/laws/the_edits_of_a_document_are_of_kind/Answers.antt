use Rattle.doc_loader.proofs.KindLemmas.{read-kind}
use Rattle.doc_loader.proofs.laws.the_edits_of_a_document_are_of_kind.Goals as goal

pub returns : goal.returns
returns c = read-kind
