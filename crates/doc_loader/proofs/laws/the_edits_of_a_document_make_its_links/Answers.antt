use Rattle.doc_loader.proofs.SameLemmas.{read-makes}
use Rattle.doc_loader.proofs.laws.the_edits_of_a_document_make_its_links.Goals as goal

pub returns : goal.returns
returns c = read-makes
