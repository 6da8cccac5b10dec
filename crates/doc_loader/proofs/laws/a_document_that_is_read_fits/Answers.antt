use Rattle.doc_loader.proofs.FitLemmas.{read-fits}
use Rattle.doc_loader.proofs.laws.a_document_that_is_read_fits.Goals as goal

pub returns : goal.returns
returns c = read-fits
