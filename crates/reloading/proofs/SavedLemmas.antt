-- A saved text is read as a document, so its load makes images of the saved objects.
use Rattle.std.proofs.Common.{ℕ, List}
use Rattle.mm_types.specs.declared.numbers.ResourceNo.{ResourceNo}
use Rattle.mm_values.specs.Values.{ValuesState}
use Rattle.links.specs.Links.{Links}
use Rattle.models.specs.Legal.{IsLegal}
use Rattle.models.specs.Model.{Model, reading}
use Rattle.models.specs.Steady.{HasSteadyTexts}
use Rattle.doc_writer.specs.Document.{document}
use Rattle.round_trip.specs.Copied.{copied_document}
use Rattle.round_trip.specs.Readable.{IsReadable}
use Rattle.round_trip.proofs.BackLemmas.{value-back}
use Rattle.handshake.specs.Changes.{IsDocument}
use Rattle.handshake.proofs.LoadedLemmas.{loads-ends}
use Rattle.reloading.specs.Laws.{LoadsSaved}
use Rattle.reloading.proofs.ImageLemmas.{load-images}

pub saved-document : (s : Model) → IsLegal s → HasSteadyTexts s → (k : ResourceNo) (uri : List ℕ) → IsReadable (reading s) k uri → IsDocument s.metamodel (copied_document (reading s) k)
saved-document s legal steady k uri fine = record { uri = uri; read = record { source = document (reading s) k; gives = value-back s legal steady k uri fine } }

-- a load of the text is the load of this document
pub loads-saved : (s : Model) (w : ValuesState) (b : Links) → LoadsSaved s w b
loads-saved s w b legal steady k j uri fine other early late =
    let read = saved-document s legal steady k uri fine in
    load-images s w b legal other k j early late read (loads-ends _ j (copied_document (reading s) k) other early late read)
