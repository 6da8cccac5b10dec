-- What is saved is read back: reading the document of a resource gives the resource, with new numbers for its objects and with proxies in
-- place of the objects of other resources.
use Rattle.std.specs.Prelude.{◌≡◌, ℕ, true, List, Ok}
use Rattle.std.specs.Str.{is_utf8}
use Rattle.mm_types.specs.declared.numbers.ResourceNo.{ResourceNo}
use Rattle.models.specs.Legal.{IsLegal}
use Rattle.models.specs.Model.{Model, reading}
use Rattle.models.specs.Steady.{HasSteadyTexts}
use Rattle.doc_writer.specs.Document.{document}
use Rattle.doc_writer.specs.Saved.{IsReadAs}
use Rattle.resource_docs.specs.Causes.{reads, reads_bytes}
use Rattle.resource_docs.specs.Texts.{base_of}
use Rattle.round_trip.specs.Copied.{copied_document}
use Rattle.round_trip.specs.Readable.{IsReadable}

-- in a legal model with normalised URIs: if a resource is readable, the JSON value of its document is read as the resource
abbrev pub ReadsBack : Model → Type 0
ReadsBack s =
    IsLegal s → HasSteadyTexts s → (k : ResourceNo) (uri : List ℕ) → IsReadable (reading s) k uri
    → reads s.metamodel (base_of uri) (document (reading s) k) ≡ Ok (copied_document (reading s) k)

-- in a legal model with normalised URIs: if a resource is readable, a text in UTF-8 that is read as the JSON value of its document
-- (`IsReadAs` of `doc_writer`) is read as the resource. The text that a save returns is a text of this kind
abbrev pub ReadsTextBack : Model → Type 0
ReadsTextBack s =
    IsLegal s → HasSteadyTexts s → (k : ResourceNo) (uri text : List ℕ) → IsReadable (reading s) k uri → IsReadAs (reading s) k text → is_utf8 text ≡ true
    → reads_bytes s.metamodel uri text ≡ Ok (copied_document (reading s) k)
