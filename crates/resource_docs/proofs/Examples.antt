-- A few documents as they are read, and others with the causes for which they can't be read.
use Rattle.std.proofs.Common.{◌≡◌, ℕ, List, [], ◌∷◌, map, codes, refl}
use Rattle.std.specs.Prelude.{Result, Ok, Err}
use Rattle.serde_json.proofs.OnLiterals.{serde_json_on_literals}
use Rattle.url.proofs.OnLiterals.{url_on_literals}
use Rattle.mm_types.specs.declared.document_fault.DocFault.{DocFault}
use Rattle.mm_types.specs.declared.document_fault.DocFault.TheVariants as cause
use Rattle.mm_types.specs.declared.value.Value.{Value}
use Rattle.mm_types.specs.declared.value.Value.TheVariants as value
use Rattle.resource_docs.specs.declared.doc.Doc.{Doc}
use Rattle.web_uris.specs.Joined.{joined_uri}
use Rattle.doc_parts.specs.Layout.{top, written_object}
use Rattle.doc_parts.specs.Parts.{parts}
use Rattle.resource_docs.specs.Read.{doc_read}
use Rattle.resource_docs.specs.declared.doc.Content.{Content}
use Rattle.resource_docs.specs.Causes.{cause_of, reads_bytes}
use Rattle.mm_meta.proofs.Library.{fid, library, oid, v}

-- the definitions that an example unfolds to compute the result of reading
unfoldable on_literals : Rattle.std.specs.Prelude.⊤
unfolding serde_json_on_literals url_on_literals joined_uri top written_object parts doc_read cause_of reads_bytes
on_literals = tt

abbrev pub uri_a : List ℕ
uri_a = codes "http://m.example/a"

abbrev pub content : ℕ → List Value → Content
content f vs = record { feature = fid f; values = vs }

---------------------------------------------------------------- documents are read

abbrev pub read_a : List ℕ → Result Doc DocFault
read_a = reads_bytes library uri_a

-- a library with staff, books and likes, written out
abbrev pub library_text : List ℕ
library_text =
    codes "{\"format\":1,\"roots\":[{\"class\":\"Library\",\"features\":{\"books\":[{\"class\":\"Book\",\"features\":{\"name\":\"Emma\"}}],\"members\":[{\"class\":\"Person\",\"features\":{\"job\":\"/\",\"likes\":[\"//@books.0\"]}}],\"staff\":[\"//@members.0\"]}}]}"

abbrev pub library_doc : Doc
library_doc =
    record {
      objects =
          record { class = record { 0 = 1 }; contents = content 1 (v 1 ∷ []) ∷ content 2 (v 2 ∷ []) ∷ content 3 (v 2 ∷ []) ∷ [] }
          ∷ record { class = record { 0 = 2 }; contents = content 0 (value.Text (codes "Emma") ∷ []) ∷ [] }
          ∷ record { class = record { 0 = 3 }; contents = content 12 (v 0 ∷ []) ∷ content 13 (v 1 ∷ []) ∷ [] } ∷ [];
      roots = oid 0 ∷ [];
    }

a-library : read_a library_text ≡ Ok library_doc
unfolding on_literals
a-library = refl

cut-short : read_a (codes "{\"format\":1,\"roots\":[]") ≡ Err cause.Syntax
unfolding on_literals
cut-short = refl

one-sided : read_a (codes "{\"format\":1,\"roots\":[{\"class\":\"Library\",\"features\":{\"staff\":[\"/1\"]}},{\"class\":\"Person\",\"features\":{}}]}") ≡ Err cause.OneSided
unfolding on_literals
one-sided = refl

-- both ends of the pair name each other
abbrev pub staff_doc : Doc
staff_doc =
    record {
      objects =
          record { class = record { 0 = 1 }; contents = content 3 (v 1 ∷ []) ∷ [] }
          ∷ record { class = record { 0 = 3 }; contents = content 12 (v 0 ∷ []) ∷ [] } ∷ [];
      roots = oid 0 ∷ oid 1 ∷ [];
    }

both-sided : read_a (codes "{\"format\":1,\"roots\":[{\"class\":\"Library\",\"features\":{\"staff\":[\"/1\"]}},{\"class\":\"Person\",\"features\":{\"job\":\"/0\"}}]}") ≡ Ok staff_doc
unfolding on_literals
both-sided = refl

-- references into another resource are proxies, by the joined URI
abbrev pub likes_doc : Doc
likes_doc =
    record {
      objects =
          record { class = record { 0 = 3 }; contents = content 13 (value.Proxy (codes "http://m.example/b#/") ∷ value.Proxy (codes "http://m.example/b#/0") ∷ []) ∷ [] } ∷ [];
      roots = oid 0 ∷ [];
    }

with-proxies : read_a (codes "{\"format\":1,\"roots\":[{\"class\":\"Person\",\"features\":{\"likes\":[\"b#/\",\"b#/0\"]}}]}") ≡ Ok likes_doc
unfolding on_literals
with-proxies = refl

-- a document of format 2 has a proxy in a reference with an opposite
abbrev pub job_doc : Doc
job_doc =
    record {
      objects = record { class = record { 0 = 3 }; contents = content 12 (value.Proxy (codes "http://m.example/b#/") ∷ []) ∷ [] } ∷ [];
      roots = oid 0 ∷ [];
    }

across : read_a (codes "{\"format\":2,\"roots\":[{\"class\":\"Person\",\"features\":{\"job\":\"b#/\"}}]}") ≡ Ok job_doc
unfolding on_literals
across = refl

-- one example of each further cause
abbrev pub faults : List (List ℕ)
faults =
    codes "{\"format\":1,\"roots\":[{\"class\":\"Book\"}]}"
    ∷ codes "{\"format\":3,\"roots\":[{\"class\":\"Nope\",\"features\":{}}]}"
    ∷ codes "{\"format\":1,\"roots\":[{\"class\":\"Named\",\"features\":{\"x\":1}}]}"
    ∷ codes "{\"format\":1,\"roots\":[{\"class\":\"Book\",\"features\":{\"library\":7}}]}"
    ∷ codes "{\"format\":1,\"roots\":[{\"class\":\"Library\",\"features\":{\"books\":{}}}]}"
    ∷ codes "{\"format\":1,\"roots\":[{\"class\":\"Person\",\"features\":{\"likes\":[\"/9\"]}}]}"
    ∷ codes "{\"format\":1,\"roots\":[{\"class\":\"Book\",\"features\":{\"tags\":[\"a\",\"a\"]}}]}"
    ∷ codes "{\"format\":1,\"roots\":[{\"class\":\"Book\",\"features\":{\"scores\":[1,1,1,1]}}]}"
    ∷ codes "{\"format\":1,\"roots\":[{\"class\":\"Person\",\"features\":{\"job\":\"b#/\"}}]}"
    ∷ []

each-cause : map {B = Result Doc DocFault} read_a faults ≡
    Err cause.Layout ∷ Err cause.Format ∷ Err cause.Class ∷ Err cause.Feature ∷ Err cause.Value ∷ Err cause.Reference
    ∷ Err cause.Duplicate ∷ Err cause.Bound ∷ Err cause.Cross ∷ []
unfolding on_literals
each-cause = refl
