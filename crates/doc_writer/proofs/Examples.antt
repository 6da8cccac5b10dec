-- The definitions, computed on a few resources: fragments, the objects that they find, and saved texts.
use Rattle.std.proofs.Common.{◌≡◌, ℕ, List, [], ◌∷◌, Some, None, codes, refl}
use Rattle.std.specs.Fmt.{digits}
use Rattle.serde_json.proofs.OnLiterals.{serde_json_on_literals}
use Rattle.mm_types.specs.declared.refused.Refused.TheVariants.{Dangling}
use Rattle.mm_types.specs.declared.value.Value.TheVariants as value
use Rattle.mm_meta.proofs.Library.{oid, v}
use Rattle.models.specs.Reading.{Reading}
use Rattle.fragment_paths.specs.Finding.{at}
use Rattle.fragment_paths.specs.Fragments.{address, fragment, reference}
use Rattle.doc_writer.specs.Document.{document, saved_text}
use Rattle.doc_writer.specs.Saved.{save_refusal}
use Rattle.doc_writer.proofs.LibraryModels.{end_of, model, o, resource, rid}

-- the definitions that an example unfolds to compute a text
unfoldable on_literals : Rattle.std.specs.Prelude.⊤
unfolding serde_json_on_literals digits document
on_literals = tt

abbrev uri_a : List ℕ
uri_a = codes "http://m.example/a"

---------------------------------------------------------------- a library is saved

abbrev saved_library : Reading
saved_library =
    model (uri_a ∷ []) (1 ∷ 2 ∷ 3 ∷ [])
    ((end_of (resource 0) 17, v 0 ∷ []) ∷ (end_of (o 0) 1, v 1 ∷ []) ∷ (end_of (o 1) 9, v 0 ∷ []) ∷ (end_of (o 0) 2, v 2 ∷ [])
    ∷ (end_of (o 2) 13, v 1 ∷ []) ∷ (end_of (o 1) 0, value.Text (codes "Emma") ∷ []) ∷ [])
    ((o 0, (Some (end_of (resource 0) 17), resource 0 ∷ [])) ∷ (o 1, (Some (end_of (o 0) 1), o 0 ∷ resource 0 ∷ []))
    ∷ (o 2, (Some (end_of (o 0) 2), o 0 ∷ resource 0 ∷ [])) ∷ [])

-- the default of pages is left out, and so is the book's library
its-text : saved_text saved_library (rid 0) ≡
    codes "{\"format\":2,\"roots\":[{\"class\":\"Library\",\"features\":{\"books\":[{\"class\":\"Book\",\"features\":{\"name\":\"Emma\"}}],\"members\":[{\"class\":\"Person\",\"features\":{\"likes\":[\"//@books.0\"]}}]}}]}"
unfolding on_literals
its-text = refl

can-be-saved : save_refusal saved_library (rid 0) ≡ None
can-be-saved = refl

alone : fragment saved_library (oid 1) ≡ Some (codes "//@books.0")
unfolding on_literals
alone = refl

-- with a second root the roots have indices
abbrev two_roots : Reading
two_roots =
    model (uri_a ∷ []) (1 ∷ 2 ∷ 3 ∷ 4 ∷ 2 ∷ [])
    ((end_of (resource 0) 17, v 0 ∷ v 3 ∷ []) ∷ (end_of (o 0) 1, v 1 ∷ []) ∷ (end_of (o 1) 9, v 0 ∷ []) ∷ (end_of (o 0) 2, v 2 ∷ [])
    ∷ (end_of (o 2) 13, v 1 ∷ []) ∷ (end_of (o 1) 0, value.Text (codes "Emma") ∷ []) ∷ (end_of (o 2) 14, v 4 ∷ []) ∷ [])
    ((o 0, (Some (end_of (resource 0) 17), resource 0 ∷ [])) ∷ (o 1, (Some (end_of (o 0) 1), o 0 ∷ resource 0 ∷ []))
    ∷ (o 2, (Some (end_of (o 0) 2), o 0 ∷ resource 0 ∷ [])) ∷ (o 3, (Some (end_of (resource 0) 17), resource 0 ∷ [])) ∷ [])

not-alone : fragment two_roots (oid 1) ≡ Some (codes "/0/@books.0")
unfolding on_literals
not-alone = refl

-- an empty segment still means root 0
found : at two_roots (codes "http://m.example/a#//@books.0") ≡ Some (oid 1)
found = refl

-- a URI with a different text is a different resource
not-found : at two_roots (codes "http://m.example/#/") ≡ None
not-found = refl

-- a step by a reference that does not contain finds nothing, nor does one without the index of a many-valued feature
not-by-likes : at two_roots (codes "http://m.example/a#/0/@members.0/@likes.0") ≡ None
not-by-likes = refl

not-without-index : at two_roots (codes "http://m.example/a#/0/@books") ≡ None
not-without-index = refl

-- an object in no resource has no fragment
in-none : fragment two_roots (oid 4) ≡ None
in-none = refl

-- a person of the resource has it as favourite
dangling : save_refusal two_roots (rid 0) ≡ Some Dangling
dangling = refl

---------------------------------------------------------------- two resources

abbrev across : Reading
across =
    model (uri_a ∷ codes "http://m.example/b" ∷ []) (1 ∷ 3 ∷ [])
    ((end_of (resource 0) 17, v 0 ∷ []) ∷ (end_of (resource 1) 17, v 1 ∷ []) ∷ (end_of (o 1) 12, v 0 ∷ []) ∷ (end_of (o 0) 3, v 1 ∷ []) ∷ [])
    ((o 0, (Some (end_of (resource 0) 17), resource 0 ∷ [])) ∷ (o 1, (Some (end_of (resource 1) 17), resource 1 ∷ [])) ∷ [])

-- each end of the pair is written in its own resource
may-be-across : save_refusal across (rid 0) ≡ None
may-be-across = refl

its-staff : saved_text across (rid 0) ≡ codes "{\"format\":2,\"roots\":[{\"class\":\"Library\",\"features\":{\"staff\":[\"http://m.example/b#/\"]}}]}"
unfolding on_literals
its-staff = refl

its-job : saved_text across (rid 1) ≡ codes "{\"format\":2,\"roots\":[{\"class\":\"Person\",\"features\":{\"job\":\"http://m.example/a#/\"}}]}"
unfolding on_literals
its-job = refl

its-address : address across (oid 1) ≡ Some (codes "http://m.example/b#/")
its-address = refl

within : reference across (rid 1) (oid 1) ≡ Some (codes "/")
within = refl

from-outside : reference across (rid 0) (oid 1) ≡ Some (codes "http://m.example/b#/")
from-outside = refl
