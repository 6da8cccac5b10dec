-- The edits of a document in which two persons know each other and themselves.
use Rattle.std.proofs.Common.{◌≡◌, ℕ, true, false, List, [], ◌∷◌, codes, refl}
use Rattle.std.specs.Prelude.{negsuc, pos, Some, None}
use Rattle.mm_types.specs.Resolved.{Metamodel}
use Rattle.mm_types.specs.declared.end.End.{End}
use Rattle.mm_types.specs.declared.feature.DataType.TheVariants.{EString}
use Rattle.mm_types.specs.declared.numbers.Node.TheVariants as node
use Rattle.mm_types.specs.declared.value.Value.{Value}
use Rattle.mm_types.specs.declared.value.Value.TheVariants as value
use Rattle.mm_values.specs.declared.value_edit.ValueEdit.TheVariants.{NewObject, PutList}
use Rattle.links.specs.declared.link.Link.{Link}
use Rattle.links.specs.declared.plan.Edit.{Edit}
use Rattle.links.specs.declared.plan.Edit.TheVariants.{Cut}
use Rattle.links.specs.Links.{values}
use Rattle.models.specs.Reading.{at_end}
use Rattle.resource_docs.specs.declared.doc.Content.{Content}
use Rattle.resource_docs.specs.declared.doc.Doc.{Doc}
use Rattle.mm_meta.proofs.Library.{attribute, class, fid, oid, reference, v}
use Rattle.doc_loader.specs.LoadEdits.{load_edits}
use Rattle.doc_loader.specs.Loading.{loaded_links, loaded_values, roots_loaded}
use Rattle.links.specs.Plans.{put_of}

-- 0 name, 1 knows, 2 known; 3 contents
abbrev people : Metamodel
people =
    record {
      enums = [];
      classes = class (codes "Person") false ([]) (0 ∷ 1 ∷ 2 ∷ []) (0 ∷ 1 ∷ 2 ∷ []) ∷ [];
      features =
          attribute (codes "name") 0 (pos 1) EString true true value.Null
          ∷ reference (codes "knows") 0 (pos 0) (negsuc 0) 0 false (Some 2)
          ∷ reference (codes "known") 0 (pos 0) (negsuc 0) 0 false (Some 1) ∷ [];
    }

abbrev content : ℕ → List Value → Content
content f vs = record { feature = fid f; values = vs }

abbrev ann : List Value
ann = value.Text (codes "Ann") ∷ []

-- the first one is known by the second one before she is known by herself
abbrev doc : Doc
doc =
    record {
      objects =
          record { class = record { 0 = 0 }; contents = content 0 ann ∷ content 1 (v 1 ∷ v 0 ∷ []) ∷ content 2 (v 1 ∷ v 0 ∷ []) ∷ [] }
          ∷ record { class = record { 0 = 0 }; contents = content 1 (v 0 ∷ v 1 ∷ []) ∷ content 2 (v 0 ∷ v 1 ∷ []) ∷ [] } ∷ [];
      roots = oid 0 ∷ oid 1 ∷ [];
    }

abbrev under : ℕ → ℕ → End
under o f = at_end (node.Object (oid o)) (fid f)

abbrev roots : End
roots = at_end (node.Resource (record { 0 = 0 })) (fid 3)

abbrev knows : ℕ → ℕ → ℕ → Edit
knows a i b = put_of (under a 1) i (oid b) (Some (fid 2)) None

its-values : loaded_values people 5 doc ≡ NewObject (record { 0 = 0 }) ∷ NewObject (record { 0 = 0 }) ∷ PutList (oid 5) (fid 0) ann true ∷ []
its-values = refl

-- all links are put in the order of the first ends, and then the links to the first person once more, in the order in which she is known
its-edits : load_edits people 5 (record { 0 = 0 }) doc ≡
    put_of roots 0 (oid 5) None (Some (fid 3)) ∷ put_of roots 1 (oid 6) None (Some (fid 3))
    ∷ knows 5 0 6 ∷ knows 5 1 5 ∷ knows 6 0 5 ∷ knows 6 1 6
    ∷ Cut (under 6 1) (value.Object (oid 5)) ∷ knows 6 0 5 ∷ Cut (under 5 1) (value.Object (oid 5)) ∷ knows 5 1 5 ∷ []
its-edits = refl

---------------------------------------------------------------- links

abbrev links : List Link
links = loaded_links people 5 (record { 0 = 0 }) doc

-- each end of the links has the values of the document
roots-loaded : values links roots ≡ roots_loaded 5 doc
roots-loaded = refl

whom-she-knows : values links (under 5 1) ≡ v 6 ∷ v 5 ∷ []
whom-she-knows = refl

who-knows-her : values links (under 5 2) ≡ v 6 ∷ v 5 ∷ []
who-knows-her = refl

whom-the-other-knows : values links (under 6 1) ≡ v 5 ∷ v 6 ∷ []
whom-the-other-knows = refl
