-- A resource as a document: a folder contains another one, which likes the first folder and the folder of another resource.
use Rattle.std.specs.Prelude.{ℕ, pos, negsuc, true, false, List, [], ◌∷◌, codes, find, map, option_map, slice_get, None, unwrap_or}
use Rattle.std.proofs.Common.{◌≡◌, refl}
use Rattle.std.specs.Fmt.{digits}
use Rattle.mm_types.specs.Resolved.{Metamodel}
use Rattle.mm_types.specs.Same.{same_end, same_node}
use Rattle.mm_types.specs.declared.feature.Feature.{Feature}
use Rattle.mm_types.specs.declared.feature.Kind.{Kind}
use Rattle.mm_types.specs.declared.feature.Kind.TheVariants.{Attribute, Reference}
use Rattle.mm_types.specs.declared.feature.DataType.TheVariants.{EString}
use Rattle.mm_types.specs.declared.end.End.{End}
use Rattle.mm_types.specs.declared.numbers.FeatureNo.{FeatureNo}
use Rattle.mm_types.specs.declared.numbers.Node.{Node}
use Rattle.mm_types.specs.declared.numbers.Node.TheVariants as node
use Rattle.mm_types.specs.declared.value.Value.{Value}
use Rattle.mm_types.specs.declared.value.Value.TheVariants as value
use Rattle.models.specs.Reading.{Reading}
use Rattle.resource_docs.specs.declared.doc.Content.{Content}
use Rattle.resource_docs.specs.declared.doc.DocObject.{DocObject}
use Rattle.round_trip.specs.Copied.{copied_document}

---------------------------------------------------------------- folders

abbrev pub fid : ℕ → FeatureNo
fid f = record { 0 = f }

abbrev pub feature : List ℕ → Kind → Feature
feature name kind = record { name = name; owner = record { 0 = 0 }; lower = pos 0; upper = negsuc 0; kind = kind }

-- 0 names, 1 subs, 2 likes; 3 contents
abbrev pub folders : Metamodel
folders =
    record {
      enums = [];
      classes = record { name = codes "Folder"; is_abstract = false; supers = []; own = map fid (0 ∷ 1 ∷ 2 ∷ []); all = map fid (0 ∷ 1 ∷ 2 ∷ []) } ∷ [];
      features =
          feature (codes "names") (Attribute EString true false value.Null)
          ∷ feature (codes "subs") (Reference (record { 0 = 0 }) true None)
          ∷ feature (codes "likes") (Reference (record { 0 = 0 }) false None) ∷ [];
    }

abbrev pub o : ℕ → Node
o n = node.Object (record { 0 = n })

abbrev pub resource : ℕ → Node
resource k = node.Resource (record { 0 = k })

abbrev pub end_of : Node → ℕ → End
end_of n f = record { node = n; feature = fid f }

abbrev pub v : ℕ → Value
v n = value.Object (record { 0 = n })

-- the values of ends, if object 2 likes these
abbrev pub values : List Value → List (End × List Value)
values likes =
    (end_of (resource 0) 3, v 1 ∷ []) ∷ (end_of (resource 1) 3, v 0 ∷ []) ∷ (end_of (o 1) 1, v 2 ∷ []) ∷ (end_of (o 1) 0, value.Text (codes "A") ∷ [])
    ∷ (end_of (o 2) 2, likes) ∷ []

abbrev pub ups : List (Node × (End × List Node))
ups =
    (o 0, (end_of (resource 1) 3, resource 1 ∷ [])) ∷ (o 1, (end_of (resource 0) 3, resource 0 ∷ [])) ∷ (o 2, (end_of (o 1) 1, o 1 ∷ resource 0 ∷ [])) ∷ []

abbrev pub two_resources : List Value → Reading
two_resources likes =
    record {
      metamodel = folders;
      next = 3;
      class = λ x. slice_get (map (λ c. record { 0 = c }) (0 ∷ 0 ∷ 0 ∷ [])) x.0;
      uris = codes "http://m.example/a" ∷ codes "http://m.example/b" ∷ [];
      values = λ e. unwrap_or (option_map (λ row. row.1) (find (λ row. same_end row.0 e) (values likes))) [];
      flag = λ e. false;
      holder = λ n. option_map (λ row. row.1.0) (find (λ row. same_node row.0 n) ups);
      above = λ n. unwrap_or (option_map (λ row. row.1.1) (find (λ row. same_node row.0 n) ups)) [];
    }

-- object 2 likes both others
abbrev pub whole : Reading
whole = two_resources (v 1 ∷ v 0 ∷ [])

---------------------------------------------------------------- as a document

abbrev content : ℕ → List Value → Content
content f vs = record { feature = fid f; values = vs }

abbrev folder : List Content → DocObject
folder contents = record { class = record { 0 = 0 }; contents = contents }

-- objects are named by their positions, the folder of the other resource by its address
as-document : copied_document whole (record { 0 = 0 }) ≡ record {
  objects =
      folder (content 0 (value.Text (codes "A") ∷ []) ∷ content 1 (v 1 ∷ []) ∷ [])
      ∷ folder (content 2 (v 0 ∷ value.Proxy (codes "http://m.example/b#/") ∷ []) ∷ []) ∷ [];
  roots = record { 0 = 0 } ∷ [];
}
unfolding copied_document digits
as-document = refl
