-- Why a document can't be read: the first cause that applies to the document or to one of the parts that are looked at.
use Rattle.std.specs.Prelude.{◌≡◌, ℕ, ◌&&◌, ◌||◌, pos, Bool, true, false, not, List, [], ◌∷◌, length, is_some, Option, Some, None, Result, Ok, Err, if◌then◌else◌}
use Rattle.std.specs.List.{enumerate_from, list_any}
use Rattle.std.specs.Option.{option_map_or}
use Rattle.std.specs.Ordering.{int_eq}
use Rattle.std.specs.Str.{is_utf8}
use Rattle.serde_json.specs.Data.{Data}
use Rattle.serde_json.specs.Read.{read}
use Rattle.mm_types.specs.Conditions.{◌else_by◌, ◌where_so◌}
use Rattle.mm_types.specs.Resolved.{Metamodel}
use Rattle.mm_types.specs.Same.{same_value}
use Rattle.mm_types.specs.Shapes.{contents_shape, is_bounded, is_containment, shape}
use Rattle.mm_types.specs.declared.document_fault.DocFault.{DocFault}
use Rattle.mm_types.specs.declared.document_fault.DocFault.TheVariants as cause
use Rattle.mm_types.specs.declared.limits.TheConstants.{DOCUMENT_FORMAT, FIRST_DOCUMENT_FORMAT}
use Rattle.mm_types.specs.declared.numbers.FeatureNo.{FeatureNo}
use Rattle.mm_types.specs.declared.numbers.ObjectNo.{ObjectNo}
use Rattle.mm_types.specs.declared.refused.Refused.{Refused}
use Rattle.mm_types.specs.declared.refused.Refused.TheVariants.{Document, Memory}
use Rattle.mm_types.specs.declared.value.Value.{Value}
use Rattle.mm_types.specs.declared.value.Value.TheVariants as value
use Rattle.web_uris.specs.Addresses.{IsSteadyProxy}
use Rattle.doc_parts.specs.Contents.{is_content}
use Rattle.doc_parts.specs.Faults.{has_no_class, has_other_key, is_deep, is_long, is_misshapen, of_entry, of_written}
use Rattle.doc_parts.specs.Layout.{Top, top}
use Rattle.doc_parts.specs.Parts.{Part, parts, root_parts}
use Rattle.resource_docs.specs.Read.{OfDocProxies, doc_read, values_in}
use Rattle.resource_docs.specs.Texts.{Base, base_of}
use Rattle.resource_docs.specs.Values.{has_lost}
use Rattle.resource_docs.specs.declared.doc.Content.{Content}
use Rattle.resource_docs.specs.declared.doc.Doc.{Doc}

---------------------------------------------------------------- cause 3: the format

abbrev pub has_first_format : Top → Bool
has_first_format t = int_eq t.format (pos FIRST_DOCUMENT_FORMAT)

abbrev pub has_other_format : Top → Bool
has_other_format t = not (has_first_format t || int_eq t.format (pos DOCUMENT_FORMAT))

---------------------------------------------------------------- cause 9: roots

abbrev pub has_many_roots : Metamodel → Data → Bool
has_many_roots m d = not (is_bounded (contents_shape m) (length (root_parts d)))

---------------------------------------------------------------- causes 8, 10 and 11: ends

abbrev pub repeats_value : List Value → Bool
repeats_value [] = false
repeats_value (v ∷ vs) = list_any (same_value v) vs || repeats_value vs

abbrev pub has_repeat : Metamodel → Content → Bool
has_repeat m c = (shape m c.feature).is_unique && repeats_value c.values

-- whether f, a feature of the object o, has an opposite, and the given value of f is an object that does not name o under this opposite
abbrev pub is_unanswered : Metamodel → Doc → ObjectNo → FeatureNo → Value → Bool
is_unanswered m d o f (value.Object b) =
    option_map_or (λ g. not (list_any (same_value (value.Object o)) (values_in d b g))) (shape m f).opposite false
is_unanswered m d o f _ = false

abbrev pub is_one_sided : Metamodel → Doc → ObjectNo → Content → Bool
is_one_sided m d o c = not (is_containment m c.feature) && list_any (is_unanswered m d o c.feature) c.values

abbrev pub is_proxy : Value → Bool
is_proxy (value.Proxy t) = true
is_proxy _ = false

-- whether the feature of a content is a reference with an opposite, and one of its values is a proxy, which leads to a different resource.
-- A document of the first format that has a content of this kind is refused
abbrev pub has_cross : Metamodel → Content → Bool
has_cross m c = is_some (shape m c.feature).opposite && list_any is_proxy c.values

---------------------------------------------------------------- the causes in order

-- whether a document has an object o with a content c such that `holds o c` is true
abbrev pub of_content : (ObjectNo → Content → Bool) → Doc → Bool
of_content holds d = list_any (λ x. list_any (holds (record { 0 = x.0 })) x.1.contents) (enumerate_from 0 d.objects)

-- the first cause that applies, of those that depend on the shape of the parts, on the format, on the names of classes and features, and on
-- the types of values
abbrev pub shape_cause : Metamodel → Option Top → List Part → Option DocFault
shape_cause m t ps =
    cause.Layout where_so (not (is_some t) || list_any is_misshapen ps) else_by
    cause.Format where_so option_map_or has_other_format t false else_by
    cause.Class where_so of_written (has_no_class m) ps else_by
    cause.Feature where_so of_written (has_other_key m) ps else_by
    cause.Value where_so of_entry m (λ e. not (is_content m e)) ps

-- the first cause that applies, of those that depend on the targets of references, on repeated values, on the number of values and of
-- roots, on opposites, and on the level of a part
abbrev pub sense_cause : Metamodel → Base → Data → List Part → Doc → Option DocFault
sense_cause m b d ps doc =
    cause.Reference where_so of_entry m (has_lost m b ps) ps else_by
    cause.Duplicate where_so of_content (λ o c. has_repeat m c) doc else_by
    cause.Bound where_so (has_many_roots m d || of_entry m (is_long m) ps) else_by
    cause.OneSided where_so of_content (is_one_sided m doc) doc else_by
    cause.Cross where_so (option_map_or has_first_format (top d) false && of_content (λ o c. has_cross m c) doc) else_by
    cause.Depth where_so list_any is_deep ps

unfoldable pub cause_of : Metamodel → Base → Data → Option DocFault
cause_of m b d = let ps = parts m d in shape_cause m (top d) ps else_by sense_cause m b d ps (doc_read m b d)

abbrev pub unless_faulty : Option DocFault → Doc → Result Doc DocFault
unless_faulty None doc = Ok doc
unless_faulty (Some f) doc = Err f

-- the document that a JSON value is read as, or the first cause for which it is refused; b has the URI of the document's resource
abbrev pub reads : Metamodel → Base → Data → Result Doc DocFault
reads m b d = unless_faulty (cause_of m b d) (doc_read m b d)

-- the JSON value of bytes. None if the bytes are no JSON in UTF-8, if the JSON has more than 127 levels, or if a number is too large for a
-- float; then `Syntax` is the cause
abbrev pub parsed_json : List ℕ → Option Data
parsed_json bytes = if is_utf8 bytes then read bytes else None

abbrev pub reads_if : Metamodel → Base → Option Data → Result Doc DocFault
reads_if m b None = Err cause.Syntax
reads_if m b (Some d) = reads m b d

unfoldable pub reads_bytes : Metamodel → List ℕ → List ℕ → Result Doc DocFault
reads_bytes m uri bytes = reads_if m (base_of uri) (parsed_json bytes)

-- the text of each proxy of a document is a normalised URI, `#` and a fragment
abbrev pub HasSteadyProxies : Doc → Type 0
HasSteadyProxies = OfDocProxies IsSteadyProxy

-- there is a JSON value that the metamodel m reads as the document `doc`, in the resource with the URI `uri`
pub record IsRead (m : Metamodel) (uri : List ℕ) (doc : Doc) : Type 0 where
  pub source : Data
  pub gives : reads m (base_of uri) source ≡ Ok doc

-- the result is `wanted`, which is a document or a cause; or the result is `Memory`, whatever is wanted. If the result is a document, its
-- proxies have normalised URIs
abbrev pub Answers : Result Doc Refused → Result Doc DocFault → Type 0
Answers (Ok doc) wanted = (wanted ≡ Ok doc) × HasSteadyProxies doc
Answers (Err (Document f)) wanted = wanted ≡ Err f
Answers (Err Memory) wanted = Unit {0}
Answers (Err _) wanted = ⊥

-- `result` is what reading bytes as a document of the resource with the URI `uri` gives: the document, the first cause for which it is
-- refused, or `Memory`
abbrev pub Reads : Result Doc Refused → Metamodel → List ℕ → List ℕ → Type 0
Reads result m uri bytes = Answers result (reads_bytes m uri bytes)
