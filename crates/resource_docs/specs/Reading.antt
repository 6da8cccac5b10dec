-- What is read of a document so far: values, contents and objects, and the faults that were noted on the way.
use Rattle.std.specs.Prelude.{◌≡◌, ◌++◌, ◌||◌, ℕ, Bool, false, not, List, [], ◌∷◌, filter, filter_map, is_some, map, Option, Some}
use Rattle.std.specs.List.{All, enumerate_from, list_any}
use Rattle.std.specs.Option.{option_map_or}
use Rattle.serde_json.specs.Data.{Data}
use Rattle.mm_types.specs.Conditions.{◌else_by◌, ◌where_so◌}
use Rattle.mm_types.specs.Resolved.{Metamodel}
use Rattle.mm_types.specs.Same.{is_nil}
use Rattle.mm_types.specs.declared.document_fault.DocFault.{DocFault}
use Rattle.mm_types.specs.declared.document_fault.DocFault.TheVariants as cause
use Rattle.mm_types.specs.declared.feature.Kind.{Kind}
use Rattle.mm_types.specs.declared.numbers.FeatureNo.{FeatureNo}
use Rattle.mm_types.specs.declared.value.Value.{Value}
use Rattle.web_uris.specs.declared.path.Path.{Path}
use Rattle.doc_parts.specs.Contents.{is_content}
use Rattle.doc_parts.specs.Faults.{has_no_class, has_other_key, is_long, is_misshapen, of_entry, of_written}
use Rattle.doc_parts.specs.FoundParts.{Knows}
use Rattle.doc_parts.specs.Layout.{Top}
use Rattle.doc_parts.specs.Parts.{Entry, Part, number_of}
use Rattle.doc_parts.specs.declared.found.FoundParts.{FoundParts}
use Rattle.resource_docs.specs.Causes.{has_other_format, sense_cause}
use Rattle.resource_docs.specs.Read.{contents_read, object_read, values_read}
use Rattle.resource_docs.specs.Texts.{Base}
use Rattle.resource_docs.specs.Values.{IsProxyValue, has_lost, is_lost, value_of}
use Rattle.resource_docs.specs.declared.doc.Content.{Content}
use Rattle.resource_docs.specs.declared.doc.Doc.{Doc}
use Rattle.resource_docs.specs.declared.doc.DocObject.{DocObject}
use Rattle.resource_docs.specs.declared.objects.ReadContents.{ReadContents}
use Rattle.resource_docs.specs.declared.objects.ReadObjects.{ReadObjects}
use Rattle.resource_docs.specs.declared.values.ReadValues.{ReadValues}

-- n is the number of a part. Take any list of parts that the found parts f may represent, and any path to which `number_of` gives the
-- number n in that list. Then `says` is true of the list and the path.
abbrev pub Numbered : Metamodel → FoundParts → ℕ → (List Part → Path → Type 0) → Type 0
Numbered m f n says = (ps : List Part) (path : Path) → Knows m f ps → number_of ps path ≡ Some n → says ps path

---------------------------------------------------------------- values under a feature

abbrev pub new_values : List Value → Bool → ReadValues
new_values vs lost = record { values = vs; is_lost = lost }

-- what is read from ds, the JSON values under a feature that were looked at so far: the values, and whether one of ds is a reference that
-- leads nowhere or to an object of a wrong class
abbrev pub values_so_far : Metamodel → Base → List Part → Path → FeatureNo → Kind → List Data → ReadValues
values_so_far m b ps path f k ds =
    record { values = filter_map (value_of m b ps path f k) (enumerate_from 0 ds); is_lost = list_any (is_lost m b ps k) ds }

-- what is read from the entry e: from all JSON values under one feature
abbrev pub entry_read : Metamodel → Base → List Part → Path → Entry → ReadValues
entry_read m b ps path e = record { values = values_read m b ps path e; is_lost = has_lost m b ps e }

---------------------------------------------------------------- objects

abbrev pub contents_so_far : Metamodel → Base → List Part → Path → List Entry → ReadContents
contents_so_far m b ps path es =
    record {
      contents = contents_read m b ps path es;
      is_lost = list_any (has_lost m b ps) es;
      has_other = list_any (λ e. not (is_content m e)) es;
      has_long = list_any (is_long m) es;
    }

-- the contents with what was read under one more feature: its values, if there are any, and whether a reference leads nowhere or to an
-- object of a wrong class
abbrev pub with_values : ReadContents → FeatureNo → ReadValues → ReadContents
with_values r f v =
    record {
      contents = r.contents ++ filter (λ c. not (is_nil c.values)) (record { feature = f; values = v.values } ∷ []);
      is_lost = r.is_lost || v.is_lost;
      has_other = r.has_other;
      has_long = r.has_long;
    }

-- the contents with the flags of one more content: whether that content is of its feature's type, and whether it is too long
abbrev pub with_content_flags : ReadContents → Bool → Bool → ReadContents
with_content_flags r is_of_type long =
    record { contents = r.contents; is_lost = r.is_lost; has_other = r.has_other || not is_of_type; has_long = r.has_long || long }

-- the contents with the flags of one more entry: whether the entry is a content of its feature's type, and whether it is too long
abbrev pub with_flaws : Metamodel → ReadContents → Entry → ReadContents
with_flaws m r e = with_content_flags r (is_content m e) (is_long m e)

abbrev pub objects_so_far : Metamodel → Base → List Part → List Part → ReadObjects
objects_so_far m b ps qs =
    record {
      objects = map (object_read m b ps) qs;
      is_lost = of_entry m (has_lost m b ps) qs;
      has_other = of_entry m (λ e. not (is_content m e)) qs;
      has_long = of_entry m (is_long m) qs;
    }

---------------------------------------------------------------- causes

-- the first cause that applies, of those that are found before values are read. They depend on the shape of the parts, on the format, and
-- on the names of the parts' classes
abbrev pub early_cause : Metamodel → Option Top → List Part → Option DocFault
early_cause m t ps =
    cause.Layout where_so (not (is_some t) || list_any is_misshapen ps) else_by
    cause.Format where_so option_map_or has_other_format t false else_by
    cause.Class where_so of_written (has_no_class m) ps

-- the first cause that applies, of those that are known only after the values are read
abbrev pub late_cause : Metamodel → Base → Data → List Part → Doc → Option DocFault
late_cause m b d ps doc = cause.Value where_so of_entry m (λ e. not (is_content m e)) ps else_by sense_cause m b d ps doc

-- the cause `Feature` if an object of a known class has a key that names no feature of the class, or names a container reference; else the
-- first cause that applies, of those that are known only after the values are read
abbrev pub named_cause : Metamodel → Base → Data → List Part → Doc → Option DocFault
named_cause m b d ps doc = cause.Feature where_so of_written (has_other_key m) ps else_by late_cause m b d ps doc

---------------------------------------------------------------- proxies

-- the text of each proxy of a content is a normalised URI, `#` and a fragment
abbrev pub IsProxyContent : Content → Type 0
IsProxyContent c = All IsProxyValue c.values

abbrev pub IsProxyObject : DocObject → Type 0
IsProxyObject o = All IsProxyContent o.contents
