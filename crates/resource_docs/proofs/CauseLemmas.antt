-- The results of reading bytes, a value and its parts, by cases.
use Rattle.std.proofs.Common.{◌≡◌, ◌∙◌, ◌≤◌, Bool, true, false, List, [], Option, Some, None, ℕ, ℤ, IsUtf8, ap, arith, cond, length, map, refl, subst, sym}
use Rattle.std.specs.Prelude.{◌||◌, Ok, Err, flat_map, filter_map, is_some, not}
use Rattle.std.specs.List.{enumerate_from, list_any}
use Rattle.std.specs.Option.{option_map_or, option_or}
use Rattle.std.specs.Str.{is_utf8}
use Rattle.std.proofs.lemmas.List.{length-map}
use Rattle.std.proofs.lemmas.List.FromFn.{length-enumerate_from}
use Rattle.std.proofs.lemmas.Str.{IsUtf8-from_is_utf8, is_utf8-from_IsUtf8}
use Rattle.serde_json.specs.Data.{Data, depth}
use Rattle.serde_json.specs.Read.{read}
use Rattle.borrowed_json.specs.View.{items_view, view}
use Rattle.borrowed_json.specs.declared.value.Json as json
use Rattle.mm_types.specs.Conditions.{◌where_so◌}
use Rattle.mm_types.specs.Resolved.{Metamodel}
use Rattle.mm_types.specs.declared.document_fault.DocFault.{DocFault}
use Rattle.mm_types.specs.declared.document_fault.DocFault.TheVariants as cause
use Rattle.mm_types.specs.declared.numbers.ObjectNo.{ObjectNo}
use Rattle.web_uris.specs.Paths.{new_path}
use Rattle.doc_parts.specs.Contents.{is_content}
use Rattle.doc_parts.specs.Faults.{has_no_class, has_other_key, is_misshapen, of_entry, of_written}
use Rattle.doc_parts.specs.FoundParts.{Knows, roots_from}
use Rattle.doc_parts.specs.Layout.{Top, new_top, top}
use Rattle.doc_parts.specs.Parts.{Part, list_of, parts, parts_from, root_parts}
use Rattle.doc_parts.specs.declared.found.FoundParts.{FoundParts}
use Rattle.doc_parts.proofs.DataLemmas.{list_of-items_of}
use Rattle.doc_parts.proofs.DepthLemmas.{parts_within}
use Rattle.resource_docs.specs.Causes.{cause_of, has_other_format, reads, reads_bytes, reads_if, sense_cause, shape_cause, unless_faulty}
use Rattle.resource_docs.specs.Read.{doc_read, object_read, root_number}
use Rattle.resource_docs.specs.Reading.{early_cause, late_cause, named_cause, objects_so_far}
use Rattle.resource_docs.specs.Texts.{Base, base_of}
use Rattle.resource_docs.specs.declared.doc.Doc.{Doc}
use Rattle.resource_docs.specs.declared.doc.DocObject.{DocObject}
use Rattle.resource_docs.specs.declared.objects.ReadObjects.{ReadObjects}

---------------------------------------------------------------- the document that is read

new_doc : List DocObject → List ObjectNo → Doc
new_doc os ns = record { objects = os; roots = ns }

pub doc_is : (m : Metamodel) (b : Base) (d : Data) (rs : List Part) (r : ReadObjects) (ns : List ObjectNo) → r ≡ objects_so_far m b (parts m d) (parts m d)
    → ns ≡ filter_map (λ p. root_number (parts m d) p.path) rs → root_parts d ≡ rs → record { objects = r.objects; roots = ns } ≡ doc_read m b d
unfolding new_doc doc_read
doc_is m b d rs r ns objects numbers roots =
    ap (λ x. new_doc x.objects ns) objects
    ∙ ap (new_doc (map (object_read m b (parts m d)) (parts m d))) (numbers ∙ ap (filter_map (λ p. root_number (parts m d) p.path)) (sym roots))

pub no_fault : (doc wanted : Doc) (says : Doc → Option DocFault) → doc ≡ wanted → None ≡ says doc → unless_faulty (says wanted) wanted ≡ Ok doc
no_fault doc wanted says is none = ap (λ x. unless_faulty (says x) x) (sym is) ∙ ap (λ o. unless_faulty o doc) (sym none)

pub one_fault : (doc wanted : Doc) (says : Doc → Option DocFault) (f : DocFault) → doc ≡ wanted → Some f ≡ says doc → unless_faulty (says wanted) wanted ≡ Err f
one_fault doc wanted says f is some = ap (λ o. unless_faulty o wanted) (ap says (sym is) ∙ sym some)

---------------------------------------------------------------- shapes

all_causes : (l f c e v s : Option DocFault) → option_or (option_or l (option_or f (option_or c (option_or e v)))) s ≡ option_or (option_or l (option_or f c)) (option_or e (option_or v s))
all_causes (Some x) f c e v s = refl
all_causes None (Some x) c e v s = refl
all_causes None None (Some x) e v s = refl
all_causes None None None (Some x) v s = refl
all_causes None None None None v s = refl

-- the causes that are found before values are read, and the causes that are found after
in_two : (m : Metamodel) (b : Base) (d : Data) (t : Option Top) (doc : Doc) → option_or (shape_cause m t (parts m d)) (sense_cause m b d (parts m d) doc) ≡ option_or (early_cause m t (parts m d)) (named_cause m b d (parts m d) doc)
in_two m b d t doc =
    let ps = parts m d in
    all_causes (cause.Layout where_so (not (is_some t) || list_any is_misshapen ps)) (cause.Format where_so option_map_or has_other_format t false) (cause.Class where_so of_written (has_no_class m) ps)
    (cause.Feature where_so of_written (has_other_key m) ps) (cause.Value where_so of_entry m (λ e. not (is_content m e)) ps) (sense_cause m b d ps doc)

pub shape_faulty : (m : Metamodel) (b : Base) (d : Data) (t : Top) (f : DocFault) → top d ≡ Some t → Some f ≡ early_cause m (Some t) (parts m d) → reads m b d ≡ Err f
unfolding cause_of
shape_faulty m b d t f here some =
    ap (λ o. unless_faulty o (doc_read m b d)) (in_two m b d (top d) (doc_read m b d))
    ∙ ap (λ o. unless_faulty (option_or o (named_cause m b d (parts m d) (doc_read m b d))) (doc_read m b d)) (ap (λ x. early_cause m x (parts m d)) here ∙ sym some)

pub shape_right : (m : Metamodel) (b : Base) (d : Data) (t : Top) → top d ≡ Some t → None ≡ early_cause m (Some t) (parts m d)
    → unless_faulty (named_cause m b d (parts m d) (doc_read m b d)) (doc_read m b d) ≡ reads m b d
unfolding cause_of
shape_right m b d t here none =
    sym (ap (λ o. unless_faulty o (doc_read m b d)) (in_two m b d (top d) (doc_read m b d))
    ∙ ap (λ o. unless_faulty (option_or o (named_cause m b d (parts m d) (doc_read m b d))) (doc_read m b d)) (ap (λ x. early_cause m x (parts m d)) here ∙ sym none))

-- the cause that is found by the names of features, and the causes that are found after
abbrev by_names : Metamodel → Base → Data → Bool → Option DocFault
by_names m b d other = option_or (cause.Feature where_so other) (late_cause m b d (parts m d) (doc_read m b d))

pub name_faulty : (m : Metamodel) (b : Base) (d : Data) → of_written (has_other_key m) (parts m d) ≡ true → unless_faulty (named_cause m b d (parts m d) (doc_read m b d)) (doc_read m b d) ≡ Err cause.Feature
name_faulty m b d other = ap (λ o. unless_faulty (by_names m b d o) (doc_read m b d)) other

pub names_right : (m : Metamodel) (b : Base) (d : Data) → of_written (has_other_key m) (parts m d) ≡ false
    → unless_faulty (late_cause m b d (parts m d) (doc_read m b d)) (doc_read m b d) ≡ unless_faulty (named_cause m b d (parts m d) (doc_read m b d)) (doc_read m b d)
names_right m b d right = sym (ap (λ o. unless_faulty (by_names m b d o) (doc_read m b d)) right)

-- the cause that is found after values are read: `Value` if a value is not of its feature's type, else a later one
abbrev by_values : Metamodel → Base → Data → Bool → Option DocFault
by_values m b d other = option_or (cause.Value where_so other) (sense_cause m b d (parts m d) (doc_read m b d))

pub value_faulty : (m : Metamodel) (b : Base) (d : Data) (r : ReadObjects) → r ≡ objects_so_far m b (parts m d) (parts m d) → r.has_other ≡ true
    → unless_faulty (late_cause m b d (parts m d) (doc_read m b d)) (doc_read m b d) ≡ Err cause.Value
value_faulty m b d r is other = ap (λ o. unless_faulty (by_values m b d o) (doc_read m b d)) (sym (ap (λ x. x.has_other) is) ∙ other)

pub values_right : (m : Metamodel) (b : Base) (d : Data) (r : ReadObjects) → r ≡ objects_so_far m b (parts m d) (parts m d) → r.has_other ≡ false
    → unless_faulty (sense_cause m b d (parts m d) (doc_read m b d)) (doc_read m b d) ≡ unless_faulty (late_cause m b d (parts m d) (doc_read m b d)) (doc_read m b d)
values_right m b d r is right = sym (ap (λ o. unless_faulty (by_values m b d o) (doc_read m b d)) (sym (ap (λ x. x.has_other) is) ∙ right))

pub no_top : (m : Metamodel) (b : Base) (d : Data) → top d ≡ None → reads m b d ≡ Err cause.Layout
unfolding cause_of
no_top m b d none = ap (λ x. unless_faulty (option_or (shape_cause m x (parts m d)) (sense_cause m b d (parts m d) (doc_read m b d))) (doc_read m b d)) none

root_of : ℕ × Data → Part
root_of v = record { path = new_path v.0 []; json = v.1 }

pub roots_are : (d : Data) (format : ℤ) (vs : List json.Json) → top d ≡ Some (new_top format (items_view vs)) → root_parts d ≡ roots_from (map view vs)
roots_are d format vs here =
    ap (λ o. option_map_or (λ t. roots_from (list_of t.roots)) o []) here ∙ ap roots_from (list_of-items_of (map view vs))

pub count_roots : (vs : List json.Json) (rs : List Part) → rs ≡ roots_from (map view vs) → length vs ≡ length rs
unfolding root_of
count_roots vs rs are =
    let a = ap length are in
    let b = length-map (enumerate_from 0 (map view vs)) root_of in
    let c = length-enumerate_from 0 (map view vs) in
    let d = length-map vs view in
    omega (arith, a, b, c, d)

-- enough levels find the parts of a document
pub found_parts : (m : Metamodel) (f : FoundParts) (n : ℕ) (d : Data) (format : ℤ) (vs : List json.Json) → depth d ≤ n → top d ≡ Some (new_top format (items_view vs))
    → Knows m f (flat_map (parts_from m n) (roots_from (map view vs))) → Knows m f (parts m d)
found_parts m f n d format vs deep here known =
    subst (Knows m f) (sym (parts_within m n d deep ∙ ap (flat_map (parts_from m n)) (roots_are d format vs here))) known

---------------------------------------------------------------- bytes

chosen_else : {X : Type 0} (b : Bool) (x y : X) → (b ≡ true → x ≡ y) → cond b x y ≡ y
chosen_else true x y h = h refl
chosen_else false x y h = refl

pub not_json : (m : Metamodel) (uri bytes : List ℕ) → (IsUtf8 bytes → read bytes ≡ None) → reads_bytes m uri bytes ≡ Err cause.Syntax
unfolding reads_bytes
not_json m uri bytes h = ap (reads_if m (base_of uri)) (chosen_else (is_utf8 bytes) (read bytes) None (λ e. h (IsUtf8-from_is_utf8 bytes e)))

pub is_json : (m : Metamodel) (uri bytes : List ℕ) (d : Data) → IsUtf8 bytes → read bytes ≡ Some d → reads m (base_of uri) d ≡ reads_bytes m uri bytes
unfolding reads_bytes
is_json m uri bytes d utf8 is = let e = is_utf8-from_IsUtf8 bytes utf8 in sym (ap (λ b. reads_if m (base_of uri) (cond b (read bytes) None)) e ∙ ap (reads_if m (base_of uri)) is)
