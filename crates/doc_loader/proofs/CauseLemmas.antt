-- No cause of refusal applies to a document that is read.
use Rattle.std.proofs.Common.{◌≡◌, Bool, true, false, List, Option, Some, None, ℕ, cond, refl}
use Rattle.std.specs.Prelude.{◌&&◌, ◌||◌, Ok, is_some, not}
use Rattle.std.specs.List.{list_any}
use Rattle.std.specs.Option.{option_map_or, option_or}
use Rattle.std.proofs.lemmas.Bool.{or_parts}
use Rattle.serde_json.specs.Data.{Data}
use Rattle.mm_types.specs.Conditions.{◌else_by◌, ◌where_so◌}
use Rattle.mm_types.specs.Resolved.{Metamodel}
use Rattle.mm_types.specs.declared.document_fault.DocFault.{DocFault}
use Rattle.mm_types.specs.declared.document_fault.DocFault.TheVariants as cause
use Rattle.doc_parts.specs.Contents.{is_content}
use Rattle.doc_parts.specs.Faults.{has_no_class, has_other_key, is_deep, is_long, is_misshapen, of_entry, of_written}
use Rattle.doc_parts.specs.Layout.{top}
use Rattle.doc_parts.specs.Parts.{parts}
use Rattle.resource_docs.specs.Causes.{IsRead, cause_of, has_cross, has_first_format, has_many_roots, has_other_format, has_repeat, is_one_sided, of_content, sense_cause, shape_cause, unless_faulty}
use Rattle.resource_docs.specs.Read.{doc_read}
use Rattle.resource_docs.specs.Texts.{Base, base_of}
use Rattle.resource_docs.specs.Values.{has_lost}
use Rattle.resource_docs.specs.declared.doc.Doc.{Doc}

read-right : (o : Option DocFault) (x y : Doc) → unless_faulty o x ≡ Ok y → (o ≡ None) × (x ≡ y)
read-right None x y e = (refl, (cc))
read-right (Some f) x y e = absurd (cc)

later : {X : Type 0} (o p : Option X) → option_or o p ≡ None → p ≡ None
later None p none = none
later (Some x) p none = absurd (cc)

sooner : {X : Type 0} (o p : Option X) → option_or o p ≡ None → o ≡ None
sooner None p none = refl
sooner (Some x) p none = absurd (cc)

not-so : (f : DocFault) (b : Bool) (p : Option DocFault) → option_or (cond b (Some f) None) p ≡ None → b ≡ false
not-so f true p none = absurd (cc)
not-so f false p none = refl

not-last : (f : DocFault) (b : Bool) → cond b (Some f) None ≡ None → b ≡ false
not-last f true none = absurd (cc)
not-last f false none = refl

-- each object is written as a JSON object, of a class that is not abstract; each content is of its feature's type
pub record IsShapely (m : Metamodel) (d : Data) : Type 0 where
  pub layout : list_any is_misshapen (parts m d) ≡ false
  pub classes : of_written (has_no_class m) (parts m d) ≡ false
  pub content : of_entry m (λ e. not (is_content m e)) (parts m d) ≡ false

shapely : (m : Metamodel) (d : Data) → shape_cause m (top d) (parts m d) ≡ None → IsShapely m d
shapely m d none =
    let ps = parts m d in
    let misshapen = not (is_some (top d)) || list_any is_misshapen ps in
    let layout = cause.Layout where_so misshapen in
    let format = cause.Format where_so option_map_or has_other_format (top d) false in
    let classless = of_written (has_no_class m) ps in
    let classes = cause.Class where_so classless in
    let keys = cause.Feature where_so of_written (has_other_key m) ps in
    let untyped = of_entry m (λ e. not (is_content m e)) ps in
    let values = cause.Value where_so untyped in
    let from_class = later format (classes else_by (keys else_by values)) (later layout (format else_by (classes else_by (keys else_by values))) none) in
    record {
      layout = (or_parts (not (is_some (top d))) (list_any is_misshapen ps) (not-so cause.Layout misshapen (format else_by (classes else_by (keys else_by values))) none)).1;
      classes = not-so cause.Class classless (keys else_by values) from_class;
      content = not-last cause.Value untyped (later keys values (later classes (keys else_by values) from_class));
    }

-- no unique list has a value twice, no list is too long, and both ends of a pair name each other
pub record IsFaultless (m : Metamodel) (d : Data) (doc : Doc) : Type 0 where
  pub form : IsShapely m d
  pub repeats : of_content (λ o c. has_repeat m c) doc ≡ false
  pub long : has_many_roots m d || of_entry m (is_long m) (parts m d) ≡ false
  pub sided : of_content (is_one_sided m doc) doc ≡ false

faultless : (m : Metamodel) (b : Base) (d : Data) → cause_of m b d ≡ None → IsFaultless m d (doc_read m b d)
unfolding cause_of
faultless m b d none =
    let ps = parts m d in
    let doc = doc_read m b d in
    let deep = cause.Depth where_so list_any is_deep ps in
    let from_cross = cause.Cross where_so (option_map_or has_first_format (top d) false && of_content (λ o c. has_cross m c) doc) else_by deep in
    let unanswered = of_content (is_one_sided m doc) doc in
    let one_sided = cause.OneSided where_so unanswered in
    let many = has_many_roots m d || of_entry m (is_long m) ps in
    let long = cause.Bound where_so many in
    let from_bound = long else_by (one_sided else_by from_cross) in
    let twice = of_content (λ o c. has_repeat m c) doc in
    let repeated = cause.Duplicate where_so twice in
    let lost = cause.Reference where_so of_entry m (has_lost m b ps) ps in
    let from_repeated = later lost (repeated else_by from_bound) (later (shape_cause m (top d) ps) (sense_cause m b d ps doc) none) in
    let from_long = later repeated from_bound from_repeated in
    let from_sided = later long (one_sided else_by from_cross) from_long in
    record {
      form = shapely m d (sooner (shape_cause m (top d) ps) (sense_cause m b d ps doc) none);
      repeats = not-so cause.Duplicate twice from_bound from_repeated;
      long = not-so cause.Bound many (one_sided else_by from_cross) from_long;
      sided = not-so cause.OneSided unanswered from_cross from_sided;
    }

-- a document that is read has no faults, and is the document that its source is read as
pub read-faultless : (m : Metamodel) (uri : List ℕ) (doc : Doc) (read : IsRead m uri doc) → (doc_read m (base_of uri) read.source ≡ doc) × IsFaultless m read.source (doc_read m (base_of uri) read.source)
read-faultless m uri doc read =
    let b = base_of uri in
    let right = read-right (cause_of m b read.source) (doc_read m b read.source) doc read.gives in
    (right.1, faultless m b read.source right.0)
