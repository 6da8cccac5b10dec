-- In a document that is read no list is longer than it may be, and only objects of the document are named.
use Rattle.std.proofs.Common.{◌≡◌, ◌+◌, ◌<◌, ◌≤◌, Bool, true, false, List, [], ◌∷◌, Option, Some, None, ℕ, arith, cond, length, map, refl, subst, sym}
use Rattle.std.specs.Prelude.{◌&&◌, ◌||◌, filter_map, int_le, nat_le, not, option_map, pos, slice_get, IfSome}
use Rattle.std.specs.List.{All, cons_option, enumerate_from, list_any}
use Rattle.std.specs.Option.{option_map_or, option_or}
use Rattle.std.proofs.lemmas.Bool.{false≢true}
use Rattle.std.proofs.lemmas.Bool.Decides.{nat_tests}
use Rattle.std.proofs.lemmas.List.{length-map}
use Rattle.std.proofs.lemmas.List.FromFn.{length-enumerate_from}
use Rattle.std.proofs.lemmas.List.Elements.{All-cons, All-nil}
use Rattle.serde_json.specs.Data.{Data}
use Rattle.serde_json.specs.Find.{as_bool, as_null, as_str}
use Rattle.mm_types.specs.Lookups as lookups
use Rattle.mm_types.specs.Resolved.{Metamodel}
use Rattle.mm_types.specs.Same.{is_nil}
use Rattle.mm_types.specs.Shapes.{Shape, contents_shape, is_bounded, shape}
use Rattle.mm_types.specs.declared.feature.DataType.{DataType}
use Rattle.mm_types.specs.declared.feature.DataType.TheVariants.{EString, EInt, ELong, EBoolean, Enum}
use Rattle.mm_types.specs.declared.feature.Feature.{Feature}
use Rattle.mm_types.specs.declared.feature.Kind.{Kind}
use Rattle.mm_types.specs.declared.feature.Kind.TheVariants.{Attribute, Reference}
use Rattle.mm_types.specs.declared.limits.TheConstants.{LIST_VALUES, OBJECTS}
use Rattle.mm_types.specs.declared.numbers.ClassNo.{ClassNo}
use Rattle.mm_types.specs.declared.numbers.FeatureNo.{FeatureNo}
use Rattle.mm_types.specs.declared.value.Value.{Value}
use Rattle.mm_types.specs.declared.value.Value.TheVariants as value
use Rattle.web_uris.specs.Paths.{with_step}
use Rattle.web_uris.specs.declared.path.Path.{Path}
use Rattle.json_fields.specs.Fields.{◌>>=◌, ◌such_that◌, whole_number, whole_number_of_64}
use Rattle.doc_parts.specs.Contents.{attribute_value, conforms_to, is_short}
use Rattle.doc_parts.specs.Faults.{is_long, of_entry}
use Rattle.doc_parts.specs.Parts.{Entry, Part, entries, number_of, parts, root_parts, step_to, values_of}
use Rattle.doc_parts.proofs.WayLemmas.{number_below}
use Rattle.resource_docs.specs.Causes.{IsRead, has_many_roots}
use Rattle.resource_docs.specs.Read.{content_read, contents_read, doc_read, object_read, root_number, values_read}
use Rattle.resource_docs.specs.Texts.{Base, base_of, target}
use Rattle.resource_docs.specs.Values.{led_to, object_of, value_of}
use Rattle.resource_docs.specs.declared.doc.Doc.{Doc}
use Rattle.resource_docs.specs.declared.referent.Referent.{Referent}
use Rattle.resource_docs.specs.declared.referent.Referent.TheVariants.{Here, Elsewhere}
use Rattle.doc_loader.proofs.CauseLemmas.{read-faultless}
use Rattle.doc_loader.specs.Fits.{IsFitting, IsFittingContent, IsFittingObject, IsNumbered, IsValueNumbered}

---------------------------------------------------------------- lists

all-more : {Y : Type 0} (P : Y → Type 0) (o : Option Y) (ys : List Y) → IfSome o P → All P ys → All P (cons_option o ys)
all-more P None ys one rest = rest
all-more P (Some y) ys one rest = All-cons P y ys one rest

pub all-filtered : {X Y : Type 0} (P : Y → Type 0) (f : X → Option Y) (xs : List X) → ((x : X) → IfSome (f x) P) → All P (filter_map f xs)
all-filtered P f [] each = All-nil P
all-filtered P f (x ∷ xs) each = all-more P (f x) (filter_map f xs) (each x) (all-filtered P f xs each)

few-more : {Y : Type 0} (o : Option Y) (ys : List Y) (n : ℕ) → length ys ≤ n → length (cons_option o ys) ≤ n + 1
few-more None ys n few = omega (arith, few)
few-more (Some y) ys n few = omega (arith, few)

pub few-filtered : {X Y : Type 0} (f : X → Option Y) (xs : List X) → length (filter_map f xs) ≤ length xs
few-filtered f [] = omega arith
few-filtered f (x ∷ xs) = let e = few-more (f x) (filter_map f xs) (length xs) (few-filtered f xs) in omega (arith, e)

pub all-kept : {Y : Type 0} (P : Y → Type 0) (b : Bool) (y : Y) (ys : List Y) → P y → All P ys → All P (cond b (y ∷ ys) ys)
all-kept P true y ys one rest = All-cons P y ys one rest
all-kept P false y ys one rest = rest

pub or-left : (a b : Bool) → a || b ≡ false → a ≡ false
or-left false b none = refl
or-left true b none = none

pub or-right : (a b : Bool) → a || b ≡ false → b ≡ false
or-right false b none = none
or-right true b none = absurd (false≢true (sym none))

both-left : (a b : Bool) → not (a && b) ≡ false → a ≡ true
both-left true b none = refl
both-left false b none = absurd (false≢true (sym none))

within : (a : Shape) (n : ℕ) → not (is_bounded a n) ≡ false → n ≤ LIST_VALUES
within a n none = let few = both-left (nat_le n LIST_VALUES) (cond (int_le (pos 1) a.upper) (int_le (pos n) a.upper) true) none in grind (arith, nat_tests)

---------------------------------------------------------------- values

numbered : (ps : List Part) (n : ℕ) (q : Path) (o : Option ℕ) → number_of ps q ≡ o → n + length ps ≤ OBJECTS → IfSome o (λ k. n + k < OBJECTS)
numbered ps n q None is room = tt
numbered ps n q (Some k) is room = let e = number_below q ps k is in omega (arith, e, room)

part-numbered : (n : ℕ) (o : Option ℕ) → IfSome o (λ k. n + k < OBJECTS) → IfSome (option_map object_of o) (IsValueNumbered n)
part-numbered n None below = tt
part-numbered n (Some k) below = below

mapped-numbered : {X : Type 0} (n : ℕ) (f : X → Value) (o : Option X) → ((x : X) → IsValueNumbered n (f x)) → IfSome (option_map f o) (IsValueNumbered n)
mapped-numbered n f None each = tt
mapped-numbered n f (Some x) each = each x

either-numbered : (n : ℕ) (o p : Option Value) → IfSome o (IsValueNumbered n) → IfSome p (IsValueNumbered n) → IfSome (option_or o p) (IsValueNumbered n)
either-numbered n None p a b = b
either-numbered n (Some v) p a b = a

null-numbered : (n : ℕ) (single : Bool) (o : Option (Unit {0})) → IfSome (cond single (option_map (λ x. value.Null) o) None) (IsValueNumbered n)
null-numbered n false o = tt
null-numbered n true None = tt
null-numbered n true (Some x) = tt

attribute-numbered : (m : Metamodel) (n : ℕ) (single : Bool) (t : DataType) (d : Data) → IfSome (attribute_value m single t d) (IsValueNumbered n)
attribute-numbered m n single EString d =
    either-numbered n (cond single (option_map (λ x. value.Null) (as_null d)) None) (option_map value.Text (as_str d such_that is_short)) (null-numbered n single (as_null d))
    (mapped-numbered n value.Text (as_str d such_that is_short) (λ x. tt))
attribute-numbered m n single EInt d = mapped-numbered n value.Int (whole_number d) (λ x. tt)
attribute-numbered m n single ELong d = mapped-numbered n value.Int (whole_number_of_64 d) (λ x. tt)
attribute-numbered m n single EBoolean d = mapped-numbered n value.Bool (as_bool d) (λ x. tt)
attribute-numbered m n single (Enum e) d = mapped-numbered n value.Literal (as_str d >>= lookups.literal_by_name m e) (λ x. tt)

found-numbered : (n k : ℕ) (m : Metamodel) (class : ClassNo) (o : Option Part) → n + k < OBJECTS → IfSome (o >>= (λ q. cond (conforms_to m class q.json) (Some (object_of k)) None)) (IsValueNumbered n)
found-numbered n k m class None below = tt
found-numbered n k m class (Some q) below = by (conforms_to m class q.json)
  where
    by : (b : Bool) → IfSome (cond b (Some (object_of k)) None) (IsValueNumbered n)
    by true = below
    by false = tt

here-numbered : (m : Metamodel) (ps : List Part) (class : ClassNo) (n : ℕ) (o : Option ℕ) → IfSome o (λ k. n + k < OBJECTS)
    → IfSome (o >>= (λ k. slice_get ps k >>= (λ q. cond (conforms_to m class q.json) (Some (object_of k)) None))) (IsValueNumbered n)
here-numbered m ps class n None below = tt
here-numbered m ps class n (Some k) below = found-numbered n k m class (slice_get ps k) below

led-numbered : (m : Metamodel) (ps : List Part) (class : ClassNo) (n : ℕ) (o : Option Referent) → n + length ps ≤ OBJECTS → IfSome (o >>= led_to m ps class) (IsValueNumbered n)
led-numbered m ps class n None room = tt
led-numbered m ps class n (Some (Here q)) room = here-numbered m ps class n (number_of ps q) (numbered ps n q (number_of ps q) refl room)
led-numbered m ps class n (Some (Elsewhere t)) room = tt

value-numbered : (m : Metamodel) (b : Base) (ps : List Part) (path : Path) (f : FeatureNo) (k : Kind) (n : ℕ) (v : ℕ × Data) → n + length ps ≤ OBJECTS → IfSome (value_of m b ps path f k v) (IsValueNumbered n)
value-numbered m b ps path f (Attribute t unique unsettable default) n v room = attribute-numbered m n (shape m f).is_single t v.1
value-numbered m b ps path f (Reference class true opposite) n v room =
    let q = with_step path (step_to m f v.0) in
    part-numbered n (number_of ps q) (numbered ps n q (number_of ps q) refl room)
value-numbered m b ps path f (Reference class false opposite) n v room = led-numbered m ps class n (as_str v.1 >>= target b) room

---------------------------------------------------------------- contents

content-fits : (m : Metamodel) (b : Base) (ps : List Part) (path : Path) (n : ℕ) (e : Entry) → n + length ps ≤ OBJECTS → is_long m e ≡ false → IsFittingContent n (content_read m b ps path e)
content-fits m b ps path n e room short = by (lookups.feature m e.feature)
  where
    by : (o : Option Feature) → IsFittingContent n (record { feature = e.feature; values = option_map_or (λ g. filter_map (value_of m b ps path e.feature g.kind) (enumerate_from 0 (values_of m e))) o [] })
    by None = record { few = omega arith; numbered = All-nil (IsValueNumbered n) }
    by (Some g) = record {
      few = (let a = within (shape m e.feature) (length (values_of m e)) short in
          let c = few-filtered (value_of m b ps path e.feature g.kind) (enumerate_from 0 (values_of m e)) in
          let d = length-enumerate_from 0 (values_of m e) in
          omega (arith, a, c, d));
      numbered = all-filtered (IsValueNumbered n) (value_of m b ps path e.feature g.kind) (enumerate_from 0 (values_of m e)) (λ v. value-numbered m b ps path e.feature g.kind n v room);
    }

contents-fit : (m : Metamodel) (b : Base) (ps : List Part) (path : Path) (n : ℕ) (es : List Entry) → n + length ps ≤ OBJECTS → list_any (is_long m) es ≡ false → All (IsFittingContent n) (contents_read m b ps path es)
contents-fit m b ps path n [] room short = All-nil (IsFittingContent n)
contents-fit m b ps path n (e ∷ es) room short =
    all-kept (IsFittingContent n) (not (is_nil (values_read m b ps path e))) (content_read m b ps path e) (contents_read m b ps path es)
    (content-fits m b ps path n e room (or-left (is_long m e) (list_any (is_long m) es) short))
    (contents-fit m b ps path n es room (or-right (is_long m e) (list_any (is_long m) es) short))

objects-fit : (m : Metamodel) (b : Base) (ps : List Part) (n : ℕ) (qs : List Part) → n + length ps ≤ OBJECTS → of_entry m (is_long m) qs ≡ false → All (IsFittingObject n) (map (object_read m b ps) qs)
objects-fit m b ps n [] room short = All-nil (IsFittingObject n)
objects-fit m b ps n (q ∷ qs) room short =
    All-cons (IsFittingObject n) (object_read m b ps q) (map (object_read m b ps) qs)
    (contents-fit m b ps q.path n (entries m q.json) room (or-left (list_any (is_long m) (entries m q.json)) (of_entry m (is_long m) qs) short))
    (objects-fit m b ps n qs room (or-right (list_any (is_long m) (entries m q.json)) (of_entry m (is_long m) qs) short))

---------------------------------------------------------------- documents

root-numbered : (n : ℕ) (o : Option ℕ) → IfSome o (λ k. n + k < OBJECTS) → IfSome (option_map (λ (k : ℕ). record { 0 = k }) o) (IsNumbered n)
root-numbered n None below = tt
root-numbered n (Some k) below = below

doc-fits : (m : Metamodel) (b : Base) (d : Data) (n : ℕ) → n + length (doc_read m b d).objects ≤ OBJECTS → has_many_roots m d || of_entry m (is_long m) (parts m d) ≡ false → IsFitting n (doc_read m b d)
unfolding doc_read
doc-fits m b d n room short =
    let ps = parts m d in
    let all : n + length ps ≤ OBJECTS = let e = length-map ps (object_read m b ps) in omega (arith, e, room) in
    record {
      room = room;
      objects = objects-fit m b ps n ps all (or-right (has_many_roots m d) (of_entry m (is_long m) ps) short);
      few = (let a = within (contents_shape m) (length (root_parts d)) (or-left (has_many_roots m d) (of_entry m (is_long m) ps) short) in
          let c = few-filtered (λ p. root_number ps p.path) (root_parts d) in
          omega (arith, a, c));
      roots = all-filtered (IsNumbered n) (λ p. root_number ps p.path) (root_parts d)
          (λ p. root-numbered n (number_of ps p.path) (numbered ps n p.path (number_of ps p.path) refl all));
    }

pub read-fits : (m : Metamodel) (uri : List ℕ) (doc : Doc) (n : ℕ) → IsRead m uri doc → n + length doc.objects ≤ OBJECTS → IsFitting n doc
read-fits m uri doc n read room =
    let b = base_of uri in
    let right = read-faultless m uri doc read in
    subst (IsFitting n) right.0 (doc-fits m b read.source n (subst (λ (x : Doc). n + length x.objects ≤ OBJECTS) (sym right.0) room) right.1.long)
