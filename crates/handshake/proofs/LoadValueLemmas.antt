-- The objects that a document makes: they are the last ones, and have the classes and the values of attributes of the document. The earlier
-- objects stay as they were.
use Rattle.std.proofs.Common.{◌≡◌, ◌∙◌, ◌+◌, ◌<◌, ◌≤◌, ◌++◌, ℕ, zero, suc, Bool, true, false, ◌&&◌, not, List, [], ◌∷◌, Option, Some, None, append_assoc, append-nil, length, map, option_map, slice_get, slice_index_or, slice_set, if◌then◌else◌, IsTrue, arith, refl, sym, ap, subst}
use Rattle.std.specs.List.{All, AllByRecursion, enumerate_from, list_all}
use Rattle.std.specs.FinMap as finmap
use Rattle.std.proofs.lemmas.Bool.{and_from, and_parts, false≢true}
use Rattle.std.proofs.lemmas.List.{length-append, length-map, length-set}
use Rattle.std.proofs.lemmas.List.Elements.{All-append, All-cons, All-nil, All-set, recursion_from_All}
use Rattle.std.proofs.lemmas.Option.{same_Some}
use Rattle.mm_types.specs.Lookups as lookups
use Rattle.mm_types.specs.Resolved.{Metamodel}
use Rattle.mm_types.specs.Same.{is_nil}
use Rattle.mm_types.specs.Shapes.{is_bounded, shape}
use Rattle.mm_types.specs.declared.numbers.ClassNo.{ClassNo}
use Rattle.mm_types.specs.declared.numbers.FeatureNo.{FeatureNo}
use Rattle.mm_types.specs.declared.numbers.ObjectNo.{ObjectNo}
use Rattle.mm_types.specs.declared.value.Value.{Value}
use Rattle.mm_types.specs.declared.value.Value.TheVariants as value
use Rattle.mm_values.specs.Stored.{Stored}
use Rattle.mm_values.specs.Values.{ObjectState, Objects, ValuesState, class_of, object_at, values_after_edit, values_after_edits, with_list, with_object}
use Rattle.mm_values.specs.declared.value_edit.ValueEdit.{ValueEdit}
use Rattle.mm_values.specs.declared.value_edit.ValueEdit.TheVariants.{NewObject, PutList}
use Rattle.models.specs.Legal.{IsLegalObject, IsLegalStored, is_legal_list, is_legal_value}
use Rattle.models.proofs.PlaceLemmas.{legal-at}
use Rattle.resource_docs.specs.declared.doc.Content.{Content}
use Rattle.resource_docs.specs.declared.doc.Doc.{Doc}
use Rattle.resource_docs.specs.declared.doc.DocObject.{DocObject}
use Rattle.doc_loader.specs.Loading.{attribute_edits, loaded_number, loaded_values, of_contents, of_object}
use Rattle.doc_loader.specs.Typed.{IsTyped, IsTypedContent, IsTypedObject, IsTypedValue, class_in}
use Rattle.doc_loader.proofs.PairLemmas.{all-at, all-flat_map, numbered-all}
use Rattle.containment.proofs.PartLemmas.{object-reference}
use Rattle.handshake.proofs.ObjectLegalLemmas.{class-put, created, put-at}

---------------------------------------------------------------- lists of objects

pub behind : (os ys : Objects) (i : ℕ) → slice_index_or (os ++ ys) (length os + i) None ≡ slice_index_or ys i None
behind [] ys i = let e : 0 + i ≡ i = omega arith in ap (λ (k : ℕ). slice_index_or ys k None) e
behind (o ∷ os) ys i = let e : suc (length os) + i ≡ suc (length os + i) = omega arith in ap (λ (k : ℕ). slice_index_or (o ∷ (os ++ ys)) k None) e ∙ behind os ys i

before : (os ys : Objects) (i : ℕ) → i < length os → slice_index_or (os ++ ys) i None ≡ slice_index_or os i None
before [] ys i low = absurd (omega (arith, low))
before (o ∷ os) ys zero low = refl
before (o ∷ os) ys (suc i) low = before os ys i (omega (arith, low))

-- a put after a position changes nothing at the position
set-behind : (os : Objects) (k i : ℕ) (x : Option ObjectState) → i < k → slice_index_or (slice_set os k x) i None ≡ slice_index_or os i None
set-behind [] k i x low = refl
set-behind (o ∷ os) zero i x low = absurd (omega (arith, low))
set-behind (o ∷ os) (suc k) zero x low = refl
set-behind (o ∷ os) (suc k) (suc i) x low = set-behind os k i x (omega (arith, low))

values-append : (v : ValuesState) (xs ys : List ValueEdit) → values_after_edits v (xs ++ ys) ≡ values_after_edits (values_after_edits v xs) ys
values-append v [] ys = refl
values-append v (x ∷ xs) ys = values-append (values_after_edit v x) xs ys

---------------------------------------------------------------- objects that are made

abbrev pub fresh : DocObject → Option ObjectState
fresh d = Some (record { class = d.class; stored = finmap.empty })

made : (v : ValuesState) (ds : List DocObject) → values_after_edits v (map (λ d. NewObject d.class) ds) ≡ record v { objects = v.objects ++ map fresh ds }
made v [] = ap (λ (os : Objects). record v { objects = os }) (sym (append-nil v.objects))
made v (d ∷ ds) = made (record v { objects = with_object v.objects d.class }) ds ∙ ap (λ (os : Objects). record v { objects = os }) (append_assoc v.objects (fresh d ∷ []) (map fresh ds))

fresh-class : (ds : List DocObject) (i : ℕ) → option_map (λ (x : ObjectState). x.class) (slice_index_or (map fresh ds) i None) ≡ option_map (λ (d : DocObject). d.class) (slice_get ds i)
fresh-class [] i = refl
fresh-class (d ∷ ds) zero = refl
fresh-class (d ∷ ds) (suc i) = fresh-class ds i

fresh-legal : (m : Metamodel) (doc : Doc) (ds : List DocObject) → AllByRecursion (IsTypedObject m doc) ds → All (IsLegalObject m) (map fresh ds)
fresh-legal m doc [] typed = All-nil (IsLegalObject m)
fresh-legal m doc (d ∷ ds) typed = All-cons (IsLegalObject m) (fresh d) (map fresh ds) (created m d.class typed.0.concrete) (fresh-legal m doc ds typed.1)

---------------------------------------------------------------- lists that are put

-- an edit puts a legal list for an object from n on
IsLegalPut : Metamodel → ℕ → (ObjectNo → Option ClassNo) → ValueEdit → Type 0
IsLegalPut m n class (PutList o f vs flag) = (n ≤ o.0) × ((c : ClassNo) → class o ≡ Some c → IsLegalStored m c f (record { list = vs; flag = flag }))
IsLegalPut m n class _ = ⊥

-- the objects are legal and have the same classes, and the objects below n are the same
record ArePut (m : Metamodel) (n : ℕ) (v w : ValuesState) : Type 0 where
  count : length w.objects ≡ length v.objects
  objects : All (IsLegalObject m) w.objects
  classes : (o : ObjectNo) → class_of w o ≡ class_of v o
  below : (o : ObjectNo) → o.0 < n → object_at w.objects o ≡ object_at v.objects o
  uris : w.uris ≡ v.uris

puts : (m : Metamodel) (n : ℕ) (class : ObjectNo → Option ClassNo) (v : ValuesState) (es : List ValueEdit) → ((o : ObjectNo) → class_of v o ≡ class o) → All (IsLegalObject m) v.objects → AllByRecursion (IsLegalPut m n class) es
    → ArePut m n v (values_after_edits v es)
unfolding IsLegalPut
puts m n class v [] same legal all = record { count = refl; objects = legal; classes = λ o. refl; below = λ o low. refl; uris = refl }
puts m n class v (PutList o f vs flag ∷ es) same legal all =
    let P = IsLegalObject m in
    let h : Stored = record { list = vs; flag = flag } in
    let held : (x : ObjectState) → object_at v.objects o ≡ Some x → IsLegalStored m x.class f h = λ x is. all.0.1 x.class (sym (same o) ∙ ap (option_map (λ (y : ObjectState). y.class)) is) in
    let rest = puts m n class (record v { objects = with_list v.objects o f h }) es (λ p. class-put f h v.objects o.0 p.0 ∙ same p) (All-set P v.objects o.0 _ (put-at m (object_at v.objects o) f h (legal-at P v.objects o.0 tt legal) held) legal) all.1 in
    let from = all.0.0 in
    record {
      count = rest.count ∙ length-set v.objects o.0 _;
      objects = rest.objects;
      classes = λ p. rest.classes p ∙ class-put f h v.objects o.0 p.0;
      below = λ p low. rest.below p low ∙ set-behind v.objects o.0 p.0 _ (omega (arith, low, from));
      uris = rest.uris;
    }
puts m n class v (_ ∷ es) same legal all = absurd all.0

---------------------------------------------------------------- the lists of a document

value-legal : (m : Metamodel) (doc : Doc) (f : FeatureNo) (v : Value) → (shape m f).is_reference ≡ false → IsTypedValue m doc f v → is_legal_value m f v ≡ true
value-legal m doc f (value.Object b) attribute h = absurd (false≢true (sym attribute ∙ object-reference m (class_in doc) f b h))
value-legal m doc f (value.Proxy t) attribute h = absurd (false≢true (sym attribute ∙ (and_parts (shape m f).is_reference _ h).0))
value-legal m doc f _ attribute h = h

all-legal : (m : Metamodel) (doc : Doc) (f : FeatureNo) (vs : List Value) → (shape m f).is_reference ≡ false → AllByRecursion (IsTypedValue m doc f) vs → list_all (is_legal_value m f) vs ≡ true
all-legal m doc f [] attribute typed = refl
all-legal m doc f (v ∷ vs) attribute typed = and_from _ _ (value-legal m doc f v attribute typed.0) (all-legal m doc f vs attribute typed.1)

list-of : (m : Metamodel) (c : ClassNo) (f : FeatureNo) (vs : List Value) → lookups.has_feature m c f ≡ true → list_all (is_legal_value m f) vs ≡ true → is_bounded (shape m f) (length vs) ≡ true → IsTrue (is_legal_list m c f vs)
list-of m c f [] has all bounded = refl
list-of m c f (v ∷ vs) has all bounded = and_from _ _ has (and_from _ _ all bounded)

flag-some : (u s b : Bool) → b ≡ false → (u && s) ≡ (u && (s && not b))
flag-some u s b some = base u s ∙ ap (λ (x : Bool). u && (s && not x)) (sym some)
  where
    base : (u s : Bool) → (u && s) ≡ (u && (s && true))
    base true true = refl
    base true false = refl
    base false s = refl

content-legal : (m : Metamodel) (doc : Doc) (class : ClassNo) (c : Content) → (shape m c.feature).is_reference ≡ false → IsTypedContent m doc class c
    → IsLegalStored m class c.feature (record { list = c.values; flag = (shape m c.feature).is_unsettable && (shape m c.feature).is_single })
content-legal m doc class c attribute typed =
    let a = shape m c.feature in
    record {
      values = list-of m class c.feature c.values typed.has (all-legal m doc c.feature c.values attribute (recursion_from_All (IsTypedValue m doc c.feature) c.values typed.takes)) typed.bounded;
      unique = typed.unique;
      flag = flag-some a.is_unsettable a.is_single (is_nil c.values) typed.some;
    }

content-puts : (m : Metamodel) (n : ℕ) (doc : Doc) (class : ObjectNo → Option ClassNo) (o : ObjectNo) (k : ClassNo) (c : Content) → class (loaded_number n o) ≡ Some k → IsTypedContent m doc k c → AllByRecursion (IsLegalPut m n class) (attribute_edits m n o c)
unfolding IsLegalPut
content-puts m n doc class o k c here typed =
    let a = shape m c.feature in
    elim a.is_reference as (λ b. a.is_reference ≡ b → AllByRecursion (IsLegalPut m n class) (if b then [] else PutList (loaded_number n o) c.feature c.values (a.is_unsettable && a.is_single) ∷ [])) [
      | true ↦ λ _. tt
      | false ↦ λ attribute. ((omega arith, λ x is. subst (λ (y : ClassNo). IsLegalStored m y c.feature (record { list = c.values; flag = a.is_unsettable && a.is_single })) (same_Some k x (sym here ∙ is)) (content-legal m doc k c attribute typed)), tt)
    ] refl

---------------------------------------------------------------- what a document makes

-- the objects after a load from number n on
pub record AreLoaded (m : Metamodel) (n : ℕ) (doc : Doc) (v w : ValuesState) : Type 0 where
  pub count : length w.objects ≡ n + length doc.objects
  pub objects : All (IsLegalObject m) w.objects
  pub below : (o : ObjectNo) → o.0 < n → object_at w.objects o ≡ object_at v.objects o
  pub classes : (o : ObjectNo) → class_of w (loaded_number n o) ≡ class_in doc o
  pub uris : w.uris ≡ v.uris

module _ (m : Metamodel) (v : ValuesState) (doc : Doc) (typed : IsTyped m doc) (legal : All (IsLegalObject m) v.objects) where
  abbrev n : ℕ
  n = length v.objects

  abbrev ds : List DocObject
  ds = doc.objects

  -- the values after the objects are made
  abbrev pub after_made : ValuesState
  after_made = record v { objects = v.objects ++ map fresh doc.objects }

  abbrev each : AllByRecursion (IsTypedObject m doc) ds
  each = recursion_from_All (IsTypedObject m doc) doc.objects typed.objects

  pub made-class : (o : ObjectNo) → class_of after_made (loaded_number n o) ≡ class_in doc o
  made-class o = ap (option_map (λ (x : ObjectState). x.class)) (behind v.objects (map fresh ds) o.0) ∙ fresh-class ds o.0

  all-puts : AllByRecursion (IsLegalPut m n (class_of after_made)) (of_contents (attribute_edits m n) doc)
  all-puts =
      let P = IsLegalPut m n (class_of after_made) in
      all-flat_map (λ (y : ℕ × DocObject). slice_get ds y.0 ≡ Some y.1) P (of_object (attribute_edits m n)) (enumerate_from 0 ds)
      (λ y at. (
      let o : ObjectNo = record { 0 = y.0 } in
      let object = all-at (IsTypedObject m doc) ds y.0 y.1 each at in
      all-flat_map (IsTypedContent m doc y.1.class) P (attribute_edits m n o) y.1.contents
      (λ c content. content-puts m n doc (class_of after_made) o y.1.class c (made-class o ∙ ap (option_map (λ (d : DocObject). d.class)) at) content)
      (recursion_from_All (IsTypedContent m doc y.1.class) y.1.contents object.contents)))
      (numbered-all ds)

  -- first the objects are made, and then their lists are put
  pub two-steps : values_after_edits v (loaded_values m (length v.objects) doc) ≡ values_after_edits (record v { objects = v.objects ++ map fresh doc.objects }) (of_contents (attribute_edits m (length v.objects)) doc)
  two-steps = values-append v (map (λ d. NewObject d.class) ds) (of_contents (attribute_edits m n) doc) ∙ ap (λ (w : ValuesState). values_after_edits w (of_contents (attribute_edits m n) doc)) (made v ds)

  pub load-values : AreLoaded m n doc v (values_after_edits v (loaded_values m n doc))
  load-values =
      let es = of_contents (attribute_edits m n) doc in
      let put = puts m n (class_of after_made) after_made es (λ o. refl) (All-append (IsLegalObject m) v.objects (map fresh ds) legal (fresh-legal m doc ds each)) all-puts in
      let is : AreLoaded m n doc v (values_after_edits after_made es) = record {
        count = put.count ∙ length-append v.objects (map fresh ds) ∙ ap (λ (k : ℕ). n + k) (length-map ds fresh);
        objects = put.objects;
        below = λ o low. put.below o low ∙ before v.objects (map fresh ds) o.0 low;
        classes = λ o. put.classes (loaded_number n o) ∙ made-class o;
        uris = put.uris;
      } in
      subst (AreLoaded m n doc v) (sym two-steps) is
