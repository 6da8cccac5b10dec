-- The values that are read under a feature are of its type.
use Rattle.std.proofs.Common.{◌≡◌, ◌∙◌, ◌<◌, ℕ, ℤ, Bool, true, false, cond, List, [], ◌∷◌, Option, Some, None, length, refl, sym, ap, subst, nat_lt}
use Rattle.std.specs.Prelude.{IfSome, filter_map, option_and_then, option_map, position, slice_get, unwrap_or}
use Rattle.std.specs.List.{AllByRecursion, enumerate_from}
use Rattle.std.specs.Option.{option_map_or, option_or}
use Rattle.std.specs.Str.{bytes_eq}
use Rattle.std.proofs.lemmas.Bool.{and_from, false≢true, lt-ltb}
use Rattle.std.proofs.lemmas.Option.{none-some}
use Rattle.serde_json.specs.Data.{Data}
use Rattle.serde_json.specs.Find.{as_bool, as_i64, as_null, as_number, as_str}
use Rattle.json_fields.specs.Fields.{◌>>=◌, ◌such_that◌}
use Rattle.mm_types.specs.Integers.{is_of_bits}
use Rattle.mm_types.specs.Lookups as lookups
use Rattle.mm_types.specs.Resolved.{Metamodel}
use Rattle.mm_types.specs.Shapes.{Shape, shape, shape_of}
use Rattle.mm_types.specs.declared.class.Enumeration.{Enumeration}
use Rattle.mm_types.specs.declared.feature.DataType.{DataType}
use Rattle.mm_types.specs.declared.feature.DataType.TheVariants.{EString, EInt, ELong, EBoolean, Enum}
use Rattle.mm_types.specs.declared.feature.Feature.{Feature}
use Rattle.mm_types.specs.declared.feature.Kind.{Kind}
use Rattle.mm_types.specs.declared.feature.Kind.TheVariants.{Attribute, Reference}
use Rattle.mm_types.specs.declared.numbers.ClassNo.{ClassNo}
use Rattle.mm_types.specs.declared.numbers.FeatureNo.{FeatureNo}
use Rattle.mm_types.specs.declared.value.Value.{Value}
use Rattle.mm_types.specs.declared.value.Value.TheVariants as value
use Rattle.models.specs.Legal.{is_legal_value}
use Rattle.models.specs.Legal as legal
use Rattle.web_uris.specs.Paths.{with_step}
use Rattle.web_uris.specs.declared.path.Path.{Path}
use Rattle.doc_parts.specs.Contents.{attribute_value, conforms_to, is_content, is_short}
use Rattle.doc_parts.specs.Parts.{Entry, Part, class_of, number_of, step_to, values_of}
use Rattle.doc_parts.proofs.WayLemmas.{position_cons, below_at}
use Rattle.resource_docs.specs.Read.{values_read}
use Rattle.resource_docs.specs.Texts.{Base, target}
use Rattle.resource_docs.specs.Values.{led_to, object_of, value_of}
use Rattle.resource_docs.specs.declared.doc.Doc.{Doc}
use Rattle.resource_docs.specs.declared.referent.Referent.{Referent}
use Rattle.resource_docs.specs.declared.referent.Referent.TheVariants.{Here, Elsewhere}
use Rattle.doc_loader.specs.Typed.{IsTypedValue, class_in}
use Rattle.doc_loader.proofs.DocLemmas.{if-some}
use Rattle.doc_loader.proofs.SoundLemmas.{IsSort}
use Rattle.doc_loader.proofs.StandingLemmas.{content-feature, shape-is}

---------------------------------------------------------------- values of attributes

-- a value of an attribute, single or not, of a data type, as short as texts must be
abbrev IsKept : Metamodel → Bool → DataType → Value → Type 0
IsKept m single t (value.Object o) = ⊥
IsKept m single t (value.Proxy p) = ⊥
IsKept m single t v = (lookups.is_attribute_value m single t v ≡ true) × (legal.is_short v ≡ true)

position-below : {X : Type 0} (p : X → Bool) (xs : List X) (i : ℕ) → position p xs ≡ Some i → i < length xs
position-below p [] i h = absurd (none-some i h)
position-below p (x ∷ xs) i h = below_at (p x) (position p xs) (length xs) i (position-below p xs) (sym (position_cons p x xs) ∙ h)

mapped-kept : {X : Type 0} (m : Metamodel) (single : Bool) (t : DataType) (f : X → Value) (o : Option X) → ((x : X) → IsKept m single t (f x)) → IfSome (option_map f o) (IsKept m single t)
mapped-kept m single t f None each = tt
mapped-kept m single t f (Some x) each = each x

either-kept : (m : Metamodel) (single : Bool) (t : DataType) (o p : Option Value) → IfSome o (IsKept m single t) → IfSome p (IsKept m single t) → IfSome (option_or o p) (IsKept m single t)
either-kept m single t None p a b = b
either-kept m single t (Some v) p a b = a

null-kept : (m : Metamodel) (single : Bool) (o : Option (Unit {0})) → IfSome (cond single (option_map (λ x. value.Null) o) None) (IsKept m single EString)
null-kept m false o = tt
null-kept m true None = tt
null-kept m true (Some x) = (refl, refl)

text-kept : (m : Metamodel) (single : Bool) (o : Option (List ℕ)) → IfSome (option_map value.Text (o such_that is_short)) (IsKept m single EString)
text-kept m single None = tt
text-kept m single (Some t) = by (is_short t) refl
  where
    by : (b : Bool) → is_short t ≡ b → IfSome (option_map value.Text (cond b (Some t) None)) (IsKept m single EString)
    by true h = (refl, h)
    by false h = tt

int-kept : (m : Metamodel) (single : Bool) (t : DataType) (bits : ℕ) (o : Option ℤ) → ((n : ℤ) → is_of_bits bits n ≡ true → IsKept m single t (value.Int n)) → IfSome (option_map value.Int (o such_that is_of_bits bits)) (IsKept m single t)
int-kept m single t bits None each = tt
int-kept m single t bits (Some n) each = by (is_of_bits bits n) refl
  where
    by : (b : Bool) → is_of_bits bits n ≡ b → IfSome (option_map value.Int (cond b (Some n) None)) (IsKept m single t)
    by true h = each n h
    by false h = tt

literal-kept : (m : Metamodel) (single : Bool) (e : ℕ) (o : Option (List ℕ)) → IfSome (option_map value.Literal (o >>= lookups.literal_by_name m e)) (IsKept m single (Enum e))
literal-kept m single e None = tt
literal-kept m single e (Some name) = by (slice_get m.enums e) refl
  where
    placed : (en : Enumeration) (o : Option ℕ) → slice_get m.enums e ≡ Some en → position (λ l. bytes_eq l name) en.literals ≡ o → IfSome (option_map value.Literal o) (IsKept m single (Enum e))
    placed en None is at = tt
    placed en (Some i) is at =
        let below = lt-ltb i (length en.literals) (position-below (λ l. bytes_eq l name) en.literals i at) in
        (ap (λ (x : Option Enumeration). option_map_or (λ y. nat_lt i (length y.literals)) x false) is ∙ below, refl)

    by : (x : Option Enumeration) → slice_get m.enums e ≡ x → IfSome (option_map value.Literal (option_and_then (λ en. position (λ l. bytes_eq l name) en.literals) x)) (IsKept m single (Enum e))
    by None is = tt
    by (Some en) is = placed en (position (λ l. bytes_eq l name) en.literals) is refl

attribute-kept : (m : Metamodel) (single : Bool) (t : DataType) (d : Data) → IfSome (attribute_value m single t d) (IsKept m single t)
attribute-kept m single EString d =
    either-kept m single EString (cond single (option_map (λ x. value.Null) (as_null d)) None) (option_map value.Text (as_str d such_that is_short)) (null-kept m single (as_null d)) (text-kept m single (as_str d))
attribute-kept m single EInt d = int-kept m single EInt 32 (as_number d >>= as_i64) (λ n h. (h, refl))
attribute-kept m single ELong d = int-kept m single ELong 64 (as_number d >>= as_i64) (λ n h. (h, refl))
attribute-kept m single EBoolean d = mapped-kept m single EBoolean value.Bool (as_bool d) (λ x. (refl, refl))
attribute-kept m single (Enum e) d = literal-kept m single e (as_str d)

---------------------------------------------------------------- one value

-- a feature takes a value, or the value is a proxy
abbrev pub IsTaken : Metamodel → Doc → FeatureNo → Value → Type 0
IsTaken m doc f (value.Object b) = lookups.takes m (class_in doc) f (value.Object b) ≡ true
IsTaken m doc f (value.Proxy t) = Unit {0}
IsTaken m doc f v = is_legal_value m f v ≡ true

-- a proxy is under a feature that takes proxies
pub typed-value : (m : Metamodel) (doc : Doc) (f : FeatureNo) (v : Value) → IsSort (shape m f) v → IsTaken m doc f v → IsTypedValue m doc f v
typed-value m doc f (value.Object o) sort taken = taken
typed-value m doc f (value.Proxy t) sort taken = proxies (shape m f) sort
  where
    proxies : (a : Shape) → IsSort a (value.Proxy t) → legal.takes_proxies a ≡ true
    proxies a sort = rw (sort.0, sort.1) refl
typed-value m doc f value.Null sort taken = taken
typed-value m doc f (value.Bool b) sort taken = taken
typed-value m doc f (value.Int n) sort taken = taken
typed-value m doc f (value.Text t) sort taken = taken
typed-value m doc f (value.Literal i) sort taken = taken

conforms-read : (m : Metamodel) (target : ClassNo) (o : Option ClassNo) → option_map_or (λ c. lookups.conforms m c target) o false ≡ true → lookups.conforms m (unwrap_or o (record { 0 = 0 })) target ≡ true
conforms-read m target None h = absurd (false≢true h)
conforms-read m target (Some c) h = h

module _ (m : Metamodel) (doc : Doc) (f : FeatureNo) (g : Feature) (known : lookups.feature m f ≡ Some g) where
  kept-legal : (t : DataType) (unique unsettable : Bool) (default v : Value) → g.kind ≡ Attribute t unique unsettable default
      → (lookups.is_attribute_value m (shape m f).is_single t v ≡ true) × (legal.is_short v ≡ true) → is_legal_value m f v ≡ true
  kept-legal t unique unsettable default v kind kept =
      let single : (shape m f).is_single ≡ lookups.is_single g = ap (λ (a : Shape). a.is_single) (shape-is m f g known) ∙ ap (λ (k : Kind). (shape_of m f g k).is_single) kind in
      let keeps = ap (λ (o : Option Feature). option_map_or (λ y. lookups.is_of_attribute m (lookups.is_single y) y.kind v) o false) known ∙ ap (λ (k : Kind). lookups.is_of_attribute m (lookups.is_single g) k v) kind in
      and_from (lookups.keeps m f v) (legal.is_short v) (keeps ∙ ap (λ (b : Bool). lookups.is_attribute_value m b t v) (sym single) ∙ kept.0) kept.1

  kept-taken : (t : DataType) (unique unsettable : Bool) (default v : Value) → g.kind ≡ Attribute t unique unsettable default → IsKept m (shape m f).is_single t v → IsTaken m doc f v
  kept-taken t unique unsettable default (value.Object o) kind kept = absurd kept
  kept-taken t unique unsettable default (value.Proxy p) kind kept = tt
  kept-taken t unique unsettable default value.Null kind kept = kept-legal t unique unsettable default value.Null kind kept
  kept-taken t unique unsettable default (value.Bool b) kind kept = kept-legal t unique unsettable default (value.Bool b) kind kept
  kept-taken t unique unsettable default (value.Int n) kind kept = kept-legal t unique unsettable default (value.Int n) kind kept
  kept-taken t unique unsettable default (value.Text p) kind kept = kept-legal t unique unsettable default (value.Text p) kind kept
  kept-taken t unique unsettable default (value.Literal i) kind kept = kept-legal t unique unsettable default (value.Literal i) kind kept

  if-kept : (t : DataType) (unique unsettable : Bool) (default : Value) (o : Option Value) → g.kind ≡ Attribute t unique unsettable default → IfSome o (IsKept m (shape m f).is_single t) → IfSome o (IsTaken m doc f)
  if-kept t unique unsettable default None kind kept = tt
  if-kept t unique unsettable default (Some v) kind kept = kept-taken t unique unsettable default v kind kept

  -- an object that was read from a part that conforms to the target of a reference
  object-taken : (target : ClassNo) (containment : Bool) (opposite : Option FeatureNo) (n : ℕ) (q : Part) → g.kind ≡ Reference target containment opposite
      → class_in doc (record { 0 = n }) ≡ Some (unwrap_or (class_of m q.json) (record { 0 = 0 })) → conforms_to m target q.json ≡ true → IsTaken m doc f (object_of n)
  object-taken target containment opposite n q kind class conforms =
      ap (λ (o : Option Feature). option_map_or (λ y. lookups.is_of_kind m (class_in doc) (lookups.is_single y) y.kind (object_of n)) o (lookups.is_live_object (class_in doc) (object_of n))) known
      ∙ ap (λ (k : Kind). lookups.is_of_kind m (class_in doc) (lookups.is_single g) k (object_of n)) kind
      ∙ ap (λ (o : Option ClassNo). option_map_or (λ c. lookups.conforms m c target) o false) class
      ∙ conforms-read m target (class_of m q.json) conforms

---------------------------------------------------------------- the values of an entry

-- facts about an entry of a part: its content is of its type, and a step to a containment reference leads to a part that conforms
pub record IsEntry (m : Metamodel) (ps : List Part) (path : Path) (e : Entry) : Type 0 where
  pub content : is_content m e ≡ true
  pub contained : (n position : ℕ) (g : Feature) (target : ClassNo) (opposite : Option FeatureNo) → lookups.feature m e.feature ≡ Some g → g.kind ≡ Reference target true opposite
      → number_of ps (with_step path (step_to m e.feature position)) ≡ Some n → (q : Part) × (slice_get ps n ≡ Some q) × (conforms_to m target q.json ≡ true)

-- the objects of a document are of the classes of its parts
abbrev pub HasClasses : Metamodel → Doc → List Part → Type 0
HasClasses m doc ps = (n : ℕ) (q : Part) → slice_get ps n ≡ Some q → class_in doc (record { 0 = n }) ≡ Some (unwrap_or (class_of m q.json) (record { 0 = 0 }))

module _ (m : Metamodel) (b : Base) (ps : List Part) (doc : Doc) (classes : HasClasses m doc ps) (path : Path) (e : Entry) (fine : IsEntry m ps path e) (g : Feature) (known : lookups.feature m e.feature ≡ Some g) where
  found-taken : (target : ClassNo) (opposite : Option FeatureNo) (n : ℕ) (o : Option Part) → g.kind ≡ Reference target false opposite → slice_get ps n ≡ o
      → IfSome (o >>= (λ q. cond (conforms_to m target q.json) (Some (object_of n)) None)) (IsTaken m doc e.feature)
  found-taken target opposite n None kind at = tt
  found-taken target opposite n (Some q) kind at = by (conforms_to m target q.json) refl
    where
      by : (c : Bool) → conforms_to m target q.json ≡ c → IfSome (cond c (Some (object_of n)) None) (IsTaken m doc e.feature)
      by true h = object-taken m doc e.feature g known target false opposite n q kind (classes n q at) h
      by false h = tt

  here-taken : (target : ClassNo) (opposite : Option FeatureNo) (o : Option ℕ) → g.kind ≡ Reference target false opposite
      → IfSome (o >>= (λ n. slice_get ps n >>= (λ q. cond (conforms_to m target q.json) (Some (object_of n)) None))) (IsTaken m doc e.feature)
  here-taken target opposite None kind = tt
  here-taken target opposite (Some n) kind = found-taken target opposite n (slice_get ps n) kind refl

  led-taken : (class : ClassNo) (opposite : Option FeatureNo) (o : Option Referent) → g.kind ≡ Reference class false opposite → IfSome (o >>= led_to m ps class) (IsTaken m doc e.feature)
  led-taken class opposite None kind = tt
  led-taken class opposite (Some (Here q)) kind = here-taken class opposite (number_of ps q) kind
  led-taken class opposite (Some (Elsewhere t)) kind = tt

  part-taken : (class : ClassNo) (opposite : Option FeatureNo) (position : ℕ) (o : Option ℕ) → g.kind ≡ Reference class true opposite → number_of ps (with_step path (step_to m e.feature position)) ≡ o
      → IfSome (option_map object_of o) (IsTaken m doc e.feature)
  part-taken class opposite position None kind number = tt
  part-taken class opposite position (Some n) kind number =
      let q = fine.contained n position g class opposite known kind number in
      object-taken m doc e.feature g known class true opposite n q.0 kind (classes n q.0 q.1) q.2

  value-taken : (k : Kind) (v : ℕ × Data) → g.kind ≡ k → IfSome (value_of m b ps path e.feature k v) (IsTaken m doc e.feature)
  value-taken (Attribute t unique unsettable default) v kind =
      let single = (shape m e.feature).is_single in
      if-kept m doc e.feature g known t unique unsettable default (attribute_value m single t v.1) kind (attribute-kept m single t v.1)
  value-taken (Reference class true opposite) v kind = part-taken class opposite v.0 (number_of ps (with_step path (step_to m e.feature v.0))) kind refl
  value-taken (Reference class false opposite) v kind = led-taken class opposite (as_str v.1 >>= target b) kind

-- the feature of an entry takes the values that are read, except proxies
pub values-taken : (m : Metamodel) (b : Base) (ps : List Part) (doc : Doc) → HasClasses m doc ps → (path : Path) (e : Entry) → IsEntry m ps path e → AllByRecursion (IsTaken m doc e.feature) (values_read m b ps path e)
values-taken m b ps doc classes path e fine =
    let r = content-feature m e fine.content in
    let values = ap (λ (o : Option Feature). option_map_or (λ y. filter_map (value_of m b ps path e.feature y.kind) (enumerate_from 0 (values_of m e))) o []) r.1 in
    subst (AllByRecursion (IsTaken m doc e.feature)) (sym values)
    (if-some (IsTaken m doc e.feature) (value_of m b ps path e.feature r.0.kind) (enumerate_from 0 (values_of m e)) (λ v. value-taken m b ps doc classes path e fine r.0 r.1 r.0.kind v refl))
