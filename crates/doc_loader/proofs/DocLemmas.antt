-- Facts about a content of a document that is read, by the shape of its feature.
use Rattle.std.proofs.Common.{◌≡◌, ◌∙◌, ℕ, zero, suc, Bool, true, false, cond, List, [], ◌∷◌, Option, Some, None, refl, sym, ap, subst}
use Rattle.std.specs.Prelude.{IfSome, filter_map, option_map, slice_get}
use Rattle.std.specs.List.{AllByRecursion, enumerate_from, list_any}
use Rattle.std.specs.Option.{option_map_or, option_or}
use Rattle.std.proofs.lemmas.Bool.{false≢true, or_parts, true≢false}
use Rattle.std.proofs.lemmas.Option.{none-some, same_Some}
use Rattle.serde_json.specs.Data.{Data}
use Rattle.serde_json.specs.Find.{as_bool, as_null, as_str}
use Rattle.mm_types.specs.Lookups as lookups
use Rattle.mm_types.specs.Resolved.{Metamodel}
use Rattle.mm_types.specs.Same.{is_nil, same_value}
use Rattle.mm_types.specs.SameValues.{same_value-self}
use Rattle.mm_types.specs.Shapes.{Shape, contents_shape, shape, shape_of}
use Rattle.mm_types.specs.declared.feature.DataType.{DataType}
use Rattle.mm_types.specs.declared.feature.DataType.TheVariants.{EString, EInt, ELong, EBoolean, Enum}
use Rattle.mm_types.specs.declared.feature.Feature.{Feature}
use Rattle.mm_types.specs.declared.feature.Kind.{Kind}
use Rattle.mm_types.specs.declared.feature.Kind.TheVariants.{Attribute, Reference}
use Rattle.mm_types.specs.declared.numbers.ClassNo.{ClassNo}
use Rattle.mm_types.specs.declared.numbers.FeatureNo.{FeatureNo}
use Rattle.mm_types.specs.declared.numbers.ObjectNo.{ObjectNo}
use Rattle.mm_types.specs.declared.value.Value.{Value}
use Rattle.mm_types.specs.declared.value.Value.TheVariants as value
use Rattle.links.specs.LegalSets.{IsDistinct}
use Rattle.web_uris.specs.Paths.{with_step}
use Rattle.web_uris.specs.declared.path.Path.{Path}
use Rattle.web_uris.specs.declared.path.Step.{Step}
use Rattle.json_fields.specs.Fields.{◌>>=◌, ◌such_that◌, whole_number, whole_number_of_64}
use Rattle.doc_parts.specs.Contents.{attribute_value, conforms_to, is_short}
use Rattle.doc_parts.specs.Parts.{Entry, Part, number_of, step_to, values_of}
use Rattle.resource_docs.specs.Causes.{repeats_value}
use Rattle.resource_docs.specs.Read.{values_read}
use Rattle.resource_docs.specs.Texts.{Base, target}
use Rattle.resource_docs.specs.Values.{led_to, object_of, value_of}
use Rattle.resource_docs.specs.declared.referent.Referent.{Referent}
use Rattle.resource_docs.specs.declared.referent.Referent.TheVariants.{Here, Elsewhere}
use Rattle.doc_loader.proofs.PairLemmas.{all-at, all-every, all-filter_map, all-more}
use Rattle.doc_loader.proofs.SoundLemmas.{IsSort, all-none, filter_map-at}

---------------------------------------------------------------- kinds of values

abbrev pub IsPlain : Value → Type 0
IsPlain (value.Object o) = ⊥
IsPlain (value.Proxy t) = ⊥
IsPlain _ = Unit {0}

mapped-plain : {X : Type 0} (f : X → Value) (o : Option X) → ((x : X) → IsPlain (f x)) → IfSome (option_map f o) IsPlain
mapped-plain f None each = tt
mapped-plain f (Some x) each = each x

either-plain : (o p : Option Value) → IfSome o IsPlain → IfSome p IsPlain → IfSome (option_or o p) IsPlain
either-plain None p a b = b
either-plain (Some v) p a b = a

null-plain : (single : Bool) (o : Option (Unit {0})) → IfSome (cond single (option_map (λ x. value.Null) o) None) IsPlain
null-plain false o = tt
null-plain true None = tt
null-plain true (Some x) = tt

pub attribute-plain : (m : Metamodel) (single : Bool) (t : DataType) (d : Data) → IfSome (attribute_value m single t d) IsPlain
attribute-plain m single EString d =
    either-plain (cond single (option_map (λ x. value.Null) (as_null d)) None) (option_map value.Text (as_str d such_that is_short)) (null-plain single (as_null d)) (mapped-plain value.Text (as_str d such_that is_short) (λ x. tt))
attribute-plain m single EInt d = mapped-plain value.Int (whole_number d) (λ x. tt)
attribute-plain m single ELong d = mapped-plain value.Int (whole_number_of_64 d) (λ x. tt)
attribute-plain m single EBoolean d = mapped-plain value.Bool (as_bool d) (λ x. tt)
attribute-plain m single (Enum e) d = mapped-plain value.Literal (as_str d >>= lookups.literal_by_name m e) (λ x. tt)

plain-sort : (m : Metamodel) (f : FeatureNo) (g : Feature) (t : DataType) (unique unsettable : Bool) (default v : Value) → IsPlain v → IsSort (shape_of m f g (Attribute t unique unsettable default)) v
plain-sort m f g t unique unsettable default (value.Object o) h = absurd h
plain-sort m f g t unique unsettable default (value.Proxy p) h = absurd h
plain-sort m f g t unique unsettable default value.Null h = refl
plain-sort m f g t unique unsettable default (value.Bool b) h = refl
plain-sort m f g t unique unsettable default (value.Int n) h = refl
plain-sort m f g t unique unsettable default (value.Text p) h = refl
plain-sort m f g t unique unsettable default (value.Literal i) h = refl

-- an object or a proxy
abbrev IsLinked : Value → Type 0
IsLinked (value.Object o) = Unit {0}
IsLinked (value.Proxy t) = Unit {0}
IsLinked _ = ⊥

-- a property of each object of the document, and of the proxy of each target elsewhere, holds for the value to which a target leads
module _ (P : Value → Type 0) (each : (n : ℕ) → P (object_of n)) (m : Metamodel) (ps : List Part) (class : ClassNo) where
  found-each : (n : ℕ) (o : Option Part) → IfSome (o >>= (λ q. cond (conforms_to m class q.json) (Some (object_of n)) None)) P
  found-each n None = tt
  found-each n (Some q) = by (conforms_to m class q.json)
    where
      by : (b : Bool) → IfSome (cond b (Some (object_of n)) None) P
      by true = each n
      by false = tt

  here-each : (o : Option ℕ) → IfSome (o >>= (λ n. slice_get ps n >>= (λ q. cond (conforms_to m class q.json) (Some (object_of n)) None))) P
  here-each None = tt
  here-each (Some n) = found-each n (slice_get ps n)

  pub led-each : (o : Option Referent) → ((t : List ℕ) → o ≡ Some (Elsewhere t) → P (value.Proxy t)) → IfSome (o >>= led_to m ps class) P
  led-each None elsewhere = tt
  led-each (Some (Here q)) elsewhere = here-each (number_of ps q)
  led-each (Some (Elsewhere t)) elsewhere = elsewhere t refl

led-linked : (m : Metamodel) (ps : List Part) (class : ClassNo) (o : Option Referent) → IfSome (o >>= led_to m ps class) IsLinked
led-linked m ps class o = led-each IsLinked (λ n. tt) m ps class o (λ t is. tt)

pub if-some : {X Y : Type 0} (P : Y → Type 0) (h : X → Option Y) (xs : List X) → ((x : X) → IfSome (h x) P) → AllByRecursion P (filter_map h xs)
if-some {X} {Y} P h xs each =
    all-filter_map (λ x. Unit {0}) P h xs (λ x y u is. subst (λ (o : Option Y). IfSome o P) is (each x)) (all-every (λ x. Unit {0}) xs (λ x. tt))

linked-sort : (m : Metamodel) (f : FeatureNo) (g : Feature) (class : ClassNo) (opposite : Option FeatureNo) (v : Value) → lookups.is_container m f ≡ false → IsLinked v → IsSort (shape_of m f g (Reference class false opposite)) v
linked-sort m f g class opposite (value.Object o) plain h = refl
linked-sort m f g class opposite (value.Proxy t) plain h = (refl, ap (λ (b : Bool). cond b opposite None) plain)
linked-sort m f g class opposite value.Null plain h = absurd h
linked-sort m f g class opposite (value.Bool b) plain h = absurd h
linked-sort m f g class opposite (value.Int n) plain h = absurd h
linked-sort m f g class opposite (value.Text p) plain h = absurd h
linked-sort m f g class opposite (value.Literal i) plain h = absurd h

---------------------------------------------------------------- one content

number-of-object : (o : Option ℕ) (b : ObjectNo) → option_map object_of o ≡ Some (value.Object b) → o ≡ Some b.0
number-of-object None b h = absurd (none-some (value.Object b) h)
number-of-object (Some n) b h = let e = same_Some (object_of n) (value.Object b) h in ap Some (same-number n b e)
  where
    same-number : (n : ℕ) (b : ObjectNo) → object_of n ≡ value.Object b → n ≡ b.0
    same-number n b e = ap number e
      where
        number : Value → ℕ
        number (value.Object o) = o.0
        number _ = 0

-- facts about a content that was read from an entry, by the shape of its feature
pub record IsKnown (m : Metamodel) (ps : List Part) (path : Path) (f : FeatureNo) (vs : List Value) : Type 0 where
  pub plain : (h : FeatureNo) → (shape m f).containing ≡ Some h → h ≡ f
  pub sorts : AllByRecursion (IsSort (shape m f)) vs
  pub unique : (shape m f).is_reference ≡ true → (shape m f).is_unique ≡ true
  pub numbers : (h : FeatureNo) (k : ℕ) (b : ObjectNo) → (shape m f).containing ≡ Some h → slice_get vs k ≡ Some (value.Object b)
      → (s : Step) × (s.name ≡ lookups.feature_name m f) × (number_of ps (with_step path s) ≡ Some b.0)

module _ (m : Metamodel) (b : Base) (ps : List Part) (path : Path) (e : Entry) (not_container : lookups.is_container m e.feature ≡ false) where
  abbrev vs_of : Kind → List Value
  vs_of k = filter_map (value_of m b ps path e.feature k) (enumerate_from 0 (values_of m e))

  plain-of : (g : Feature) (k : Kind) (h : FeatureNo) → (shape_of m e.feature g k).containing ≡ Some h → h ≡ e.feature
  plain-of g (Attribute t unique unsettable default) h q = absurd (none-some h q)
  plain-of g (Reference class true opposite) h q = sym (same_Some e.feature h q)
  plain-of g (Reference class false opposite) h q = absurd (none-some h (sym (ap (λ (x : Bool). cond x opposite None) not_container) ∙ q))

  sorts-of : (g : Feature) (k : Kind) → AllByRecursion (IsSort (shape_of m e.feature g k)) (vs_of k)
  sorts-of g (Attribute t unique unsettable default) =
      all-more IsPlain (IsSort (shape_of m e.feature g (Attribute t unique unsettable default))) (vs_of (Attribute t unique unsettable default)) (plain-sort m e.feature g t unique unsettable default)
      (if-some IsPlain (value_of m b ps path e.feature (Attribute t unique unsettable default)) (enumerate_from 0 (values_of m e)) (λ v. attribute-plain m (shape m e.feature).is_single t v.1))
  sorts-of g (Reference class true opposite) =
      if-some (IsSort (shape_of m e.feature g (Reference class true opposite))) (value_of m b ps path e.feature (Reference class true opposite)) (enumerate_from 0 (values_of m e))
      (λ v. object-sort (number_of ps (with_step path (step_to m e.feature v.0))))
    where
      object-sort : (o : Option ℕ) → IfSome (option_map object_of o) (IsSort (shape_of m e.feature g (Reference class true opposite)))
      object-sort None = tt
      object-sort (Some n) = refl
  sorts-of g (Reference class false opposite) =
      all-more IsLinked (IsSort (shape_of m e.feature g (Reference class false opposite))) (vs_of (Reference class false opposite)) (λ v. linked-sort m e.feature g class opposite v not_container)
      (if-some IsLinked (value_of m b ps path e.feature (Reference class false opposite)) (enumerate_from 0 (values_of m e)) (λ v. led-linked m ps class (as_str v.1 >>= target b)))

  unique-of : (g : Feature) (k : Kind) → (shape_of m e.feature g k).is_reference ≡ true → (shape_of m e.feature g k).is_unique ≡ true
  unique-of g (Attribute t unique unsettable default) q = absurd (false≢true q)
  unique-of g (Reference class containment opposite) q = refl

  numbers-of : (g : Feature) (k : Kind) (h : FeatureNo) (i : ℕ) (o : ObjectNo) → (shape_of m e.feature g k).containing ≡ Some h → slice_get (vs_of k) i ≡ Some (value.Object o)
      → (s : Step) × (s.name ≡ lookups.feature_name m e.feature) × (number_of ps (with_step path s) ≡ Some o.0)
  numbers-of g (Attribute t unique unsettable default) h i o q at = absurd (none-some h q)
  numbers-of g (Reference class true opposite) h i o q at =
      let r = filter_map-at (value_of m b ps path e.feature (Reference class true opposite)) (enumerate_from 0 (values_of m e)) i (value.Object o) at in
      (step_to m e.feature r.1.0, refl, number-of-object (number_of ps (with_step path (step_to m e.feature r.1.0))) o r.3)
  numbers-of g (Reference class false opposite) h i o q at = absurd (none-some h (sym (ap (λ (x : Bool). cond x opposite None) not_container) ∙ q))

  pub known-of : is_nil (values_read m b ps path e) ≡ false → IsKnown m ps path e.feature (values_read m b ps path e)
  known-of = by (lookups.feature m e.feature) refl
    where
      by : (o : Option Feature) → lookups.feature m e.feature ≡ o → is_nil (values_read m b ps path e) ≡ false → IsKnown m ps path e.feature (values_read m b ps path e)
      by None is some = absurd (true≢false (sym (ap (λ (x : Option Feature). is_nil (option_map_or (λ g. vs_of g.kind) x [])) is) ∙ some))
      by (Some g) is some =
          let shapes : shape m e.feature ≡ shape_of m e.feature g g.kind = ap (λ (x : Option Feature). option_map_or (λ y. shape_of m e.feature y y.kind) x (contents_shape m)) is in
          let values : values_read m b ps path e ≡ vs_of g.kind = ap (λ (x : Option Feature). option_map_or (λ y. vs_of y.kind) x []) is in
          record {
            plain = (λ h q. plain-of g g.kind h (sym (ap (λ (x : Shape). x.containing) shapes) ∙ q));
            sorts = subst (λ (x : Shape). AllByRecursion (IsSort x) (values_read m b ps path e)) (sym shapes) (subst (λ (vs : List Value). AllByRecursion (IsSort (shape_of m e.feature g g.kind)) vs) (sym values) (sorts-of g g.kind));
            unique = (λ q. ap (λ (x : Shape). x.is_unique) shapes ∙ unique-of g g.kind (sym (ap (λ (x : Shape). x.is_reference) shapes) ∙ q));
            numbers = (λ h i o q at. numbers-of g g.kind h i o (sym (ap (λ (x : Shape). x.containing) shapes) ∙ q) (sym (ap (λ (vs : List Value). slice_get vs i) values) ∙ at));
          }

---------------------------------------------------------------- repeats

pub repeats-none : (vs : List Value) → repeats_value vs ≡ false → IsDistinct vs
repeats-none [] h j k v a b = absurd (none-some v a)
repeats-none (x ∷ xs) h zero zero v a b = refl
repeats-none (x ∷ xs) h zero (suc k) v a b =
    let r = or_parts (list_any (same_value x) xs) (repeats_value xs) h in
    let other = all-at (λ y. same_value x y ≡ false) xs k v (all-none (same_value x) xs r.0) b in
    absurd (true≢false (sym (subst (λ (y : Value). same_value x y ≡ true) (same_Some x v a) (same_value-self x)) ∙ other))
repeats-none (x ∷ xs) h (suc j) zero v a b =
    let r = or_parts (list_any (same_value x) xs) (repeats_value xs) h in
    let other = all-at (λ y. same_value x y ≡ false) xs j v (all-none (same_value x) xs r.0) a in
    absurd (true≢false (sym (subst (λ (y : Value). same_value x y ≡ true) (same_Some x v b) (same_value-self x)) ∙ other))
repeats-none (x ∷ xs) h (suc j) (suc k) v a b = ap suc (repeats-none xs (or_parts (list_any (same_value x) xs) (repeats_value xs) h).1 j k v a b)
