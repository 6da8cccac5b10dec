-- An attribute has neither objects nor proxies: its values are of its type, and so is its default. So only references have proxies.
use Rattle.std.proofs.Common.{◌≡◌, ◌∙◌, ℕ, zero, suc, Bool, true, false, All, IsTrue, List, [], ◌∷◌, ◌++◌, map, Option, Some, None, option_map, slice_get, slice_index_or, unwrap_or, if◌then◌else◌, refl, sym, ap, subst}
use Rattle.std.specs.Prelude.{◌&&◌, ℤ, option_and_then}
use Rattle.std.specs.List.{AllByRecursion, list_all}
use Rattle.std.specs.Option.{option_map_or}
use Rattle.std.specs.Str.{bytes_eq}
use Rattle.std.specs.Prelude.{codes}
use Rattle.std.proofs.lemmas.Bool.{and_parts, false≢true, true≢false}
use Rattle.std.proofs.lemmas.List.Elements.{All-head, All-tail}
use Rattle.std.proofs.lemmas.Option.{none-some, same_Some}
use Rattle.mm_types.specs.Integers.{integer, is_of_bits}
use Rattle.mm_types.specs.Lookups as lookups
use Rattle.mm_types.specs.OfDocument.{IsOfDocument}
use Rattle.mm_types.specs.Raw.{RawMetamodel}
use Rattle.mm_types.specs.Resolved.{Metamodel, default_of, features_from, literal_named, literal_value, resolved_feature, resolved_kind, resolved_metamodel, type_default}
use Rattle.mm_types.specs.Shapes.{contents_shape, shape, shape_of}
use Rattle.mm_types.specs.declared.class.Enumeration.{Enumeration}
use Rattle.mm_types.specs.declared.end.End.{End}
use Rattle.mm_types.specs.declared.feature.DataType.{DataType}
use Rattle.mm_types.specs.declared.feature.DataType.TheVariants.{EString, EInt, ELong, EBoolean, Enum}
use Rattle.mm_types.specs.declared.feature.Feature.{Feature}
use Rattle.mm_types.specs.declared.feature.Kind.{Kind}
use Rattle.mm_types.specs.declared.feature.Kind.TheVariants.{Attribute, Reference}
use Rattle.mm_types.specs.declared.numbers.ClassNo.{ClassNo}
use Rattle.mm_types.specs.declared.numbers.FeatureNo.{FeatureNo}
use Rattle.mm_types.specs.declared.numbers.Node.{Node}
use Rattle.mm_types.specs.declared.numbers.Node.TheVariants as node
use Rattle.mm_types.specs.declared.raw.RawClass.{RawClass}
use Rattle.mm_types.specs.declared.raw.RawFeature.{RawFeature}
use Rattle.mm_types.specs.declared.raw.RawKind.{RawKind}
use Rattle.mm_types.specs.declared.raw.RawKind.TheVariants as written
use Rattle.mm_types.specs.declared.value.Value.{Value}
use Rattle.mm_types.specs.declared.value.Value.TheVariants as value
use Rattle.mm_values.specs.Values.{ObjectState, object_at, stored_under}
use Rattle.links.specs.Links.{end}
use Rattle.models.specs.Legal.{IsLegal, IsLegalObject, is_legal_list, is_legal_value}
use Rattle.models.specs.Model.{Model, attribute_values, kept_values, values_at}

-- neither an object nor a proxy
abbrev pub is_plain : Value → Bool
is_plain (value.Object o) = false
is_plain (value.Proxy t) = false
is_plain _ = true

---------------------------------------------------------------- defaults

abbrev is_plain_option : Option Value → Bool
is_plain_option None = true
is_plain_option (Some v) = is_plain v

unwrap-plain : (x : Option Value) (d : Value) → is_plain_option x ≡ true → is_plain d ≡ true → is_plain (unwrap_or x d) ≡ true
unwrap-plain None d some none = none
unwrap-plain (Some v) d some none = some

type-plain : (t : DataType) → is_plain (type_default t) ≡ true
type-plain EString = refl
type-plain EInt = refl
type-plain ELong = refl
type-plain EBoolean = refl
type-plain (Enum e) = refl

literal-plain : (enums : List Enumeration) (t : DataType) (text : List ℕ) → is_plain_option (literal_value enums t text) ≡ true
literal-plain enums EString text = refl
literal-plain enums EInt text = by (integer text)
  where
    by_bits : (b : Bool) (z : ℤ) → is_plain_option (if b then Some (value.Int z) else None) ≡ true
    by_bits true z = refl
    by_bits false z = refl

    by : (x : Option ℤ) → is_plain_option (option_and_then (λ z. if is_of_bits 32 z then Some (value.Int z) else None) x) ≡ true
    by None = refl
    by (Some z) = by_bits (is_of_bits 32 z) z
literal-plain enums ELong text = by (integer text)
  where
    by : (x : Option ℤ) → is_plain_option (option_map value.Int x) ≡ true
    by None = refl
    by (Some z) = refl
literal-plain enums EBoolean text = by (bytes_eq text (codes "true")) (bytes_eq text (codes "false"))
  where
    by : (a b : Bool) → is_plain_option (if a then Some (value.Bool true) else (if b then Some (value.Bool false) else None)) ≡ true
    by true b = refl
    by false true = refl
    by false false = refl
literal-plain enums (Enum e) text = by (literal_named enums e text)
  where
    by : (x : Option ℕ) → is_plain_option (option_map value.Literal x) ≡ true
    by None = refl
    by (Some i) = refl

of-literal : (enums : List Enumeration) (t : DataType) (literal : Option (List ℕ)) → is_plain (default_of enums t literal) ≡ true
of-literal enums t None = type-plain t
of-literal enums t (Some text) = unwrap-plain (literal_value enums t text) (type_default t) (literal-plain enums t text) (type-plain t)

kind-plain : (raw : RawMetamodel) (name : List ℕ) (k : RawKind) → is_plain (lookups.kind_default (resolved_kind raw name k)) ≡ true
kind-plain raw name (written.Attribute unique unsettable default) = of-literal raw.enums _ default
kind-plain raw name (written.Reference containment opposite) = refl

abbrev HasPlainDefault : Feature → Type 0
HasPlainDefault g = is_plain (lookups.kind_default g.kind) ≡ true

own-plain : (raw : RawMetamodel) (c : ℕ) (fs : List RawFeature) (rest : List Feature) → AllByRecursion HasPlainDefault rest → AllByRecursion HasPlainDefault (map (resolved_feature raw c) fs ++ rest)
own-plain raw c [] rest all = all
own-plain raw c (f ∷ fs) rest all = (kind-plain raw f.type_name f.kind, own-plain raw c fs rest all)

all-plain : (raw : RawMetamodel) (c : ℕ) (ks : List RawClass) → AllByRecursion HasPlainDefault (features_from raw c ks)
all-plain raw c [] = tt
all-plain raw c (k ∷ ks) = own-plain raw c k.features (features_from raw (suc c) ks) (all-plain raw (suc c) ks)

document-plain : (m : Metamodel) → IsOfDocument m → AllByRecursion HasPlainDefault m.features
unfolding resolved_metamodel
document-plain m d = subst (λ (x : Metamodel). AllByRecursion HasPlainDefault x.features) (sym d.is) (all-plain d.raw 0 d.raw.classes)

at-plain : (gs : List Feature) (i : ℕ) (g : Feature) → AllByRecursion HasPlainDefault gs → slice_get gs i ≡ Some g → HasPlainDefault g
at-plain [] i g all at = absurd (none-some g at)
at-plain (h ∷ hs) zero g all at = subst HasPlainDefault (same_Some h g at) all.0
at-plain (h ∷ hs) (suc i) g all at = at-plain hs i g all.1 at

-- the default of a feature
pub default-plain : (m : Metamodel) → IsOfDocument m → (f : FeatureNo) → is_plain (shape m f).default ≡ true
default-plain m d f = by (lookups.feature m f) refl
  where
    by_kind : (g : Feature) (k : Kind) → is_plain (lookups.kind_default k) ≡ true → is_plain (shape_of m f g k).default ≡ true
    by_kind g (Attribute t unique unsettable default) h = h
    by_kind g (Reference target containment opposite) h = refl

    by : (x : Option Feature) → lookups.feature m f ≡ x → is_plain (option_map_or (λ g. shape_of m f g g.kind) x (contents_shape m)).default ≡ true
    by None is = refl
    by (Some g) is = by_kind g g.kind (at-plain m.features f.0 g (document-plain m d) is)

---------------------------------------------------------------- what is kept

typed-plain : (m : Metamodel) (single : Bool) (t : DataType) (v : Value) → lookups.is_attribute_value m single t v ≡ true → is_plain v ≡ true
typed-plain m single EString (value.Object o) h = absurd (false≢true h)
typed-plain m single EInt (value.Object o) h = absurd (false≢true h)
typed-plain m single ELong (value.Object o) h = absurd (false≢true h)
typed-plain m single EBoolean (value.Object o) h = absurd (false≢true h)
typed-plain m single (Enum e) (value.Object o) h = absurd (false≢true h)
typed-plain m single EString (value.Proxy u) h = absurd (false≢true h)
typed-plain m single EInt (value.Proxy u) h = absurd (false≢true h)
typed-plain m single ELong (value.Proxy u) h = absurd (false≢true h)
typed-plain m single EBoolean (value.Proxy u) h = absurd (false≢true h)
typed-plain m single (Enum e) (value.Proxy u) h = absurd (false≢true h)
typed-plain m single t value.Null h = refl
typed-plain m single t (value.Bool b) h = refl
typed-plain m single t (value.Int z) h = refl
typed-plain m single t (value.Text u) h = refl
typed-plain m single t (value.Literal i) h = refl

keeps-plain : (m : Metamodel) (f : FeatureNo) (v : Value) → lookups.keeps m f v ≡ true → is_plain v ≡ true
keeps-plain m f v = by (lookups.feature m f)
  where
    by_kind : (single : Bool) (k : Kind) → lookups.is_of_attribute m single k v ≡ true → is_plain v ≡ true
    by_kind single (Attribute t unique unsettable default) h = typed-plain m single t v h
    by_kind single (Reference target containment opposite) h = absurd (false≢true h)

    by : (x : Option Feature) → option_map_or (λ g. lookups.is_of_attribute m (lookups.is_single g) g.kind v) x false ≡ true → is_plain v ≡ true
    by None h = absurd (false≢true h)
    by (Some g) h = by_kind (lookups.is_single g) g.kind h

values-plain : (m : Metamodel) (f : FeatureNo) (vs : List Value) → list_all (is_legal_value m f) vs ≡ true → list_all is_plain vs ≡ true
values-plain m f [] h = refl
values-plain m f (v ∷ vs) h =
    let both = and_parts _ _ h in
    let one = keeps-plain m f v (and_parts _ _ both.0).0 in
    let rest = values-plain m f vs both.1 in
    λ i. one i && rest i

list-plain : (m : Metamodel) (c : ClassNo) (f : FeatureNo) (vs : List Value) → IsTrue (is_legal_list m c f vs) → list_all is_plain vs ≡ true
list-plain m c f [] h = refl
list-plain m c f (v ∷ vs) h = values-plain m f (v ∷ vs) (and_parts _ _ (and_parts _ _ h).1).0

object-plain : (m : Metamodel) (f : FeatureNo) (x : Option ObjectState) → IsLegalObject m x → list_all is_plain (unwrap_or (option_map (λ y. (stored_under y f).list) x) []) ≡ true
object-plain m f None legal = refl
object-plain m f (Some y) legal = list-plain m y.class f (stored_under y f).list (legal.1 f).values

pub object-legal : (m : Metamodel) (os : List (Option ObjectState)) (i : ℕ) → All (IsLegalObject m) os → IsLegalObject m (slice_index_or os i None)
object-legal m [] i all = tt
object-legal m (o ∷ os) zero all = All-head (IsLegalObject m) o os all
object-legal m (o ∷ os) (suc i) all = object-legal m os i (All-tail (IsLegalObject m) o os all)

kept-plain : (s : Model) → IsLegal s → (n : Node) (f : FeatureNo) → list_all is_plain (kept_values s.values n f) ≡ true
kept-plain s legal (node.Object o) f = object-plain s.metamodel f (object_at s.values.objects o) (object-legal s.metamodel s.values.objects o.0 legal.objects)
kept-plain s legal (node.Resource k) f = refl

shown-plain : (s : Model) → IsLegal s → (f : FeatureNo) (vs : List Value) → list_all is_plain vs ≡ true → list_all is_plain (attribute_values (shape s.metamodel f) vs) ≡ true
shown-plain s legal f (v ∷ vs) all = all
shown-plain s legal f [] all = by (shape s.metamodel f).is_single
  where
    by : (b : Bool) → list_all is_plain (if b then (shape s.metamodel f).default ∷ [] else []) ≡ true
    by true = ap (λ (c : Bool). c && true) (default-plain s.metamodel legal.metamodel f)
    by false = refl

-- the values of an attribute are no proxies
pub attribute-plain : (s : Model) → IsLegal s → (e : End) → (shape s.metamodel e.feature).is_reference ≡ false → list_all is_plain (values_at s e) ≡ true
attribute-plain s legal e attribute =
    ap (λ (b : Bool). list_all is_plain (if b then end s.links e else attribute_values (shape s.metamodel e.feature) (kept_values s.values e.node e.feature))) attribute
    ∙ shown-plain s legal e.feature (kept_values s.values e.node e.feature) (kept-plain s legal e.node e.feature)

plain-at : (vs : List Value) (i : ℕ) (v : Value) → list_all is_plain vs ≡ true → slice_get vs i ≡ Some v → is_plain v ≡ true
plain-at [] i v all at = absurd (none-some v at)
plain-at (w ∷ ws) zero v all at = subst (λ (x : Value). is_plain x ≡ true) (same_Some w v at) (and_parts _ _ all).0
plain-at (w ∷ ws) (suc i) v all at = plain-at ws i v (and_parts _ _ all).1 at

-- a proxy is under a reference
pub reference-of : (s : Model) → IsLegal s → (e : End) (i : ℕ) (v : Value) → slice_get (values_at s e) i ≡ Some v → is_plain v ≡ false → (shape s.metamodel e.feature).is_reference ≡ true
reference-of s legal e i v at other =
    elim (shape s.metamodel e.feature).is_reference as (λ b. (shape s.metamodel e.feature).is_reference ≡ b → b ≡ true) [
      | true ↦ λ _. refl
      | false ↦ λ attribute. absurd (true≢false (sym (plain-at (values_at s e) i v (attribute-plain s legal e attribute) at) ∙ other))
    ] refl
