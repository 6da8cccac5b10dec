-- The JSON that is written for a value of an attribute is read as that value.
use Rattle.std.proofs.Common.{◌≡◌, ◌∙◌, ◌&&◌, ◌^◌, ◌-◌, ◌<◌, ℕ, ℤ, pos, negsuc, neg_ℤ, int_le, int_lt, nat_lt, Bool, true, false, List, [], Option, Some, None, option_and_then, option_map, unwrap_or, if◌then◌else◌, refl, ap, arith}
use Rattle.std.specs.Option.{option_or}
use Rattle.std.proofs.lemmas.Bool.{and_parts, false≢true}
use Rattle.std.proofs.lemmas.Bool.Decides.{nat_tests}
use Rattle.serde_json.specs.Data.{Data, null, string}
use Rattle.serde_json.specs.Find.{as_i64, of_integer}
use Rattle.json_fields.specs.Fields.{◌such_that◌}
use Rattle.mm_types.specs.Integers.{is_of_bits}
use Rattle.mm_types.specs.Lookups as lookups
use Rattle.mm_types.specs.OfDocument.{IsOfDocument}
use Rattle.mm_types.specs.declared.feature.DataType.{DataType}
use Rattle.mm_types.specs.declared.feature.DataType.TheVariants.{EString, EInt, ELong, EBoolean, Enum}
use Rattle.mm_types.specs.declared.feature.Feature.{Feature}
use Rattle.mm_types.specs.declared.feature.Kind.{Kind}
use Rattle.mm_types.specs.declared.feature.Kind.TheVariants.{Attribute}
use Rattle.mm_types.specs.declared.numbers.FeatureNo.{FeatureNo}
use Rattle.mm_types.specs.declared.numbers.ObjectNo.{ObjectNo}
use Rattle.mm_types.specs.declared.numbers.ResourceNo.{ResourceNo}
use Rattle.mm_types.specs.declared.value.Value.{Value}
use Rattle.mm_types.specs.declared.value.Value.TheVariants as value
use Rattle.models.specs.Legal as legal
use Rattle.models.specs.Reading.{Reading}
use Rattle.doc_parts.specs.Contents.{attribute_value, is_short, text_value}
use Rattle.mm_types.specs.Lookups.{literal_in}
use Rattle.doc_writer.specs.Document.{value_data}
use Rattle.round_trip.proofs.LiteralLemmas.{literal-read}
use Rattle.round_trip.specs.Copied.{renamed_value}

---------------------------------------------------------------- numbers

low-number : (n b : ℕ) → b < 2 ^ 63 → int_le (pos n) (pos b) ≡ true → nat_lt n (2 ^ 63) ≡ true
low-number n b low h = grind (arith, nat_tests, low, h)

-- a number of 64 bits is read as it was
whole : (z : ℤ) → int_lt z (pos (2 ^ 63)) ≡ true → as_i64 (of_integer z) ≡ Some z
whole (pos n) h = ap (λ (b : Bool). if b then Some (pos n) else None) h
whole (negsuc n) h = refl

below-64 : (b : ℕ) → b < 2 ^ 63 → (z : ℤ) → int_le z (pos b) ≡ true → int_lt z (pos (2 ^ 63)) ≡ true
below-64 b low (pos n) h = low-number n b low h
below-64 b low (negsuc n) h = refl

-- a number of at most 64 bits is read as it was
int-read : (bits : ℕ) → 2 ^ (bits - 1) - 1 < 2 ^ 63 → (z : ℤ) → is_of_bits bits z ≡ true → (as_i64 (of_integer z) such_that is_of_bits bits) ≡ Some z
int-read bits low z h =
    let both = and_parts (int_le (neg_ℤ (pos (2 ^ (bits - 1)))) z) (int_le z (pos (2 ^ (bits - 1) - 1))) h in
    ap (λ (o : Option ℤ). o such_that is_of_bits bits) (whole z (below-64 (2 ^ (bits - 1) - 1) low z both.1)) ∙ ap (λ (b : Bool). if b then Some z else None) h

---------------------------------------------------------------- texts

null-read : (single : Bool) → (single && true) ≡ true → text_value single null ≡ Some value.Null
null-read true h = refl
null-read false h = absurd (false≢true h)

text-read : (single : Bool) (t : List ℕ) → is_short t ≡ true → text_value single (string t) ≡ Some (value.Text t)
text-read single t short =
    elim single as (λ b. option_or (if b then None else None) (option_map value.Text (if is_short t then Some t else None)) ≡ Some (value.Text t)) [
      | true ↦ ap (λ (b : Bool). option_map value.Text (if b then Some t else None)) short
      | false ↦ ap (λ (b : Bool). option_map value.Text (if b then Some t else None)) short
    ]

---------------------------------------------------------------- values

-- a value is read as it was, and stays the same in the document
pub record IsReadBack (r : Reading) (os : List ObjectNo) (single : Bool) (t : DataType) (d : Data) (v : Value) : Type 0 where
  pub reads : attribute_value r.metamodel single t d ≡ Some v
  pub same : renamed_value r os v ≡ v

no-null : (b : Bool) → (b && false) ≡ true → ⊥
no-null true h = false≢true h
no-null false h = false≢true h

module _ (r : Reading) (k : ResourceNo) (part : ObjectNo → Data) (os : List ObjectNo) (f : FeatureNo) (single : Bool) where
  abbrev IsBack : DataType → Value → Type 0
  IsBack t v = lookups.is_attribute_value r.metamodel single t v ≡ true → legal.is_short v ≡ true → IsReadBack r os single t (value_data r k part f v) v

  text-back : (v : Value) → IsBack EString v
  text-back value.Null typed short = record { reads = null-read single typed; same = refl }
  text-back (value.Text t) typed short = record { reads = text-read single t short; same = refl }
  text-back _ typed short = absurd (false≢true typed)

  int-back : (v : Value) → IsBack EInt v
  int-back value.Null typed short = absurd (no-null single typed)
  int-back (value.Int z) typed short = record { reads = ap (option_map value.Int) (int-read 32 (omega arith) z typed); same = refl }
  int-back _ typed short = absurd (false≢true typed)

  long-back : (v : Value) → IsBack ELong v
  long-back value.Null typed short = absurd (no-null single typed)
  long-back (value.Int z) typed short = record { reads = ap (option_map value.Int) (int-read 64 (omega arith) z typed); same = refl }
  long-back _ typed short = absurd (false≢true typed)

  bool-back : (v : Value) → IsBack EBoolean v
  bool-back value.Null typed short = absurd (no-null single typed)
  bool-back (value.Bool b) typed short = record { reads = refl; same = refl }
  bool-back _ typed short = absurd (false≢true typed)

  module _ (d : IsOfDocument r.metamodel) (g : Feature) (known : lookups.feature r.metamodel f ≡ Some g) where
    literal-back : (e : ℕ) (unique unsettable : Bool) (default : Value) → g.kind ≡ Attribute (Enum e) unique unsettable default → (v : Value) → IsBack (Enum e) v
    literal-back e unique unsettable default kind value.Null typed short = absurd (no-null single typed)
    literal-back e unique unsettable default kind (value.Literal i) typed short =
        let m = r.metamodel in
        let name = ap (λ (x : Option Feature). unwrap_or (option_and_then (λ y. literal_in m y.kind i) x) []) known ∙ ap (λ (x : Kind). unwrap_or (literal_in m x i) []) kind in
        record { reads = ap (λ (w : List ℕ). option_map value.Literal (lookups.literal_by_name m e w)) name ∙ ap (option_map value.Literal) (literal-read m d e i typed); same = refl }
    literal-back e unique unsettable default kind _ typed short = absurd (false≢true typed)

    pub attribute-back : (t : DataType) (unique unsettable : Bool) (default : Value) → g.kind ≡ Attribute t unique unsettable default → (v : Value) → IsBack t v
    attribute-back EString unique unsettable default kind v = text-back v
    attribute-back EInt unique unsettable default kind v = int-back v
    attribute-back ELong unique unsettable default kind v = long-back v
    attribute-back EBoolean unique unsettable default kind v = bool-back v
    attribute-back (Enum e) unique unsettable default kind v = literal-back e unique unsettable default kind v
