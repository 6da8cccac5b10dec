-- A feature is of one kind: an attribute is no reference, and a feature without the word is no attribute.
use Rattle.std.proofs.Common.{◌≡◌, Bool, true, false, List, Option, Some, None, ℕ, ap, bytes_eq, cond, refl, sym, true≢false}
use Rattle.std.proofs.lemmas.Slice.Eq.{bytes_eq-Decides}
use Rattle.std.specs.Prelude.{Result, Ok, Err, codes, is_some, option_and_then}
use Rattle.std.specs.Option.{option_or}
use Rattle.serde_json.specs.Data.{Data, null, boolean, number, string, array, object}
use Rattle.serde_json.specs.Find.{get}
use Rattle.mm_load.specs.Layout.{attribute, attribute_fields, feature_fields, new_feature, reference, reference_fields, unsets_one}
use Rattle.json_fields.specs.Fields.{Gives, Fields, ◌also◌, ◌such_that◌, has_only, makes, object_of, required_at, word}
use Rattle.json_fields.specs.declared.read_fault.ReadFault.{ReadFault}
use Rattle.json_fields.specs.declared.read_fault.ReadFault.TheVariants.{Layout, Memory}

abbrev none : (B : Type 0) → Option B
none B = None

nothing : {A B : Type 0} (b : Bool) (o : Option (A → B)) → cond b (option_and_then (λ f. option_and_then (λ a. Some (f a)) (none A)) o) None ≡ none B
nothing true None = refl
nothing true (Some f) = refl
nothing false o = refl

-- if one of the fields can't be read, the object can't be read
object_lacks : {A B : Type 0} (fields : Fields (A → B)) (field : Fields A) (d : Data) → field.reading d ≡ None → object_of (fields also field) d ≡ None
object_lacks fields field d h = rw h (nothing (has_only (fields also field).keys d) (fields.reading d))

none_if_not : {X : Type 0} (o : Option X) → is_some o ≡ false → o ≡ None
none_if_not None h = refl
none_if_not (Some x) h = absurd (true≢false h)

-- without the word the object is no attribute
pub no_attribute : (d : Data) → is_some (required_at (codes "kind") (word (codes "attribute")) d) ≡ false → attribute d ≡ None
unfolding attribute
no_attribute d h =
    let e = none_if_not _ h in
    let r : attribute_fields.reading d ≡ None = rw e refl in
    ap (λ o. o such_that unsets_one) (object_lacks (makes new_feature also feature_fields) attribute_fields d r)

chosen_one : (w v s : List ℕ) (b : Bool) → bytes_eq s w ≡ b → bytes_eq w v ≡ false → is_some {T = Unit {0}} (cond b (Some tt) None) ≡ true → word v (string s) ≡ None
chosen_one w v s true is apart h = rw ((bytes_eq-Decides s w).0 is, apart) refl
chosen_one w v s false is apart h = absurd (true≢false (sym h))

one_word : (w v : List ℕ) (d : Data) → bytes_eq w v ≡ false → is_some (word w d) ≡ true → word v d ≡ None
one_word w v null apart h = refl
one_word w v (boolean b) apart h = refl
one_word w v (number n) apart h = refl
one_word w v (string s) apart h = chosen_one w v s _ refl apart h
one_word w v (array ds) apart h = refl
one_word w v (object ms) apart h = refl

one_word_at : (w v : List ℕ) (o : Option Data) → bytes_eq w v ≡ false → is_some (option_and_then (word w) o) ≡ true → option_and_then (word v) o ≡ None
one_word_at w v None apart h = refl
one_word_at w v (Some d) apart h = one_word w v d apart h

-- with the word the object is no reference
pub no_reference : (d : Data) → is_some (required_at (codes "kind") (word (codes "attribute")) d) ≡ true → reference d ≡ None
unfolding reference
no_reference d h =
    let e = one_word_at (codes "attribute") (codes "reference") (get (codes "kind") d) refl h in
    let r : reference_fields.reading d ≡ None = rw e refl in
    object_lacks (makes new_feature also feature_fields) reference_fields d r

pub gives_first : {X : Type 0} (r : Result X ReadFault) (p q : Option X) → Gives r p → q ≡ None → Gives r (option_or p q)
gives_first (Ok x) p q h e = rw h refl
gives_first (Err Layout) p q h e = rw (h, e) refl
gives_first (Err Memory) p q h e = tt

pub gives_second : {X : Type 0} (r : Result X ReadFault) (p q : Option X) → p ≡ None → Gives r q → Gives r (option_or p q)
gives_second r p q e h = rw e h
