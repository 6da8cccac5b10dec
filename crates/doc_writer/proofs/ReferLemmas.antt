-- The features by which an object refers to others: an attribute has no objects, and contained objects are written in place.
use Rattle.std.proofs.Common.{◌≡◌, ◌∙◌, ◌&&◌, ◌||◌, Bool, true, false, cond, List, [], ◌∷◌, ap, filter, refl, sym}
use Rattle.std.specs.Prelude.{not}
use Rattle.std.specs.List.{list_all, list_any}
use Rattle.std.proofs.lemmas.Bool.{false≢true, true≢false}
use Rattle.mm_types.specs.Shapes.{is_containment, shape}
use Rattle.mm_types.specs.declared.numbers.FeatureNo.{FeatureNo}
use Rattle.mm_types.specs.declared.numbers.Node.TheVariants as node
use Rattle.mm_types.specs.declared.numbers.ObjectNo.{ObjectNo}
use Rattle.mm_types.specs.declared.value.Value.{Value}
use Rattle.mm_types.specs.declared.value.Value.TheVariants as value
use Rattle.models.specs.Legal.{IsLegal}
use Rattle.models.specs.Model.{Model, reading}
use Rattle.models.specs.Reading.{at_end, is_set, objects_of}
use Rattle.doc_writer.specs.References.{may_refer}
use Rattle.doc_writer.specs.Saved.{dangles_by, is_dangling, targets_under}
use Rattle.doc_writer.specs.Written.{is_writable, is_written}
use Rattle.doc_writer.proofs.PlainLemmas.{attribute-plain, is_plain}

plain-none : (p : ObjectNo → Bool) (vs : List Value) → list_all is_plain vs ≡ true → list_any p (objects_of vs) ≡ false
plain-none p [] h = refl
plain-none p (value.Object o ∷ vs) h = absurd (false≢true h)
plain-none p (value.Proxy t ∷ vs) h = absurd (false≢true h)
plain-none p (_ ∷ vs) h = plain-none p vs h

-- whether a feature is a reference, a containment, and written; and whether one of its objects dangles
none-by : (refers contains is dangles : Bool) → (refers && (not contains && is)) ≡ false → (refers ≡ false → dangles ≡ false) → (is && (not contains && dangles)) ≡ false
none-by true true true d h off = refl
none-by true true false d h off = refl
none-by true false true d h off = absurd (true≢false h)
none-by true false false d h off = refl
none-by false true true d h off = refl
none-by false true false d h off = refl
none-by false false true d h off = off refl
none-by false false false d h off = refl

all-by : (refers contains writable is dangles : Bool) → (refers && (not contains && writable)) ≡ true → is ≡ true → ((is && writable) && (not contains && dangles)) ≡ dangles
all-by true true writable is d h set = absurd (false≢true h)
all-by true false true true d h set = refl
all-by true false true false d h set = absurd (false≢true set)
all-by true false false is d h set = absurd (false≢true h)
all-by false contains writable is d h set = absurd (false≢true h)

-- what is no reference of this kind is not written as one
none-written : (refers contains writable is : Bool) → (refers && (not contains && writable)) ≡ false → (refers && (not contains && (is && writable))) ≡ false
none-written true true writable is h = refl
none-written true false true is h = absurd (true≢false h)
none-written true false false true h = refl
none-written true false false false h = refl
none-written false contains writable is h = refl

-- an object refers to nothing by a feature that is not written as references
unreferring : (s : Model) → IsLegal s → (o : ObjectNo) (f : FeatureNo) → ((shape s.metamodel f).is_reference && (not (is_containment s.metamodel f) && is_written (reading s) o f)) ≡ false → dangles_by (reading s) o f ≡ false
unreferring s legal o f h =
    none-by (shape s.metamodel f).is_reference (is_containment s.metamodel f) (is_written (reading s) o f) (list_any (is_dangling (reading s)) (targets_under (reading s) o f)) h
    (λ attribute. plain-none (is_dangling (reading s)) ((reading s).values (at_end (node.Object o) f)) (attribute-plain s legal (at_end (node.Object o) f) attribute))

-- objects that may refer to none by a feature do not
pub none-referred : (s : Model) → IsLegal s → (o : ObjectNo) (f : FeatureNo) → may_refer s.metamodel f ≡ false → dangles_by (reading s) o f ≡ false
none-referred s legal o f h =
    unreferring s legal o f (none-written (shape s.metamodel f).is_reference (is_containment s.metamodel f) (is_writable s.metamodel f) (is_set (reading s) (at_end (node.Object o) f)) h)

-- by a feature that is not set an object refers to none
pub none-set : (s : Model) (o : ObjectNo) (f : FeatureNo) → is_set (reading s) (at_end (node.Object o) f) ≡ false → dangles_by (reading s) o f ≡ false
none-set s o f off =
    ap (λ (b : Bool). (b && is_writable s.metamodel f) && (not (is_containment s.metamodel f) && list_any (is_dangling (reading s)) (targets_under (reading s) o f))) off

-- by a feature that is set an object refers to all objects at the end
pub referring : (s : Model) (o : ObjectNo) (f : FeatureNo) → may_refer s.metamodel f ≡ true → is_set (reading s) (at_end (node.Object o) f) ≡ true
    → dangles_by (reading s) o f ≡ list_any (is_dangling (reading s)) (targets_under (reading s) o f)
referring s o f h set =
    all-by (shape s.metamodel f).is_reference (is_containment s.metamodel f) (is_writable s.metamodel f) (is_set (reading s) (at_end (node.Object o) f)) (list_any (is_dangling (reading s)) (targets_under (reading s) o f)) h set

any-left : (w p : FeatureNo → Bool) → ((f : FeatureNo) → w f ≡ false → p f ≡ false) → (fs : List FeatureNo) → list_any p (filter w fs) ≡ list_any p fs
any-left w p none [] = refl
any-left w p none (f ∷ fs) = by (w f) refl (any-left w p none fs)
  where
    by : (b : Bool) → w f ≡ b → list_any p (filter w fs) ≡ list_any p fs → list_any p (cond b (f ∷ filter w fs) (filter w fs)) ≡ (p f || list_any p fs)
    by true is rest = ap (λ c. p f || c) rest
    by false is rest = rest ∙ ap (λ c. c || list_any p fs) (sym (none f is))

-- only the features by which objects may refer to others count
pub dangling-left : (s : Model) → IsLegal s → (o : ObjectNo) (fs : List FeatureNo) → list_any (dangles_by (reading s) o) (filter (may_refer s.metamodel) fs) ≡ list_any (dangles_by (reading s) o) fs
dangling-left s legal o fs = any-left (may_refer s.metamodel) (dangles_by (reading s) o) (none-referred s legal o) fs
