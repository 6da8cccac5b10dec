-- What a metamodel of a document keeps: its sizes, and its features by name.
use Rattle.std.proofs.Common.{◌≡◌, ◌∙◌, ◌+◌, ◌*◌, ◌<◌, ◌≤◌, ◌^◌, ℕ, zero, suc, Bool, true, List, [], ◌∷◌, Some, ap, arith, length, map, refl, subst, sym}
use Rattle.std.specs.Prelude.{IsTrue, option_and_then, position, slice_get}
use Rattle.std.specs.List.{list_all, range_with_len}
use Rattle.std.specs.Str.{bytes_eq}
use Rattle.std.proofs.lemmas.Bool.Decides.{nat_tests}
use Rattle.std.proofs.lemmas.List.{length-append, length-map}
use Rattle.std.proofs.lemmas.List.Quantifiers.{position-Some}
use Rattle.mm_types.specs.Graph.{by_class}
use Rattle.mm_types.specs.Raw.{RawMetamodel, class_fits, is_within_limits}
use Rattle.mm_types.specs.Resolved.{Metamodel, class_no, classes_from, features_from, graph_of, resolved_feature, resolved_metamodel}
use Rattle.mm_types.specs.declared.class.Class.{Class}
use Rattle.mm_types.specs.declared.class.Enumeration.{Enumeration}
use Rattle.mm_types.specs.declared.numbers.ClassNo.{ClassNo}
use Rattle.mm_types.specs.declared.raw.RawClass.{RawClass}
use Rattle.mm_types.specs.OfDocument.{IsOfDocument}
use Rattle.mm_meta.proofs.ClassLemmas.{few_classes as few_raw, long_graph}
use Rattle.mm_meta.proofs.ResolverLemmas.{few_features as few_own, literal_low}

pub position_low : {X : Type 0} (p : X → Bool) (xs : List X) (i : ℕ) → position p xs ≡ Some i → i < length xs
position_low p [] i is = cc
position_low p (x ∷ xs) i is = (position-Some p (x ∷ xs) i x is).0

pub length-classes_from : (all : List RawClass) (c : ℕ) (ks : List RawClass) → length (classes_from all c ks) ≡ length ks
length-classes_from all c [] = refl
length-classes_from all c (k ∷ ks) = ap suc (length-classes_from all (suc c) ks)

features_few : (raw : RawMetamodel) (c : ℕ) (ks : List RawClass) → list_all class_fits ks ≡ true → length (features_from raw c ks) ≤ 256 * length ks
features_few raw c [] fits = omega arith
features_few raw c (k ∷ ks) fits =
    let first : class_fits k ≡ true = grind (arith, nat_tests) in
    let rest : list_all class_fits ks ≡ true = grind (arith, nat_tests) in
    let few : length k.features ≤ 256 = few_own k first in
    let more : length (features_from raw (suc c) ks) ≤ 256 * length ks = features_few raw (suc c) ks rest in
    let long : length (features_from raw c (k ∷ ks)) ≡ length k.features + length (features_from raw (suc c) ks) =
    length-append (map (resolved_feature raw c) k.features) (features_from raw (suc c) ks) ∙ ap (λ (n : ℕ). n + length (features_from raw (suc c) ks)) (length-map k.features (resolved_feature raw c)) in
    omega arith

pub few_classes : (m : Metamodel) → IsOfDocument m → length m.classes ≤ 1000
unfolding resolved_metamodel
few_classes m d =
    let long : length m.classes ≡ length d.raw.classes = ap (λ (x : Metamodel). length x.classes) d.is ∙ length-classes_from d.raw.classes 0 d.raw.classes in
    let few : length d.raw.classes ≤ 1000 = few_raw d.raw d.fits in
    omega arith

pub few_features : (m : Metamodel) → IsOfDocument m → length m.features ≤ 256000
unfolding resolved_metamodel
few_features m d =
    let long : length m.features ≡ length (features_from d.raw 0 d.raw.classes) = ap (λ (x : Metamodel). length x.features) d.is in
    let few : length d.raw.classes ≤ 1000 = few_raw d.raw d.fits in
    let fits : IsTrue (is_within_limits d.raw) = d.fits in
    let all : list_all class_fits d.raw.classes ≡ true = grind (arith, nat_tests) in
    let small : length (features_from d.raw 0 d.raw.classes) ≤ 256 * length d.raw.classes = features_few d.raw 0 d.raw.classes all in
    omega arith

pub low_literal : (m : Metamodel) → IsOfDocument m → (e : ℕ) (name : List ℕ) (i : ℕ)
    → option_and_then (λ en. position (λ n. bytes_eq n name) en.literals) (slice_get m.enums e) ≡ Some i → i < 2 ^ 32
unfolding resolved_metamodel
low_literal m d e name i found =
    literal_low d.raw e name i d.fits
    (subst (λ (es : List Enumeration). option_and_then (λ en. position (λ n. bytes_eq n name) en.literals) (slice_get es e) ≡ Some i) (ap (λ (x : Metamodel). x.enums) d.is) found)

pub shift_rows : (x : List ℕ) (table : List (List ℕ)) (a n : ℕ) → map (by_class (x ∷ table)) (range_with_len (a + 1) n) ≡ map (by_class table) (range_with_len a n)
shift_rows x table a zero = refl
shift_rows x table a (suc n) =
    let next : a + 1 ≡ suc a = omega arith in
    let here : by_class (x ∷ table) (a + 1) ≡ by_class table a = rw next refl in
    λ i. here i ∷ shift_rows x table (a + 1) n i

pub rows_all : (table : List (List ℕ)) → map (by_class table) (range_with_len 0 (length table)) ≡ table
rows_all [] = refl
rows_all (x ∷ table) = ap (λ (rest : List (List ℕ)). x ∷ rest) (shift_rows x table 0 (length table) ∙ rows_all table)

pub numbers_back : (ns : List ℕ) → map (λ (s : ClassNo). s.0) (map class_no ns) ≡ ns
numbers_back [] = refl
numbers_back (n ∷ ns) = ap (λ (rest : List ℕ). n ∷ rest) (numbers_back ns)

pub supers_from : (all : List RawClass) (c : ℕ) (ks : List RawClass)
    → map (λ (k : Class). map (λ (s : ClassNo). s.0) k.supers) (classes_from all c ks) ≡ map (by_class (graph_of all)) (range_with_len c (length ks))
supers_from all c [] = refl
supers_from all c (k ∷ ks) =
    let next : c + 1 ≡ suc c = omega arith in
    let rest : map (λ (k : Class). map (λ (s : ClassNo). s.0) k.supers) (classes_from all (suc c) ks) ≡ map (by_class (graph_of all)) (range_with_len (c + 1) (length ks)) =
    rw next (supers_from all (suc c) ks) in
    λ i. numbers_back (by_class (graph_of all) c) i ∷ rest i

-- the supertypes of the resolved classes are those of the document
pub supertypes_resolved : (classes : List RawClass) → map (λ (k : Class). map (λ (s : ClassNo). s.0) k.supers) (classes_from classes 0 classes) ≡ graph_of classes
supertypes_resolved classes =
    let long : length (graph_of classes) ≡ length classes = long_graph classes (graph_of classes) refl in
    supers_from classes 0 classes ∙ (ap (λ (n : ℕ). map (by_class (graph_of classes)) (range_with_len 0 n)) (sym long) ∙ rows_all (graph_of classes))

pub resolved_is : (raw : RawMetamodel) (m : Metamodel) → m.enums ≡ raw.enums → m.classes ≡ classes_from raw.classes 0 raw.classes → m.features ≡ features_from raw 0 raw.classes → m ≡ resolved_metamodel raw
unfolding resolved_metamodel
resolved_is raw m e c f = λ i. record { enums = e i; classes = c i; features = f i }
