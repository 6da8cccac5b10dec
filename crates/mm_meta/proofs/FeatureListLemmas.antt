-- A class has its features, each once and each with a name of its own.
use Rattle.std.proofs.Common.{◌≡◌, ◌∙◌, ◌++◌, ℕ, zero, suc, Bool, true, false, cond, List, [], ◌∷◌, Option, Some, None, ap, eq-eqb, eqb-true, filter, if◌then◌else◌, length, map, nat_eq, refl, slice_get, subst, sym, unwrap_or}
use Rattle.std.specs.Prelude.{option_map}
use Rattle.std.specs.List.{AllByRecursion, IsDistinct, list_any}
use Rattle.std.specs.Option.{option_map_or}
use Rattle.std.specs.Str.{bytes_eq}
use Rattle.std.proofs.lemmas.Bool.{false≢true, false_from_ne_true, or_left, or_right}
use Rattle.std.proofs.lemmas.Option.{same_Some}
use Rattle.std.proofs.lemmas.Slice.Eq.{bytes_eq-Decides}
use Rattle.mm_types.specs.Features.{all_features, listed_features, with_new}
use Rattle.mm_types.specs.Lookups as lookups
use Rattle.mm_types.specs.OfDocument.{IsOfDocument}
use Rattle.mm_types.specs.Resolved.{Metamodel, classes_from, feature_no, graph_of, own_of, resolved_metamodel}
use Rattle.mm_types.specs.Same.{same_feature}
use Rattle.mm_types.specs.declared.class.Class.{Class}
use Rattle.mm_types.specs.declared.numbers.ClassNo.{ClassNo}
use Rattle.mm_types.specs.declared.numbers.FeatureNo.{FeatureNo}
use Rattle.mm_types.specs.declared.raw.RawClass.{RawClass}
use Rattle.mm_meta.proofs.OwnNameLemmas.{own-name}

---------------------------------------------------------------- lists

pub all-append : {X : Type 0} (P : X → Type 0) (xs ys : List X) → AllByRecursion P xs → AllByRecursion P ys → AllByRecursion P (xs ++ ys)
all-append P [] ys a b = b
all-append P (x ∷ xs) ys a b = (a.0, all-append P xs ys a.1 b)

pub all-filter : (P : FeatureNo → Type 0) (p : FeatureNo → Bool) (fs : List FeatureNo) → AllByRecursion P fs → AllByRecursion P (filter p fs)
all-filter P p [] all = tt
all-filter P p (f ∷ fs) all = elim (p f) as (λ b. AllByRecursion P (cond b (f ∷ filter p fs) (filter p fs))) [ true ↦ (all.0, all-filter P p fs all.1) | false ↦ all-filter P p fs all.1 ]

pub distinct-filter : (p : FeatureNo → Bool) (fs : List FeatureNo) → IsDistinct same_feature fs → IsDistinct same_feature (filter p fs)
unfolding IsDistinct
distinct-filter p [] d = tt
distinct-filter p (f ∷ fs) d =
    elim (p f) as (λ b. IsDistinct same_feature (cond b (f ∷ filter p fs) (filter p fs))) [
      | true ↦ (all-filter (λ g. same_feature f g ≡ false) p fs d.0, distinct-filter p fs d.1)
      | false ↦ distinct-filter p fs d.1
    ]

---------------------------------------------------------------- no feature twice

distinct-last : (seen : List ℕ) (x : ℕ) → IsDistinct nat_eq seen → list_any (nat_eq x) seen ≡ false → IsDistinct nat_eq (seen ++ x ∷ [])
unfolding IsDistinct
distinct-last [] x d h = (tt, tt)
distinct-last (y ∷ ys) x d h = (
  all-append (λ z. nat_eq y z ≡ false) ys (x ∷ []) d.0 (false_from_ne_true (nat_eq y x) (λ q. false≢true (sym h ∙ or_left _ _ (eq-eqb x y (sym (eqb-true y x q))))), tt),
  distinct-last ys x d.1 (false_from_ne_true (list_any (nat_eq x) ys) (λ q. false≢true (sym h ∙ or_right _ _ q))),
)

distinct-new : (seen xs : List ℕ) → IsDistinct nat_eq seen → IsDistinct nat_eq (with_new seen xs)
distinct-new seen [] d = d
distinct-new seen (x ∷ xs) d =
    elim (list_any (nat_eq x) seen) as (λ b. list_any (nat_eq x) seen ≡ b → IsDistinct nat_eq (with_new (if b then seen else seen ++ x ∷ []) xs)) [
      | true ↦ λ h. distinct-new seen xs d
      | false ↦ λ h. distinct-new (seen ++ x ∷ []) xs (distinct-last seen x d h)
    ] refl

distinct-all_features : (g own : List (List ℕ)) (c : ℕ) → IsDistinct nat_eq (all_features g own c)
unfolding all_features IsDistinct
distinct-all_features g own c = distinct-new [] (listed_features g own (length g) c) tt

all-numbered : (x : ℕ) (ys : List ℕ) → AllByRecursion (λ y. nat_eq x y ≡ false) ys → AllByRecursion (λ g. same_feature (feature_no x) g ≡ false) (map feature_no ys)
all-numbered x [] all = tt
all-numbered x (y ∷ ys) all = (all.0, all-numbered x ys all.1)

distinct-numbered : (xs : List ℕ) → IsDistinct nat_eq xs → IsDistinct same_feature (map feature_no xs)
unfolding IsDistinct
distinct-numbered [] d = tt
distinct-numbered (x ∷ xs) d = (all-numbered x xs d.0, distinct-numbered xs d.1)

classes-distinct : (all : List RawClass) (c : ℕ) (ks : List RawClass) → AllByRecursion (λ (k : Class). IsDistinct same_feature k.all) (classes_from all c ks)
classes-distinct all c [] = tt
classes-distinct all c (k ∷ ks) = (distinct-numbered _ (distinct-all_features (graph_of all) (own_of all) c), classes-distinct all (suc c) ks)

class-at : (cs : List Class) (i : ℕ) → AllByRecursion (λ (k : Class). IsDistinct same_feature k.all) cs → IsDistinct same_feature (unwrap_or (option_map (λ (k : Class). k.all) (slice_get cs i)) [])
unfolding IsDistinct
class-at [] i all = tt
class-at (k ∷ ks) zero all = all.0
class-at (k ∷ ks) (suc i) all = class-at ks i all.1

document-classes : (m : Metamodel) → IsOfDocument m → AllByRecursion (λ (k : Class). IsDistinct same_feature k.all) m.classes
unfolding resolved_metamodel
document-classes m d = subst (λ (x : Metamodel). AllByRecursion (λ (k : Class). IsDistinct same_feature k.all) x.classes) (sym d.is) (classes-distinct d.raw.classes 0 d.raw.classes)

-- no class has a feature twice
pub class-features-distinct : (m : Metamodel) → IsOfDocument m → (c : ClassNo) → IsDistinct same_feature (unwrap_or (lookups.features m c) [])
class-features-distinct m d c = class-at m.classes c.0 (document-classes m d)

---------------------------------------------------------------- the features of a class

abbrev has : List FeatureNo → FeatureNo → Bool
has all f = list_any (λ (g : FeatureNo). nat_eq g.0 f.0) all

all-there : (all fs : List FeatureNo) → ((f : FeatureNo) → has fs f ≡ true → has all f ≡ true) → AllByRecursion (λ f. has all f ≡ true) fs
all-there all [] more = tt
all-there all (f ∷ fs) more = (more f (or_left (nat_eq f.0 f.0) (has fs f) (eq-eqb f.0 f.0 refl)), all-there all fs (λ g there. more g (or_right (nat_eq f.0 g.0) (has fs g) there)))

-- a class has each of its features
pub class-features : (m : Metamodel) (c : ClassNo) → AllByRecursion (λ f. lookups.has_feature m c f ≡ true) (unwrap_or (lookups.features m c) [])
class-features m c = by (lookups.features m c)
  where
    by : (o : Option (List FeatureNo)) → AllByRecursion (λ f. option_map_or (λ all. has all f) o false ≡ true) (unwrap_or o [])
    by None = tt
    by (Some fs) = all-there fs fs (λ f there. there)

module _ (m : Metamodel) (d : IsOfDocument m) (c : ClassNo) where
  abbrev IsOwn : FeatureNo → Type 0
  IsOwn f = lookups.has_feature m c f ≡ true

  -- no two features of a class share a name
  pub one-name : (f g : FeatureNo) → IsOwn f → same_feature f g ≡ false → IsOwn g → lookups.feature_name m f ≡ lookups.feature_name m g → ⊥
  one-name f g a other b same =
      let is = same_Some f g (sym (own-name m d c f a) ∙ ap (lookups.feature_by_name m c) same ∙ own-name m d c g b) in
      false≢true (sym other ∙ eq-eqb f.0 g.0 (ap (λ (x : FeatureNo). x.0) is))

  other-names : (f : FeatureNo) (gs : List FeatureNo) → IsOwn f → AllByRecursion (λ g. same_feature f g ≡ false) gs → AllByRecursion IsOwn gs
      → AllByRecursion (λ n. bytes_eq (lookups.feature_name m f) n ≡ false) (map (lookups.feature_name m) gs)
  other-names f [] a other own = tt
  other-names f (g ∷ gs) a other own = (
    false_from_ne_true (bytes_eq (lookups.feature_name m f) (lookups.feature_name m g)) (λ q. one-name f g a other.0 own.0 ((bytes_eq-Decides (lookups.feature_name m f) (lookups.feature_name m g)).0 q)),
    other-names f gs a other.1 own.1,
  )

  names-of : (fs : List FeatureNo) → AllByRecursion IsOwn fs → IsDistinct same_feature fs → IsDistinct bytes_eq (map (lookups.feature_name m) fs)
  unfolding IsDistinct
  names-of [] own distinct = tt
  names-of (f ∷ fs) own distinct = (other-names f fs own.0 distinct.0 own.1, names-of fs own.1 distinct.1)

  -- the names of some features of a class are distinct
  pub names-distinct : (p : FeatureNo → Bool) (fs : List FeatureNo) → Some fs ≡ lookups.features m c → IsDistinct bytes_eq (map (lookups.feature_name m) (filter p fs))
  names-distinct p fs is =
      names-of (filter p fs) (all-filter IsOwn p fs (subst (λ (o : Option (List FeatureNo)). AllByRecursion IsOwn (unwrap_or o [])) (sym is) (class-features m c)))
      (distinct-filter p fs (subst (λ (o : Option (List FeatureNo)). IsDistinct same_feature (unwrap_or o [])) (sym is) (class-features-distinct m d c)))
