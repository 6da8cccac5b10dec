-- In a metamodel of a document no two features of a class share a name.
use Rattle.std.proofs.Common.{◌≡◌, ◌∙◌, ◌++◌, ◌||◌, ℕ, zero, suc, true, false, if◌then◌else◌, List, [], ◌∷◌, Option, Some, None, length, refl, sym, ap, subst}
use Rattle.std.specs.Prelude.{nat_eq, option_map, slice_get, unwrap_or}
use Rattle.std.specs.List.{AllByRecursion, list_any}
use Rattle.std.specs.Option.{option_map_or}
use Rattle.std.proofs.lemmas.Bool.{eq-eqb, eqb-true, false_from_ne_true, false≢true, or_left, or_right}
use Rattle.std.proofs.lemmas.Option.{same_Some}
use Rattle.mm_types.specs.Features.{all_features, listed_features, with_new}
use Rattle.mm_types.specs.Lookups as lookups
use Rattle.mm_types.specs.OfDocument.{IsOfDocument}
use Rattle.mm_types.specs.Resolved.{Metamodel, classes_from, feature_no, graph_of, own_of, resolved_metamodel}
use Rattle.mm_types.specs.declared.class.Class.{Class}
use Rattle.mm_types.specs.declared.numbers.ClassNo.{ClassNo}
use Rattle.mm_types.specs.declared.numbers.FeatureNo.{FeatureNo}
use Rattle.mm_types.specs.declared.raw.RawClass.{RawClass}
use Rattle.mm_meta.proofs.OwnNameLemmas.{own-name}
use Rattle.doc_loader.proofs.PairLemmas.{Apart, all-append, all-more, apart-both, apart-map, apart-more}
use Rattle.doc_loader.proofs.WholeLemmas.{NamesAreApart}

---------------------------------------------------------------- numbers

abbrev Differ : ℕ → ℕ → Type 0
Differ x y = nat_eq x y ≡ false

apart-last : (seen : List ℕ) (x : ℕ) → Apart Differ seen → list_any (nat_eq x) seen ≡ false → Apart Differ (seen ++ x ∷ [])
apart-last [] x d h = (tt, tt)
apart-last (y ∷ ys) x d h = (
  all-append (Differ y) ys (x ∷ []) d.0 (false_from_ne_true (nat_eq y x) (λ q. false≢true (sym h ∙ or_left (nat_eq x y) (list_any (nat_eq x) ys) (eq-eqb x y (sym (eqb-true y x q))))), tt),
  apart-last ys x d.1 (false_from_ne_true (list_any (nat_eq x) ys) (λ q. false≢true (sym h ∙ or_right (nat_eq x y) (list_any (nat_eq x) ys) q))),
)

apart-new : (seen xs : List ℕ) → Apart Differ seen → Apart Differ (with_new seen xs)
apart-new seen [] d = d
apart-new seen (x ∷ xs) d =
    elim (list_any (nat_eq x) seen) as (λ b. list_any (nat_eq x) seen ≡ b → Apart Differ (with_new (if b then seen else seen ++ x ∷ []) xs)) [
      | true ↦ λ h. apart-new seen xs d
      | false ↦ λ h. apart-new (seen ++ x ∷ []) xs (apart-last seen x d h)
    ] refl

apart-all_features : (g own : List (List ℕ)) (c : ℕ) → Apart Differ (all_features g own c)
unfolding all_features
apart-all_features g own c = apart-new [] (listed_features g own (length g) c) tt

---------------------------------------------------------------- features

abbrev AreOther : FeatureNo → FeatureNo → Type 0
AreOther f g = nat_eq f.0 g.0 ≡ false

classes-apart : (all : List RawClass) (c : ℕ) (ks : List RawClass) → AllByRecursion (λ (k : Class). Apart AreOther k.all) (classes_from all c ks)
classes-apart all c [] = tt
classes-apart all c (k ∷ ks) = (apart-map AreOther feature_no (all_features (graph_of all) (own_of all) c) (apart-all_features (graph_of all) (own_of all) c), classes-apart all (suc c) ks)

class-at : (cs : List Class) (i : ℕ) → AllByRecursion (λ (k : Class). Apart AreOther k.all) cs → Apart AreOther (unwrap_or (option_map (λ (k : Class). k.all) (slice_get cs i)) [])
class-at [] i all = tt
class-at (k ∷ ks) zero all = all.0
class-at (k ∷ ks) (suc i) all = class-at ks i all.1

features-apart : (m : Metamodel) → IsOfDocument m → (c : ClassNo) → Apart AreOther (unwrap_or (lookups.features m c) [])
unfolding resolved_metamodel
features-apart m d c = class-at m.classes c.0 (subst (λ (x : Metamodel). AllByRecursion (λ (k : Class). Apart AreOther k.all) x.classes) (sym d.is) (classes-apart d.raw.classes 0 d.raw.classes))

---------------------------------------------------------------- names

all-there : (fs : List FeatureNo) → AllByRecursion (λ f. list_any (λ (g : FeatureNo). nat_eq g.0 f.0) fs ≡ true) fs
all-there [] = tt
all-there (f ∷ fs) = (
  or_left (nat_eq f.0 f.0) (list_any (λ (g : FeatureNo). nat_eq g.0 f.0) fs) (eq-eqb f.0 f.0 refl),
  all-more (λ g. list_any (λ (h : FeatureNo). nat_eq h.0 g.0) fs ≡ true) (λ g. nat_eq f.0 g.0 || list_any (λ (h : FeatureNo). nat_eq h.0 g.0) fs ≡ true) fs (λ g h. or_right (nat_eq f.0 g.0) (list_any (λ (k : FeatureNo). nat_eq k.0 g.0) fs) h) (all-there fs),
)

pub class-features : (m : Metamodel) (c : ClassNo) → AllByRecursion (λ f. lookups.has_feature m c f ≡ true) (unwrap_or (lookups.features m c) [])
class-features m c = by (lookups.features m c)
  where
    by : (o : Option (List FeatureNo)) → AllByRecursion (λ f. option_map_or (λ all. list_any (λ (g : FeatureNo). nat_eq g.0 f.0) all) o false ≡ true) (unwrap_or o [])
    by None = tt
    by (Some fs) = all-there fs

-- the features of a class have different names
pub names-apart : (m : Metamodel) → IsOfDocument m → NamesAreApart m
names-apart m d c =
    let fs = unwrap_or (lookups.features m c) [] in
    apart-more (λ f g. AreOther f g × ((lookups.has_feature m c f ≡ true) × (lookups.has_feature m c g ≡ true))) (λ f g. lookups.feature_name m f ≡ lookups.feature_name m g → ⊥) fs
    (λ f g other same. (
    let is = same_Some f g (sym (own-name m d c f other.1.0) ∙ ap (lookups.feature_by_name m c) same ∙ own-name m d c g other.1.1) in
    false≢true (sym other.0 ∙ eq-eqb f.0 g.0 (ap (λ (x : FeatureNo). x.0) is))))
    (apart-both AreOther (λ f. lookups.has_feature m c f ≡ true) fs (features-apart m d c) (class-features m c))
