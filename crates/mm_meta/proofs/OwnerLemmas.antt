-- A feature's owner is the class that declares it, so a class has the features whose owners it conforms to.
use Rattle.std.proofs.Common.{◌≡◌, ◌∙◌, ◌↔◌, ◌+◌, ◌-◌, ◌<◌, ◌≤◌, ◌||◌, ◌++◌, ℕ, zero, suc, Bool, true, false, List, [], ◌∷◌, Option, Some, None, ⊎_elim, ap, arith, length, map, nat_eq, refl, subst, sym}
use Rattle.std.specs.Cmp.{both_ways, nat_eq_equiv}
use Rattle.std.specs.Prelude.{IsTrue, option_map, slice_get}
use Rattle.std.specs.List.{Contains, list_any, range_with_len}
use Rattle.std.specs.Option.{option_map_or}
use Rattle.std.proofs.lemmas.Bool.{cases_lt, eq-eqb, eqb-true}
use Rattle.std.proofs.lemmas.List.{length-map}
use Rattle.std.proofs.lemmas.List.FromFn.{get_or-range_with_len, length-range_with_len}
use Rattle.std.proofs.lemmas.Map.Views.{Contains-from_any, list_any-from_Contains}
use Rattle.std.proofs.lemmas.Option.{slice_get-map, slice_get_cases, slice_get_past}
use Rattle.mm_types.specs.Features.{all_features}
use Rattle.mm_types.specs.Graph.{Conforms, by_class}
use Rattle.mm_types.specs.Lookups.{ConformsTo, feature, has_feature}
use Rattle.mm_types.specs.Raw.{RawMetamodel}
use Rattle.mm_types.specs.Resolved.{Metamodel, classes_from, feature_no, features_from, graph_of, own_from, own_of, resolved_feature, resolved_metamodel}
use Rattle.mm_types.specs.WellFormed.{WellFormed}
use Rattle.mm_types.specs.declared.class.Class.{Class}
use Rattle.mm_types.specs.declared.feature.Feature.{Feature}
use Rattle.mm_types.specs.declared.meta_fault.Condition.TheVariants.{Cycle}
use Rattle.mm_types.specs.declared.meta_fault.Place.TheVariants as place
use Rattle.mm_types.specs.declared.numbers.ClassNo.{ClassNo}
use Rattle.mm_types.specs.declared.numbers.FeatureNo.{FeatureNo}
use Rattle.mm_types.specs.declared.raw.RawClass.{RawClass}
use Rattle.mm_graph.proofs.Belonging.{HasDeclarer, has_declarer}
use Rattle.mm_types.specs.OfDocument.{IsOfDocument}
use Rattle.mm_meta.proofs.ClassLemmas.{graph_in_range, long_graph}
use Rattle.mm_meta.proofs.MetaLemmas.{length-classes_from, supertypes_resolved}

in_range : (n k i : ℕ) → i < k → Contains (range_with_len n k) (n + i)
in_range n k i low = (i, let long = length-range_with_len n k in omega arith, get_or-range_with_len n k i (n + i) low)

from_range : (n k f : ℕ) → Contains (range_with_len n k) f → (i : ℕ) × (i < k) × (f ≡ n + i)
from_range n k f h =
    let low : h.0 < k = let long = length-range_with_len n k in let less = h.1 in omega arith in
    (h.0, low, sym h.2 ∙ get_or-range_with_len n k h.0 f low)

pub get_left : {X : Type 0} (xs ys : List X) (i : ℕ) → i < length xs → slice_get (xs ++ ys) i ≡ slice_get xs i
get_left [] ys i low = absurd (omega arith)
get_left (x ∷ xs) ys zero low = refl
get_left (x ∷ xs) ys (suc i) low = get_left xs ys i (omega arith)

pub get_right : {X : Type 0} (xs ys : List X) (i j : ℕ) → j ≡ length xs + i → slice_get (xs ++ ys) j ≡ slice_get ys i
get_right [] ys i j is = let same : j ≡ i = omega arith in ap (slice_get ys) same
get_right (x ∷ xs) ys i zero is = absurd (omega arith)
get_right (x ∷ xs) ys i (suc j) is = get_right xs ys i j (omega arith)

-- the feature at index i of the features of some classes has class j of these as its owner; the first of these classes has the number c
record IsOwnedAt (raw : RawMetamodel) (c : ℕ) (ks : List RawClass) (i j : ℕ) : Type 0 where
  pub feature : Feature
  pub here : slice_get (features_from raw c ks) i ≡ Some feature
  pub owner : feature.owner.0 ≡ c + j

own_here : (raw : RawMetamodel) (c : ℕ) (k : RawClass) (ks : List RawClass) (i : ℕ) → i < length k.features → IsOwnedAt raw c (k ∷ ks) i zero
own_here raw c k ks i low = ⊎_elim
    (λ h. record {
      feature = resolved_feature raw c h.0;
      here = get_left (map (resolved_feature raw c) k.features) (features_from raw (suc c) ks) i (let long = length-map k.features (resolved_feature raw c) in omega arith)
          ∙ (slice_get-map (resolved_feature raw c) k.features i ∙ ap (option_map (resolved_feature raw c)) h.2);
      owner = omega arith;
    })
    (λ h. absurd (let past = h.0 in omega arith))
    (slice_get_cases k.features i).1

-- a class owns the features that it declares
declared_is_owned : (raw : RawMetamodel) (c n : ℕ) (ks : List RawClass) (f j : ℕ) → Contains (by_class (own_from n ks) j) f → (i : ℕ) × (f ≡ n + i) × IsOwnedAt raw c ks i j
declared_is_owned raw c n [] f j h = absurd (omega (arith, h.1))
declared_is_owned raw c n (k ∷ ks) f zero h =
    let p = from_range n (length k.features) f h in
    (p.0, p.2, own_here raw c k ks p.0 p.1)
declared_is_owned raw c n (k ∷ ks) f (suc j) h =
    let p = declared_is_owned raw (suc c) (n + length k.features) ks f j h in
    let long = length-map k.features (resolved_feature raw c) in
    let is = p.1 in
    let owner = p.2.owner in (
      length k.features + p.0,
      omega arith,
      record {
        feature = p.2.feature;
        here = get_right (map (resolved_feature raw c) k.features) (features_from raw (suc c) ks) p.0 (length k.features + p.0) (omega arith) ∙ p.2.here;
        owner = omega arith;
      },
    )

-- a feature's owner declares it
owned_is_declared : (raw : RawMetamodel) (c n : ℕ) (ks : List RawClass) (i : ℕ) (x : Feature) → slice_get (features_from raw c ks) i ≡ Some x
    → (j : ℕ) × (x.owner.0 ≡ c + j) × Contains (by_class (own_from n ks) j) (n + i)
owned_is_declared raw c n [] i x is = cc
owned_is_declared raw c n (k ∷ ks) i x is = ⊎_elim
    (λ (low : i < length k.features).
    let o = own_here raw c k ks i low in
    let here = o.here in
    let same : o.feature ≡ x = cc in
    (0, subst (λ (y : Feature). y.owner.0 ≡ c + 0) same o.owner, in_range n (length k.features) i low))
    (λ (past : length k.features ≤ i).
    let long = length-map k.features (resolved_feature raw c) in
    let rest = sym (get_right (map (resolved_feature raw c) k.features) (features_from raw (suc c) ks) (i - length k.features) i (omega arith)) ∙ is in
    let p = owned_is_declared raw (suc c) (n + length k.features) ks (i - length k.features) x rest in
    let number : n + length k.features + (i - length k.features) ≡ n + i = omega arith in
    let owner = p.1 in
    (suc p.0, omega arith, subst (λ (f : ℕ). Contains (by_class (own_from (n + length k.features) ks) p.0) f) number p.2))
    (cases_lt i (length k.features))

-- all features of the class at index i
all_at : (all : List RawClass) (c : ℕ) (ks : List RawClass) (i : ℕ) → i < length ks
    → option_map (λ k. k.all) (slice_get (classes_from all c ks) i) ≡ Some (map feature_no (all_features (graph_of all) (own_of all) (c + i)))
all_at all c [] i low = absurd (omega arith)
all_at all c (k ∷ ks) zero low =
    let here : c ≡ c + 0 = omega arith in ap (λ (n : ℕ). Some (map feature_no (all_features (graph_of all) (own_of all) n))) here
all_at all c (k ∷ ks) (suc i) low =
    let next : suc c + i ≡ c + suc i = omega arith in
    all_at all (suc c) ks i (omega arith) ∙ ap (λ (n : ℕ). Some (map feature_no (all_features (graph_of all) (own_of all) n))) next

pub nat_eq-turned : (m n : ℕ) → nat_eq m n ≡ nat_eq n m
nat_eq-turned m n = both_ways (nat_eq m n) (nat_eq n m) (λ h. eq-eqb n m (sym (eqb-true m n h))) (λ h. eq-eqb m n (sym (eqb-true n m h)))

-- whether a feature's number is among some
any_number : (f : ℕ) (ns : List ℕ) → list_any (λ (g : FeatureNo). nat_eq g.0 f) (map feature_no ns) ≡ list_any (nat_eq f) ns
any_number f [] = refl
any_number f (n ∷ ns) =
    ap (λ (b : Bool). b || list_any (λ (g : FeatureNo). nat_eq g.0 f) (map feature_no ns)) (nat_eq-turned n f) ∙ ap (λ (b : Bool). nat_eq f n || b) (any_number f ns)

-- a class has the features that the classes it conforms to declare
has_declared : (raw : RawMetamodel) → WellFormed raw → (c : ClassNo) (f : FeatureNo)
    → (has_feature (resolved_metamodel raw) c f ≡ true) ↔ ((c.0 < length raw.classes) × HasDeclarer (graph_of raw.classes) (own_of raw.classes) c.0 f.0)
unfolding resolved_metamodel
has_declared raw well c f =
    let cs = raw.classes in
    let g : List (List ℕ) = graph_of cs in
    let is_it : List FeatureNo → Bool = list_any (λ (h : FeatureNo). nat_eq h.0 f.0) in
    ⊎_elim
    (λ (low : c.0 < length cs).
    let all : List ℕ = all_features g (own_of cs) c.0 in
    let here : 0 + c.0 ≡ c.0 = omega arith in
    let has : has_feature (resolved_metamodel raw) c f ≡ list_any (nat_eq f.0) all =
    ap (λ (o : Option (List FeatureNo)). option_map_or is_it o false) (all_at cs 0 cs c.0 low ∙ ap (λ (n : ℕ). Some (map feature_no (all_features g (own_of cs) n))) here) ∙ any_number f.0 all in
    let long : length g ≡ length cs = long_graph cs g refl in
    let known = has_declarer g (own_of cs) (graph_in_range cs) (λ cycle. well Cycle (place.Class cycle.0) cycle.1) c.0 f.0 (omega arith) in (
      (λ h. (low, known.0 (Contains-from_any eqb-true f.0 all (sym has ∙ h)))),
      (λ h. has ∙ list_any-from_Contains nat_eq_equiv f.0 all (known.1 h.1)),
    ))
    (λ (past : length cs ≤ c.0).
    let long : length (classes_from cs 0 cs) ≡ length cs = length-classes_from cs 0 cs in
    let none : has_feature (resolved_metamodel raw) c f ≡ false =
    ap (λ (o : Option Class). option_map_or is_it (option_map (λ k. k.all) o) false) (slice_get_past (classes_from cs 0 cs) c.0 (omega arith)) in (
      (λ h. cc),
      (λ h. absurd (omega (arith, h.0))),
    ))
    (cases_lt c.0 (length cs))

-- a class has a feature if it conforms to the feature's owner
pub has_of_owner : (raw : RawMetamodel) → WellFormed raw → (c : ClassNo) (f : FeatureNo) (x : Feature) → feature (resolved_metamodel raw) f ≡ Some x
    → (has_feature (resolved_metamodel raw) c f ≡ true) ↔ ConformsTo (resolved_metamodel raw) c x.owner
unfolding resolved_metamodel
has_of_owner raw well c f x is =
    let cs = raw.classes in
    let known = has_declared raw well c f in
    let supers = supertypes_resolved cs in
    let long : length (classes_from cs 0 cs) ≡ length cs = length-classes_from cs 0 cs in (
      (λ h.
          let p = known.0 h in
          let o = declared_is_owned raw 0 0 cs f.0 p.1.0 p.1.2 in
          let number : f.0 ≡ o.0 = let e = o.1 in omega arith in
          let same : o.2.feature ≡ x = let here = o.2.here in cc in
          let owner : p.1.0 ≡ x.owner.0 = let e = subst (λ (y : Feature). y.owner.0 ≡ 0 + p.1.0) same o.2.owner in omega arith in
          let low = p.0 in
          (omega arith, subst (λ (g : List (List ℕ)). Conforms g c.0 x.owner.0) (sym supers) (subst (λ (d : ℕ). Conforms (graph_of cs) c.0 d) owner p.1.1))),
      (λ h.
          let o = owned_is_declared raw 0 0 cs f.0 x is in
          let owner : x.owner.0 ≡ o.0 = let e = o.1 in omega arith in
          let number : 0 + f.0 ≡ f.0 = omega arith in
          let low = h.0 in
          known.1 (
            omega arith,
            (
              o.0,
              subst (λ (d : ℕ). Conforms (graph_of cs) c.0 d) owner (subst (λ (g : List (List ℕ)). Conforms g c.0 x.owner.0) supers h.1),
              subst (λ (n : ℕ). Contains (by_class (own_of cs) o.0) n) number o.2,
            ),
          )),
    )

-- If a test decides whether a class conforms to a feature's owner, it decides whether the class has the feature.
pub has_as_owner : (m : Metamodel) → IsOfDocument m → (c : ClassNo) (f : FeatureNo) (x : Feature) (b : Bool) → feature m f ≡ Some x
    → IsTrue b ↔ ConformsTo m c x.owner → b ≡ has_feature m c f
has_as_owner m d c f x b =
    subst (λ (n : Metamodel). feature n f ≡ Some x → IsTrue b ↔ ConformsTo n c x.owner → b ≡ has_feature n c f) (sym d.is)
    (λ is tells.
    let known = has_of_owner d.raw d.well_formed c f x is in
    both_ways b (has_feature (resolved_metamodel d.raw) c f) (λ h. known.1 (tells.0 h)) (λ h. tells.1 (known.0 h)))

-- no class has a feature that does not exist
none_of : (raw : RawMetamodel) → WellFormed raw → (c : ClassNo) (f : FeatureNo) → feature (resolved_metamodel raw) f ≡ None → has_feature (resolved_metamodel raw) c f ≡ true → ⊥
unfolding resolved_metamodel
none_of raw well c f is h =
    let p = (has_declared raw well c f).0 h in
    let o = declared_is_owned raw 0 0 raw.classes f.0 p.1.0 p.1.2 in
    let number : f.0 ≡ o.0 = let e = o.1 in omega arith in
    let here = o.2.here in
    cc

pub has_none : (m : Metamodel) → IsOfDocument m → (c : ClassNo) (f : FeatureNo) → feature m f ≡ None → false ≡ has_feature m c f
has_none m d c f =
    subst (λ (n : Metamodel). feature n f ≡ None → false ≡ has_feature n c f) (sym d.is)
    (λ is. both_ways false (has_feature (resolved_metamodel d.raw) c f) (λ h. cc) (λ h. absurd (none_of d.raw d.well_formed c f is h)))
