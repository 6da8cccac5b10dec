-- The number of a feature, the class that declares it, and its index there.
use Rattle.std.proofs.Common.{◌≡◌, ◌∙◌, ◌+◌, ◌-◌, ◌<◌, ◌≤◌, ℕ, zero, suc, List, [], ◌∷◌, Some, ⊎_elim, ap, arith, length, map, sym}
use Rattle.std.specs.Prelude.{option_and_then, option_map, slice_get}
use Rattle.std.specs.List.{range_with_len}
use Rattle.std.proofs.lemmas.Bool.{cases_lt}
use Rattle.std.proofs.lemmas.List.{length-map}
use Rattle.std.proofs.lemmas.List.FromFn.{get_or-range_with_len, length-range_with_len}
use Rattle.std.proofs.lemmas.Option.{slice_get-map, slice_get_cases, slice_get_read, slice_get_within}
use Rattle.mm_types.specs.Graph.{by_class}
use Rattle.mm_types.specs.Lookups.{feature}
use Rattle.mm_types.specs.Raw.{RawMetamodel}
use Rattle.mm_types.specs.Resolved.{features_from, own_from, own_of, resolved_feature, resolved_metamodel}
use Rattle.mm_types.specs.WellFormed.{feature_at}
use Rattle.mm_types.specs.declared.feature.Feature.{Feature}
use Rattle.mm_types.specs.declared.numbers.FeatureNo.{FeatureNo}
use Rattle.mm_types.specs.declared.raw.RawClass.{RawClass}
use Rattle.mm_types.specs.declared.raw.RawFeature.{RawFeature}
use Rattle.mm_meta.proofs.OwnerLemmas.{get_left, get_right}

range_get : (n k i : ℕ) → i < k → slice_get (range_with_len n k) i ≡ Some (n + i)
range_get n k i low =
    slice_get_read (range_with_len n k) k i (n + i) (sym (length-range_with_len n k)) low (sym (get_or-range_with_len n k i (n + i) low))

-- the feature at index i among those of class j of some classes, the first of which has the number c and its first feature n
record IsPlaced (raw : RawMetamodel) (c n : ℕ) (ks : List RawClass) (f : ℕ) (x : Feature) : Type 0 where
  pub class : ℕ
  pub index : ℕ
  pub written : RawFeature
  pub here : option_and_then (λ k. slice_get k.features index) (slice_get ks class) ≡ Some written
  pub is : x ≡ resolved_feature raw (c + class) written
  pub number : slice_get (by_class (own_from n ks) class) index ≡ Some (n + f)

-- past the features of a first class
later : (raw : RawMetamodel) (c n : ℕ) (k : RawClass) (ks : List RawClass) (f : ℕ) (x : Feature) → length k.features ≤ f
    → IsPlaced raw (suc c) (n + length k.features) ks (f - length k.features) x → IsPlaced raw c n (k ∷ ks) f x
later raw c n k ks f x past p =
    let next : suc c + p.class ≡ c + suc p.class = omega arith in
    let number : n + length k.features + (f - length k.features) ≡ n + f = omega arith in
    record {
      class = suc p.class;
      index = p.index;
      written = p.written;
      here = p.here;
      is = p.is ∙ ap (λ (d : ℕ). resolved_feature raw d p.written) next;
      number = p.number ∙ ap Some number;
    }

-- the feature with a number is declared by some class at some index
placed : (raw : RawMetamodel) (c n : ℕ) (ks : List RawClass) (f : ℕ) (x : Feature) → slice_get (features_from raw c ks) f ≡ Some x → IsPlaced raw c n ks f x
placed raw c n [] f x is = cc
placed raw c n (k ∷ ks) f x is = ⊎_elim
    (λ (low : f < length k.features). ⊎_elim
    (λ h.
    let first : slice_get (features_from raw c (k ∷ ks)) f ≡ Some (resolved_feature raw c h.0) =
    get_left (map (resolved_feature raw c) k.features) (features_from raw (suc c) ks) f (let long = length-map k.features (resolved_feature raw c) in omega arith)
    ∙ (slice_get-map (resolved_feature raw c) k.features f ∙ ap (option_map (resolved_feature raw c)) h.2) in
    let same : x ≡ resolved_feature raw c h.0 = cc in
    let zeroth : c ≡ c + 0 = omega arith in
    record {
      class = 0;
      index = f;
      written = h.0;
      here = h.2;
      is = same ∙ ap (λ (d : ℕ). resolved_feature raw d h.0) zeroth;
      number = range_get n (length k.features) f low;
    })
    (λ h. absurd (let past = h.0 in omega arith))
    (slice_get_cases k.features f).1)
    (λ (past : length k.features ≤ f).
    let long = length-map k.features (resolved_feature raw c) in
    let rest : slice_get (features_from raw (suc c) ks) (f - length k.features) ≡ Some x = sym (get_right (map (resolved_feature raw c) k.features) (features_from raw (suc c) ks) (f - length k.features) f (omega arith)) ∙ is in
    later raw c n k ks f x past (placed raw (suc c) (n + length k.features) ks (f - length k.features) x rest))
    (cases_lt f (length k.features))

record IsNumbered (raw : RawMetamodel) (c n : ℕ) (ks : List RawClass) (j i : ℕ) (r : RawFeature) : Type 0 where
  pub place : ℕ
  pub here : slice_get (features_from raw c ks) place ≡ Some (resolved_feature raw (c + j) r)
  pub number : slice_get (by_class (own_from n ks) j) i ≡ Some (n + place)

-- the feature that a class declares at an index has a number
numbered : (raw : RawMetamodel) (c n : ℕ) (ks : List RawClass) (j i : ℕ) (r : RawFeature) → option_and_then (λ k. slice_get k.features i) (slice_get ks j) ≡ Some r
    → IsNumbered raw c n ks j i r
numbered raw c n [] j i r at = cc
numbered raw c n (k ∷ ks) zero i r at =
    let low : i < length k.features = slice_get_within k.features i r at in
    let zeroth : c ≡ c + 0 = omega arith in
    record {
      place = i;
      here =
          get_left (map (resolved_feature raw c) k.features) (features_from raw (suc c) ks) i (let long = length-map k.features (resolved_feature raw c) in omega arith)
          ∙ (slice_get-map (resolved_feature raw c) k.features i ∙ (ap (option_map (resolved_feature raw c)) at ∙ ap (λ (d : ℕ). Some (resolved_feature raw d r)) zeroth));
      number = range_get n (length k.features) i low;
    }
numbered raw c n (k ∷ ks) (suc j) i r at =
    let p = numbered raw (suc c) (n + length k.features) ks j i r at in
    let long = length-map k.features (resolved_feature raw c) in
    let next : suc c + j ≡ c + suc j = omega arith in
    let number : n + length k.features + p.place ≡ n + (length k.features + p.place) = omega arith in
    record {
      place = length k.features + p.place;
      here =
          get_right (map (resolved_feature raw c) k.features) (features_from raw (suc c) ks) p.place (length k.features + p.place) (omega arith)
          ∙ (p.here ∙ ap (λ (d : ℕ). Some (resolved_feature raw d r)) next);
      number = p.number ∙ ap Some number;
    }

-- class c declares at index i the feature r, which has the number f and is resolved to x
pub record IsDeclared (raw : RawMetamodel) (c i : ℕ) (r : RawFeature) (f : FeatureNo) : Type 0 where
  pub here : feature_at raw c i ≡ Some r
  pub resolves : feature (resolved_metamodel raw) f ≡ Some (resolved_feature raw c r)
  pub number : slice_get (by_class (own_of raw.classes) c) i ≡ Some f.0

pub declared_at : (raw : RawMetamodel) (f : FeatureNo) (x : Feature) → feature (resolved_metamodel raw) f ≡ Some x → (c : ℕ) × (i : ℕ) × (r : RawFeature) × IsDeclared raw c i r f
unfolding resolved_metamodel
declared_at raw f x is =
    let p = placed raw 0 0 raw.classes f.0 x is in
    let class : 0 + p.class ≡ p.class = omega arith in
    let number : 0 + f.0 ≡ f.0 = omega arith in (
      p.class,
      p.index,
      p.written,
      record {
        here = p.here;
        resolves = is ∙ (ap Some p.is ∙ ap (λ (d : ℕ). Some (resolved_feature raw d p.written)) class);
        number = p.number ∙ ap Some number;
      },
    )

pub number_of : (raw : RawMetamodel) (c i : ℕ) (r : RawFeature) → feature_at raw c i ≡ Some r → (f : FeatureNo) × IsDeclared raw c i r f
unfolding resolved_metamodel
number_of raw c i r at =
    let p = numbered raw 0 0 raw.classes c i r at in
    let class : 0 + c ≡ c = omega arith in
    let number : 0 + p.place ≡ p.place = omega arith in (
      record { 0 = p.place },
      record {
        here = at;
        resolves = p.here ∙ ap (λ (d : ℕ). Some (resolved_feature raw d r)) class;
        number = p.number ∙ ap Some number;
      },
    )
