-- A condition applies at no place outside the document.
use Rattle.std.proofs.Common.{◌≡◌, ◌∙◌, ◌<◌, ℕ, zero, suc, Bool, true, false, List, [], ◌∷◌, Option, Some, None, ap, arith, length, refl, sym, subst, ⊎_elim}
use Rattle.std.specs.Prelude.{IsTrue, option_map, slice_get}
use Rattle.std.specs.Option.{option_map_or}
use Rattle.std.proofs.lemmas.List.{length-map}
use Rattle.std.proofs.lemmas.Option.{option_and_then_some, slice_get_within}
use Rattle.mm_types.specs.Clashes.{Clash}
use Rattle.mm_types.specs.Graph.{Walk}
use Rattle.mm_types.specs.Raw.{RawMetamodel}
use Rattle.mm_types.specs.Resolved.{class_named, graph_of}
use Rattle.std.specs.List.{filter_map}
use Rattle.mm_types.specs.WellFormed.{Applies, feature_at, own_names, test_at, test_feature_at}
use Rattle.mm_types.specs.declared.meta_fault.Condition.{Condition}
use Rattle.mm_types.specs.declared.meta_fault.Condition.TheVariants as condition
use Rattle.mm_types.specs.declared.meta_fault.Place.TheVariants as place
use Rattle.mm_types.specs.declared.raw.RawClass.{RawClass}
use Rattle.mm_types.specs.declared.raw.RawFeature.{RawFeature}
use Rattle.mm_check.specs.Search.{feature_count}
use Rattle.mm_types.proofs.Unique.{names_at}
use Rattle.mm_graph.proofs.Reaching.{has_row}

test_inside : {X : Type 0} (t : X → Bool) (xs : List X) (i : ℕ) → IsTrue (test_at t xs i) → i < length xs
test_inside t [] i h = cc
test_inside t (x ∷ xs) zero h = omega arith
test_inside t (x ∷ xs) (suc i) h = let low = test_inside t xs i h in omega arith

some_inside : (raw : RawMetamodel) (c i : ℕ) (f : RawFeature) → feature_at raw c i ≡ Some f → (c < length raw.classes) × (i < feature_count raw c)
some_inside raw c i f at =
    option_and_then_some (λ k. slice_get k.features i) (slice_get raw.classes c) f at (λ k here h. (
      slice_get_within raw.classes c k here,
      subst (λ (n : ℕ). i < n) (sym (ap (λ (o : Option RawClass). option_map_or (λ k. length k.features) o 0) here)) (slice_get_within k.features i f h),
    ))

test_feature_inside : (t : RawFeature → Bool) (raw : RawMetamodel) (c i : ℕ) → IsTrue (test_feature_at t raw c i) → (c < length raw.classes) × (i < feature_count raw c)
test_feature_inside t raw c i h = by (feature_at raw c i) refl h
  where
    by : (o : Option RawFeature) → feature_at raw c i ≡ o → option_map_or t o false ≡ true → (c < length raw.classes) × (i < feature_count raw c)
    by None at h = cc
    by (Some f) at h = some_inside raw c i f at

pub long : (cs : List RawClass) → length (graph_of cs) ≡ length cs
long cs = length-map cs (λ c. filter_map (class_named cs) c.supers)

named_inside : (raw : RawMetamodel) (c i : ℕ) (name : List ℕ) → option_map (λ f. f.name) (feature_at raw c i) ≡ Some name → c < length raw.classes
named_inside raw c i name h = by (feature_at raw c i) refl h
  where
    by : (o : Option RawFeature) → feature_at raw c i ≡ o → option_map (λ f. f.name) o ≡ Some name → c < length raw.classes
    by None at h = cc
    by (Some f) at h = (some_inside raw c i f at).0

walk_inside : (raw : RawMetamodel) (n c d : ℕ) → Walk (graph_of raw.classes) n c d → d < length raw.classes → c < length raw.classes
walk_inside raw zero c d walk low = let e : c ≡ d = walk in omega arith
walk_inside raw (suc n) c d walk low = let h = has_row (graph_of raw.classes) c walk.0 walk.1 in omega (arith, long raw.classes)

clash_inside : (raw : RawMetamodel) (c : ℕ) → Clash (graph_of raw.classes) (own_names raw) c → c < length raw.classes
clash_inside raw c k =
    walk_inside raw k.one_reached.0 c k.one k.one_reached.1 (named_inside raw k.one k.index k.name (sym (names_at raw k.one k.index) ∙ k.here))

pub enum_inside : (raw : RawMetamodel) (k : Condition) (i : ℕ) → Applies raw k (place.Enum i) → i < length raw.enums
enum_inside raw condition.Name i h = test_inside _ raw.enums i h
enum_inside raw condition.DuplicateName i h = test_inside _ raw.enums i h
enum_inside raw condition.NoType i h = cc
enum_inside raw condition.Cycle i h = absurd h
enum_inside raw condition.Bounds i h = cc
enum_inside raw condition.Opposite i h = absurd h
enum_inside raw condition.BothContain i h = absurd h
enum_inside raw condition.ContainerBound i h = absurd h
enum_inside raw condition.Default i h = cc

pub class_inside : (raw : RawMetamodel) (k : Condition) (c : ℕ) → Applies raw k (place.Class c) → c < length raw.classes
class_inside raw condition.Name c h = test_inside _ raw.classes c h
class_inside raw condition.DuplicateName c h = ⊎_elim (λ a. test_inside _ raw.classes c a) (λ b. clash_inside raw c b) h
class_inside raw condition.NoType c h = test_inside _ raw.classes c h
class_inside raw condition.Cycle c h = let low = has_row (graph_of raw.classes) c h.1.0 h.1.1 in omega (arith, long raw.classes)
class_inside raw condition.Bounds c h = cc
class_inside raw condition.Opposite c h = absurd h
class_inside raw condition.BothContain c h = absurd h
class_inside raw condition.ContainerBound c h = absurd h
class_inside raw condition.Default c h = cc

pub feature_inside : (raw : RawMetamodel) (k : Condition) (c i : ℕ) → Applies raw k (place.Feature c i) → (c < length raw.classes) × (i < feature_count raw c)
feature_inside raw condition.Name c i h = test_feature_inside _ raw c i h
feature_inside raw condition.DuplicateName c i h = absurd h
feature_inside raw condition.NoType c i h = test_feature_inside _ raw c i h
feature_inside raw condition.Cycle c i h = absurd h
feature_inside raw condition.Bounds c i h = test_feature_inside _ raw c i h
feature_inside raw condition.Opposite c i h = test_feature_inside _ raw c i h.0
feature_inside raw condition.BothContain c i h = test_feature_inside _ raw c i h.0
feature_inside raw condition.ContainerBound c i h = test_feature_inside _ raw c i h.0
feature_inside raw condition.Default c i h = test_feature_inside _ raw c i h
