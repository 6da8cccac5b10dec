-- Whether a condition applies at a place is decided by tests.
use Rattle.std.proofs.Common.{◌≡◌, ◌∙◌, ◌<◌, ◌≤◌, ◌↔◌, ◌||◌, ◌++◌, ℕ, zero, suc, Bool, true, false, List, [], ◌∷◌, Option, Some, None, ap, arith, length, sym, subst, take, ⊎_elim, inr}
use Rattle.std.specs.Prelude.{IsTrue, slice_get}
use Rattle.std.specs.Option.{option_map_or}
use Rattle.mm_types.specs.Clashes.{Clash}
use Rattle.mm_types.specs.Graph.{Reaches}
use Rattle.mm_types.specs.Names.{is_among, repeats}
use Rattle.mm_types.specs.Raw.{RawMetamodel}
use Rattle.mm_types.specs.Resolved.{graph_of}
use Rattle.mm_types.specs.WellFormed.{Applies, HasDuplicate, IsBefore, class_names, enum_names, own_names, reserved_names}
use Rattle.mm_types.specs.declared.meta_fault.Condition.{Condition}
use Rattle.mm_types.specs.declared.meta_fault.Condition.TheVariants.{Cycle, DuplicateName}
use Rattle.mm_types.specs.declared.meta_fault.Place.{Place}
use Rattle.mm_types.specs.declared.meta_fault.Place.TheVariants.{Enum, Class, Feature}
use Rattle.mm_types.specs.declared.raw.RawClass.{RawClass}
use Rattle.mm_graph.specs.First.{HoldsOfNone}
use Rattle.mm_check.specs.Search.{AppliesToNoEnum, AppliesToNone, IsFirstAt}
use Rattle.mm_check.proofs.Inside.{class_inside, feature_inside, long}

none_past : {X : Type 0} (xs : List X) (i : ℕ) → None ≡ slice_get xs i → i < length xs → ⊥
none_past [] i is low = omega arith
none_past (x ∷ xs) zero is low = cc
none_past (x ∷ xs) (suc i) is low = none_past xs i is (omega arith)

-- if there is no class, nothing occurs twice
pub no_class : (raw : RawMetamodel) (c : ℕ) → None ≡ slice_get raw.classes c → IsTrue false ↔ HasDuplicate raw (Class c)
no_class raw c is = ((λ (h : false ≡ true). absurd cc), (λ (h : HasDuplicate raw (Class c)). absurd (none_past raw.classes c is (class_inside raw DuplicateName c h))))

-- if neither the name of a class nor a supertype occurs twice, a duplicate is a clash
pub only_clash : (raw : RawMetamodel) (c : ℕ) (k : RawClass) (b : Bool) → Some k ≡ slice_get raw.classes c
    → (is_among (reserved_names ++ enum_names raw ++ take c (class_names raw)) k.name || repeats [] k.supers) ≡ false
    → IsTrue b ↔ Clash (graph_of raw.classes) (own_names raw) c → IsTrue b ↔ HasDuplicate raw (Class c)
only_clash raw c k b at none is = (
  (λ (h : IsTrue b). inr (is.0 h)),
  (λ (d : HasDuplicate raw (Class c)). ⊎_elim
      (λ h.
      let here : (is_among (reserved_names ++ enum_names raw ++ take c (class_names raw)) k.name || repeats [] k.supers) ≡ true =
      ap (λ (o : Option RawClass). option_map_or (λ k. is_among (reserved_names ++ enum_names raw ++ take c (class_names raw)) k.name || repeats [] k.supers) o false) at ∙ h in
      let bad : true ≡ false = sym here ∙ none in
      absurd cc)
      (λ h. is.1 h) d),
)

-- the first class on a cycle is the first place
pub cycle_at : (raw : RawMetamodel) (g : List (List ℕ)) (c : ℕ) → g ≡ graph_of raw.classes → Reaches g c c → HoldsOfNone (λ d. Reaches g d d) c → IsFirstAt raw Cycle (Class c)
cycle_at raw g c is here none = record {
  applies = subst (λ (h : List (List ℕ)). Reaches h c c) is here;
  none_before = before;
}
  where
    before : (q : Place) → Applies raw Cycle q → IsBefore q (Class c) → ⊥
    before (Enum i) h b = h
    before (Class d) h b = none d b (subst (λ (h : List (List ℕ)). Reaches h d d) (sym is) h)
    before (Feature d i) h b = h

pub no_cycle : (raw : RawMetamodel) (g : List (List ℕ)) → g ≡ graph_of raw.classes → HoldsOfNone (λ d. Reaches g d d) (length g) → (p : Place) → Applies raw Cycle p → ⊥
no_cycle raw g is none (Enum i) h = h
no_cycle raw g is none (Class d) h =
    let low = class_inside raw Cycle d h in
    let wide = ap length is ∙ long raw.classes in
    none d (omega (arith, wide)) (subst (λ (h : List (List ℕ)). Reaches h d d) (sym is) h)
no_cycle raw g is none (Feature d i) h = h

-- a condition that applies to no enumeration, and to nothing of any class, applies nowhere
pub nowhere : (raw : RawMetamodel) (k : Condition) (n : ℕ) → length raw.classes ≤ n → AppliesToNoEnum raw k → AppliesToNone raw k n → (p : Place) → Applies raw k p → ⊥
nowhere raw k n all none_enum none (Enum i) h = none_enum i h
nowhere raw k n all none_enum none (Class c) h = let low = class_inside raw k c h in none.to_class c (omega arith) h
nowhere raw k n all none_enum none (Feature c i) h = let low = (feature_inside raw k c i h).0 in none.to_feature c i (omega arith) h
