-- The feature that is found by the name of an opposite is the opposite that the reference names.
use Rattle.std.proofs.Common.{◌≡◌, ◌∙◌, ◌+◌, ◌==◌, ◌||◌, ℕ, zero, suc, Bool, true, false, not, cond, List, [], ◌∷◌, Option, Some, None, ap, get_or, refl, sym, subst}
use Rattle.std.specs.Prelude.{option_and_then, position, slice_get, is_some, IsTrue}
use Rattle.std.specs.Bool.{Decides}
use Rattle.std.specs.List.{position_from}
use Rattle.std.specs.Option.{option_map_or}
use Rattle.std.specs.Str.{bytes_eq}
use Rattle.std.proofs.lemmas.Bool.Decides.{Decides-and, Decides-eqb}
use Rattle.std.proofs.lemmas.Iterator.Adapters.{position_from-zero}
use Rattle.std.proofs.lemmas.List.Quantifiers.{position-Some}
use Rattle.std.proofs.lemmas.Option.{cond_some, option_and_then_some, slice_get-get_or}
use Rattle.std.proofs.lemmas.Slice.Eq.{bytes_eq-Decides}
use Rattle.mm_types.specs.Raw.{RawMetamodel}
use Rattle.mm_types.specs.Resolved.{class_named, own_position}
use Rattle.mm_types.specs.WellFormed.{IsContainer, LacksOpposite, NamesOpposite, feature_at, is_containment, is_reference, opposite_name, test_feature_at}
use Rattle.mm_types.specs.declared.meta_fault.Place.TheVariants.{Feature}
use Rattle.mm_types.specs.declared.raw.RawClass.{RawClass}
use Rattle.mm_types.specs.declared.raw.RawFeature.{RawFeature}
use Rattle.mm_types.specs.Opposites.{NamesAreUnique, is_at, is_container_at, lacks_opposite, leads_astray, opposite_at, opposite_of, reference_named}

none_from : {X : Type 0} (p : X → Bool) (s : ℕ) (xs : List X) (j : ℕ) (x : X) → slice_get xs j ≡ Some x → p x ≡ true → position_from p s xs ≡ None → ⊥
none_from p s [] j x at is none = cc
none_from p s (y ∷ ys) zero x at is none =
    let e : y ≡ x = cc in
    let passes : p y ≡ true = subst (λ z. p z ≡ true) (sym e) is in
    let bad : Some s ≡ None = rw passes at none in
    cc
none_from p s (y ∷ ys) (suc j) x at is none =
    elim (p y) as (λ b. cond b (Some s) (position_from p (s + 1) ys) ≡ None → ⊥) [
      | true ↦ λ h. cc
      | false ↦ λ h. none_from p (s + 1) ys j x at is h
    ] none

-- if no other feature has the name, the first feature of the name is the feature itself
pub own_at_first : (raw : RawMetamodel) → NamesAreUnique raw → (d j : ℕ) (f : RawFeature) → feature_at raw d j ≡ Some f → own_position raw.classes d f.name ≡ Some j
own_at_first raw u d j f at = in_class (slice_get raw.classes d) refl at
  where
    in_class : (o : Option RawClass) → slice_get raw.classes d ≡ o → option_and_then (λ k. slice_get k.features j) o ≡ Some f
        → option_and_then (λ k. position (λ g. bytes_eq g.name f.name) k.features) o ≡ Some j
    in_class None here h = cc
    in_class (Some k) here h = by_position (position (λ g. bytes_eq g.name f.name) k.features) refl
      where
        by_position : (o : Option ℕ) → position (λ g. bytes_eq g.name f.name) k.features ≡ o → o ≡ Some j
        by_position None is = absurd (none_from (λ g. bytes_eq g.name f.name) 0 k.features j f h ((bytes_eq-Decides f.name f.name).1 refl) (sym (position_from-zero (λ g. bytes_eq g.name f.name) k.features) ∙ is))
        by_position (Some i) is =
            let found = position-Some (λ g. bytes_eq g.name f.name) k.features i f is in
            let g = get_or k.features i f in
            let there : feature_at raw d i ≡ Some g = ap (option_and_then (λ (k : RawClass). slice_get k.features i)) here ∙ slice_get-get_or k.features i f found.0 in
            let same : g.name ≡ f.name = (bytes_eq-Decides g.name f.name).0 found.1 in
            ap Some (u d i j g f there at same)

record IsFound (raw : RawMetamodel) (d j : ℕ) (name : List ℕ) : Type 0 where
  feature : RawFeature
  here : feature_at raw d j ≡ Some feature
  named : feature.name ≡ name

own_found : (raw : RawMetamodel) (d j : ℕ) (name : List ℕ) → own_position raw.classes d name ≡ Some j → IsFound raw d j name
own_found raw d j name is = in_class (slice_get raw.classes d) refl is
  where
    in_class : (o : Option RawClass) → slice_get raw.classes d ≡ o → option_and_then (λ k. position (λ g. bytes_eq g.name name) k.features) o ≡ Some j → IsFound raw d j name
    in_class None here h = cc
    in_class (Some k) here h = by_list k.features refl
      where
        by_list : (fs : List RawFeature) → k.features ≡ fs → IsFound raw d j name
        by_list [] e = let bad : position {X = RawFeature} (λ g. bytes_eq g.name name) [] ≡ Some j = rw e at h in cc
        by_list (x ∷ fs) e =
            let found = position-Some (λ g. bytes_eq g.name name) k.features j x h in
            let g = get_or k.features j x in
            record {
              feature = g;
              here = ap (option_and_then (λ (k : RawClass). slice_get k.features j)) here ∙ slice_get-get_or k.features j x found.0;
              named = (bytes_eq-Decides g.name name).0 found.1;
            }

pub test_here : (t : RawFeature → Bool) (raw : RawMetamodel) (c i : ℕ) (f : RawFeature) → feature_at raw c i ≡ Some f → test_feature_at t raw c i ≡ t f
test_here t raw c i f at = ap (λ (o : Option RawFeature). option_map_or t o false) at

-- the opposite that a reference names is found
opposite_found : (raw : RawMetamodel) → NamesAreUnique raw → (c i d j : ℕ) → NamesOpposite raw c i d j → opposite_at raw c i ≡ Some (d, j)
opposite_found raw u c i d j h =
    let far_position : own_position raw.classes d h.far.name ≡ Some j = own_at_first raw u d j h.far h.far_here in
    let refers : test_feature_at (λ f. is_reference f.kind) raw d j ≡ true = test_here (λ f. is_reference f.kind) raw d j h.far h.far_here ∙ h.far_refers in
    ap (option_and_then (opposite_of raw)) h.near_here
    ∙ (ap (option_and_then (λ name. option_and_then (λ d. reference_named raw d name) (class_named raw.classes h.near.type_name))) h.names
    ∙ (ap (option_and_then (λ d. reference_named raw d h.far.name)) h.type_is
    ∙ (ap (option_and_then (λ j. cond (test_feature_at (λ f. is_reference f.kind) raw d j) (Some (d, j)) None)) far_position
    ∙ ap (λ b. cond b (Some (d, j)) None) refers)))

-- the feature that is found is the opposite that a reference names
pub opposite_is : (raw : RawMetamodel) (c i : ℕ) (p : ℕ × ℕ) → opposite_at raw c i ≡ Some p → NamesOpposite raw c i p.0 p.1
opposite_is raw c i p is =
    option_and_then_some (opposite_of raw) (feature_at raw c i) p is (λ near near_here h1.
    option_and_then_some (λ name. option_and_then (λ d. reference_named raw d name) (class_named raw.classes near.type_name)) (opposite_name near.kind) p h1 (λ name names h2.
    option_and_then_some (λ d. reference_named raw d name) (class_named raw.classes near.type_name) p h2 (λ d type_is h3.
    option_and_then_some (λ j. cond (test_feature_at (λ f. is_reference f.kind) raw d j) (Some (d, j)) None) (own_position raw.classes d name) p h3 (λ j at h4.
    let both = cond_some (test_feature_at (λ f. is_reference f.kind) raw d j) (d, j) p h4 in
    let found = own_found raw d j name at in
    subst (λ (q : ℕ × ℕ). NamesOpposite raw c i q.0 q.1) both.1
    (record {
      near = near;
      far = found.feature;
      near_here = near_here;
      far_here = found.here;
      type_is = type_is;
      names = names ∙ ap Some (sym found.named);
      far_refers = sym (test_here (λ f. is_reference f.kind) raw d j found.feature found.here) ∙ both.0;
    })))))

container_decides : (raw : RawMetamodel) → NamesAreUnique raw → (c i : ℕ) → Decides (is_container_at raw c i) (IsContainer raw c i)
container_decides raw u c i = (
  (λ h. found (opposite_at raw c i) refl h),
  (λ k. ap (λ (o : Option (ℕ × ℕ)). option_map_or (λ p. test_feature_at (λ f. is_containment f.kind) raw p.0 p.1) o false) (opposite_found raw u c i k.0 k.1 k.2) ∙ k.3),
)
  where
    found : (o : Option (ℕ × ℕ)) → opposite_at raw c i ≡ o → option_map_or (λ p. test_feature_at (λ f. is_containment f.kind) raw p.0 p.1) o false ≡ true → IsContainer raw c i
    found None is h = cc
    found (Some p) is h = (p.0, p.1, opposite_is raw c i p is, h)

pub at_decides : (c i : ℕ) (p : ℕ × ℕ) → Decides (is_at c i p) ((p.0 ≡ c) × (p.1 ≡ i))
at_decides c i p = Decides-and (p.0 == c) (p.1 == i) (Decides-eqb p.0 c) (Decides-eqb p.1 i)

-- if a reference names another one, and that one names it back, the two are the same reference
abbrev NoOtherNamesBack : RawMetamodel → ℕ → ℕ → Type 0
NoOtherNamesBack raw c i = (d j : ℕ) → NamesOpposite raw c i d j → NamesOpposite raw d j c i → (d ≡ c) × (j ≡ i)

astray : (raw : RawMetamodel) → NamesAreUnique raw → (c i : ℕ) (p : ℕ × ℕ) → opposite_at raw c i ≡ Some p → leads_astray raw c i p ≡ true → NoOtherNamesBack raw c i
astray raw u c i p is h d j named back =
    let here : Some p ≡ Some (d, j) = sym is ∙ opposite_found raw u c i d j named in
    let same : p ≡ (d, j) = cc in
    let there : opposite_at raw p.0 p.1 ≡ Some (c, i) = ap (λ (q : ℕ × ℕ). opposite_at raw q.0 q.1) same ∙ opposite_found raw u d j c i back in
    let yes : option_map_or (is_at c i) (opposite_at raw p.0 p.1) false ≡ true = ap (λ (o : Option (ℕ × ℕ)). option_map_or (is_at c i) o false) there ∙ (at_decides c i (c, i)).1 (refl, refl) in
    let settled : (is_at c i p || not true) ≡ true = subst (λ b. (is_at c i p || not b) ≡ true) yes h in
    let itself = (at_decides c i p).0 (plain (is_at c i p) settled) in
    (ap (λ (q : ℕ × ℕ). q.0) (sym same) ∙ itself.0, ap (λ (q : ℕ × ℕ). q.1) (sym same) ∙ itself.1)
  where
    plain : (b : Bool) → (b || not true) ≡ true → b ≡ true
    plain true h = refl
    plain false h = h

astray_back : (raw : RawMetamodel) (c i : ℕ) (p : ℕ × ℕ) → opposite_at raw c i ≡ Some p → NoOtherNamesBack raw c i → leads_astray raw c i p ≡ true
astray_back raw c i p is none = by_test (is_at c i p) refl
  where
    by_back : (o : Option (ℕ × ℕ)) → opposite_at raw p.0 p.1 ≡ o → is_at c i p ≡ false → not (option_map_or (is_at c i) o false) ≡ true
    by_back None there h = refl
    by_back (Some q) there h = by_place (is_at c i q) refl
      where
        by_place : (b : Bool) → is_at c i q ≡ b → not b ≡ true
        by_place false e = refl
        by_place true e =
            let at = (at_decides c i q).0 e in
            let named : NamesOpposite raw p.0 p.1 q.0 q.1 = opposite_is raw p.0 p.1 q there in
            let back : NamesOpposite raw p.0 p.1 c i = subst (λ (n : ℕ). NamesOpposite raw p.0 p.1 c n) at.1 (subst (λ (n : ℕ). NamesOpposite raw p.0 p.1 n q.1) at.0 named) in
            let itself = none p.0 p.1 (opposite_is raw c i p is) back in
            let yes : is_at c i p ≡ true = (at_decides c i p).1 itself in
            let bad : true ≡ false = sym yes ∙ h in
            cc

    by_test : (b : Bool) → is_at c i p ≡ b → (is_at c i p || not (option_map_or (is_at c i) (opposite_at raw p.0 p.1) false)) ≡ true
    by_test true e = rw e refl
    by_test false e = rw e (by_back (opposite_at raw p.0 p.1) refl e)

back_decides : (raw : RawMetamodel) → NamesAreUnique raw → (c i : ℕ) → Decides (option_map_or (leads_astray raw c i) (opposite_at raw c i) true) (NoOtherNamesBack raw c i)
back_decides raw u c i = by (opposite_at raw c i) refl
  where
    by : (o : Option (ℕ × ℕ)) → opposite_at raw c i ≡ o → Decides (option_map_or (leads_astray raw c i) o true) (NoOtherNamesBack raw c i)
    by None is = (
      (λ h d j named back. let bad : None ≡ Some (d, j) = sym is ∙ opposite_found raw u c i d j named in cc),
      (λ h. refl),
    )
    by (Some p) is = (astray raw u c i p is, astray_back raw c i p is)

itself_decides : (b : Bool) → Decides b (IsTrue b)
itself_decides b = ((λ h. h), (λ h. h))

pub lacks_decides : (raw : RawMetamodel) → NamesAreUnique raw → (c i : ℕ) → Decides (lacks_opposite raw c i) (LacksOpposite raw (Feature c i))
lacks_decides raw u c i =
    Decides-and (test_feature_at (λ f. is_some (opposite_name f.kind)) raw c i) (option_map_or (leads_astray raw c i) (opposite_at raw c i) true)
    (itself_decides (test_feature_at (λ f. is_some (opposite_name f.kind)) raw c i)) (back_decides raw u c i)

-- a reference that passes a test and whose opposite is a containment
pub with_container : (raw : RawMetamodel) → NamesAreUnique raw → (c i : ℕ) (b : Bool) → true ≡ b → Decides (is_container_at raw c i) (IsTrue b × IsContainer raw c i)
with_container raw u c i b is =
    let contains = container_decides raw u c i in
    ((λ h. (sym is, contains.0 h)), (λ (both : IsTrue b × IsContainer raw c i). contains.1 both.1))
