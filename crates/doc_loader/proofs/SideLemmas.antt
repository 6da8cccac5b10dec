-- The side from which the links of a pair of features are put, and facts about the feature of roots.
use Rattle.std.proofs.Common.{◌≡◌, ◌≢◌, ◌∙◌, ◌<◌, Bool, true, false, cond, Option, Some, None, refl, sym, ap, subst, inl, inr, arith}
use Rattle.std.specs.Prelude.{◌⊎◌, ◌&&◌, is_some, not, option_and_then}
use Rattle.std.specs.Option.{option_map_or}
use Rattle.std.proofs.lemmas.Bool.{and_parts, cases_Bool, eq-eqb, eqb-true, false≢true, le-ltb, lt-ltb, ltb-true, true≢false, cases_order}
use Rattle.std.proofs.lemmas.Option.{none-some, same_Some, slice_get_past}
use Rattle.mm_types.specs.Lookups as lookups
use Rattle.mm_types.specs.Resolved.{Metamodel}
use Rattle.mm_types.specs.Same.{same_feature}
use Rattle.mm_types.specs.Shapes.{Shape, contents_shape, shape, shape_of}
use Rattle.mm_types.specs.declared.feature.Feature.{Feature}
use Rattle.mm_types.specs.declared.feature.Kind.{Kind}
use Rattle.mm_types.specs.declared.feature.Kind.TheVariants.{Attribute, Reference}
use Rattle.mm_types.specs.declared.numbers.FeatureNo.{FeatureNo}
use Rattle.links.specs.LegalSets.{AreKinds}
use Rattle.models.specs.Legal.{kinds_of}
use Rattle.doc_loader.specs.Pairs.{if_below, is_below, is_near, lower_of}
use Rattle.mm_meta.proofs.ByNameLemmas.{numbered_alike}

-- the feature is no container reference
abbrev pub IsPlainFeature : Metamodel → FeatureNo → Type 0
IsPlainFeature m f = (h : FeatureNo) → (shape m f).containing ≡ Some h → h ≡ f

-- the values of a feature are put from its own ends, and no other feature that a document writes puts links there
pub record IsNearSide (m : Metamodel) (f : FeatureNo) : Type 0 where
  pub near : is_near (shape m f) f ≡ true
  pub reference : (shape m f).is_reference ≡ true
  pub alone : (c : FeatureNo) → IsPlainFeature m c → is_near (shape m c) c ≡ true → (shape m c).opposite ≡ Some f → ⊥

-- the values of a feature come from its opposite
pub record IsFarSide (m : Metamodel) (g f : FeatureNo) : Type 0 where
  pub pair : (shape m g).opposite ≡ Some f
  pub back : (shape m f).opposite ≡ Some g
  pub near : is_near (shape m f) f ≡ true
  pub other : IsPlainFeature m g → is_near (shape m g) g ≡ true → ⊥
  pub holds_not : (shape m g).containing ≡ Some g → ⊥

---------------------------------------------------------------- references

pub opposite-reference : (m : Metamodel) (f g : FeatureNo) → (shape m f).opposite ≡ Some g → (shape m f).is_reference ≡ true
opposite-reference m f g = by (lookups.feature m f)
  where
    by_kind : (x : Feature) (k : Kind) → (shape_of m f x k).opposite ≡ Some g → (shape_of m f x k).is_reference ≡ true
    by_kind x (Attribute t unique unsettable default) q = absurd (none-some g q)
    by_kind x (Reference target containment opposite) q = refl

    by : (o : Option Feature) → (option_map_or (λ x. shape_of m f x x.kind) o (contents_shape m)).opposite ≡ Some g → (option_map_or (λ x. shape_of m f x x.kind) o (contents_shape m)).is_reference ≡ true
    by None q = refl
    by (Some x) q = by_kind x x.kind q

pub contents-shape : (m : Metamodel) → shape m (lookups.contents m) ≡ contents_shape m
contents-shape m = let none = slice_get_past m.features (lookups.contents m).0 (omega arith) in ap (λ (o : Option Feature). option_map_or (λ x. shape_of m (lookups.contents m) x x.kind) o (contents_shape m)) none

---------------------------------------------------------------- sides

lower-none : (a : Shape) (f : FeatureNo) → a.opposite ≡ None → lower_of a f ≡ None
lower-none a f none = ap (λ (o : Option FeatureNo). cond (is_some a.containing) None (option_and_then (if_below f) o)) none ∙ by (is_some a.containing) None
  where
    by : (b : Bool) (n : Option FeatureNo) → cond b n n ≡ n
    by true n = refl
    by false n = refl

lower-contained : (a : Shape) (f h : FeatureNo) → a.containing ≡ Some h → lower_of a f ≡ None
lower-contained a f h some = ap (λ (o : Option FeatureNo). cond (is_some o) None (option_and_then (if_below f) a.opposite)) some

lower-plain : (a : Shape) (f g : FeatureNo) → a.containing ≡ None → a.opposite ≡ Some g → lower_of a f ≡ cond (is_below g f) (Some g) None
lower-plain a f g none some = ap (λ (o : Option FeatureNo). cond (is_some o) None (option_and_then (if_below f) a.opposite)) none ∙ ap (option_and_then (if_below f)) some

pub near-reference : (a : Shape) (f : FeatureNo) → a.is_reference ≡ true → lower_of a f ≡ None → is_near a f ≡ true
near-reference a f reference none = ap (λ (b : Bool). b && not (is_some (lower_of a f))) reference ∙ ap (λ (o : Option FeatureNo). not (is_some o)) none

pub near-contained : (m : Metamodel) (f h : FeatureNo) → (shape m f).is_reference ≡ true → (shape m f).containing ≡ Some h → is_near (shape m f) f ≡ true
near-contained m f h reference contains = near-reference (shape m f) f reference (lower-contained (shape m f) f h contains)

pub not-near : (a : Shape) (f g : FeatureNo) → lower_of a f ≡ Some g → is_near a f ≡ true → ⊥
not-near a f g some near = let both = and_parts a.is_reference (not (is_some (lower_of a f))) near in false≢true (sym (ap (λ (o : Option FeatureNo). not (is_some o)) some) ∙ both.1)

module _ (m : Metamodel) (ok : AreKinds (kinds_of m)) where
  alone-side : (f : FeatureNo) → (shape m f).is_reference ≡ true → (shape m f).opposite ≡ None → IsNearSide m f
  alone-side f reference none = record {
    near = near-reference (shape m f) f reference (lower-none (shape m f) f none);
    reference = reference;
    alone = λ c plain near q. none-some c (sym none ∙ ok.inverse c f q);
  }

  module _ (f g : FeatureNo) (pair : (shape m f).opposite ≡ Some g) where
    back-pair : (shape m g).opposite ≡ Some f
    back-pair = ok.inverse f g pair

    one-containing : (shape m f).containing ≡ (shape m g).containing
    one-containing = ok.one_container f g pair

    differ : f ≢ g
    differ q = ok.two f g pair (ap (λ (x : FeatureNo). x.0) (sym q))

    own-side : (shape m f).containing ≡ Some f → IsNearSide m f
    own-side contains = record {
      near = near-reference (shape m f) f (opposite-reference m f g pair) (lower-contained (shape m f) f f contains);
      reference = opposite-reference m f g pair;
      alone = (λ c plain near q. (
          let is = same_Some c g (sym (ok.inverse c f q) ∙ pair) in
          differ (plain f (ap (λ (x : FeatureNo). (shape m x).containing) is ∙ sym one-containing ∙ contains) ∙ is)));
    }

    held-side : (h : FeatureNo) → (shape m f).containing ≡ Some h → h ≢ f → IsFarSide m f g
    held-side h contains apart = record {
      pair = pair;
      back = back-pair;
      near = near-reference (shape m g) g (opposite-reference m g f back-pair) (lower-contained (shape m g) g h (sym one-containing ∙ contains));
      other = λ plain near. apart (plain h contains);
      holds_not = λ q. apart (same_Some h f (sym contains ∙ q));
    }

    lower-side : (shape m f).containing ≡ None → f.0 < g.0 → IsNearSide m f
    lower-side none low =
        let below : is_below g f ≡ false = le-ltb g.0 f.0 (omega (arith, low)) in
        let above : is_below f g ≡ true = lt-ltb f.0 g.0 low in
        record {
          near = near-reference (shape m f) f (opposite-reference m f g pair) (lower-plain (shape m f) f g none pair ∙ ap (λ (b : Bool). cond b (Some g) None) below);
          reference = opposite-reference m f g pair;
          alone = (λ c plain near q. (
              let is = same_Some c g (sym (ok.inverse c f q) ∙ pair) in
              not-near (shape m g) g f (lower-plain (shape m g) g f (sym one-containing ∙ none) back-pair ∙ ap (λ (b : Bool). cond b (Some f) None) above) (subst (λ (x : FeatureNo). is_near (shape m x) x ≡ true) is near)));
        }

    higher-side : (shape m f).containing ≡ None → g.0 < f.0 → IsFarSide m f g
    higher-side none low =
        let below : is_below g f ≡ true = lt-ltb g.0 f.0 low in
        let above : is_below f g ≡ false = le-ltb f.0 g.0 (omega (arith, low)) in
        record {
          pair = pair;
          back = back-pair;
          near = near-reference (shape m g) g (opposite-reference m g f back-pair) (lower-plain (shape m g) g f (sym one-containing ∙ none) back-pair ∙ ap (λ (b : Bool). cond b (Some f) None) above);
          other = λ plain near. not-near (shape m f) f g (lower-plain (shape m f) f g none pair ∙ ap (λ (b : Bool). cond b (Some g) None) below) near;
          holds_not = λ q. none-some f (sym none ∙ q);
        }

    paired-side : (c : Option FeatureNo) → (shape m f).containing ≡ c → IsNearSide m f ⊎ IsFarSide m f g
    paired-side None none = elim (cases_order f.0 g.0) [
      | inl same ↦ absurd (differ (numbered_alike f g same))
      | inr (inl low) ↦ inl (lower-side none low)
      | inr (inr high) ↦ inr (higher-side none high)
    ]
    paired-side (Some h) contains = elim (cases_Bool (same_feature h f)) [
      | inl same ↦ inl (own-side (contains ∙ ap Some (numbered_alike h f (eqb-true h.0 f.0 same))))
      | inr other ↦ inr (held-side h contains (λ q. true≢false (sym (eq-eqb h.0 f.0 (ap (λ (x : FeatureNo). x.0) q)) ∙ other)))
    ]

  -- each reference is put from its own ends, or gets its values from its opposite
  pub sides : (f : FeatureNo) → (shape m f).is_reference ≡ true → IsNearSide m f ⊎ ((g : FeatureNo) × IsFarSide m f g)
  sides f reference = by (shape m f).opposite refl
    where
      second : (g : FeatureNo) → IsNearSide m f ⊎ IsFarSide m f g → IsNearSide m f ⊎ ((g : FeatureNo) × IsFarSide m f g)
      second g (inl near) = inl near
      second g (inr far) = inr (g, far)

      by : (o : Option FeatureNo) → (shape m f).opposite ≡ o → IsNearSide m f ⊎ ((g : FeatureNo) × IsFarSide m f g)
      by None none = inl (alone-side f reference none)
      by (Some g) pair = second g (paired-side f g pair (shape m f).containing refl)

  -- the values that a document writes under a near feature are put from there
  pub near-side : (f : FeatureNo) → IsPlainFeature m f → is_near (shape m f) f ≡ true → IsNearSide m f
  near-side f plain near = elim (sides f (and_parts (shape m f).is_reference (not (is_some (lower_of (shape m f) f))) near).0) [
    | inl side ↦ side
    | inr side ↦ absurd (side.1.other plain near)
  ]

  -- a feature has a lower opposite only if neither of the two is a containment
  pub record IsHigher (f g : FeatureNo) : Type 0 where
    pub plain : (shape m f).containing ≡ None
    pub pair : (shape m f).opposite ≡ Some g
    pub low : g.0 < f.0

  if-below : (f g h : FeatureNo) → if_below f g ≡ Some h → (g ≡ h) × (g.0 < f.0)
  if-below f g h q =
      elim (is_below g f) as (λ b. is_below g f ≡ b → cond b (Some g) None ≡ Some h → (g ≡ h) × (g.0 < f.0)) [
        | true ↦ λ low at. (same_Some g h at, ltb-true g.0 f.0 low)
        | false ↦ λ low at. absurd (none-some h at)
      ] refl q

  pub higher : (f g : FeatureNo) → lower_of (shape m f) f ≡ Some g → IsHigher f g
  higher f g q = by (shape m f).containing refl (shape m f).opposite refl q
    where
      by : (c : Option FeatureNo) → (shape m f).containing ≡ c → (o : Option FeatureNo) → (shape m f).opposite ≡ o → cond (is_some c) None (option_and_then (if_below f) o) ≡ Some g → IsHigher f g
      by (Some h) contains o pair at = absurd (none-some g at)
      by None contains None pair at = absurd (none-some g at)
      by None contains (Some h) pair at = let r = if-below f h g at in record { plain = contains; pair = pair ∙ ap Some r.0; low = subst (λ (x : FeatureNo). x.0 < f.0) r.0 r.1 }

  pub lower-is : (f g : FeatureNo) → IsHigher f g → lower_of (shape m f) f ≡ Some g
  lower-is f g h = lower-plain (shape m f) f g h.plain h.pair ∙ ap (λ (b : Bool). cond b (Some g) None) (lt-ltb g.0 f.0 h.low)

  pub higher-far : (f g : FeatureNo) → IsHigher f g → IsFarSide m f g
  higher-far f g h = higher-side f g h.pair h.plain h.low

  pub higher-near : (f g : FeatureNo) → IsHigher f g → IsNearSide m g
  higher-near f g h = lower-side g f (back-pair f g h.pair) (sym (one-containing f g h.pair) ∙ h.plain) h.low
