-- The links that are put in again: these edits fit, and give each end of a higher feature the order of the document.
use Rattle.std.proofs.Common.{◌≡◌, ◌≢◌, ◌∙◌, ◌<◌, ◌++◌, ℕ, Bool, true, false, cond, if◌then◌else◌, List, [], ◌∷◌, Option, Some, None, refl, sym, ap, subst, arith}
use Rattle.std.specs.Prelude.{◌&&◌, flat_map, nat_eq, slice_get}
use Rattle.std.specs.List.{AllByRecursion, enumerate_from}
use Rattle.std.specs.Option.{option_map_or}
use Rattle.std.proofs.lemmas.Bool.{eqb-true, false≢true, false_from_ne_true, true≢false}
use Rattle.std.proofs.lemmas.Option.{none-some, same_Some}
use Rattle.mm_types.specs.Resolved.{Metamodel}
use Rattle.mm_types.specs.Same.{same_end, same_feature}
use Rattle.mm_types.specs.Shapes.{Shape, shape}
use Rattle.mm_types.specs.declared.end.End.{End}
use Rattle.mm_types.specs.declared.numbers.FeatureNo.{FeatureNo}
use Rattle.mm_types.specs.declared.numbers.ObjectNo.{ObjectNo}
use Rattle.mm_types.specs.declared.value.Value.{Value}
use Rattle.mm_types.specs.declared.value.Value.TheVariants as value
use Rattle.links.proofs.PlaceLemmas.{ne-same_end}
use Rattle.links.specs.LegalSets.{IsDistinct}
use Rattle.links.specs.declared.plan.Edit.{Edit}
use Rattle.links.specs.declared.plan.Edit.TheVariants as edit
use Rattle.models.specs.Legal.{kinds_of}
use Rattle.resource_docs.specs.Read.{values_in}
use Rattle.resource_docs.specs.declared.doc.Content.{Content}
use Rattle.resource_docs.specs.declared.doc.Doc.{Doc}
use Rattle.doc_loader.specs.LoadEdits.{far_edits, in_order, is_ascending_from, puts_again}
use Rattle.doc_loader.specs.Loading.{loaded_number, object_end, of_contents, of_object}
use Rattle.doc_loader.specs.Pairs.{lower_of}
use Rattle.doc_loader.specs.ListIndexes.{object_key, index_among}
use Rattle.doc_loader.proofs.FillLemmas.{is_no_proxy, others}
use Rattle.doc_loader.proofs.GatherLemmas.{by-contents, gathered-none, gathered-one}
use Rattle.doc_loader.proofs.PairLemmas.{all-at, all-flat_map, all-from_at, all-more}
use Rattle.doc_loader.proofs.PlacedLemmas.{lower-feature, index_of-is}
use Rattle.doc_loader.proofs.RotateLemmas.{Again, IsGoodAgain, all_again, again_at, again_edits}
use Rattle.doc_loader.proofs.SideLemmas.{IsHigher, IsNearSide, opposite-reference, higher, higher-near, lower-is}
use Rattle.doc_loader.proofs.SoundLemmas.{AreSoundContents, IsSort, IsSound, IsSoundContent, has-content}
use Rattle.doc_loader.proofs.SourceLemmas.{loaded-at, loaded_values}
use Rattle.doc_loader.proofs.TotalLemmas.{add-eq, nested}
use Rattle.mm_meta.proofs.ByNameLemmas.{numbered_alike}
use Rattle.mm_meta.proofs.OwnerLemmas.{nat_eq-turned}
use Rattle.links.specs.Plans.{put_of}

---------------------------------------------------------------- values of pairs

-- an object or a proxy
abbrev pub IsTarget : Value → Type 0
IsTarget (value.Object a) = Unit {0}
IsTarget (value.Proxy t) = Unit {0}
IsTarget _ = ⊥

-- the values of a reference are objects and proxies
pub reference-target : (a : Shape) (v : Value) → a.is_reference ≡ true → IsSort a v → IsTarget v
reference-target a (value.Object b) reference sort = tt
reference-target a (value.Proxy t) reference sort = tt
reference-target a value.Null reference sort = absurd (true≢false (sym reference ∙ sort))
reference-target a (value.Bool x) reference sort = absurd (true≢false (sym reference ∙ sort))
reference-target a (value.Int x) reference sort = absurd (true≢false (sym reference ∙ sort))
reference-target a (value.Text x) reference sort = absurd (true≢false (sym reference ∙ sort))
reference-target a (value.Literal x) reference sort = absurd (true≢false (sym reference ∙ sort))

-- a value of a reference that is no proxy is an object
pub target-object : (v : Value) → IsTarget v → is_no_proxy v ≡ true → (a : ObjectNo) × (v ≡ value.Object a)
target-object (value.Object a) target plain = (a, refl)
target-object (value.Proxy t) target plain = absurd (false≢true plain)
target-object value.Null target plain = absurd target
target-object (value.Bool x) target plain = absurd target
target-object (value.Int x) target plain = absurd target
target-object (value.Text x) target plain = absurd target
target-object (value.Literal x) target plain = absurd target

module _ (m : Metamodel) (doc : Doc) (sound : IsSound m doc) where
  pub answered-in : (a : ObjectNo) (f g : FeatureNo) (b : ObjectNo) (i : ℕ) → (shape m f).containing ≡ None → (shape m f).opposite ≡ Some g → slice_get (values_in doc a f) i ≡ Some (value.Object b)
      → (j : ℕ) × (slice_get (values_in doc b g) j ≡ Some (value.Object a))
  answered-in a f g b i plain pair at =
      let c = has-content m doc sound a f i (value.Object b) at in
      c.is_sound.answered g i b (ap (λ (x : FeatureNo). (shape m x).containing) c.of ∙ plain) (ap (λ (x : FeatureNo). (shape m x).opposite) c.of ∙ pair) (ap (λ (vs : List Value). slice_get vs i) (sym c.values) ∙ at)

  pub target-in : (a : ObjectNo) (f : FeatureNo) (i : ℕ) (v : Value) → (shape m f).is_reference ≡ true → slice_get (values_in doc a f) i ≡ Some v → IsTarget v
  target-in a f i v reference at =
      let c = has-content m doc sound a f i v at in
      let sort = all-at (IsSort (shape m c.content.feature)) c.content.values i v c.is_sound.sorts (ap (λ (vs : List Value). slice_get vs i) (sym c.values) ∙ at) in
      reference-target (shape m f) v reference (subst (λ (x : FeatureNo). IsSort (shape m x) v) c.of sort)

---------------------------------------------------------------- the links that are put again

module _ (m : Metamodel) (n : ℕ) (doc : Doc) (sound : IsSound m doc) where
  abbrev value_again : FeatureNo → FeatureNo → ObjectNo → Value → List Again
  value_again f g b (value.Object a) = record { near = object_end n a f; index = index_among m doc.objects (object_key a f b); object = loaded_number n b; far = g } ∷ []
  value_again f g b v = []

  abbrev values_again : FeatureNo → ObjectNo → List Value → FeatureNo → List Again
  values_again g b vs f = cond (is_ascending_from 0 vs) [] (flat_map (value_again f g b) vs)

  abbrev content_again : ObjectNo → Content → List Again
  content_again b c = option_map_or (values_again c.feature b c.values) (lower_of (shape m c.feature) c.feature) []

  abbrev pub agains : List Again
  agains = of_contents content_again doc

  value-edits : (f g : FeatureNo) (b : ObjectNo) (vs : List Value) → flat_map (again_edits (kinds_of m)) (flat_map (value_again f g b) vs) ≡ flat_map (puts_again m n (index_among m doc.objects) b f) vs
  value-edits f g b [] = refl
  value-edits f g b (value.Object a ∷ vs) =
      let e = object_end n a f in
      ap (λ (es : List Edit). edit.Cut e (value.Object (loaded_number n b)) ∷ put_of e (index_among m doc.objects (object_key a f b)) (loaded_number n b) (shape m f).opposite (shape m f).containing ∷ es) (value-edits f g b vs)
  value-edits f g b (value.Proxy t ∷ vs) = value-edits f g b vs
  value-edits f g b (value.Null ∷ vs) = value-edits f g b vs
  value-edits f g b (value.Bool x ∷ vs) = value-edits f g b vs
  value-edits f g b (value.Int x ∷ vs) = value-edits f g b vs
  value-edits f g b (value.Text x ∷ vs) = value-edits f g b vs
  value-edits f g b (value.Literal x ∷ vs) = value-edits f g b vs

  content-edits : (b : ObjectNo) (c : Content) → flat_map (again_edits (kinds_of m)) (content_again b c) ≡ far_edits m n (index_among m doc.objects) b c
  content-edits b c = by (lower_of (shape m c.feature) c.feature)
    where
      by_order : (f : FeatureNo) (t : Bool) → flat_map (again_edits (kinds_of m)) (cond t [] (flat_map (value_again f c.feature b) c.values)) ≡ cond t [] (flat_map (puts_again m n (index_among m doc.objects) b f) c.values)
      by_order f true = refl
      by_order f false = value-edits f c.feature b c.values

      by : (o : Option FeatureNo) → flat_map (again_edits (kinds_of m)) (option_map_or (values_again c.feature b c.values) o []) ≡ option_map_or (in_order m n (index_among m doc.objects) b c.values) o []
      by None = refl
      by (Some f) = by_order f (is_ascending_from 0 c.values)

  -- these are the edits of the document
  pub again-edits : all_again (kinds_of m) agains ≡ of_contents (far_edits m n (index_among m doc.objects)) doc
  again-edits =
      by-contents content_again (again_edits (kinds_of m)) doc
      ∙ (λ i. of_contents (λ b c. content-edits b c i) doc)

  ---------------------------------------------------------------- each is one that can be put again

  -- an end of the lower feature of a pair
  abbrev pub IsLowerEnd : End → Type 0
  IsLowerEnd d = (h : FeatureNo) × ((shape m d.feature).opposite ≡ Some h) × (d.feature.0 < h.0)

  module _ (near_end : End → List Value) (own : (a : ObjectNo) (f : FeatureNo) → IsNearSide m f → near_end (object_end n a f) ≡ loaded_values n (values_in doc a f))
      (distinct : (a : ObjectNo) (f : FeatureNo) → (shape m f).is_reference ≡ true → IsDistinct (values_in doc a f)) where
    abbrev Good : Again → Type 0
    Good = IsGoodAgain (kinds_of m) IsLowerEnd near_end

    object-good : (o : ObjectNo) (c : Content) → IsSoundContent m doc o c → (f : FeatureNo) → IsHigher m sound.kinds c.feature f → (j : ℕ) (a : ObjectNo) → slice_get c.values j ≡ Some (value.Object a)
        → Good (record { near = object_end n a f; index = index_among m doc.objects (object_key a f o); object = loaded_number n o; far = c.feature })
    object-good o c s f high j a at =
        let side = higher-near m sound.kinds c.feature f high in
        let back = sound.kinds.inverse c.feature f high.pair in
        let plain = sym (sound.kinds.one_container c.feature f high.pair) ∙ high.plain in
        let i = s.answered f j a high.plain high.pair at in
        let index_of = index_of-is m doc sound a f o i.0 (distinct a f side.reference) i.1 (lower-feature m f c.feature plain back high.low) in
        record {
          pair = back;
          plain = plain;
          object = tt;
          at = (λ l. slice_get (own a f side l) (index_of l)) ∙ loaded-at n (values_in doc a f) i.0 (value.Object o) i.1;
          stays = (c.feature, back, high.low);
          apart = (λ d near q. (
              let g : c.feature ≡ d.feature = ap (λ (x : End). x.feature) q in
              let h = same_Some f near.0 (sym high.pair ∙ ap (λ (x : FeatureNo). (shape m x).opposite) g ∙ near.1) in
              let e = ap (λ (x : FeatureNo). x.0) g in
              let p = ap (λ (x : FeatureNo). x.0) h in
              let low = near.2 in
              let lower = high.low in
              omega (arith, e, p, low, lower)));
        }

    value-good : (o : ObjectNo) (c : Content) → IsSoundContent m doc o c → (f : FeatureNo) → IsHigher m sound.kinds c.feature f → (j : ℕ) (v : Value) → slice_get c.values j ≡ Some v → AllByRecursion Good (value_again f c.feature o v)
    value-good o c s f high j (value.Object a) at = (object-good o c s f high j a at, tt)
    value-good o c s f high j (value.Proxy t) at = tt
    value-good o c s f high j value.Null at = tt
    value-good o c s f high j (value.Bool x) at = tt
    value-good o c s f high j (value.Int x) at = tt
    value-good o c s f high j (value.Text x) at = tt
    value-good o c s f high j (value.Literal x) at = tt

    content-good : (o : ObjectNo) (c : Content) → IsSoundContent m doc o c → AllByRecursion Good (content_again o c)
    content-good o c s = by (lower_of (shape m c.feature) c.feature) refl
      where
        by_order : (f : FeatureNo) → IsHigher m sound.kinds c.feature f → (t : Bool) → AllByRecursion Good (cond t [] (flat_map (value_again f c.feature o) c.values))
        by_order f high true = tt
        by_order f high false =
            all-flat_map (λ (v : Value). (j : ℕ) × (slice_get c.values j ≡ Some v)) Good (value_again f c.feature o) c.values (λ v at. value-good o c s f high at.0 v at.1) (all-from_at (λ (v : Value). (j : ℕ) × (slice_get c.values j ≡ Some v)) c.values (λ j v at. (j, at)))

        by : (h : Option FeatureNo) → lower_of (shape m c.feature) c.feature ≡ h → AllByRecursion Good (option_map_or (values_again c.feature o c.values) h [])
        by None is = tt
        by (Some f) is = by_order f (higher m sound.kinds c.feature f is) (is_ascending_from 0 c.values)

    pub agains-good : AllByRecursion (IsGoodAgain (kinds_of m) IsLowerEnd near_end) agains
    agains-good =
        all-flat_map (AreSoundContents m doc) Good (of_object content_again) (enumerate_from 0 doc.objects)
        (λ y h. all-flat_map (IsSoundContent m doc (record { 0 = y.0 })) Good (content_again (record { 0 = y.0 })) y.1.contents (λ c s. content-good (record { 0 = y.0 }) c s) h) sound.contents

  ---------------------------------------------------------------- what comes to be last

  -- at an end of the higher feature: all objects whose links are put in again, in their order
  values-last : (d : End) (f g : FeatureNo) (o : ObjectNo) (vs : List Value) → AllByRecursion IsTarget vs
      → flat_map (again_at d) (flat_map (value_again f g o) vs) ≡ cond (same_end (object_end n o g) d) (loaded_values n (others vs)) []
  values-last d f g o [] all = both (same_end (object_end n o g) d)
    where
      both : (t : Bool) → [] ≡ cond t (loaded_values n []) []
      both true = refl
      both false = refl
  values-last d f g o (value.Proxy t ∷ vs) all = values-last d f g o vs all.1
  values-last d f g o (value.Null ∷ vs) all = absurd all.0
  values-last d f g o (value.Bool x ∷ vs) all = absurd all.0
  values-last d f g o (value.Int x ∷ vs) all = absurd all.0
  values-last d f g o (value.Text x ∷ vs) all = absurd all.0
  values-last d f g o (value.Literal x ∷ vs) all = absurd all.0
  values-last d f g o (value.Object a ∷ vs) all =
      ap (λ (xs : List Value). (if same_end (object_end n o g) d then value.Object (loaded_number n a) ∷ [] else []) ++ xs) (values-last d f g o vs all.1) ∙ step (same_end (object_end n o g) d) (value.Object (loaded_number n a)) (loaded_values n (others vs))
    where
      step : (t : Bool) (x : Value) (xs : List Value) → (if t then x ∷ [] else []) ++ cond t xs [] ≡ cond t (x ∷ xs) []
      step true x xs = refl
      step false x xs = refl

  all-targets : (o : ObjectNo) (c : Content) → IsSoundContent m doc o c → (f : FeatureNo) → IsHigher m sound.kinds c.feature f → AllByRecursion IsTarget c.values
  all-targets o c s f high = all-more (IsSort (shape m c.feature)) IsTarget c.values (λ v sort. reference-target (shape m c.feature) v (opposite-reference m c.feature f high.pair) sort) s.sorts

  -- the values that are put in again at an end, by its values
  abbrev pub last_of : List Value → List Value
  last_of vs = cond (is_ascending_from 0 vs) [] (loaded_values n (others vs))

  content-last : (b : ObjectNo) (g f : FeatureNo) → IsHigher m sound.kinds g f → (o : ObjectNo) (c : Content) → IsSoundContent m doc o c
      → flat_map (again_at (object_end n b g)) (content_again o c) ≡ cond (same_feature g c.feature) (cond (nat_eq o.0 b.0) (last_of c.values) []) []
  content-last b g f high o c s = by (lower_of (shape m c.feature) c.feature) refl
    where
      all-nil : (p q : Bool) (none : List Value) → none ≡ cond p (cond q none none) none
      all-nil true true none = refl
      all-nil true false none = refl
      all-nil false q none = refl

      by_order : (h : FeatureNo) → IsHigher m sound.kinds c.feature h → (t : Bool)
          → flat_map (again_at (object_end n b g)) (cond t [] (flat_map (value_again h c.feature o) c.values)) ≡ cond (same_feature g c.feature) (cond (nat_eq o.0 b.0) (cond t [] (loaded_values n (others c.values))) []) []
      by_order h is true = all-nil (same_feature g c.feature) (nat_eq o.0 b.0) []
      by_order h is false =
          values-last (object_end n b g) h c.feature o c.values (all-targets o c s h is)
          ∙ nested (nat_eq o.0 b.0) (same_feature g c.feature) (same_end (object_end n o c.feature) (object_end n b g)) (loaded_values n (others c.values)) (λ i. (sym (add-eq n o.0 b.0) i) && (nat_eq-turned g.0 c.feature.0 i))

      by : (h : Option FeatureNo) → lower_of (shape m c.feature) c.feature ≡ h
          → flat_map (again_at (object_end n b g)) (option_map_or (values_again c.feature o c.values) h []) ≡ cond (same_feature g c.feature) (cond (nat_eq o.0 b.0) (last_of c.values) []) []
      by None none =
          let other = false_from_ne_true (same_feature g c.feature) (λ q. none-some f (sym none ∙ subst (λ (x : FeatureNo). lower_of (shape m x) x ≡ Some f) (numbered_alike g c.feature (eqb-true g.0 c.feature.0 q)) (lower-is m sound.kinds g f high))) in
          ap (λ (t : Bool). cond t (cond (nat_eq o.0 b.0) (last_of c.values) []) []) (sym other)
      by (Some h) is = by_order h (higher m sound.kinds c.feature h is) (is_ascending_from 0 c.values)

  pub last-higher : (b : ObjectNo) (g f : FeatureNo) → IsHigher m sound.kinds g f → flat_map (again_at (object_end n b g)) agains ≡ last_of (values_in doc b g)
  last-higher b g f high = gathered-one content_again (again_at (object_end n b g)) m doc sound b g last_of refl (content-last b g f high)

  -- an end that is not of a higher feature
  abbrev pub IsNotHigher : End → Type 0
  IsNotHigher d = (b : ObjectNo) (g f : FeatureNo) → IsHigher m sound.kinds g f → object_end n b g ≢ d

  content-stays : (d : End) → IsNotHigher d → (o : ObjectNo) (c : Content) → IsSoundContent m doc o c → flat_map (again_at d) (content_again o c) ≡ []
  content-stays d stays o c s = by (lower_of (shape m c.feature) c.feature) refl
    where
      by_order : (h : FeatureNo) → IsHigher m sound.kinds c.feature h → (t : Bool) → flat_map (again_at d) (cond t [] (flat_map (value_again h c.feature o) c.values)) ≡ []
      by_order h is true = refl
      by_order h is false = values-last d h c.feature o c.values (all-targets o c s h is) ∙ ap (λ (t : Bool). cond t (loaded_values n (others c.values)) []) (ne-same_end (object_end n o c.feature) d (stays o c.feature h is))

      by : (h : Option FeatureNo) → lower_of (shape m c.feature) c.feature ≡ h → flat_map (again_at d) (option_map_or (values_again c.feature o c.values) h []) ≡ []
      by None none = refl
      by (Some h) is = by_order h (higher m sound.kinds c.feature h is) (is_ascending_from 0 c.values)

  pub last-none : (d : End) → IsNotHigher d → flat_map (again_at d) agains ≡ []
  last-none d stays = gathered-none content_again (again_at d) m doc sound (content-stays d stays)
