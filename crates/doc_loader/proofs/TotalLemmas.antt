-- The values that each end gains by the edits that put roots and values from their own ends.
use Rattle.std.proofs.Common.{◌≡◌, ◌≢◌, ◌∙◌, ◌+◌, ◌++◌, ℕ, zero, suc, Bool, true, false, cond, if◌then◌else◌, List, [], ◌∷◌, Option, Some, None, map, refl, sym, ap, subst, inl, inr, arith}
use Rattle.std.specs.Prelude.{◌&&◌, ◌||◌, flat_map, is_some, nat_eq, not}
use Rattle.std.specs.List.{AllByRecursion, enumerate_from, list_any}
use Rattle.std.proofs.lemmas.Bool.{and_parts, cases_Bool, eq-eqb, eqb-true, false_from_ne_true, ne_eqb, true≢false}
use Rattle.std.proofs.lemmas.Option.{same_Some}
use Rattle.mm_types.proofs.SameLemmas.{same_end-self}
use Rattle.mm_types.specs.Lookups as lookups
use Rattle.mm_types.specs.Resolved.{Metamodel}
use Rattle.mm_types.specs.Same.{node_value, same_end, same_feature, same_value}
use Rattle.mm_types.specs.SameValues.{same_value-true}
use Rattle.mm_types.specs.Shapes.{Shape, shape}
use Rattle.mm_types.specs.declared.end.End.{End}
use Rattle.mm_types.specs.declared.numbers.FeatureNo.{FeatureNo}
use Rattle.mm_types.specs.declared.numbers.ObjectNo.{ObjectNo}
use Rattle.mm_types.specs.declared.numbers.ResourceNo.{ResourceNo}
use Rattle.mm_types.specs.declared.value.Value.{Value}
use Rattle.mm_types.specs.declared.value.Value.TheVariants as value
use Rattle.links.proofs.PlaceLemmas.{ne-same_end}
use Rattle.links.specs.Laws.{is_far}
use Rattle.links.specs.LegalSets.{IsDistinct}
use Rattle.links.specs.Links.{far_end}
use Rattle.links.specs.declared.plan.Edit.{Edit}
use Rattle.resource_docs.specs.Read.{values_in, values_under}
use Rattle.resource_docs.specs.declared.doc.Content.{Content}
use Rattle.resource_docs.specs.declared.doc.Doc.{Doc}
use Rattle.resource_docs.specs.declared.doc.DocObject.{DocObject}
use Rattle.doc_loader.specs.LoadEdits.{near_edits, put_at, root_puts, value_puts}
use Rattle.doc_loader.specs.Loading.{loaded_number, object_end, of_contents, roots_loaded}
use Rattle.doc_loader.specs.Pairs.{is_near, lower_of}
use Rattle.doc_loader.proofs.GainLemmas.{gains}
use Rattle.doc_loader.proofs.GatherLemmas.{gathered, gathered-none, gathered-one}
use Rattle.doc_loader.proofs.PairLemmas.{all-from_at, all-more}
use Rattle.doc_loader.proofs.SideLemmas.{IsFarSide, IsNearSide, IsPlainFeature, contents-shape, opposite-reference}
use Rattle.doc_loader.proofs.SoundLemmas.{IsSort, IsSound, IsSoundContent}
use Rattle.doc_loader.proofs.SourceLemmas.{flat_map-none, loaded_values, sources_from}
use Rattle.doc_loader.proofs.FillLemmas.{distinct-tail}
use Rattle.models.specs.Reading.{contents_end}
use Rattle.mm_meta.proofs.ByNameLemmas.{numbered_alike}
use Rattle.mm_meta.proofs.OwnerLemmas.{nat_eq-turned}

---------------------------------------------------------------- tests

pub add-eq : (n x y : ℕ) → nat_eq (n + x) (n + y) ≡ nat_eq x y
add-eq n x y = elim (cases_Bool (nat_eq x y)) [
  | inl same ↦ eq-eqb (n + x) (n + y) (ap (λ (z : ℕ). n + z) (eqb-true x y same)) ∙ sym same
  | inr other ↦ ne_eqb (n + x) (n + y) (λ q. true≢false (sym (eq-eqb x y (omega (arith, q))) ∙ other)) ∙ sym other
]

not-far : (o : ObjectNo) (h : Option FeatureNo) (d : End) → (h ≡ Some d.feature → ⊥) → is_far o h d ≡ false
not-far o None d other = refl
not-far o (Some g) d other = ne-same_end (far_end o g) d (λ q. other (ap (λ (x : End). Some x.feature) q))

---------------------------------------------------------------- values

step-cond : {X : Type 0} (t : Bool) (x : X) (xs : List X) → cond t (x ∷ []) [] ++ cond t xs [] ≡ cond t (x ∷ xs) []
step-cond true x xs = refl
step-cond false x xs = refl

module _ (m : Metamodel) (n : ℕ) (e d : End) where
  gained : ℕ → List Value → List Value
  gained i vs = flat_map (gains d) (flat_map (value_puts m n e) (enumerate_from i vs))

  -- the end itself gains all values
  values-own : (t : Bool) → same_end e d ≡ t → ((o : ObjectNo) → is_far o (shape m e.feature).opposite d ≡ false) → (shape m e.feature).is_reference ≡ true
      → (i : ℕ) (vs : List Value) → AllByRecursion (IsSort (shape m e.feature)) vs → gained i vs ≡ cond t (loaded_values n vs) []
  unfolding gained
  values-own true is not_far reference i [] sorts = refl
  values-own false is not_far reference i [] sorts = refl
  values-own t is not_far reference i (value.Object b ∷ vs) sorts =
      let none = not_far (loaded_number n b) in
      (λ j. (cond (is j) (value.Object (loaded_number n b) ∷ []) (cond (none j) (node_value e.node ∷ []) [])) ++ values-own t is not_far reference (i + 1) vs sorts.1 j) ∙ step t (value.Object (loaded_number n b)) vs
    where
      step : (t : Bool) (w : Value) (vs : List Value) → cond t (w ∷ []) [] ++ cond t (loaded_values n vs) [] ≡ cond t (w ∷ loaded_values n vs) []
      step t w vs = step-cond t w (loaded_values n vs)
  values-own t is not_far reference i (value.Proxy p ∷ vs) sorts =
      (λ j. (cond (is j) (value.Proxy p ∷ []) []) ++ values-own t is not_far reference (i + 1) vs sorts.1 j) ∙ step-cond t (value.Proxy p) (loaded_values n vs)
  values-own t is not_far reference i (value.Null ∷ vs) sorts = absurd (true≢false (sym reference ∙ sorts.0))
  values-own t is not_far reference i (value.Bool x ∷ vs) sorts = absurd (true≢false (sym reference ∙ sorts.0))
  values-own t is not_far reference i (value.Int x ∷ vs) sorts = absurd (true≢false (sym reference ∙ sorts.0))
  values-own t is not_far reference i (value.Text x ∷ vs) sorts = absurd (true≢false (sym reference ∙ sorts.0))
  values-own t is not_far reference i (value.Literal x ∷ vs) sorts = absurd (true≢false (sym reference ∙ sorts.0))

  -- the end of an object under the opposite gains the node for each value that is the object
  values-far : same_end e d ≡ false → (b : ObjectNo) → ((o : ObjectNo) → is_far (loaded_number n o) (shape m e.feature).opposite d ≡ same_value (value.Object b) (value.Object o))
      → (i : ℕ) (vs : List Value) → gained i vs ≡ flat_map (λ v. cond (same_value (value.Object b) v) (node_value e.node ∷ []) []) vs
  unfolding gained
  values-far other b far i [] = refl
  values-far other b far i (value.Object o ∷ vs) = let is = far o in λ j. (cond (other j) (value.Object (loaded_number n o) ∷ []) (cond (is j) (node_value e.node ∷ []) [])) ++ values-far other b far (i + 1) vs j
  values-far other b far i (value.Proxy p ∷ vs) = λ j. (cond (other j) (value.Proxy p ∷ []) []) ++ values-far other b far (i + 1) vs j
  values-far other b far i (value.Null ∷ vs) = values-far other b far (i + 1) vs
  values-far other b far i (value.Bool x ∷ vs) = values-far other b far (i + 1) vs
  values-far other b far i (value.Int x ∷ vs) = values-far other b far (i + 1) vs
  values-far other b far i (value.Text x ∷ vs) = values-far other b far (i + 1) vs
  values-far other b far i (value.Literal x ∷ vs) = values-far other b far (i + 1) vs

  -- another end gains nothing
  values-none : same_end e d ≡ false → ((o : ObjectNo) → is_far (loaded_number n o) (shape m e.feature).opposite d ≡ false) → (i : ℕ) (vs : List Value) → gained i vs ≡ []
  unfolding gained
  values-none other far i [] = refl
  values-none other far i (value.Object o ∷ vs) = let is = far o in λ j. (cond (other j) (value.Object (loaded_number n o) ∷ []) (cond (is j) (node_value e.node ∷ []) [])) ++ values-none other far (i + 1) vs j
  values-none other far i (value.Proxy p ∷ vs) = λ j. (cond (other j) (value.Proxy p ∷ []) []) ++ values-none other far (i + 1) vs j
  values-none other far i (value.Null ∷ vs) = values-none other far (i + 1) vs
  values-none other far i (value.Bool x ∷ vs) = values-none other far (i + 1) vs
  values-none other far i (value.Int x ∷ vs) = values-none other far (i + 1) vs
  values-none other far i (value.Text x ∷ vs) = values-none other far (i + 1) vs
  values-none other far i (value.Literal x ∷ vs) = values-none other far (i + 1) vs

absent-later : (u v : Value) (vs : List Value) → same_value u v ≡ true → IsDistinct (v ∷ vs) → AllByRecursion (λ w. same_value u w ≡ false) vs
absent-later u v vs same d = all-from_at (λ w. same_value u w ≡ false) vs (λ k w at. false_from_ne_true (same_value u w) (λ q. (
    let e = d zero (suc k) v refl (at ∙ ap Some (sym (same_value-true u w q) ∙ same_value-true u v same)) in
    omega (arith, e))))

-- in a list without repetitions at most one value is the object
once-any : (u w : Value) (vs : List Value) → IsDistinct vs → flat_map (λ v. cond (same_value u v) (w ∷ []) []) vs ≡ cond (list_any (same_value u) vs) (w ∷ []) []
once-any u w [] d = refl
once-any u w (v ∷ vs) d =
    elim (same_value u v) as (λ t. same_value u v ≡ t → cond t (w ∷ []) [] ++ flat_map (λ x. cond (same_value u x) (w ∷ []) []) vs ≡ cond (t || list_any (same_value u) vs) (w ∷ []) []) [
      | true ↦ λ q. ap (λ (xs : List Value). w ∷ xs) (flat_map-none (λ x. cond (same_value u x) (w ∷ []) []) vs (all-more (λ x. same_value u x ≡ false) (λ x. cond (same_value u x) (w ∷ []) [] ≡ []) vs (λ x h. ap (λ (t : Bool). cond t (w ∷ []) []) h) (absent-later u v vs q d)))
      | false ↦ λ q. once-any u w vs (distinct-tail v vs d)
    ] refl

---------------------------------------------------------------- contents

pub nested : {X : Type 0} (s t r : Bool) (x : List X) → (s && t) ≡ r → cond r x [] ≡ cond t (cond s x []) []
nested true true r x h = ap (λ (b : Bool). cond b x []) (sym h)
nested true false r x h = ap (λ (b : Bool). cond b x []) (sym h)
nested false true r x h = ap (λ (b : Bool). cond b x []) (sym h)
nested false false r x h = ap (λ (b : Bool). cond b x []) (sym h)

module _ (m : Metamodel) (n : ℕ) (doc : Doc) (sound : IsSound m doc) where
  abbrev gain_of : End → ObjectNo → Content → List Value
  gain_of d o c = flat_map (gains d) (near_edits m n o c)

  abbrev put_values : End → ObjectNo → Content → Bool → List Value
  put_values d o c near = flat_map (gains d) (if near then flat_map (value_puts m n (object_end n o c.feature)) (enumerate_from 0 c.values) else [])

  content-own : (a : ObjectNo) (f : FeatureNo) → IsNearSide m f → (o : ObjectNo) (c : Content) → IsSoundContent m doc o c
      → gain_of (object_end n a f) o c ≡ cond (same_feature f c.feature) (cond (nat_eq o.0 a.0) (loaded_values n c.values) []) []
  unfolding gained
  content-own a f side o c s =
      elim (is_near (shape m c.feature) c.feature) as (λ t. is_near (shape m c.feature) c.feature ≡ t → put_values (object_end n a f) o c t ≡ cond (same_feature f c.feature) (cond (nat_eq o.0 a.0) (loaded_values n c.values) []) []) [
        | true ↦ λ near.
            let reference = (and_parts (shape m c.feature).is_reference (not (is_some (lower_of (shape m c.feature) c.feature))) near).0 in
            let e = object_end n o c.feature in
            let d = object_end n a f in
            values-own m n e d (same_end e d) refl (λ b. not-far b (shape m c.feature).opposite d (side.alone c.feature s.plain near)) reference 0 c.values s.sorts
            ∙ nested (nat_eq o.0 a.0) (same_feature f c.feature) (same_end e d) (loaded_values n c.values) (λ i. (sym (add-eq n o.0 a.0) i) && (nat_eq-turned f.0 c.feature.0 i))
        | false ↦ λ near. (
            let other = false_from_ne_true (same_feature f c.feature) (λ q. true≢false (sym (subst (λ (x : FeatureNo). is_near (shape m x) x ≡ true) (numbered_alike f c.feature (eqb-true f.0 c.feature.0 q)) side.near) ∙ near)) in
            ap (λ (t : Bool). cond t (cond (nat_eq o.0 a.0) (loaded_values n c.values) []) []) (sym other))
      ] refl

  content-far : (b : ObjectNo) (g f : FeatureNo) → IsFarSide m g f → (o : ObjectNo) (c : Content) → IsSoundContent m doc o c
      → gain_of (object_end n b g) o c ≡ cond (same_feature f c.feature) (cond (list_any (same_value (value.Object b)) c.values) (value.Object (loaded_number n o) ∷ []) []) []
  unfolding gained
  content-far b g f side o c s =
      let d = object_end n b g in
      let e = object_end n o c.feature in
      elim (is_near (shape m c.feature) c.feature) as (λ t. is_near (shape m c.feature) c.feature ≡ t → put_values (object_end n b g) o c t ≡ cond (same_feature f c.feature) (cond (list_any (same_value (value.Object b)) c.values) (value.Object (loaded_number n o) ∷ []) []) []) [
        | true ↦ λ near.
            let reference = (and_parts (shape m c.feature).is_reference (not (is_some (lower_of (shape m c.feature) c.feature))) near).0 in
            let apart : c.feature ≢ g = λ q. side.other (subst (λ (x : FeatureNo). IsPlainFeature m x) q s.plain) (subst (λ (x : FeatureNo). is_near (shape m x) x ≡ true) q near) in
            let other = ne-same_end e d (λ q. apart (ap (λ (x : End). x.feature) q)) in
            elim (same_feature f c.feature) as (λ t. same_feature f c.feature ≡ t → gained m n e d 0 c.values ≡ cond t (cond (list_any (same_value (value.Object b)) c.values) (value.Object (loaded_number n o) ∷ []) []) []) [
              | true ↦ λ q.
                  let pair : (shape m c.feature).opposite ≡ Some g = subst (λ (x : FeatureNo). (shape m x).opposite ≡ Some g) (numbered_alike f c.feature (eqb-true f.0 c.feature.0 q)) side.back in
                  values-far m n e d other b (λ x. ap (λ (h : Option FeatureNo). is_far (loaded_number n x) h d) pair ∙ far-object x b g) 0 c.values
                  ∙ once-any (value.Object b) (value.Object (loaded_number n o)) c.values (s.distinct reference)
              | false ↦ λ q. values-none m n e d other (λ x. not-far (loaded_number n x) (shape m c.feature).opposite d (λ pair.
                  true≢false (sym (eq-eqb f.0 c.feature.0 (ap (λ (y : FeatureNo). y.0) (same_Some f c.feature (sym side.pair ∙ sound.kinds.inverse c.feature g pair)))) ∙ q))) 0 c.values
            ] refl
        | false ↦ λ near. (
            let other = false_from_ne_true (same_feature f c.feature) (λ q. true≢false (sym (subst (λ (x : FeatureNo). is_near (shape m x) x ≡ true) (numbered_alike f c.feature (eqb-true f.0 c.feature.0 q)) side.near) ∙ near)) in
            ap (λ (t : Bool). cond t (cond (list_any (same_value (value.Object b)) c.values) (value.Object (loaded_number n o) ∷ []) []) []) (sym other))
      ] refl
    where
      far-object : (x b : ObjectNo) (g : FeatureNo) → same_end (far_end (loaded_number n x) g) (object_end n b g) ≡ nat_eq b.0 x.0
      far-object x b g =
          let self = eq-eqb g.0 g.0 refl in
          (λ i. add-eq n x.0 b.0 i && self i) ∙ and-true (nat_eq x.0 b.0) ∙ nat_eq-turned x.0 b.0
        where
          and-true : (t : Bool) → t && true ≡ t
          and-true true = refl
          and-true false = refl

  -- no link of the document has an end there
  abbrev pub IsElsewhere : End → Type 0
  IsElsewhere d = (o : ObjectNo) (f : FeatureNo) → (shape m f).is_reference ≡ true → object_end n o f ≢ d

  content-none : (d : End) → IsElsewhere d → (o : ObjectNo) (c : Content) → IsSoundContent m doc o c → gain_of d o c ≡ []
  unfolding gained
  content-none d outside o c s =
      elim (is_near (shape m c.feature) c.feature) as (λ t. is_near (shape m c.feature) c.feature ≡ t → put_values d o c t ≡ []) [
        | true ↦ λ near.
            let reference = (and_parts (shape m c.feature).is_reference (not (is_some (lower_of (shape m c.feature) c.feature))) near).0 in
            let e = object_end n o c.feature in
            values-none m n e d (ne-same_end e d (outside o c.feature reference)) (λ b. far-none b (shape m c.feature).opposite refl) 0 c.values
        | false ↦ λ near. refl
      ] refl
    where
      far-none : (b : ObjectNo) (h : Option FeatureNo) → (shape m c.feature).opposite ≡ h → is_far (loaded_number n b) h d ≡ false
      far-none b None pair = refl
      far-none b (Some g) pair = ne-same_end (far_end (loaded_number n b) g) d (outside b g (opposite-reference m g c.feature (sound.kinds.inverse c.feature g pair)))

  ---------------------------------------------------------------- all objects

  abbrev near_gain : End → List Value
  near_gain d = flat_map (gains d) (of_contents (near_edits m n) doc)

  pub near-own : (a : ObjectNo) (f : FeatureNo) → IsNearSide m f → near_gain (object_end n a f) ≡ loaded_values n (values_in doc a f)
  near-own a f side = gathered-one (near_edits m n) (gains (object_end n a f)) m doc sound a f (loaded_values n) refl (content-own a f side)

  pub near-far : (b : ObjectNo) (g f : FeatureNo) → IsFarSide m g f → near_gain (object_end n b g) ≡ sources_from n (λ (x : DocObject). values_under x f) b 0 doc.objects
  near-far b g f side = gathered (near_edits m n) (gains (object_end n b g)) m doc sound f (λ i vs. cond (list_any (same_value (value.Object b)) vs) (value.Object (record { 0 = n + i }) ∷ []) []) (λ i. refl) (content-far b g f side)

  pub near-none : (d : End) → IsElsewhere d → near_gain d ≡ []
  near-none d outside = gathered-none (near_edits m n) (gains d) m doc sound (content-none d outside)

---------------------------------------------------------------- roots

module _ (m : Metamodel) (n : ℕ) (k : ResourceNo) where
  abbrev root_list : ℕ → List ObjectNo → List Edit
  root_list i rs = map (λ x. put_at m n (contents_end m k) x.0 x.1) (enumerate_from i rs)

  contents-far : (o : ObjectNo) (d : End) → is_far o (shape m (lookups.contents m)).opposite d ≡ false
  contents-far o d = ap (λ (a : Shape). is_far o a.opposite d) (contents-shape m)

  roots-own : (i : ℕ) (rs : List ObjectNo) → flat_map (gains (contents_end m k)) (root_list i rs) ≡ map (λ o. value.Object (loaded_number n o)) rs
  roots-own i [] = refl
  roots-own i (o ∷ rs) = let self = same_end-self (contents_end m k) in λ j. (cond (self j) (value.Object (loaded_number n o) ∷ []) (cond (is_far (loaded_number n o) (shape m (lookups.contents m)).opposite (contents_end m k)) (value.Null ∷ []) [])) ++ roots-own (i + 1) rs j

  roots-none : (d : End) → contents_end m k ≢ d → (i : ℕ) (rs : List ObjectNo) → flat_map (gains d) (root_list i rs) ≡ []
  roots-none d other i [] = refl
  roots-none d other i (o ∷ rs) =
      let ne = ne-same_end (contents_end m k) d other in
      let far = contents-far (loaded_number n o) d in
      λ j. (cond (ne j) (value.Object (loaded_number n o) ∷ []) (cond (far j) (value.Null ∷ []) [])) ++ roots-none d other (i + 1) rs j

  pub root-gain-own : (doc : Doc) → flat_map (gains (contents_end m k)) (root_puts m n k doc) ≡ roots_loaded n doc
  root-gain-own doc = roots-own 0 doc.roots

  pub root-gain-none : (doc : Doc) (d : End) → contents_end m k ≢ d → flat_map (gains d) (root_puts m n k doc) ≡ []
  root-gain-none doc d other = roots-none d other 0 doc.roots
