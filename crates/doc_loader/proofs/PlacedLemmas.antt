-- The index that is noted for an object under the lower feature of a pair is its index there.
use Rattle.std.proofs.Common.{◌≡◌, ◌∙◌, ◌<◌, ℕ, zero, suc, Bool, true, false, cond, List, [], ◌∷◌, Option, Some, None, if◌then◌else◌, refl, sym, ap, subst, inl, inr, arith}
use Rattle.std.specs.Prelude.{◌⊎◌, ◌&&◌, flat_map, is_some, nat_eq, not, slice_get, unwrap_or}
use Rattle.std.specs.List.{AllByRecursion, enumerate_from}
use Rattle.std.specs.Option.{option_map_or, option_or}
use Rattle.std.proofs.lemmas.Bool.{and_from, and_parts, eq-eqb, eqb-true, lt-ltb, true≢false}
use Rattle.std.proofs.lemmas.Option.{none-some, same_Some}
use Rattle.mm_types.specs.Resolved.{Metamodel}
use Rattle.mm_types.specs.Shapes.{shape}
use Rattle.mm_types.specs.declared.numbers.FeatureNo.{FeatureNo}
use Rattle.mm_types.specs.declared.numbers.ObjectNo.{ObjectNo}
use Rattle.mm_types.specs.declared.value.Value.{Value}
use Rattle.mm_types.specs.declared.value.Value.TheVariants as value
use Rattle.links.specs.LegalSets.{IsDistinct}
use Rattle.resource_docs.specs.Read.{values_in}
use Rattle.resource_docs.specs.declared.doc.Content.{Content}
use Rattle.resource_docs.specs.declared.doc.Doc.{Doc}
use Rattle.doc_loader.specs.Loading.{of_object}
use Rattle.doc_loader.specs.Pairs.{is_below, is_lower}
use Rattle.doc_loader.specs.ListIndexes.{all_indexes, content_indexes, last_index, object_key, index_among, key_and_index}
use Rattle.models.specs.ReferenceKeys.{same_reference_key}
use Rattle.models.specs.declared.reference_key.ReferenceKey.{ReferenceKey}
use Rattle.doc_loader.proofs.PairLemmas.{numbered-all, all-flat_map}
use Rattle.doc_loader.proofs.SoundLemmas.{AreSoundContents, IsSound, IsSoundContent, at-flat_map, at-numbered, has-content}
use Rattle.mm_meta.proofs.ByNameLemmas.{numbered_alike}

---------------------------------------------------------------- the last index

abbrev IsPlaced : ReferenceKey → ℕ → ReferenceKey × ℕ → Type 0
IsPlaced k i x = same_reference_key x.0 k ≡ true → x.1 ≡ i

last-more : (o : Option ℕ) (t : Bool) (i j : ℕ) → (o ≡ None) ⊎ (o ≡ Some i) → (t ≡ true → j ≡ i) → (option_or o (cond t (Some j) None) ≡ None) ⊎ (option_or o (cond t (Some j) None) ≡ Some i)
last-more o t i j (inr some) same = inr (ap (λ (x : Option ℕ). option_or x (cond t (Some j) None)) some)
last-more o true i j (inl none) same = inr (ap (λ (x : Option ℕ). option_or x (Some j)) none ∙ ap Some (same refl))
last-more o false i j (inl none) same = inl (ap (λ (x : Option ℕ). option_or x None) none)

last-either : (k : ReferenceKey) (i : ℕ) (xs : List (ReferenceKey × ℕ)) → AllByRecursion (IsPlaced k i) xs → (last_index xs k ≡ None) ⊎ (last_index xs k ≡ Some i)
last-either k i [] all = inl refl
last-either k i (x ∷ xs) all = last-more (last_index xs k) (same_reference_key x.0 k) i x.1 (last-either k i xs all.1) all.0

last-here : (o : Option ℕ) (t : Bool) (i j : ℕ) → (o ≡ None) ⊎ (o ≡ Some i) → t ≡ true → j ≡ i → option_or o (cond t (Some j) None) ≡ Some i
last-here o t i j (inr some) is same = ap (λ (x : Option ℕ). option_or x (cond t (Some j) None)) some
last-here o t i j (inl none) is same = (λ l. option_or (none l) (cond (is l) (Some j) None)) ∙ ap Some same

-- if all indexes under a key are equal, and there is one, it is the last
last-is : (k : ReferenceKey) (i : ℕ) (xs : List (ReferenceKey × ℕ)) (j : ℕ) (x : ReferenceKey × ℕ) → AllByRecursion (IsPlaced k i) xs → slice_get xs j ≡ Some x → same_reference_key x.0 k ≡ true → last_index xs k ≡ Some i
last-is k i [] j x all at same = absurd (none-some x at)
last-is k i (y ∷ ys) zero x all at same =
    let is = subst (λ (z : ReferenceKey × ℕ). same_reference_key z.0 k ≡ true) (sym (same_Some y x at)) same in
    last-here (last_index ys k) (same_reference_key y.0 k) i y.1 (last-either k i ys all.1) is (all.0 is)
last-is k i (y ∷ ys) (suc j) x all at same = ap (λ (o : Option ℕ). option_or o (cond (same_reference_key y.0 k) (Some y.1) None)) (last-is k i ys j x all.1 at same)

chosen-at : {X : Type 0} (t : Bool) (xs : List X) (k : ℕ) (x : X) → t ≡ true → slice_get xs k ≡ Some x → slice_get (if t then xs else []) k ≡ Some x
chosen-at true xs k x is at = at
chosen-at false xs k x is at = absurd (true≢false (sym is))

---------------------------------------------------------------- the indexes of a document

module _ (m : Metamodel) (doc : Doc) (sound : IsSound m doc) (a : ObjectNo) (f : FeatureNo) (b : ObjectNo) (i : ℕ) (distinct : IsDistinct (values_in doc a f)) (at : slice_get (values_in doc a f) i ≡ Some (value.Object b)) where
  value-key_and_index : (o : ObjectNo) (c : Content) → IsSoundContent m doc o c → (j : ℕ) (v : Value) → slice_get c.values j ≡ Some v → AllByRecursion (IsPlaced (object_key a f b) i) (key_and_index o c.feature (j, v))
  value-key_and_index o c s j (value.Object d) there = (
    (λ same. (
        let first = and_parts (nat_eq o.0 a.0) (nat_eq c.feature.0 f.0 && nat_eq d.0 b.0) same in
        let second = and_parts (nat_eq c.feature.0 f.0) (nat_eq d.0 b.0) first.1 in
        let object : o ≡ a = let e = eqb-true o.0 a.0 first.0 in λ l. record { 0 = e l } in
        let named : d ≡ b = let e = eqb-true d.0 b.0 second.1 in λ l. record { 0 = e l } in
        let values : values_in doc a f ≡ c.values = (λ l. values_in doc (sym object l) (sym (numbered_alike c.feature f (eqb-true c.feature.0 f.0 second.0)) l)) ∙ s.own in
        distinct j i (value.Object b) (ap (λ (vs : List Value). slice_get vs j) values ∙ there ∙ ap (λ (x : ObjectNo). Some (value.Object x)) named) at)),
    tt,
  )
  value-key_and_index o c s j (value.Proxy t) there = tt
  value-key_and_index o c s j value.Null there = tt
  value-key_and_index o c s j (value.Bool x) there = tt
  value-key_and_index o c s j (value.Int x) there = tt
  value-key_and_index o c s j (value.Text x) there = tt
  value-key_and_index o c s j (value.Literal x) there = tt

  content-placed : (o : ObjectNo) (c : Content) → IsSoundContent m doc o c → AllByRecursion (IsPlaced (object_key a f b) i) (content_indexes m o c)
  content-placed o c s =
      elim (is_lower (shape m c.feature) c.feature) as (λ t. AllByRecursion (IsPlaced (object_key a f b) i) (if t then flat_map (key_and_index o c.feature) (enumerate_from 0 c.values) else [])) [
        | true ↦
            all-flat_map (λ (x : ℕ × Value). slice_get c.values x.0 ≡ Some x.1) (IsPlaced (object_key a f b) i) (key_and_index o c.feature) (enumerate_from 0 c.values) (λ x there. value-key_and_index o c s x.0 x.1 there)
            (numbered-all c.values)
        | false ↦ tt
      ]

  all-placed : AllByRecursion (IsPlaced (object_key a f b) i) (all_indexes m doc.objects)
  all-placed =
      all-flat_map (AreSoundContents m doc) (IsPlaced (object_key a f b) i) (of_object (content_indexes m)) (enumerate_from 0 doc.objects)
      (λ y h. all-flat_map (IsSoundContent m doc (record { 0 = y.0 })) (IsPlaced (object_key a f b) i) (content_indexes m (record { 0 = y.0 })) y.1.contents (λ c s. content-placed (record { 0 = y.0 }) c s) h) sound.contents

  there-placed : is_lower (shape m f) f ≡ true → (j : ℕ) × (x : ReferenceKey × ℕ) × (slice_get (all_indexes m doc.objects) j ≡ Some x) × (same_reference_key x.0 (object_key a f b) ≡ true)
  there-placed lower =
      let c = has-content m doc sound a f i (value.Object b) at in
      let y = at-numbered doc.objects 0 a.0 c.there.object c.there.at in
      let number = y.1 in
      let same : y.0 ≡ a.0 = omega (arith, number) in
      let v = at-numbered c.content.values 0 i (value.Object b) (ap (λ (vs : List Value). slice_get vs i) (sym c.values) ∙ at) in
      let o : ObjectNo = record { 0 = y.0 } in
      let in_content = at-flat_map (key_and_index o c.content.feature) (enumerate_from 0 c.content.values) i 0 (v.0, value.Object b) (object_key o c.content.feature b, v.0) v.2 refl in
      let kept : is_lower (shape m c.content.feature) c.content.feature ≡ true = subst (λ (g : FeatureNo). is_lower (shape m g) g ≡ true) (sym c.of) lower in
      let in_places = chosen-at (is_lower (shape m c.content.feature) c.content.feature) (flat_map (key_and_index o c.content.feature) (enumerate_from 0 c.content.values)) in_content.0 (object_key o c.content.feature b, v.0) kept in_content.1 in
      let in_object = at-flat_map (content_indexes m o) c.there.object.contents c.there.index in_content.0 c.content (object_key o c.content.feature b, v.0) c.there.in_object in_places in
      let in_all = at-flat_map (of_object (content_indexes m)) (enumerate_from 0 doc.objects) a.0 in_object.0 (y.0, c.there.object) (object_key o c.content.feature b, v.0) y.2 in_object.1 in (
        in_all.0,
        (object_key o c.content.feature b, v.0),
        in_all.1,
        and_from (nat_eq y.0 a.0) (nat_eq c.content.feature.0 f.0 && nat_eq b.0 b.0) (eq-eqb y.0 a.0 same)
            (and_from (nat_eq c.content.feature.0 f.0) (nat_eq b.0 b.0) (eq-eqb c.content.feature.0 f.0 (ap (λ (g : FeatureNo). g.0) c.of)) (eq-eqb b.0 b.0 refl)),
      )

  pub index_of-is : is_lower (shape m f) f ≡ true → index_among m doc.objects (object_key a f b) ≡ i
  index_of-is lower =
      let p = there-placed lower in
      ap (λ (o : Option ℕ). unwrap_or o 0) (last-is (object_key a f b) i (all_indexes m doc.objects) p.0 p.1 all-placed p.2 p.3)

-- the lower feature of a pair without containment
pub lower-feature : (m : Metamodel) (f g : FeatureNo) → (shape m f).containing ≡ None → (shape m f).opposite ≡ Some g → f.0 < g.0 → is_lower (shape m f) f ≡ true
lower-feature m f g plain pair low =
    (λ i. not (is_some (plain i)) && option_map_or (is_below f) (pair i) false) ∙ lt-ltb f.0 g.0 low
