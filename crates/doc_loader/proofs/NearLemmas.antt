-- The roots and the values that are put from their own ends: these edits fit, and give each end its values.
use Rattle.std.proofs.Common.{◌≡◌, ◌≢◌, ◌∙◌, ◌+◌, ◌-◌, ◌≤◌, ◌++◌, ℕ, Bool, true, false, List, [], ◌∷◌, Some, if◌then◌else◌, append-nil, length, refl, sym, ap, subst, inl, inr, arith}
use Rattle.std.specs.Prelude.{flat_map, slice_get}
use Rattle.std.specs.List.{AllByRecursion, enumerate_from}
use Rattle.std.proofs.lemmas.Bool.{cases_Bool, cases_lt, true≢false}
use Rattle.std.proofs.lemmas.List.{length-map}
use Rattle.std.proofs.lemmas.List.Concat.{flat_map-append}
use Rattle.std.proofs.lemmas.Option.{none-some, same_Some}
use Rattle.mm_types.specs.Lookups as lookups
use Rattle.mm_types.specs.Resolved.{Metamodel}
use Rattle.mm_types.specs.Shapes.{Shape, shape}
use Rattle.mm_types.specs.declared.limits.TheConstants.{LIST_VALUES, OBJECTS}
use Rattle.mm_types.specs.declared.end.End.{End}
use Rattle.mm_types.specs.declared.numbers.FeatureNo.{FeatureNo}
use Rattle.mm_types.specs.declared.numbers.Node.{Node}
use Rattle.mm_types.specs.declared.numbers.Node.TheVariants as node
use Rattle.mm_types.specs.declared.numbers.ObjectNo.{ObjectNo}
use Rattle.mm_types.specs.declared.numbers.ResourceNo.{ResourceNo}
use Rattle.mm_types.specs.declared.value.Value.{Value}
use Rattle.mm_types.specs.declared.value.Value.TheVariants as value
use Rattle.links.proofs.PutLemmas.{cases_end}
use Rattle.links.specs.Holders.{HasNoCycle}
use Rattle.links.specs.LegalSets.{AreOfKind, IsDistinct, IsLegalSet, most}
use Rattle.links.specs.Links.{Links, end}
use Rattle.links.specs.declared.plan.Edit.{Edit}
use Rattle.links.proofs.ShownLemmas.{object_value}
use Rattle.models.specs.Legal.{kinds_of}
use Rattle.resource_docs.specs.Read.{values_in, values_under}
use Rattle.resource_docs.specs.declared.doc.Content.{Content}
use Rattle.resource_docs.specs.declared.doc.Doc.{Doc}
use Rattle.resource_docs.specs.declared.doc.DocObject.{DocObject}
use Rattle.doc_loader.specs.Laws.{IsRoomFor}
use Rattle.doc_loader.specs.LoadEdits.{near_edits, put_at, root_puts, value_puts}
use Rattle.doc_loader.specs.Loading.{loaded_number, loaded_value, object_end, of_contents, of_object, roots_loaded}
use Rattle.doc_loader.specs.Pairs.{is_near}
use Rattle.doc_loader.proofs.GainLemmas.{AreGood, IsBefore, IsGood, IsMade, gains, plan_made}
use Rattle.doc_loader.proofs.PairLemmas.{all-more, numbered-all, all-append, all-at, all-flat_map, all-map}
use Rattle.doc_loader.proofs.SideLemmas.{IsFarSide, IsNearSide, contents-shape, near-side, sides}
use Rattle.doc_loader.proofs.SoundLemmas.{at-map, AreSoundContents, IsSort, IsSound, IsSoundContent, has-content, map-at}
use Rattle.doc_loader.proofs.SourceLemmas.{ascending-distinct, at-loaded, loaded-at, loaded-distinct, loaded_number-same, loaded_number-value-object, loaded_values, sources-ascending, sources-few, sources_from}
use Rattle.doc_loader.proofs.TotalLemmas.{IsElsewhere, near-far, near-none, near-own, root-gain-none, root-gain-own}
use Rattle.models.specs.Reading.{contents_end}

pub not-contents : (m : Metamodel) (n : ℕ) (k : ResourceNo) (o : ObjectNo) (f : FeatureNo) → object_end n o f ≡ contents_end m k → ⊥
not-contents m n k o f q = let e = ap (λ (x : End). is_object x.node) q in true≢false e
  where
    is_object : Node → Bool
    is_object (node.Object a) = true
    is_object (node.Resource r) = false

module _ (m : Metamodel) (n : ℕ) (k : ResourceNo) (doc : Doc) (sound : IsSound m doc) (s : Links) (legal : IsLegalSet s) (kinds : AreOfKind (kinds_of m) s) (free : HasNoCycle s) (room : IsRoomFor m n k s) (fit : n + length doc.objects ≤ OBJECTS) where
  abbrev pub near_plan : List Edit
  near_plan = root_puts m n k doc ++ of_contents (near_edits m n) doc

  -- the resulting list of each end
  abbrev pub near_end : End → List Value
  near_end d = end s d ++ flat_map (gains d) (root_puts m n k doc ++ of_contents (near_edits m n) doc)

  gain-split : (d : End) → flat_map (gains d) near_plan ≡ flat_map (gains d) (root_puts m n k doc) ++ flat_map (gains d) (of_contents (near_edits m n) doc)
  gain-split d = flat_map-append (gains d) (root_puts m n k doc) (of_contents (near_edits m n) doc)

  pub near_end-roots : near_end (contents_end m k) ≡ roots_loaded n doc
  near_end-roots =
      let d = contents_end m k in
      (λ i. room.roots i ++ gain-split d i)
      ∙ (λ i. root-gain-own m n k doc i ++ near-none m n doc sound d (λ o f reference. not-contents m n k o f) i)
      ∙ append-nil (roots_loaded n doc)

  pub near_end-own : (a : ObjectNo) (f : FeatureNo) → IsNearSide m f → near_end (object_end n a f) ≡ loaded_values n (values_in doc a f)
  near_end-own a f side =
      let d = object_end n a f in
      (λ i. room.ends a f i ++ gain-split d i)
      ∙ (λ i. root-gain-none m n k doc d (λ q. not-contents m n k a f (sym q)) i ++ near-own m n doc sound a f side i)

  pub near_end-far : (b : ObjectNo) (g f : FeatureNo) → IsFarSide m g f → near_end (object_end n b g) ≡ sources_from n (λ (x : DocObject). values_under x f) b 0 doc.objects
  near_end-far b g f side =
      let d = object_end n b g in
      (λ i. room.ends b g i ++ gain-split d i)
      ∙ (λ i. root-gain-none m n k doc d (λ q. not-contents m n k b g (sym q)) i ++ near-far m n doc sound b g f side i)

  pub near_end-elsewhere : (d : End) → IsElsewhere m n doc sound d → contents_end m k ≢ d → near_end d ≡ end s d
  near_end-elsewhere d outside other =
      ap (λ (vs : List Value). end s d ++ vs) (gain-split d ∙ (λ i. root-gain-none m n k doc d other i ++ near-none m n doc sound d outside i))
      ∙ append-nil (end s d)

  ---------------------------------------------------------------- which end it is

  pub data IsPlaceOf : End → Type 0 where
    at_roots : {d : End} → contents_end m k ≡ d → IsPlaceOf d
    at_near : {d : End} (a : ObjectNo) (f : FeatureNo) → object_end n a f ≡ d → IsNearSide m f → IsPlaceOf d
    at_far : {d : End} (b : ObjectNo) (g f : FeatureNo) → object_end n b g ≡ d → IsFarSide m g f → IsPlaceOf d
    elsewhere : {d : End} → IsElsewhere m n doc sound d → contents_end m k ≢ d → IsPlaceOf d

  object-number : Node → ℕ
  object-number (node.Object o) = o.0
  object-number (node.Resource r) = 0

  is-object : Node → Bool
  is-object (node.Object o) = true
  is-object (node.Resource r) = false

  new-index_of : (d : End) (a : ObjectNo) → object_end n a d.feature ≡ d → contents_end m k ≢ d → IsPlaceOf d
  new-index_of d a is other = elim (cases_Bool (shape m d.feature).is_reference) [
    | inl reference ↦ elim (sides m sound.kinds d.feature reference) [
      | inl side ↦ at_near a d.feature is side
      | inr side ↦ at_far a d.feature side.0 is side.1
    ]
    | inr attribute ↦ elsewhere (λ o f reference q. true≢false (sym reference ∙ ap (λ (x : End). (shape m x.feature).is_reference) q ∙ attribute)) other
  ]

  object-index_of : (d : End) (x : ObjectNo) → d.node ≡ node.Object x → contents_end m k ≢ d → IsPlaceOf d
  unfolding object-number
  object-index_of d x is other = elim (cases_lt x.0 n) [
    | inl low ↦ elsewhere (λ o f reference q. (let e = ap (λ (y : End). object-number y.node) q ∙ ap object-number is in omega (arith, e, low))) other
    | inr high ↦ (
        let same : n + (x.0 - n) ≡ x.0 = omega (arith, high) in
        new-index_of d (record { 0 = x.0 - n }) (λ i. record { node = ((λ j. node.Object (record { 0 = same j })) ∙ sym is) i; feature = d.feature }) other)
  ]

  pub place_of : (d : End) → IsPlaceOf d
  unfolding is-object
  place_of d = elim (cases_end (contents_end m k) d) [
    | inl same ↦ at_roots same
    | inr other ↦ elim d.node as (λ (y : Node). d.node ≡ y → IsPlaceOf d) [
      | node.Object x ↦ λ is. object-index_of d x is other
      | node.Resource r ↦ λ is. elsewhere (λ o f reference q. true≢false (ap (λ (y : End). is-object y.node) q ∙ ap is-object is)) other
    ] refl
  ]

  ---------------------------------------------------------------- what is there

  pub values-distinct : (a : ObjectNo) (f : FeatureNo) → (shape m f).is_reference ≡ true → IsDistinct (values_in doc a f)
  values-distinct a f reference i j v x y =
      let c = has-content m doc sound a f i v x in
      let d = subst (λ (vs : List Value). IsDistinct vs) (sym c.values) (c.is_sound.distinct (ap (λ (g : FeatureNo). (shape m g).is_reference) c.of ∙ reference)) in
      d i j v x y

  pub values-few : (a : ObjectNo) (f : FeatureNo) → length (values_in doc a f) ≤ LIST_VALUES
  values-few a f = elim (values_in doc a f) as (λ (vs : List Value). values_in doc a f ≡ vs → length vs ≤ LIST_VALUES) [
    | [] ↦ λ q. omega arith
    | v ∷ vs ↦ λ q.
        let c = has-content m doc sound a f 0 v (ap (λ (xs : List Value). slice_get xs 0) q) in
        subst (λ (xs : List Value). length xs ≤ LIST_VALUES) (sym c.values ∙ q) c.is_sound.few
  ] refl

  roots-distinct : IsDistinct (roots_loaded n doc)
  roots-distinct i j v x y =
      let a = map-at (λ o. value.Object (loaded_number n o)) doc.roots i v x in
      let b = map-at (λ o. value.Object (loaded_number n o)) doc.roots j v y in
      let same = loaded_number-same n b.0 a.0 (object_value (loaded_number n b.0) (loaded_number n a.0) (b.2 ∙ sym a.2)) in
      sound.roots_distinct i j a.0 a.1 (b.1 ∙ ap Some same)

  distinct-at : (d : End) → IsPlaceOf d → IsDistinct (near_end d)
  distinct-at d (at_roots q) = subst (λ (x : End). IsDistinct (near_end x)) q (subst (λ (vs : List Value). IsDistinct vs) (sym near_end-roots) roots-distinct)
  distinct-at d (at_near a f q side) = subst (λ (x : End). IsDistinct (near_end x)) q (subst (λ (vs : List Value). IsDistinct vs) (sym (near_end-own a f side)) (loaded-distinct n (values_in doc a f) (values-distinct a f side.reference)))
  distinct-at d (at_far b g f q side) =
      subst (λ (x : End). IsDistinct (near_end x)) q (subst (λ (vs : List Value). IsDistinct vs) (sym (near_end-far b g f side))
      (ascending-distinct (n + 0) (sources_from n (λ (x : DocObject). values_under x f) b 0 doc.objects) (sources-ascending n (λ (x : DocObject). values_under x f) b 0 doc.objects)))
  distinct-at d (elsewhere outside other) = subst (λ (vs : List Value). IsDistinct vs) (sym (near_end-elsewhere d outside other)) (legal.placed.distinct d)

  few-at : (d : End) → IsPlaceOf d → length (near_end d) ≤ most
  few-at d (at_roots q) =
      subst (λ (x : End). length (near_end x) ≤ most) q (subst (λ (vs : List Value). length vs ≤ most) (sym near_end-roots) (let e = length-map doc.roots (λ o. value.Object (loaded_number n o)) in let few = sound.few_roots in omega (arith, e, few)))
  few-at d (at_near a f q side) =
      subst (λ (x : End). length (near_end x) ≤ most) q (subst (λ (vs : List Value). length vs ≤ most) (sym (near_end-own a f side)) (let e = length-map (values_in doc a f) (loaded_value n) in let few = values-few a f in omega (arith, e, few)))
  few-at d (at_far b g f q side) =
      subst (λ (x : End). length (near_end x) ≤ most) q (subst (λ (vs : List Value). length vs ≤ most) (sym (near_end-far b g f side)) (let few = sources-few n (λ (x : DocObject). values_under x f) b 0 doc.objects in omega (arith, few, fit)))
  few-at d (elsewhere outside other) = subst (λ (vs : List Value). length vs ≤ most) (sym (near_end-elsewhere d outside other)) (legal.placed.few d)

  ---------------------------------------------------------------- what contains

  data IsHeld : End → ObjectNo → Type 0 where
    as_root : {d : End} {b : ObjectNo} (j : ℕ) → contents_end m k ≡ d → slice_get doc.roots j ≡ Some b → IsHeld d b
    as_part : {d : End} {b : ObjectNo} (a : ObjectNo) (f : FeatureNo) (j : ℕ) → object_end n a f ≡ d → (shape m f).containing ≡ Some f → slice_get (values_in doc a f) j ≡ Some (value.Object b) → IsHeld d b

  held-at : (d : End) (b : ObjectNo) (j : ℕ) → IsPlaceOf d → n ≤ b.0 → (shape m d.feature).containing ≡ Some d.feature → slice_get (near_end d) j ≡ Some (value.Object b) → (a : ObjectNo) × (b ≡ loaded_number n a) × IsHeld d a
  held-at d b j (at_roots q) new contains at =
      let here = subst (λ (vs : List Value). slice_get vs j ≡ Some (value.Object b)) (ap near_end (sym q) ∙ near_end-roots) at in
      let r = map-at (λ o. value.Object (loaded_number n o)) doc.roots j (value.Object b) here in
      (r.0, sym (object_value (loaded_number n r.0) b r.2), as_root j q r.1)
  held-at d b j (at_near a f q side) new contains at =
      let here = subst (λ (vs : List Value). slice_get vs j ≡ Some (value.Object b)) (ap near_end (sym q) ∙ near_end-own a f side) at in
      let r = at-loaded n (values_in doc a f) j (value.Object b) here in
      let o = loaded_number-value-object n r.0 b r.2 in
      (o.0, o.2, as_part a f j q (subst (λ (x : End). (shape m x.feature).containing ≡ Some x.feature) (sym q) contains) (r.1 ∙ ap Some o.1))
  held-at d b j (at_far c g f q side) new contains at = absurd (side.holds_not (subst (λ (x : End). (shape m x.feature).containing ≡ Some x.feature) (sym q) contains))
  held-at d b j (elsewhere outside other) new contains at =
      let here = subst (λ (vs : List Value). slice_get vs j ≡ Some (value.Object b)) (near_end-elsewhere d outside other) at in
      let same : b.0 ≡ n + (b.0 - n) = omega (arith, new) in
      absurd (room.values d (record { 0 = b.0 - n }) j (here ∙ (λ i. Some (value.Object (record { 0 = same i })))))

  one-end : (d e : End) (b : ObjectNo) → IsHeld d b → IsHeld e b → d ≡ e
  one-end d e b (as_root i p x) (as_root j q y) = sym p ∙ q
  one-end d e b (as_root i p x) (as_part a f j q contains y) = absurd (sound.root_apart a f f j i b contains y x)
  one-end d e b (as_part a f i p contains x) (as_root j q y) = absurd (sound.root_apart a f f i j b contains x y)
  one-end d e b (as_part a f i p contains x) (as_part c g j q too y) =
      let same = sound.once a c f g f g i j b contains too x y in
      sym p ∙ (λ t. object_end n (same.0 t) (same.1 t)) ∙ q

  before-held : (d : End) (a : ObjectNo) → IsHeld d a → IsBefore n d.node (loaded_number n a)
  before-held d b (as_root i p x) = subst (λ (y : End). IsBefore n y.node (loaded_number n b)) p tt
  before-held d b (as_part a f i p contains x) =
      let c = has-content m doc sound a f i (value.Object b) x in
      let low = c.is_sound.before f i b (ap (λ (g : FeatureNo). (shape m g).containing) c.of ∙ contains) (ap (λ (vs : List Value). slice_get vs i) (sym c.values) ∙ x) in
      subst (λ (y : End). IsBefore n y.node (loaded_number n b)) p (omega arith, omega (arith, low))

  pub good-ends : AreGood (kinds_of m) n near_end
  good-ends = record {
    distinct = λ d. distinct-at d (place_of d);
    few = λ d. few-at d (place_of d);
    one = (λ d e b i j new p q x y. (
        let g = held-at d b i (place_of d) new p x in
        let h = held-at e b j (place_of e) new q y in
        one-end d e g.0 g.2 (subst (IsHeld e) (loaded_number-same n h.0 g.0 (sym h.1 ∙ g.1)) h.2)));
    before = (λ d b i new p x. (let g = held-at d b i (place_of d) new p x in subst (IsBefore n d.node) (sym g.1) (before-held d g.0 g.2)));
  }

  ---------------------------------------------------------------- the edits

  root-good : AllByRecursion (IsGood (kinds_of m) n near_end) (root_puts m n k doc)
  root-good =
      all-map (IsGood (kinds_of m) n near_end) (λ (x : ℕ × ObjectNo). put_at m n (contents_end m k) x.0 x.1) (enumerate_from 0 doc.roots)
      (all-more (λ (x : ℕ × ObjectNo). slice_get doc.roots x.0 ≡ Some x.1) (λ (x : ℕ × ObjectNo). IsGood (kinds_of m) n near_end (put_at m n (contents_end m k) x.0 x.1)) (enumerate_from 0 doc.roots) (λ x at. (
      let q = contents-shape m in
      record {
        opposite = refl;
        container = refl;
        own = (λ h p. same_Some h (lookups.contents m) (sym p ∙ ap (λ (a : Shape). a.containing) q));
        new = omega arith;
        object = (λ h p. absurd (none-some h (sym (ap (λ (a : Shape). a.opposite) q) ∙ p)));
        at = ap (λ (vs : List Value). slice_get vs x.0) near_end-roots ∙ at-map (λ o. value.Object (loaded_number n o)) doc.roots x.0 x.1 at;
      })) (numbered-all doc.roots))

  value-good : (o : ObjectNo) (c : Content) → IsSoundContent m doc o c → IsNearSide m c.feature → (i : ℕ) (v : Value) → IsSort (shape m c.feature) v → slice_get c.values i ≡ Some v
      → AllByRecursion (IsGood (kinds_of m) n near_end) (value_puts m n (object_end n o c.feature) (i, v))
  value-good o c s side i (value.Object b) sort at = (
    record {
      opposite = refl;
      container = refl;
      own = s.plain;
      new = omega arith;
      object = λ h p. tt;
      at = ap (λ (vs : List Value). slice_get vs i) (near_end-own o c.feature side ∙ ap (loaded_values n) s.own) ∙ loaded-at n c.values i (value.Object b) at;
    },
    tt,
  )
  value-good o c s side i (value.Proxy t) sort at = ((sort.1, ap (λ (vs : List Value). slice_get vs i) (near_end-own o c.feature side ∙ ap (loaded_values n) s.own) ∙ loaded-at n c.values i (value.Proxy t) at), tt)
  value-good o c s side i value.Null sort at = tt
  value-good o c s side i (value.Bool x) sort at = tt
  value-good o c s side i (value.Int x) sort at = tt
  value-good o c s side i (value.Text x) sort at = tt
  value-good o c s side i (value.Literal x) sort at = tt

  content-good : (o : ObjectNo) (c : Content) → IsSoundContent m doc o c → AllByRecursion (IsGood (kinds_of m) n near_end) (near_edits m n o c)
  content-good o c s =
      elim (is_near (shape m c.feature) c.feature) as (λ t. is_near (shape m c.feature) c.feature ≡ t → AllByRecursion (IsGood (kinds_of m) n near_end) (if t then flat_map (value_puts m n (object_end n o c.feature)) (enumerate_from 0 c.values) else [])) [
        | true ↦ λ near.
            let side = near-side m sound.kinds c.feature s.plain near in
            all-flat_map (λ (x : ℕ × Value). slice_get c.values x.0 ≡ Some x.1) (IsGood (kinds_of m) n near_end) (value_puts m n (object_end n o c.feature)) (enumerate_from 0 c.values)
            (λ x at. value-good o c s side x.0 x.1 (all-at (IsSort (shape m c.feature)) c.values x.0 x.1 s.sorts at) at) (numbered-all c.values)
        | false ↦ λ near. tt
      ] refl

  near-good : AllByRecursion (IsGood (kinds_of m) n near_end) (of_contents (near_edits m n) doc)
  near-good =
      all-flat_map (AreSoundContents m doc) (IsGood (kinds_of m) n near_end) (of_object (near_edits m n)) (enumerate_from 0 doc.objects)
      (λ y h. all-flat_map (IsSoundContent m doc (record { 0 = y.0 })) (IsGood (kinds_of m) n near_end) (near_edits m n (record { 0 = y.0 })) y.1.contents (λ c s. content-good (record { 0 = y.0 }) c s) h) sound.contents

  pub near-all_good : AllByRecursion (IsGood (kinds_of m) n near_end) near_plan
  near-all_good = all-append (IsGood (kinds_of m) n near_end) (root_puts m n k doc) (of_contents (near_edits m n) doc) root-good near-good

  pub near_made : IsMade (kinds_of m) sound.kinds n near_end good-ends s near_plan
  near_made = plan_made (kinds_of m) sound.kinds n near_end good-ends near_plan s legal kinds free (λ d. refl) near-all_good
