-- The attributes of the objects that a document makes store the values that are written there.
use Rattle.std.proofs.Common.{◌≡◌, ◌∙◌, ℕ, zero, suc, ◌+◌, ◌<◌, Bool, true, false, cond, ◌&&◌, List, [], ◌∷◌, ◌++◌, Option, Some, None, is_some, append-nil, flat_map, length, map, nat_eq, option_map, slice_get, slice_index_or, unwrap_or, if◌then◌else◌, arith, eq-eqb, eqb-true, refl, sym, ap, subst}
use Rattle.std.specs.List.{All, AllByRecursion, enumerate_from}
use Rattle.std.specs.Option.{option_map_or}
use Rattle.std.specs.Ordering.{nat_cmp}
use Rattle.std.specs.FinMap as finmap
use Rattle.std.proofs.lemmas.Bool.{and_from}
use Rattle.std.proofs.lemmas.Bool.Decides.{nat_tests}
use Rattle.std.proofs.lemmas.Option.{none-some, same_Some}
use Rattle.mm_types.specs.Resolved.{Metamodel}
use Rattle.mm_types.specs.Same.{same_feature, same_object}
use Rattle.mm_types.specs.Shapes.{shape}
use Rattle.mm_types.specs.declared.numbers.ClassNo.{ClassNo}
use Rattle.mm_types.specs.declared.numbers.FeatureNo.{FeatureNo}
use Rattle.mm_types.specs.declared.numbers.ObjectNo.{ObjectNo}
use Rattle.mm_types.specs.declared.value.Value.{Value}
use Rattle.mm_values.specs.Stored.{Stored, nothing_stored}
use Rattle.mm_values.specs.Values.{ObjectState, ValuesState, class_of, object_at, values_after_edits, with_list}
use Rattle.mm_values.specs.declared.value_edit.ValueEdit.{ValueEdit}
use Rattle.mm_values.specs.declared.value_edit.ValueEdit.TheVariants.{PutList}
use Rattle.models.specs.Legal.{IsLegalObject}
use Rattle.resource_docs.specs.Read.{values_in, values_under}
use Rattle.resource_docs.specs.declared.doc.Content.{Content}
use Rattle.resource_docs.specs.declared.doc.Doc.{Doc}
use Rattle.resource_docs.specs.declared.doc.DocObject.{DocObject}
use Rattle.doc_loader.specs.Loading.{attribute_edits, loaded_number, loaded_values, of_contents, of_object}
use Rattle.doc_loader.specs.Typed.{IsTyped}
use Rattle.doc_loader.proofs.PairLemmas.{Apart, all-every, all-flat_map, all-more, numbered-all}
use Rattle.doc_loader.proofs.SoundLemmas.{HaveOtherFeatures}
use Rattle.doc_loader.proofs.SourceLemmas.{flat_map-none}
use Rattle.handshake.proofs.AttributeLemmas.{stored_for, stored_for-with_list}
use Rattle.handshake.proofs.LoadValueLemmas.{after_made, behind, fresh, load-values, made-class, two-steps}
use Rattle.handshake.proofs.ObjectLegalLemmas.{class-put}

---------------------------------------------------------------- lists that are put, one after another

-- the list that an object stores under a feature, after a list is put, and after some edits
abbrev put_over : ObjectNo → FeatureNo → ObjectNo → FeatureNo → Stored → Stored → Stored
put_over p g o f new h = if same_object o p && same_feature f g then new else h

abbrev last : ObjectNo → FeatureNo → List ValueEdit → Stored → Stored
last p g [] h = h
last p g (PutList o f vs flag ∷ es) h = last p g es (put_over p g o f (record { list = vs; flag = flag }) h)
last p g (_ ∷ es) h = last p g es h

last-append : (p : ObjectNo) (g : FeatureNo) (xs ys : List ValueEdit) (h : Stored) → last p g (xs ++ ys) h ≡ last p g ys (last p g xs h)
last-append p g [] ys h = refl
last-append p g (PutList o f vs flag ∷ xs) ys h = last-append p g xs ys (put_over p g o f (record { list = vs; flag = flag }) h)
last-append p g (_ ∷ xs) ys h = last-append p g xs ys h

-- an edit puts a list for a live object
IsLivePut : (ObjectNo → Option ClassNo) → ValueEdit → Type 0
IsLivePut class (PutList o f vs flag) = is_some (class o) ≡ true
IsLivePut class _ = ⊥

stored-last : (class : ObjectNo → Option ClassNo) (es : List ValueEdit) (v : ValuesState) → ((o : ObjectNo) → class_of v o ≡ class o) → AllByRecursion (IsLivePut class) es
    → (p : ObjectNo) (g : FeatureNo) → stored_for g (object_at (values_after_edits v es).objects p) ≡ last p g es (stored_for g (object_at v.objects p))
unfolding IsLivePut
stored-last class [] v same all p g = refl
stored-last class (PutList o f vs flag ∷ es) v same all p g =
    let h : Stored = record { list = vs; flag = flag } in
    stored-last class es (record v { objects = with_list v.objects o f h }) (λ q. class-put f h v.objects o.0 q.0 ∙ same q) all.1 p g
    ∙ ap (last p g es) (stored_for-with_list v.objects o f h p g (ap (λ (x : Option ClassNo). is_some x) (same o) ∙ all.0))
stored-last class (_ ∷ es) v same all p g = absurd all.0

-- an edit under another feature
away : (b : Bool) (f g : FeatureNo) → same_feature g f ≡ false → (b && same_feature f g) ≡ false
away b f g other = ap (λ (x : Bool). b && x) (turn f.0 g.0 ∙ other) ∙ off b
  where
    turn : (i j : ℕ) → nat_eq i j ≡ nat_eq j i
    turn i j = grind (arith, nat_tests)

    off : (c : Bool) → (c && false) ≡ false
    off true = refl
    off false = refl

---------------------------------------------------------------- the contents of one object

module _ (m : Metamodel) (n : ℕ) where
  abbrev put_of : Content → Stored
  put_of c = record { list = c.values; flag = (shape m c.feature).is_unsettable && (shape m c.feature).is_single }

  -- a put for another object, or under another feature, changes nothing
  other-put : (p : ObjectNo) (g : FeatureNo) (o : ObjectNo) (c : Content) (h : Stored) → (same_object (loaded_number n o) p && same_feature c.feature g) ≡ false → last p g (attribute_edits m n o c) h ≡ h
  other-put p g o c h other =
      elim (shape m c.feature).is_reference as (λ b. last p g (if b then [] else PutList (loaded_number n o) c.feature c.values ((shape m c.feature).is_unsettable && (shape m c.feature).is_single) ∷ []) h ≡ h) [
        | true ↦ refl
        | false ↦ ap (λ (b : Bool). if b then put_of c else h) other
      ]

  others-put : (p : ObjectNo) (g : FeatureNo) (o : ObjectNo) (cs : List Content) (h : Stored) → AllByRecursion (λ (c : Content). (same_object (loaded_number n o) p && same_feature c.feature g) ≡ false) cs
      → last p g (flat_map (attribute_edits m n o) cs) h ≡ h
  others-put p g o [] h all = refl
  others-put p g o (c ∷ cs) h all =
      last-append p g (attribute_edits m n o c) (flat_map (attribute_edits m n o) cs) h
      ∙ ap (last p g (flat_map (attribute_edits m n o) cs)) (other-put p g o c h all.0)
      ∙ others-put p g o cs h all.1

  -- the contents of one object, each of a different feature, leave the list that is written under the feature
  written : (o : ObjectNo) (g : FeatureNo) (cs : List Content) → (shape m g).is_reference ≡ false → Apart HaveOtherFeatures cs
      → (last (loaded_number n o) g (flat_map (attribute_edits m n o) cs) nothing_stored).list ≡ flat_map (λ (c : Content). cond (same_feature g c.feature) c.values []) cs
  written o g [] attribute apart = refl
  written o g (c ∷ cs) attribute apart =
      let p = loaded_number n o in
      let rest = flat_map (attribute_edits m n o) cs in
      ap (λ (h : Stored). h.list) (last-append p g (attribute_edits m n o c) rest nothing_stored)
      ∙ elim (same_feature g c.feature) as (λ b. same_feature g c.feature ≡ b → (last p g rest (last p g (attribute_edits m n o c) nothing_stored)).list ≡ cond b c.values [] ++ flat_map (λ (c : Content). cond (same_feature g c.feature) c.values []) cs) [
        | true ↦ λ q.
            let number : g.0 ≡ c.feature.0 = eqb-true g.0 c.feature.0 q in
            let here : (same_object p p && same_feature c.feature g) ≡ true = and_from _ _ (eq-eqb p.0 p.0 refl) (eq-eqb c.feature.0 g.0 (sym number)) in
            let plain : (shape m c.feature).is_reference ≡ false = subst (λ (x : ℕ). (shape m (record { 0 = x })).is_reference ≡ false) number attribute in
            let put : last p g (attribute_edits m n o c) nothing_stored ≡ put_of c =
            ap (λ (b : Bool). last p g (if b then [] else PutList p c.feature c.values ((shape m c.feature).is_unsettable && (shape m c.feature).is_single) ∷ []) nothing_stored) plain
            ∙ ap (λ (b : Bool). if b then put_of c else nothing_stored) here in
            let not-here = all-more (HaveOtherFeatures c) (λ (d : Content). same_feature g d.feature ≡ false) cs (λ d h. subst (λ (x : ℕ). nat_eq x d.feature.0 ≡ false) (sym number) h) apart.0 in
            let others = all-more (λ (d : Content). same_feature g d.feature ≡ false) (λ (d : Content). (same_object p p && same_feature d.feature g) ≡ false) cs (λ d h. away (same_object p p) d.feature g h) not-here in
            let none = flat_map-none (λ (d : Content). cond (same_feature g d.feature) d.values []) cs (all-more (λ (d : Content). same_feature g d.feature ≡ false) (λ (d : Content). cond (same_feature g d.feature) d.values [] ≡ []) cs (λ d h. ap (λ (b : Bool). cond b d.values []) h) not-here) in
            ap (λ (h : Stored). (last p g rest h).list) put
            ∙ ap (λ (h : Stored). h.list) (others-put p g o cs (put_of c) others)
            ∙ sym (append-nil c.values) ∙ ap (λ (vs : List Value). c.values ++ vs) (sym none)
        | false ↦ λ q.
            ap (λ (h : Stored). (last p g rest h).list) (other-put p g o c nothing_stored (away (same_object p p) c.feature g q))
            ∙ written o g cs attribute apart.1
      ] refl

  ---------------------------------------------------------------- the objects of a document

  abbrev edits_of : ℕ × DocObject → List ValueEdit
  edits_of = of_object (attribute_edits m n)

  other-object : (p : ObjectNo) (g : FeatureNo) (o : ObjectNo) (cs : List Content) (h : Stored) → same_object (loaded_number n o) p ≡ false → last p g (flat_map (attribute_edits m n o) cs) h ≡ h
  other-object p g o cs h other =
      others-put p g o cs h (all-every (λ (c : Content). (same_object (loaded_number n o) p && same_feature c.feature g) ≡ false) cs (λ c. ap (λ (b : Bool). b && same_feature c.feature g) other))

  past : (p : ObjectNo) (g : FeatureNo) (xs : List DocObject) (k : ℕ) (h : Stored) → p.0 < n + k → last p g (flat_map (of_object (attribute_edits m n)) (enumerate_from k xs)) h ≡ h
  past p g [] k h low = refl
  past p g (x ∷ xs) k h low =
      last-append p g (edits_of (k, x)) (flat_map edits_of (enumerate_from (k + 1) xs)) h
      ∙ ap (last p g (flat_map edits_of (enumerate_from (k + 1) xs))) (other-object p g (record { 0 = k }) x.contents h (let apart : nat_eq (n + k) p.0 ≡ false = grind (arith, nat_tests) in apart))
      ∙ past p g xs (k + 1) h (omega (arith, low))

  -- only the edits of the object itself count
  at-number : (p : ObjectNo) (g : FeatureNo) (xs : List DocObject) (k d : ℕ) (x : DocObject) (h : Stored) → p.0 ≡ n + (k + d) → slice_get xs d ≡ Some x
      → last p g (flat_map (of_object (attribute_edits m n)) (enumerate_from k xs)) h ≡ last p g (of_object (attribute_edits m n) (k + d, x)) h
  at-number p g [] k d x h e at = absurd (none-some x at)
  at-number p g (y ∷ xs) k zero x h e at =
      let z : k ≡ k + 0 = omega arith in
      last-append p g (edits_of (k, y)) (flat_map edits_of (enumerate_from (k + 1) xs)) h
      ∙ past p g xs (k + 1) (last p g (edits_of (k, y)) h) (omega (arith, e))
      ∙ (λ i. last p g (edits_of (z i, same_Some y x at i)) h)
  at-number p g (y ∷ xs) k (suc d) x h e at =
      let z : (k + 1) + d ≡ k + suc d = omega arith in
      last-append p g (edits_of (k, y)) (flat_map edits_of (enumerate_from (k + 1) xs)) h
      ∙ ap (last p g (flat_map edits_of (enumerate_from (k + 1) xs))) (other-object p g (record { 0 = k }) y.contents h (let apart : nat_eq (n + k) p.0 ≡ false = grind (arith, nat_tests) in apart))
      ∙ at-number p g xs (k + 1) d x h (omega (arith, e)) at
      ∙ ap (λ (i : ℕ). last p g (edits_of (i, x)) h) z

---------------------------------------------------------------- after a load

fresh-stored : (f : FeatureNo) (ds : List DocObject) (i : ℕ) → stored_for f (slice_index_or (map fresh ds) i None) ≡ nothing_stored
fresh-stored f [] i = refl
fresh-stored f (d ∷ ds) zero = ap (λ (h : Option Stored). unwrap_or h nothing_stored) (finmap.get-empty nat_cmp f.0)
fresh-stored f (d ∷ ds) (suc i) = fresh-stored f ds i

-- if there is no object, nothing is stored
dead-stored : (f : FeatureNo) (q : Option ObjectState) → option_map (λ (x : ObjectState). x.class) q ≡ None → (stored_for f q).list ≡ []
dead-stored f None dead = refl
dead-stored f (Some x) dead = absurd (none-some x.class (sym dead))

module _ (m : Metamodel) (v : ValuesState) (doc : Doc) (typed : IsTyped m doc) (legal : All (IsLegalObject m) v.objects)
    (others : (o : ℕ) (x : DocObject) → slice_get doc.objects o ≡ Some x → Apart HaveOtherFeatures x.contents) where
  abbrev n : ℕ
  n = length v.objects

  abbrev news : ValuesState
  news = after_made m v doc typed legal

  abbrev puts : List ValueEdit
  puts = of_contents (attribute_edits m n) doc

  all-live : AllByRecursion (IsLivePut (class_of news)) puts
  unfolding IsLivePut
  all-live =
      all-flat_map (λ (y : ℕ × DocObject). slice_get doc.objects y.0 ≡ Some y.1) (IsLivePut (class_of news)) (of_object (attribute_edits m n)) (enumerate_from 0 doc.objects)
      (λ y at. all-flat_map (λ (c : Content). Unit {0}) (IsLivePut (class_of news)) (attribute_edits m n (record { 0 = y.0 })) y.1.contents
      (λ c t.
      let live : is_some (class_of news (loaded_number n (record { 0 = y.0 }))) ≡ true = ap (λ (x : Option ClassNo). is_some x) (made-class m v doc typed legal (record { 0 = y.0 })) ∙ ap (λ (x : Option DocObject). is_some (option_map (λ (d : DocObject). d.class) x)) at in
      elim (shape m c.feature).is_reference as (λ b. AllByRecursion (IsLivePut (class_of news)) (if b then [] else PutList (loaded_number n (record { 0 = y.0 })) c.feature c.values ((shape m c.feature).is_unsettable && (shape m c.feature).is_single) ∷ [])) [ true ↦ tt | false ↦ (live, tt) ])
      (all-every (λ (c : Content). Unit {0}) y.1.contents (λ c. tt)))
      (numbered-all doc.objects)

  abbrev w : ValuesState
  w = values_after_edits v (loaded_values m (length v.objects) doc)

  there : (o : ObjectNo) (x : DocObject) (g : FeatureNo) → (shape m g).is_reference ≡ false → slice_get doc.objects o.0 ≡ Some x → (stored_for g (object_at w.objects (loaded_number n o))).list ≡ values_under x g
  there o x g attribute at =
      let p = loaded_number n o in
      let zero_on : 0 + o.0 ≡ o.0 = omega arith in
      let number : n + o.0 ≡ n + (0 + o.0) = omega arith in
      ap (λ (u : ValuesState). (stored_for g (object_at u.objects p)).list) (two-steps m v doc typed legal)
      ∙ ap (λ (h : Stored). h.list) (
      stored-last (class_of news) puts news (λ q. refl) all-live p g
      ∙ ap (last p g puts) (ap (stored_for g) (behind v.objects (map fresh doc.objects) o.0) ∙ fresh-stored g doc.objects o.0)
      ∙ at-number m n p g doc.objects 0 o.0 x nothing_stored number at
      ∙ ap (λ (i : ℕ). last p g (of_object (attribute_edits m n) (i, x)) nothing_stored) zero_on)
      ∙ written m n o g x.contents attribute (others o.0 x at)

  -- an attribute of a new object stores the values that are written under it
  pub stored-loaded_number : (o : ObjectNo) (g : FeatureNo) → (shape m g).is_reference ≡ false → (stored_for g (object_at w.objects (loaded_number n o))).list ≡ values_in doc o g
  stored-loaded_number o g attribute =
      elim (slice_get doc.objects o.0) as (λ q. slice_get doc.objects o.0 ≡ q → (stored_for g (object_at w.objects (loaded_number n o))).list ≡ option_map_or (λ x. values_under x g) q []) [
        | None ↦ λ none. dead-stored g (object_at w.objects (loaded_number n o)) ((load-values m v doc typed legal).classes o ∙ ap (option_map (λ (x : DocObject). x.class)) none)
        | Some x ↦ λ at. there o x g attribute at
      ] refl
