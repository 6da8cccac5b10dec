-- In the document of a resource two linked objects that are both in it name each other.
use Rattle.std.proofs.Common.{◌≡◌, ◌∙◌, ℕ, zero, suc, ◌+◌, Bool, true, false, List, [], ◌∷◌, Option, Some, None, ap, arith, eq-eqb, eqb-true, map, nat_eq, option_map, refl, slice_get, sym, subst}
use Rattle.std.specs.Prelude.{◌&&◌, ◌||◌, Contains, IsTrue, flat_map, if◌then◌else◌, not, option_and_then, unwrap_or}
use Rattle.std.specs.List.{enumerate_from, list_any}
use Rattle.std.specs.Option.{option_map_or}
use Rattle.std.proofs.lemmas.Bool.{false≢true}
use Rattle.std.proofs.lemmas.List.Folds.{list_any-append}
use Rattle.std.proofs.lemmas.Option.{none-some, slice_get-map}
use Rattle.mm_meta.proofs.ShapeLemmas.{opposites_are_pairs, shape_opposite}
use Rattle.mm_types.specs.Ends as ends
use Rattle.mm_types.specs.Ends.{shown_values, value_in}
use Rattle.mm_types.specs.Lookups as lookups
use Rattle.mm_types.specs.Resolved.{Metamodel}
use Rattle.mm_types.specs.Same.{is_feature, is_nil, same_feature, same_value}
use Rattle.mm_types.specs.SameValues.{same_value-self}
use Rattle.mm_types.specs.Shapes.{Shape, contents_shape, is_containment, shape, shape_of}
use Rattle.mm_types.specs.declared.end.End.{End}
use Rattle.mm_types.specs.declared.feature.Feature.{Feature}
use Rattle.mm_types.specs.declared.feature.Kind.{Kind}
use Rattle.mm_types.specs.declared.feature.Kind.TheVariants.{Attribute, Reference}
use Rattle.mm_types.specs.declared.numbers.ClassNo.{ClassNo}
use Rattle.mm_types.specs.declared.numbers.FeatureNo.{FeatureNo}
use Rattle.mm_types.specs.declared.numbers.Node.TheVariants as node
use Rattle.mm_types.specs.declared.numbers.ObjectNo.{ObjectNo}
use Rattle.mm_types.specs.declared.numbers.ResourceNo.{ResourceNo}
use Rattle.mm_types.specs.declared.value.Value.{Value}
use Rattle.mm_types.specs.declared.value.Value.TheVariants as value
use Rattle.links.specs.Links.{end}
use Rattle.links.specs.Plans.{Has}
use Rattle.links.proofs.SideLemmas.{both_ends_agree}
use Rattle.models.specs.Legal.{IsLegal, is_legal_end, kinds_of}
use Rattle.models.specs.Model.{Model, reading, values_at}
use Rattle.models.specs.Reading.{Reading, all_features_of, at_end, has_feature, is_set}
use Rattle.models.proofs.PlaceLemmas.{is_target, target-legal}
use Rattle.containment.proofs.PartLemmas.{legal-at, values-linked}
use Rattle.doc_writer.specs.Written.{is_written, objects_in, written_features}
use Rattle.doc_parts.proofs.DataLemmas.{list_any-map}
use Rattle.resource_docs.specs.Causes.{is_one_sided, is_unanswered, of_content}
use Rattle.resource_docs.specs.Read.{values_in, values_under}
use Rattle.resource_docs.specs.declared.doc.Content.{Content}
use Rattle.resource_docs.specs.declared.doc.DocObject.{DocObject}
use Rattle.round_trip.specs.TextsLaws.{LeadsBack}
use Rattle.round_trip.specs.Copied.{content_copied, copied_document, object_copied, renamed_value}
use Rattle.round_trip.specs.ValuesLaws.{AreReadAs}
use Rattle.round_trip.specs.Readable.{IsReadable}
use Rattle.round_trip.proofs.ContainLemmas.{reference-plain}
use Rattle.round_trip.proofs.ValuesListLemmas.{behind, in-front, is-kept, stands}
use Rattle.round_trip.proofs.EndLemmas.{IsWrittenOf, written-of}
use Rattle.round_trip.proofs.ListLemmas.{any-in, any-none, each-at, each-of, mapped-in}
use Rattle.round_trip.proofs.NamedLemmas.{Addressed, IsNamed, Numbered, name-addressed, name-numbered, named}
use Rattle.round_trip.proofs.OrderLemmas.{objects-apart, position-there, there-position}

---------------------------------------------------------------- each content

any-counted : {X Y : Type 0} (p : ℕ × Y → Bool) (g : X → Y) (n : ℕ) (xs : List X) → ((i : ℕ) (x : X) → slice_get xs i ≡ Some x → p (n + i, g x) ≡ false) → list_any p (enumerate_from n (map g xs)) ≡ false
any-counted p g n [] h = refl
any-counted p g n (x ∷ xs) h =
    ap (λ b. b || list_any p (enumerate_from (n + 1) (map g xs))) (ap (λ (k : ℕ). p (k, g x)) (let e : n ≡ n + 0 = omega arith in e) ∙ h 0 x refl)
    ∙ any-counted p g (n + 1) xs (λ i y at. ap (λ (k : ℕ). p (k, g y)) (let e : n + 1 + i ≡ n + suc i = omega arith in e) ∙ h (suc i) y at)

-- a test that fails for each content of a resource's document fails for the document
pub none-content : (r : Reading) (k : ResourceNo) (holds : ObjectNo → Content → Bool)
    → ((n : ℕ) (o : ObjectNo) (f : FeatureNo) → slice_get (objects_in r k) n ≡ Some o → Contains (written_features r o) f → holds (record { 0 = n }) (content_copied r (objects_in r k) o f) ≡ false)
    → of_content holds (copied_document r k) ≡ false
unfolding copied_document
none-content r k holds none =
    let os = objects_in r k in
    any-counted (λ (x : ℕ × DocObject). list_any (holds (record { 0 = x.0 })) x.1.contents) (object_copied r os) 0 os (λ n o at.
    ap (λ (j : ℕ). list_any (holds (record { 0 = j })) (map (content_copied r os o) (written_features r o))) (let e : 0 + n ≡ n = omega arith in e)
    ∙ list_any-map (content_copied r os o) (holds (record { 0 = n })) (written_features r o)
    ∙ any-none (λ f. holds (record { 0 = n }) (content_copied r os o f)) (written_features r o) (each-of _ (written_features r o) (λ f there. none n o f at there)))

---------------------------------------------------------------- the other end

any-flat : {X Y : Type 0} (p : Y → Bool) (f : X → List Y) (xs : List X) (x : X) → Contains xs x → list_any p (f x) ≡ true → list_any p (flat_map f xs) ≡ true
any-flat p f [] x (k, low, at) h = absurd (omega (arith, low))
any-flat p f (y ∷ ys) x (zero, low, at) h = list_any-append p (f y) (flat_map f ys) ∙ ap (λ b. b || list_any p (flat_map f ys)) (ap (λ z. list_any p (f z)) at ∙ h)
any-flat p f (y ∷ ys) x (suc k, low, at) h = list_any-append p (f y) (flat_map f ys) ∙ ap (λ b. list_any p (f y) || b) (any-flat p f ys x (k, omega (arith, low), at) h) ∙ or-true (list_any p (f y))
  where
    or-true : (b : Bool) → b || true ≡ true
    or-true true = refl
    or-true false = refl

-- a test that finds a feature's number finds the feature
among-features : (fs : List FeatureNo) (f : FeatureNo) → list_any (λ (g : FeatureNo). nat_eq g.0 f.0) fs ≡ true → Contains fs f
among-features [] f h = absurd (false≢true h)
among-features (g ∷ gs) f h =
    elim (nat_eq g.0 f.0) as (λ b. nat_eq g.0 f.0 ≡ b → (b || list_any (λ (x : FeatureNo). nat_eq x.0 f.0) gs) ≡ true → Contains (g ∷ gs) f) [
      | true ↦ λ same _. (let is : g ≡ f = λ i. record { 0 = eqb-true g.0 f.0 same i } in subst (λ (x : FeatureNo). Contains (g ∷ gs) x) is (in-front g gs))
      | false ↦ λ _ later. behind g gs f (among-features gs f later)
    ] refl h

-- a reference that has an object or a proxy first is set
pub first-set : (a : Shape) (v : Value) (vs : List Value) (flag : Bool) → a.is_unsettable ≡ false → a.default ≡ value.Null → is_target v ≡ true → ends.is_set a (record { values = shown_values a.is_single (v ∷ vs); flag = flag }) ≡ true
first-set a v vs flag settable null target = by a.is_single v target
  where
    by : (b : Bool) (w : Value) → is_target w ≡ true → (if b then (if a.is_unsettable then flag else not (same_value (value_in (shown_values b (w ∷ vs)) 0) a.default)) else not (is_nil (shown_values b (w ∷ vs)))) ≡ true
    by true (value.Object o) is = λ i. if settable i then flag else not (same_value (value.Object o) (null i))
    by true (value.Proxy t) is = λ i. if settable i then flag else not (same_value (value.Proxy t) (null i))
    by true _ is = absurd (false≢true is)
    by false w is = refl

some-set : (r : Reading) (e : End) (vs : List Value) (i : ℕ) (v : Value) → (shape r.metamodel e.feature).is_unsettable ≡ false → (shape r.metamodel e.feature).default ≡ value.Null → IsTrue (is_legal_end r e vs) → slice_get vs i ≡ Some v
    → ends.is_set (shape r.metamodel e.feature) (record { values = shown_values (shape r.metamodel e.feature).is_single vs; flag = r.flag e }) ≡ true
some-set r e [] i v settable null legal at = absurd (none-some v at)
some-set r e (w ∷ ws) i v settable null legal at =
    first-set (shape r.metamodel e.feature) w ws (r.flag e) settable null (target-legal r e.feature w (legal-at r e (w ∷ ws) 0 w legal refl).1)

-- a class's feature is among all features of its objects
pub among-class : (r : Reading) (o : ObjectNo) (f : FeatureNo) → has_feature r (node.Object o) f ≡ true → Contains (all_features_of r (node.Object o)) f
among-class r o f = by_class (r.class o)
  where
    by_all : (x : Option (List FeatureNo)) → option_map_or (λ all. list_any (λ (g : FeatureNo). nat_eq g.0 f.0) all) x false ≡ true → Contains (unwrap_or x []) f
    by_all None h = absurd (false≢true h)
    by_all (Some all) h = among-features all f h

    by_class : (x : Option ClassNo) → option_map_or (λ c. lookups.has_feature r.metamodel c f) x false ≡ true → Contains (unwrap_or (option_and_then (lookups.features r.metamodel) x) []) f
    by_class None h = absurd (false≢true h)
    by_class (Some c) h = by_all (lookups.features r.metamodel c) h

-- the opposite of a reference that is no containment is no container reference
no-container : (m : Metamodel) (f g : FeatureNo) (x : Feature) → lookups.feature m f ≡ Some x → lookups.opposite m g ≡ Some f → is_containment m f ≡ false → lookups.is_container m g ≡ false
no-container m f g x there back other =
    ap (λ (o : Option FeatureNo). option_map_or (λ y. lookups.is_containment_kind y.kind) (option_and_then (lookups.feature m) o) false) back
    ∙ ap (λ (o : Option Feature). option_map_or (λ y. lookups.is_containment_kind y.kind) o false) there
    ∙ by x.kind (sym (ap (λ (o : Option Feature). is_feature f (option_map_or (λ y. shape_of m f y y.kind) o (contents_shape m)).containing) there) ∙ other)
  where
    by : (k : Kind) → is_feature f (shape_of m f x k).containing ≡ false → lookups.is_containment_kind k ≡ false
    by (Attribute t unique unsettable default) h = refl
    by (Reference target true opposite) h = absurd (false≢true (sym h ∙ eq-eqb f.0 f.0 refl))
    by (Reference target false opposite) h = refl

module _ (s : Model) (legal : IsLegal s) (k : ResourceNo) (uri : List ℕ) (leads : LeadsBack (reading s) k uri) (fine : IsReadable (reading s) k uri) (read : AreReadAs (reading s) k uri) where
  abbrev m : Metamodel
  m = s.metamodel

  abbrev os : List ObjectNo
  os = objects_in (reading s) k

  -- the other end has the object, at some position
  far-has : (o : ObjectNo) (f g : FeatureNo) (b : ObjectNo) (i : ℕ) → (shape m f).opposite ≡ Some g → slice_get (values_at s (at_end (node.Object o) f)) i ≡ Some (value.Object b)
      → Has s.links (at_end (node.Object b) g) (value.Object o)
  far-has o f g b i opposite at =
      let near = at_end (node.Object o) f in
      let linked = values-linked s near (opposites_are_pairs m legal.metamodel f g opposite).near_refers in
      both_ends_agree (kinds_of m) s.links legal.links.set legal.links.kinds near (at_end (node.Object b) g) opposite (i, ap (λ (vs : List Value). slice_get vs i) (sym linked) ∙ at)

  -- the other end is written
  far-written : (o : ObjectNo) (f g : FeatureNo) (b : ObjectNo) (x : Feature) → lookups.feature m f ≡ Some x → (shape m f).opposite ≡ Some g → is_containment m f ≡ false → Has s.links (at_end (node.Object b) g) (value.Object o)
      → Contains (written_features (reading s) b) g
  far-written o f g b x there opposite other has =
      let far = at_end (node.Object b) g in
      let pair = opposites_are_pairs m legal.metamodel f g opposite in
      let linked = values-linked s far pair.far_refers in
      let may = legal-at (reading s) far (end s.links far) has.0 (value.Object o) (legal.links.ends far) has.1 in
      let plain = reference-plain m g pair.far_refers in
      let set : is_set (reading s) far ≡ true = subst (λ (vs : List Value). ends.is_set (shape m g) (record { values = shown_values (shape m g).is_single vs; flag = (reading s).flag far }) ≡ true) (sym linked)
      (some-set (reading s) far (end s.links far) has.0 (value.Object o) plain.0 plain.1 (legal.links.ends far) has.1) in
      is-kept (is_written (reading s) b) (all_features_of (reading s) (node.Object b)) g (among-class (reading s) b g may.0)
      (ap (λ (c : Bool). c && not (lookups.is_container m g)) set ∙ ap not (no-container m f g x there (sym (shape_opposite m g) ∙ pair.back) other))

  ---------------------------------------------------------------- both name each other

  -- the values that a document has under a feature of an object, by its number
  under-number : (b : ObjectNo) (j : ℕ) (g : FeatureNo) → slice_get os j ≡ Some b → values_in (copied_document (reading s) k) (record { 0 = j }) g ≡ values_under (object_copied (reading s) os b) g
  unfolding copied_document
  under-number b j g at =
      ap (λ (x : Option DocObject). option_map_or (λ y. values_under y g) x []) (slice_get-map (object_copied (reading s) os) os j ∙ ap (option_map (object_copied (reading s) os)) at)

  far-named : (o : ObjectNo) (n : ℕ) (b : ObjectNo) (j : ℕ) (g : FeatureNo) → slice_get os n ≡ Some o → slice_get os j ≡ Some b → Contains (written_features (reading s) b) g → Has s.links (at_end (node.Object b) g) (value.Object o)
      → (shape m g).is_reference ≡ true → list_any (same_value (value.Object (record { 0 = n }))) (values_in (copied_document (reading s) k) (record { 0 = j }) g) ≡ true
  far-named o n b j g here there written has refers =
      let r = reading s in
      let far = at_end (node.Object b) g in
      let named = value.Object (record { 0 = n }) in
      let own : renamed_value r os (value.Object o) ≡ named = name-numbered s legal k uri leads fine read o n (there-position os o n (objects-apart s legal k) here) in
      let held = map (renamed_value r os) (values_at s far) in
      let at : slice_get (values_at s far) has.0 ≡ Some (value.Object o) = ap (λ (vs : List Value). slice_get vs has.0) (values-linked s far refers) ∙ has.1 in
      let placed : Contains held named = stands held has.0 named (slice_get-map (renamed_value r os) (values_at s far) has.0 ∙ ap (option_map (renamed_value r os)) at ∙ ap Some own) in
      ap (list_any (same_value named)) (under-number b j g there)
      ∙ any-flat (same_value named) (λ (c : Content). if same_feature g c.feature then c.values else []) (map (content_copied r os b) (written_features r b)) (content_copied r os b g)
      (mapped-in (content_copied r os b) (written_features r b) g written)
      (ap (λ (t : Bool). list_any (same_value named) (if t then held else [])) (eq-eqb g.0 g.0 refl) ∙ any-in (same_value named) held named placed (same_value-self named))

  answered : (o : ObjectNo) (n : ℕ) (f : FeatureNo) (x : Feature) (b : ObjectNo) (i j : ℕ) → slice_get os n ≡ Some o → lookups.feature m f ≡ Some x → is_containment m f ≡ false
      → slice_get (values_at s (at_end (node.Object o) f)) i ≡ Some (value.Object b) → slice_get os j ≡ Some b → is_unanswered m (copied_document (reading s) k) (record { 0 = n }) f (value.Object (record { 0 = j })) ≡ false
  answered o n f x b i j here known other at there = by (shape m f).opposite refl
    where
      by : (q : Option FeatureNo) → (shape m f).opposite ≡ q
          → option_map_or (λ g. not (list_any (same_value (value.Object (record { 0 = n }))) (values_in (copied_document (reading s) k) (record { 0 = j }) g))) q false ≡ false
      by None is = refl
      by (Some g) is =
          let has = far-has o f g b i is at in
          ap not (far-named o n b j g here there (far-written o f g b x known is other has) has (opposites_are_pairs m legal.metamodel f g is).far_refers)

  value-answered : (o : ObjectNo) (n : ℕ) (f : FeatureNo) (x : Feature) (i : ℕ) (v : Value) → slice_get os n ≡ Some o → Contains (written_features (reading s) o) f → lookups.feature m f ≡ Some x → is_containment m f ≡ false
      → slice_get (values_at s (at_end (node.Object o) f)) i ≡ Some v → is_unanswered m (copied_document (reading s) k) (record { 0 = n }) f (renamed_value (reading s) os v) ≡ false
  value-answered o n f x i (value.Object b) here written known other at = by (named s legal k uri leads fine read o f b i (stands os n o here) written at)
    where
      by : IsNamed (reading s) k b → is_unanswered m (copied_document (reading s) k) (record { 0 = n }) f (renamed_value (reading s) os (value.Object b)) ≡ false
      by (Numbered j is) =
          ap (is_unanswered m (copied_document (reading s) k) (record { 0 = n }) f) (name-numbered s legal k uri leads fine read b j is) ∙ answered o n f x b i j here known other at (position-there os b j is)
      by (Addressed e) = ap (is_unanswered m (copied_document (reading s) k) (record { 0 = n }) f) (name-addressed s legal k uri leads fine read b e)
  value-answered o n f x i v here written known other at = refl

  pub none-sided : of_content (is_one_sided m (copied_document (reading s) k)) (copied_document (reading s) k) ≡ false
  none-sided = none-content (reading s) k (is_one_sided m (copied_document (reading s) k)) (λ n o f here written. by n o f here written (written-of s legal o f written))
    where
      by : (n : ℕ) (o : ObjectNo) (f : FeatureNo) → slice_get os n ≡ Some o → Contains (written_features (reading s) o) f → IsWrittenOf s o f → is_one_sided m (copied_document (reading s) k) (record { 0 = n }) (content_copied (reading s) os o f) ≡ false
      by n o f here written w =
          let vs = values_at s (at_end (node.Object o) f) in
          let doc = copied_document (reading s) k in
          elim (is_containment m f) as (λ c. is_containment m f ≡ c → not c && list_any (is_unanswered m doc (record { 0 = n }) f) (map (renamed_value (reading s) os) vs) ≡ false) [
            | true ↦ λ _. refl
            | false ↦ λ other.
                list_any-map (renamed_value (reading s) os) (is_unanswered m doc (record { 0 = n }) f) vs
                ∙ any-none (λ v. is_unanswered m doc (record { 0 = n }) f (renamed_value (reading s) os v)) vs (each-at _ vs (λ i v at. value-answered o n f w.feature i v here written w.there other at))
          ] refl
