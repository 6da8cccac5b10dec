-- A document that is read is valid.
use Rattle.std.proofs.Common.{◌≡◌, ◌∙◌, ◌+◌, ◌≤◌, ◌++◌, ℕ, zero, suc, Bool, true, false, cond, List, [], ◌∷◌, Option, Some, None, append-nil, length, map, refl, sym, ap, subst, arith}
use Rattle.std.specs.Prelude.{◌&&◌, filter_map, flat_map, not, option_map, slice_get}
use Rattle.std.specs.List.{AllByRecursion, enumerate_from, list_any}
use Rattle.std.specs.Option.{option_map_or}
use Rattle.std.proofs.lemmas.Bool.{eq-eqb, eqb-true, false_from_ne_true, false≢true, not-false, true≢false}
use Rattle.std.proofs.lemmas.List.Elements.{recursion_from_All}
use Rattle.std.proofs.lemmas.Option.{none-some, same_Some}
use Rattle.serde_json.specs.Data.{Data}
use Rattle.mm_types.specs.Lookups as lookups
use Rattle.mm_types.specs.OfDocument.{IsOfDocument}
use Rattle.mm_types.specs.Resolved.{Metamodel}
use Rattle.mm_types.specs.Same.{is_feature, is_nil, same_feature, same_value}
use Rattle.mm_types.specs.SameValues.{same_value-true}
use Rattle.mm_types.specs.Shapes.{shape}
use Rattle.mm_types.specs.declared.limits.TheConstants.{LIST_VALUES, OBJECTS}
use Rattle.mm_types.specs.declared.numbers.FeatureNo.{FeatureNo}
use Rattle.mm_types.specs.declared.numbers.ObjectNo.{ObjectNo}
use Rattle.mm_types.specs.declared.value.Value.{Value}
use Rattle.mm_types.specs.declared.value.Value.TheVariants as value
use Rattle.containment.proofs.PartLemmas.{kinds-are}
use Rattle.web_uris.specs.Paths.{new_path, with_step}
use Rattle.web_uris.specs.declared.path.Step.{Step}
use Rattle.doc_parts.specs.Parts.{Entry, Part, entries, number_of, parts, root_parts}
use Rattle.doc_parts.proofs.WayLemmas.{number_tells}
use Rattle.resource_docs.specs.Causes.{IsRead, has_repeat, is_one_sided, is_unanswered, of_content, repeats_value}
use Rattle.resource_docs.specs.Read.{content_read, contents_read, doc_read, object_read, root_number, values_in, values_under}
use Rattle.resource_docs.specs.Texts.{Base, base_of}
use Rattle.resource_docs.specs.declared.doc.Content.{Content}
use Rattle.resource_docs.specs.declared.doc.Doc.{Doc}
use Rattle.resource_docs.specs.declared.doc.DocObject.{DocObject}
use Rattle.doc_loader.specs.Fits.{IsFitting, IsFittingContent, IsFittingObject}
use Rattle.doc_loader.proofs.DocLemmas.{repeats-none}
use Rattle.doc_loader.proofs.CauseLemmas.{IsFaultless, read-faultless}
use Rattle.doc_loader.proofs.FitLemmas.{read-fits}
use Rattle.doc_loader.proofs.NameLemmas.{names-apart}
use Rattle.doc_loader.proofs.PairLemmas.{Apart, all-at, all-from_at, all-more, apart-filter, apart-filter_map, apart-map, apart-more, numbered-at}
use Rattle.doc_loader.proofs.SoundLemmas.{AreSoundContents, HaveOtherFeatures, IsSound, IsSoundContent, IsThere, all-none, any-at, apart-one, filter_map-at, value-there}
use Rattle.doc_loader.proofs.WrittenLemmas.{IsWritten, known-at, none-of, object-at, same-entry, written}
use Rattle.doc_loader.proofs.WholeLemmas.{HaveOtherNames, HaveOtherPaths, NamesAreApart, entries-apart, not-root, part-later, part-once, roots-apart, roots-are}

---------------------------------------------------------------- lists

no-other : (f : FeatureNo) (cs : List Content) → AllByRecursion (λ d. same_feature f d.feature ≡ false) cs → flat_map (λ d. cond (same_feature f d.feature) d.values []) cs ≡ []
no-other f [] all = refl
no-other f (c ∷ cs) all = let here = all.0 in rw here (no-other f cs all.1)

turned-false : (f g : FeatureNo) → same_feature f g ≡ false → same_feature g f ≡ false
turned-false f g h = false_from_ne_true (same_feature g f) (λ q. true≢false (sym (eq-eqb f.0 g.0 (sym (eqb-true g.0 f.0 q))) ∙ h))

own-under : (cs : List Content) (j : ℕ) (c : Content) → Apart HaveOtherFeatures cs → slice_get cs j ≡ Some c → flat_map (λ d. cond (same_feature c.feature d.feature) d.values []) cs ≡ c.values
own-under [] j c a h = absurd (none-some c h)
own-under (x ∷ xs) zero c a h =
    let self = eq-eqb c.feature.0 x.feature.0 (ap (λ (y : Content). y.feature.0) (sym (same_Some x c h))) in
    let rest = no-other c.feature xs (subst (λ (y : Content). AllByRecursion (λ d. same_feature y.feature d.feature ≡ false) xs) (same_Some x c h) a.0) in
    rw self (ap (λ (vs : List Value). x.values ++ vs) rest ∙ append-nil x.values ∙ ap (λ (y : Content). y.values) (same_Some x c h))
own-under (x ∷ xs) (suc j) c a h =
    let other = turned-false x.feature c.feature (all-at (HaveOtherFeatures x) xs j c a.0 h) in
    rw other (own-under xs j c a.1 h)

---------------------------------------------------------------- contents

contents-apart : (m : Metamodel) (names : NamesAreApart m) (b : Base) (ps : List Part) (p : Part) → Apart HaveOtherFeatures (contents_read m b ps p.path (entries m p.json))
contents-apart m names b ps p =
    apart-filter HaveOtherFeatures (λ c. not (is_nil c.values)) (map (content_read m b ps p.path) (entries m p.json))
    (apart-map HaveOtherFeatures (content_read m b ps p.path) (entries m p.json)
    (apart-more (HaveOtherNames m) (λ x y. same_feature x.feature y.feature ≡ false) (entries m p.json)
    (λ x y other. false_from_ne_true (same_feature x.feature y.feature) (λ q. other (let e = eqb-true x.feature.0 y.feature.0 q in λ i. lookups.feature_name m (record { 0 = e i }))))
    (entries-apart m names p.json)))

module _ (m : Metamodel) (names : NamesAreApart m) (b : Base) (d : Data) (doc : Doc) (objects_are : doc.objects ≡ map (object_read m b (parts m d)) (parts m d))
    (roots_are : doc.roots ≡ filter_map (λ p. root_number (parts m d) p.path) (root_parts d)) (repeats : of_content (λ o c. has_repeat m c) doc ≡ false) (sided : of_content (is_one_sided m doc) doc ≡ false)
    (fits : AllByRecursion (λ (o : DocObject). AllByRecursion (λ (c : Content). length c.values ≤ LIST_VALUES) o.contents) doc.objects) where
  other-features : (o : ℕ) (x : DocObject) → slice_get doc.objects o ≡ Some x → Apart HaveOtherFeatures x.contents
  other-features o x at = let p = object-at m b (parts m d) doc objects_are o x at in subst (λ (y : DocObject). Apart HaveOtherFeatures y.contents) p.2 (contents-apart m names b (parts m d) p.0)

  own-values : (o : ObjectNo) (c : Content) → IsThere doc o c → values_in doc o c.feature ≡ c.values
  own-values o c there =
      ap (λ (x : Option DocObject). option_map_or (λ y. values_under y c.feature) x []) there.at
      ∙ own-under there.object.contents there.index c (other-features o.0 there.object there.at) there.in_object

  unrepeated : (a r : Bool) → a ≡ true → a && r ≡ false → r ≡ false
  unrepeated true r h n = n
  unrepeated false r h n = absurd (false≢true h)

  answered-at : (o : ObjectNo) (c : Content) (g : FeatureNo) (k : ℕ) (a : ObjectNo) → is_one_sided m doc o c ≡ false → (shape m c.feature).containing ≡ None → (shape m c.feature).opposite ≡ Some g → slice_get c.values k ≡ Some (value.Object a)
      → (j : ℕ) × (slice_get (values_in doc a g) j ≡ Some (value.Object o))
  answered-at o c g k a none plain pair at =
      let all : list_any (is_unanswered m doc o c.feature) c.values ≡ false = sym (ap (λ (h : Option FeatureNo). not (is_feature c.feature h) && list_any (is_unanswered m doc o c.feature) c.values) plain) ∙ none in
      let here = all-at (λ v. is_unanswered m doc o c.feature v ≡ false) c.values k (value.Object a) (all-none (is_unanswered m doc o c.feature) c.values all) at in
      let named : not (list_any (same_value (value.Object o)) (values_in doc a g)) ≡ false = sym (ap (λ (h : Option FeatureNo). option_map_or (λ g. not (list_any (same_value (value.Object o)) (values_in doc a g))) h false) pair) ∙ here in
      let r = any-at (same_value (value.Object o)) (values_in doc a g) (not-false (list_any (same_value (value.Object o)) (values_in doc a g)) named) in
      (r.0, r.2 ∙ ap Some (sym (same_value-true (value.Object o) r.1 r.3)))

  sound-content : (o : ObjectNo) (c : Content) → IsThere doc o c → IsSoundContent m doc o c
  sound-content o c there =
      let w = written m b (parts m d) doc objects_are o c there in
      let k = known-at m b (parts m d) doc objects_are o c there w in
      record {
        own = own-values o c there;
        plain = k.plain;
        few = all-at (λ (c : Content). length c.values ≤ LIST_VALUES) there.object.contents there.index c (all-at (λ (o : DocObject). AllByRecursion (λ (c : Content). length c.values ≤ LIST_VALUES) o.contents) doc.objects o.0 there.object fits there.at) there.in_object;
        distinct = λ r. repeats-none c.values (unrepeated (shape m c.feature).is_unique (repeats_value c.values) (k.unique r) (none-of doc (λ o c. has_repeat m c) repeats o c there));
        sorts = k.sorts;
        answered = λ g i a plain pair at. answered-at o c g i a (none-of doc (is_one_sided m doc) sided o c there) plain pair at;
        before = λ h i a q at. (let r = k.numbers h i a q at in part-later m names d o.0 a.0 w.part r.0 w.here r.2);
      }

  all-sound : AllByRecursion (AreSoundContents m doc) (enumerate_from 0 doc.objects)
  all-sound = all-from_at (AreSoundContents m doc) (enumerate_from 0 doc.objects) (λ k y at. (
      let r = numbered-at doc.objects 0 k y at in
      let n = r.0 in
      let same : k ≡ y.0 = omega (arith, n) in
      all-from_at (IsSoundContent m doc (record { 0 = y.0 })) y.1.contents (λ j c there. sound-content (record { 0 = y.0 }) c (record { object = y.1; at = subst (λ (x : ℕ). slice_get doc.objects x ≡ Some y.1) same r.1; index = j; in_object = there }))))

  ---------------------------------------------------------------- parts

  -- the position of an object under a containment, and the step that leads to it
  record IsPart (o : ObjectNo) (f : FeatureNo) (a : ObjectNo) : Type 0 where
    content : Content
    of : content.feature ≡ f
    origin : IsWritten m b (parts m d) o.0 content
    step : Step
    name : step.name ≡ lookups.feature_name m content.feature
    number : number_of (parts m d) (with_step origin.part.path step) ≡ Some a.0

  part-of : (o : ObjectNo) (f h : FeatureNo) (k : ℕ) (a : ObjectNo) → (shape m f).containing ≡ Some h → slice_get (values_in doc o f) k ≡ Some (value.Object a) → IsPart o f a
  part-of o f h k a contains at =
      let v = value-there doc o f k (value.Object a) at in
      let w = written m b (parts m d) doc objects_are o v.0 v.1 in
      let known = known-at m b (parts m d) doc objects_are o v.0 v.1 w in
      let r = known.numbers h v.3.0 a (ap (λ (x : FeatureNo). (shape m x).containing) v.2 ∙ contains) v.3.1 in
      record { content = v.0; of = v.2; origin = w; step = r.0; name = r.1; number = r.2 }

  one-part : (a c : ObjectNo) (f g : FeatureNo) (x : ObjectNo) → IsPart a f x → IsPart c g x → (a ≡ c) × (f ≡ g)
  one-part a c f g x p q =
      let r = part-once m names d a.0 c.0 x.0 p.origin.part q.origin.part p.step q.step p.origin.here q.origin.here p.number q.number in
      let part : p.origin.part ≡ q.origin.part = same_Some p.origin.part q.origin.part (sym p.origin.here ∙ ap (slice_get (parts m d)) r.0 ∙ q.origin.here) in
      let pf : p.content.feature ≡ p.origin.entry.feature = ap (λ (z : Content). z.feature) (sym p.origin.is) in
      let qf : q.content.feature ≡ q.origin.entry.feature = ap (λ (z : Content). z.feature) (sym q.origin.is) in
      let name = ap (lookups.feature_name m) (sym pf) ∙ sym p.name ∙ ap (λ (s : Step). s.name) r.1 ∙ q.name ∙ ap (lookups.feature_name m) qf in
      let entry = same-entry m names q.origin.part.json p.origin.index q.origin.index p.origin.entry q.origin.entry (subst (λ (z : Part). slice_get (entries m z.json) p.origin.index ≡ Some p.origin.entry) part p.origin.there) q.origin.there name in (
        (λ i. record { 0 = r.0 i }),
        sym p.of ∙ pf ∙ ap (λ (e : Entry). e.feature) entry ∙ sym qf ∙ q.of,
      )

  ---------------------------------------------------------------- roots

  root-of : (o : Option ℕ) (a : ObjectNo) → option_map (λ (n : ℕ). record { 0 = n }) o ≡ Some a → o ≡ Some a.0
  root-of None a h = absurd (none-some a h)
  root-of (Some n) a h = ap (λ (x : ObjectNo). Some x.0) (same_Some (record { 0 = n }) a h)

  roots-other : Apart (λ (x y : ObjectNo). x ≡ y → ⊥) doc.roots
  roots-other =
      subst (λ (rs : List ObjectNo). Apart (λ (x y : ObjectNo). x ≡ y → ⊥) rs) (sym roots_are)
      (apart-filter_map HaveOtherPaths (λ (x y : ObjectNo). x ≡ y → ⊥) (λ p. root_number (parts m d) p.path) (root_parts d)
      (λ p q x y other a c same. other (number_tells p.path q.path (parts m d) x.0 (root-of (number_of (parts m d) p.path) x a) (root-of (number_of (parts m d) q.path) x (c ∙ ap Some (sym same)))))
      (roots-apart m names d))

  root-path : (k : ℕ) (a : ObjectNo) → slice_get doc.roots k ≡ Some a → (p : Part) × ((i : ℕ) × (p.path ≡ new_path i [])) × (number_of (parts m d) p.path ≡ Some a.0)
  root-path k a at =
      let r = filter_map-at (λ p. root_number (parts m d) p.path) (root_parts d) k a (sym (ap (λ (rs : List ObjectNo). slice_get rs k) roots_are) ∙ at) in
      (r.1, all-at (λ p. (i : ℕ) × (p.path ≡ new_path i [])) (root_parts d) r.0 r.1 (roots-are m names d) r.2, root-of (number_of (parts m d) r.1.path) a r.3)

  no-part : (k : ℕ) (x a : ObjectNo) (f : FeatureNo) → slice_get doc.roots k ≡ Some x → IsPart a f x → ⊥
  no-part k x a f at p =
      let r = root-path k x at in
      not-root r.1.0 p.origin.part.path p.step (sym r.1.1 ∙ number_tells r.0.path (with_step p.origin.part.path p.step) (parts m d) x.0 r.2 p.number)

---------------------------------------------------------------- documents

fitting-contents : (n : ℕ) (doc : Doc) → IsFitting n doc → AllByRecursion (λ (o : DocObject). AllByRecursion (λ (c : Content). length c.values ≤ LIST_VALUES) o.contents) doc.objects
fitting-contents n doc fits =
    all-more (IsFittingObject n) (λ (o : DocObject). AllByRecursion (λ (c : Content). length c.values ≤ LIST_VALUES) o.contents) doc.objects
    (λ o all. all-more (IsFittingContent n) (λ (c : Content). length c.values ≤ LIST_VALUES) o.contents (λ c f. f.few) (recursion_from_All (IsFittingContent n) o.contents all))
    (recursion_from_All (IsFittingObject n) doc.objects fits.objects)

pub objects-are : (m : Metamodel) (b : Base) (d : Data) → (doc_read m b d).objects ≡ map (object_read m b (parts m d)) (parts m d)
unfolding doc_read
objects-are m b d = refl

pub roots-read : (m : Metamodel) (b : Base) (d : Data) → (doc_read m b d).roots ≡ filter_map (λ p. root_number (parts m d) p.path) (root_parts d)
unfolding doc_read
roots-read m b d = refl

doc-sound : (m : Metamodel) → IsOfDocument m → (b : Base) (d : Data) (n : ℕ) (doc : Doc) → doc ≡ doc_read m b d → IsFaultless m d doc → IsFitting n doc → IsSound m doc
doc-sound m accepted b d n doc is ends fits =
    let names = names-apart m accepted in
    let objects = ap (λ (x : Doc). x.objects) is ∙ objects-are m b d in
    let roots = ap (λ (x : Doc). x.roots) is ∙ roots-read m b d in
    let few = fitting-contents n doc fits in
    let part = part-of m names b d doc objects roots ends.repeats ends.sided few in
    record {
      kinds = kinds-are m accepted;
      contents = all-sound m names b d doc objects roots ends.repeats ends.sided few;
      others = other-features m names b d doc objects roots ends.repeats ends.sided few;
      once = (λ a c f g h i j k x p q at there. one-part m names b d doc objects roots ends.repeats ends.sided few a c f g x (part a f h j x p at) (part c g i k x q there));
      roots_distinct = (λ j k x at there. apart-one (λ (x y : ObjectNo). x ≡ y → ⊥) doc.roots j k x x (roots-other m names b d doc objects roots ends.repeats ends.sided few) at there (λ other. other refl) (λ other. other refl));
      root_apart = (λ a f h j k x p at root. no-part m names b d doc objects roots ends.repeats ends.sided few k x a f root (part a f h j x p at));
      few_roots = fits.few;
    }

pub read-sound : (m : Metamodel) (uri : List ℕ) (doc : Doc) (n : ℕ) → IsOfDocument m → IsRead m uri doc → n + length doc.objects ≤ OBJECTS → IsSound m doc
read-sound m uri doc n accepted read room =
    let right = read-faultless m uri doc read in
    doc-sound m accepted (base_of uri) read.source n doc (sym right.0) (subst (IsFaultless m read.source) right.0 right.1) (read-fits m uri doc n read room)
