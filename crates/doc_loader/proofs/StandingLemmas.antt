-- Each value under a containment is an object of a concrete class, which conforms to the target of the containment.
use Rattle.std.proofs.Common.{◌≡◌, ◌∙◌, ◌++◌, ℕ, zero, suc, Bool, true, false, cond, List, [], ◌∷◌, Option, Some, None, length, map, refl, sym, ap, subst, inl, inr}
use Rattle.std.specs.Prelude.{◌&&◌, ◌||◌, ◌==◌, ◌⊎◌, flat_map, is_some, not, option_map, slice_get, unwrap_or, if◌then◌else◌}
use Rattle.std.specs.List.{AllByRecursion, enumerate_from, list_all, list_any}
use Rattle.std.specs.Option.{option_map_or}
use Rattle.std.proofs.lemmas.Bool.{and_parts, false≢true, not-false, or_right, true≢false}
use Rattle.std.proofs.lemmas.Option.{none-some, same_Some}
use Rattle.serde_json.specs.Data.{Data, Members, depth}
use Rattle.serde_json.specs.Find.{as_array, as_object}
use Rattle.json_fields.specs.Fields.{◌>>=◌}
use Rattle.mm_types.specs.Lookups as lookups
use Rattle.mm_types.specs.Resolved.{Metamodel}
use Rattle.mm_types.specs.Same.{is_feature}
use Rattle.mm_types.specs.Shapes.{Shape, contents_shape, is_containment, shape, shape_of}
use Rattle.mm_types.specs.declared.feature.Feature.{Feature}
use Rattle.mm_types.specs.declared.feature.Kind.{Kind}
use Rattle.mm_types.specs.declared.feature.Kind.TheVariants.{Attribute, Reference}
use Rattle.mm_types.specs.declared.numbers.ClassNo.{ClassNo}
use Rattle.mm_types.specs.declared.numbers.FeatureNo.{FeatureNo}
use Rattle.web_uris.specs.Paths.{new_path, with_step}
use Rattle.web_uris.specs.declared.path.Path.{Path}
use Rattle.web_uris.specs.declared.path.Step.{Step}
use Rattle.doc_parts.specs.Contents.{conforms_to, is_content, is_value, may_stand}
use Rattle.doc_parts.specs.Faults.{has_no_class, is_misshapen}
use Rattle.doc_parts.specs.Layout.{Written, written_object}
use Rattle.doc_parts.specs.Parts.{Entry, Part, class_of, content_at, entries, entries_in, entry_at, number_of, parts, parts_from, parts_in, root_parts, step_to, values_of}
use Rattle.doc_loader.proofs.CauseLemmas.{IsShapely}
use Rattle.doc_loader.proofs.NameLemmas.{class-features}
use Rattle.doc_loader.proofs.PairLemmas.{all-at, all-both, all-filter_map, all-flat_map, all-from_at, all-map, all-more, numbered-all}
use Rattle.doc_loader.proofs.SoundLemmas.{all-none, apart-one}
use Rattle.doc_loader.proofs.WholeLemmas.{HaveOtherPaths, NamesAreApart, all-apart, entry-feature, not-root, number-at, roots-are, step-same}
use Rattle.doc_loader.proofs.WrittenLemmas.{plain-entries, same-entry}

---------------------------------------------------------------- lists

abbrev IsIn : {X : Type 0} → List X → X → Type 0
IsIn xs x = (k : ℕ) × (slice_get xs k ≡ Some x)

module _ {X : Type 0} where
  all-in : (xs : List X) → AllByRecursion (IsIn xs) xs
  all-in xs = all-from_at (IsIn xs) xs (λ k x at. (k, at))

  all-split : (P : X → Type 0) (xs ys : List X) → AllByRecursion P (xs ++ ys) → AllByRecursion P xs × AllByRecursion P ys
  all-split P [] ys a = (tt, a)
  all-split P (x ∷ xs) ys a = let r = all-split P xs ys a.1 in ((a.0, r.0), r.1)

  list_all-at : (p : X → Bool) (xs : List X) (k : ℕ) (x : X) → list_all p xs ≡ true → slice_get xs k ≡ Some x → p x ≡ true
  list_all-at p [] k x all at = absurd (none-some x at)
  list_all-at p (y ∷ ys) zero x all at = subst (λ (z : X). p z ≡ true) (same_Some y x at) (and_parts (p y) (list_all p ys) all).0
  list_all-at p (y ∷ ys) (suc k) x all at = list_all-at p ys k x (and_parts (p y) (list_all p ys) all).1 at

all-each : {X Y : Type 0} (P : Y → Type 0) (f : X → List Y) (xs : List X) → AllByRecursion P (flat_map f xs) → AllByRecursion (λ x. AllByRecursion P (f x)) xs
all-each P f [] a = tt
all-each P f (x ∷ xs) a = let r = all-split P (f x) (flat_map f xs) a in (r.0, all-each P f xs r.1)

---------------------------------------------------------------- entries

found : (p : Feature → Bool) (o : Option Feature) → option_map_or p o false ≡ true → (g : Feature) × (o ≡ Some g) × (p g ≡ true)
found p None h = absurd (false≢true h)
found p (Some g) h = (g, refl, h)

-- content of its feature's type: the feature exists, and each value is of its type
pub content-feature : (m : Metamodel) (e : Entry) → is_content m e ≡ true
    → (g : Feature) × (lookups.feature m e.feature ≡ Some g) × (list_all (is_value m (shape m e.feature).is_single g.kind) (values_of m e) ≡ true)
content-feature m e h =
    let single = (shape m e.feature).is_single in
    let all = λ (g : Feature). list_all (is_value m single g.kind) (values_of m e) in
    found all (lookups.feature m e.feature) (and_parts (single || is_some (as_array e.content)) (option_map_or all (lookups.feature m e.feature) false) h).1

-- the shape of a feature that exists
pub shape-is : (m : Metamodel) (f : FeatureNo) (g : Feature) → lookups.feature m f ≡ Some g → shape m f ≡ shape_of m f g g.kind
shape-is m f g is = ap (λ (x : Option Feature). option_map_or (λ y. shape_of m f y y.kind) x (contents_shape m)) is

-- each entry is of a feature of the object's class
pub entries-have : (m : Metamodel) (d : Data) (c : ClassNo) → class_of m d ≡ Some c → AllByRecursion (λ e. lookups.has_feature m c e.feature ≡ true) (entries m d)
entries-have m d c is = by (written_object d) is
  where
    named : (w : Written) (o : Option ClassNo) → o ≡ Some c → AllByRecursion (λ e. lookups.has_feature m c e.feature ≡ true) (option_map_or (λ (k : ClassNo × Members). entries_in m k.0 k.1) (option_map (λ x. (x, w.features)) o) [])
    named w None h = tt
    named w (Some x) h =
        let fs = unwrap_or (lookups.features m x) [] in
        all-filter_map (λ f. lookups.has_feature m c f ≡ true) (λ e. lookups.has_feature m c e.feature ≡ true) (entry_at m w.features) fs
        (λ f e has at. ap (lookups.has_feature m c) (entry-feature f (content_at m w.features f) e at) ∙ has)
        (subst (λ (y : ClassNo). AllByRecursion (λ f. lookups.has_feature m y f ≡ true) fs) (same_Some x c h) (class-features m x))

    by : (o : Option Written) → (o >>= (λ w. lookups.class_by_name m w.class)) ≡ Some c
        → AllByRecursion (λ e. lookups.has_feature m c e.feature ≡ true) (option_map_or (λ (k : ClassNo × Members). entries_in m k.0 k.1) (o >>= (λ w. option_map (λ x. (x, w.features)) (lookups.class_by_name m w.class))) [])
    by None h = tt
    by (Some w) h = named w (lookups.class_by_name m w.class) h

---------------------------------------------------------------- what a part is in

-- a part that is in another one, under a containment
record IsInner (m : Metamodel) (all : List Part) (q : Part) : Type 0 where
  index : ℕ
  whole : Part
  here : slice_get all index ≡ Some whole
  index_of : ℕ
  entry : Entry
  there : slice_get (entries m whole.json) index_of ≡ Some entry
  contains : is_containment m entry.feature ≡ true
  position : ℕ
  holds : slice_get (values_of m entry) position ≡ Some q.json
  path : q.path ≡ with_step whole.path (step_to m entry.feature position)

abbrev IsRoot : Part → Type 0
IsRoot p = (i : ℕ) × (p.path ≡ new_path i [])

abbrev IsRootOrInner : Metamodel → List Part → Part → Type 0
IsRootOrInner m all q = IsRoot q ⊎ IsInner m all q

abbrev part_at : Metamodel → Path → FeatureNo → ℕ × Data → Part
part_at m r f v = record { path = with_step r (step_to m f v.0); json = v.1 }

module _ (m : Metamodel) (all : List Part) where
  inner-at : (p : Part) (k i : ℕ) (e : Entry) → slice_get all k ≡ Some p → slice_get (entries m p.json) i ≡ Some e → AllByRecursion (IsInner m all) (parts_in m p.path e)
  inner-at p k i e here there =
      elim (is_containment m e.feature) as (λ b. is_containment m e.feature ≡ b → AllByRecursion (IsInner m all) (if b then map (part_at m p.path e.feature) (enumerate_from 0 (values_of m e)) else [])) [
        | true ↦ λ contains.
            all-map (IsInner m all) (part_at m p.path e.feature) (enumerate_from 0 (values_of m e))
            (all-more (λ (v : ℕ × Data). slice_get (values_of m e) v.0 ≡ Some v.1) (λ (v : ℕ × Data). IsInner m all (part_at m p.path e.feature v)) (enumerate_from 0 (values_of m e))
            (λ v at. record { index = k; whole = p; here = here; index_of = i; entry = e; there = there; contains = contains; position = v.0; holds = at; path = refl }) (numbered-all (values_of m e)))
        | false ↦ λ contains. tt
      ] refl

  inner-parts : (p : Part) → IsIn all p → AllByRecursion (IsInner m all) (flat_map (parts_in m p.path) (entries m p.json))
  inner-parts p here =
      all-flat_map (IsIn (entries m p.json)) (IsInner m all) (parts_in m p.path) (entries m p.json) (λ e there. inner-at p here.0 there.0 e here.1 there.1) (all-in (entries m p.json))

  stand-from : (n : ℕ) (p : Part) → IsRootOrInner m all p → AllByRecursion (IsIn all) (parts_from m n p) → AllByRecursion (IsRootOrInner m all) (parts_from m n p)
  stand-from zero p here there = tt
  stand-from (suc n) p here there =
      let cs = flat_map (parts_in m p.path) (entries m p.json) in (
        here,
        all-flat_map (λ c. IsInner m all c × AllByRecursion (IsIn all) (parts_from m n c)) (IsRootOrInner m all) (parts_from m n) cs (λ c both. stand-from n c (inr both.0) both.1)
            (all-both (IsInner m all) (λ c. AllByRecursion (IsIn all) (parts_from m n c)) cs (inner-parts p there.0) (all-each (IsIn all) (parts_from m n) cs there.1)),
      )

-- each part is a root, or is in another one
all-stand : (m : Metamodel) → NamesAreApart m → (d : Data) → AllByRecursion (IsRootOrInner m (parts m d)) (parts m d)
unfolding parts
all-stand m names d =
    let all = parts m d in
    all-flat_map (λ p. IsRoot p × AllByRecursion (IsIn all) (parts_from m (depth d) p)) (IsRootOrInner m all) (parts_from m (depth d)) (root_parts d) (λ p both. stand-from m all (depth d) p (inl both.0) both.1)
    (all-both IsRoot (λ p. AllByRecursion (IsIn all) (parts_from m (depth d) p)) (root_parts d) (roots-are m names d) (all-each (IsIn all) (parts_from m (depth d)) (root_parts d) (all-in all)))

---------------------------------------------------------------- objects and their classes

contains-kind : (m : Metamodel) (f : FeatureNo) (g : Feature) (k : Kind) → lookups.is_container m f ≡ false → is_feature f (shape_of m f g k).containing ≡ true → lookups.is_containment_kind k ≡ true
contains-kind m f g (Attribute t unique unsettable default) plain h = absurd (false≢true h)
contains-kind m f g (Reference target true opposite) plain h = refl
contains-kind m f g (Reference target false opposite) plain h = absurd (false≢true (sym (ap (λ (b : Bool). is_feature f (cond b opposite None)) plain) ∙ h))

value-object : (m : Metamodel) (single : Bool) (k : Kind) (d : Data) → lookups.is_containment_kind k ≡ true → is_value m single k d ≡ true → is_some (as_object d) ≡ true
value-object m single (Attribute t unique unsettable default) d contains h = absurd (false≢true contains)
value-object m single (Reference target true opposite) d contains h = (and_parts (is_some (as_object d)) (option_map_or (λ c. lookups.conforms m c target) (class_of m d) true) h).0
value-object m single (Reference target false opposite) d contains h = absurd (false≢true contains)

shaped : (w s : Bool) → not w && s ≡ false → s ≡ true → w ≡ true
shaped true s none h = refl
shaped false s none h = absurd (false≢true (sym none ∙ h))

class-there : (m : Metamodel) (o : Option Written) → is_some o ≡ true → option_map_or (has_no_class m) o false ≡ false
    → (c : ClassNo) × ((o >>= (λ w. lookups.class_by_name m w.class)) ≡ Some c) × (lookups.is_concrete m c ≡ true)
class-there m None some none = absurd (false≢true some)
class-there m (Some w) some none = by (lookups.class_by_name m w.class) none
  where
    by : (o : Option ClassNo) → not (option_map_or (lookups.is_concrete m) o false) ≡ false → (c : ClassNo) × (o ≡ Some c) × (lookups.is_concrete m c ≡ true)
    by None h = absurd (true≢false h)
    by (Some c) h = (c, refl, not-false (lookups.is_concrete m c) h)

-- an object that may be under a containment conforms to its target, if its class exists
may-conform : (m : Metamodel) (target c : ClassNo) (d : Data) → class_of m d ≡ Some c → may_stand m target d ≡ true → conforms_to m target d ≡ true
may-conform m target c d is h =
    let held = and_parts (is_some (as_object d)) (option_map_or (λ c. lookups.conforms m c target) (class_of m d) true) h in
    ap (λ (x : Option ClassNo). option_map_or (λ c. lookups.conforms m c target) x false) is ∙ sym (ap (λ (x : Option ClassNo). option_map_or (λ c. lookups.conforms m c target) x true) is) ∙ held.1

module _ (m : Metamodel) (names : NamesAreApart m) (d : Data) (good : IsShapely m d) where
  pub entry-content : (k i : ℕ) (p : Part) (e : Entry) → slice_get (parts m d) k ≡ Some p → slice_get (entries m p.json) i ≡ Some e → is_content m e ≡ true
  entry-content k i p e here there =
      let each = all-at (λ q. list_any (λ e. not (is_content m e)) (entries m q.json) ≡ false) (parts m d) k p (all-none (λ q. list_any (λ e. not (is_content m e)) (entries m q.json)) (parts m d) good.content) here in
      not-false (is_content m e) (all-at (λ e. not (is_content m e) ≡ false) (entries m p.json) i e (all-none (λ e. not (is_content m e)) (entries m p.json) each) there)

  inner-value : (q : Part) (i : IsInner m (parts m d) q) → (g : Feature) × (lookups.feature m i.entry.feature ≡ Some g) × (is_value m (shape m i.entry.feature).is_single g.kind q.json ≡ true)
  inner-value q i =
      let c = content-feature m i.entry (entry-content i.index i.index_of i.whole i.entry i.here i.there) in
      (c.0, c.1, list_all-at (is_value m (shape m i.entry.feature).is_single c.0.kind) (values_of m i.entry) i.position q.json c.2 i.holds)

  inner-object : (q : Part) → IsInner m (parts m d) q → is_some (as_object q.json) ≡ true
  inner-object q i =
      let f = i.entry.feature in
      let v = inner-value q i in
      let plain = all-at (λ e. lookups.is_container m e.feature ≡ false) (entries m i.whole.json) i.index_of i.entry (plain-entries m i.whole.json) i.there in
      let contains = contains-kind m f v.0 v.0.kind plain (sym (ap (λ (x : Shape). is_feature f x.containing) (shape-is m f v.0 v.1)) ∙ i.contains) in
      value-object m (shape m f).is_single v.0.kind q.json contains v.2

  part-written_object : (k : ℕ) (q : Part) → slice_get (parts m d) k ≡ Some q → is_some (written_object q.json) ≡ true
  part-written_object k q here =
      let level = length q.path.steps in
      let fine = all-at (λ p. is_misshapen p ≡ false) (parts m d) k q (all-none is_misshapen (parts m d) good.layout) here in
      shaped (is_some (written_object q.json)) ((suc level == 1) || is_some (as_object q.json)) fine
      (elim (all-at (IsRootOrInner m (parts m d)) (parts m d) k q (all-stand m names d) here) [
        | inl root ↦ ap (λ (p : Path). (suc (length p.steps) == 1) || is_some (as_object q.json)) root.1
        | inr inner ↦ or_right (suc level == 1) (is_some (as_object q.json)) (inner-object q inner)
      ])

  -- each part is an object of a concrete class
  pub part-class : (k : ℕ) (q : Part) → slice_get (parts m d) k ≡ Some q → (c : ClassNo) × (class_of m q.json ≡ Some c) × (lookups.is_concrete m c ≡ true)
  part-class k q here =
      class-there m (written_object q.json) (part-written_object k q here)
      (all-at (λ p. option_map_or (has_no_class m) (written_object p.json) false ≡ false) (parts m d) k q (all-none (λ p. option_map_or (has_no_class m) (written_object p.json) false) (parts m d) good.classes) here)

  -- the part that is found by a step to a containment reference conforms to the reference's target
  pub contained-conforms : (k i n position : ℕ) (p : Part) (e : Entry) (g : Feature) (target : ClassNo) (opposite : Option FeatureNo) → slice_get (parts m d) k ≡ Some p → slice_get (entries m p.json) i ≡ Some e
      → lookups.feature m e.feature ≡ Some g → g.kind ≡ Reference target true opposite → number_of (parts m d) (with_step p.path (step_to m e.feature position)) ≡ Some n
      → (q : Part) × (slice_get (parts m d) n ≡ Some q) × (conforms_to m target q.json ≡ true)
  contained-conforms k i n position p e g target opposite here there known kind number =
      let step = step_to m e.feature position in
      let q = number-at (parts m d) (with_step p.path step) n number in
      let class = part-class n q.0 q.1 in
      elim (all-at (IsRootOrInner m (parts m d)) (parts m d) n q.0 (all-stand m names d) q.1) [
        | inl root ↦ absurd (not-root root.0 p.path step (sym root.1 ∙ q.2))
        | inr inner ↦
            let same = step-same p.path inner.whole.path step (step_to m inner.entry.feature inner.position) (sym q.2 ∙ inner.path) in
            let index = apart-one HaveOtherPaths (parts m d) k inner.index p inner.whole (all-apart m names d) here inner.here (λ other. other same.0) (λ other. other (sym same.0)) in
            let part : p ≡ inner.whole = same_Some p inner.whole (sym here ∙ ap (slice_get (parts m d)) index ∙ inner.here) in
            let entry = same-entry m names p.json i inner.index_of e inner.entry there (subst (λ (x : Part). slice_get (entries m x.json) inner.index_of ≡ Some inner.entry) (sym part) inner.there) (ap (λ (s : Step). s.name) same.1) in
            let v = inner-value q.0 inner in
            let feature : v.0 ≡ g = same_Some v.0 g (sym v.1 ∙ ap (λ (x : Entry). lookups.feature m x.feature) (sym entry) ∙ known) in
            let may = subst (λ (x : Kind). is_value m (shape m inner.entry.feature).is_single x q.0.json ≡ true) (ap (λ (x : Feature). x.kind) feature ∙ kind) v.2 in
            (q.0, q.1, may-conform m target class.0 q.0.json class.1 may)
      ]
