-- Each link of a document is in the set that its edits make.
use Rattle.std.proofs.Common.{◌≡◌, ◌∙◌, ◌+◌, ◌≤◌, ℕ, zero, suc, Bool, true, false, cond, ltb, if◌then◌else◌, List, [], ◌∷◌, Option, Some, None, length, map, refl, sym, ap, subst, inl, inr, arith}
use Rattle.std.specs.Prelude.{◌⊎◌, fold, option_map, position, slice_get, unwrap_or}
use Rattle.std.specs.FinSet as set
use Rattle.std.specs.List.{AllByRecursion, enumerate_from}
use Rattle.std.proofs.lemmas.Bool.{eq-eqb, ltb-false, ltb-true}
use Rattle.std.proofs.lemmas.Option.{none-some, same_Some}
use Rattle.mm_types.specs.Resolved.{Metamodel}
use Rattle.mm_types.specs.Same.{is_feature, node_value, same_value}
use Rattle.mm_types.specs.SameValues.{same_value-self, same_value-true}
use Rattle.mm_types.specs.Shapes.{Shape, shape}
use Rattle.mm_types.specs.declared.limits.TheConstants.{OBJECTS}
use Rattle.mm_types.specs.declared.end.End.{End}
use Rattle.mm_types.specs.declared.numbers.FeatureNo.{FeatureNo}
use Rattle.mm_types.specs.declared.numbers.ObjectNo.{ObjectNo}
use Rattle.mm_types.specs.declared.numbers.ResourceNo.{ResourceNo}
use Rattle.mm_types.specs.declared.value.Value.{Value}
use Rattle.mm_types.specs.declared.value.Value.TheVariants as value
use Rattle.links.proofs.CutLemmas.{indexed_at, indexed_near}
use Rattle.links.proofs.EditLemmas.{In-insert, In_insert_new, In_insert_old}
use Rattle.links.specs.Holders.{HasNoCycle}
use Rattle.links.specs.LegalSets.{AreKinds, AreOfKind, HasTwoSides, IsLegalSet, IsObject, Kinds}
use Rattle.links.specs.Links.{In, Links, end, far_end, joined_link}
use Rattle.links.specs.Indexed.{far_value, indexed_value}
use Rattle.links.specs.declared.link.Far.{Far}
use Rattle.links.specs.declared.link.Far.TheVariants.{At, Alone, Proxy}
use Rattle.links.specs.declared.link.Link.{Link}
use Rattle.models.specs.Legal.{kinds_of}
use Rattle.doc_parts.proofs.WayLemmas.{position_cons}
use Rattle.resource_docs.specs.Read.{values_in, values_under}
use Rattle.resource_docs.specs.declared.doc.Content.{Content}
use Rattle.resource_docs.specs.declared.doc.Doc.{Doc}
use Rattle.resource_docs.specs.declared.doc.DocObject.{DocObject}
use Rattle.doc_loader.specs.Laws.{IsRoomFor}
use Rattle.doc_loader.specs.Loading.{content_links, far_index, link_of, link_to, loaded_links, loaded_number, loaded_value, object_end, of_contents, of_object, root_link, with_links}
use Rattle.doc_loader.proofs.AgainLemmas.{answered-in}
use Rattle.doc_loader.proofs.EndLemmas.{end-elsewhere, end-held, end-roots, end-values, one-source, loaded-kinds, loaded-legal, loaded_set}
use Rattle.doc_loader.proofs.PairLemmas.{numbered-all, all-append, all-at, all-filter_map, all-flat_map, all-map, all-more}
use Rattle.doc_loader.proofs.SideLemmas.{IsFarSide, IsNearSide, IsPlainFeature, contents-shape, near-contained, opposite-reference, sides}
use Rattle.doc_loader.proofs.SoundLemmas.{at-map, first-of, object-there, AreSoundContents, IsSort, IsSound, IsSoundContent}
use Rattle.doc_loader.proofs.SourceLemmas.{at-source, loaded-at, sources_from}
use Rattle.links.proofs.ShownLemmas.{IsShown, shown_in}

---------------------------------------------------------------- links inserted

pub inserted-old : (ls : List Link) (s : Links) (l : Link) → In l s → In l (fold (λ t l. set.insert t l) s ls)
inserted-old [] s l h = h
inserted-old (x ∷ xs) s l h = inserted-old xs (set.insert s x) l (In_insert_old s x l h)

pub inserted-new : (ls : List Link) (s : Links) (j : ℕ) (l : Link) → slice_get ls j ≡ Some l → In l (fold (λ t l. set.insert t l) s ls)
inserted-new [] s j l h = absurd (none-some l h)
inserted-new (x ∷ xs) s zero l h = inserted-old xs (set.insert s x) l (subst (λ (y : Link). In y (set.insert s x)) (same_Some x l h) (In_insert_new s x))
inserted-new (x ∷ xs) s (suc j) l h = inserted-new xs (set.insert s x) j l h

inserted-all : (ls : List Link) (s t : Links) → ((l : Link) → In l s → In l t) → AllByRecursion (λ l. In l t) ls → (l : Link) → In l (fold (λ t l. set.insert t l) s ls) → In l t
inserted-all [] s t old new l h = old l h
inserted-all (x ∷ xs) s t old new l h =
    inserted-all xs (set.insert s x) t
    (λ y is. elim (In-insert s x y is) [
      | inl same ↦ subst (λ (z : Link). In z t) (sym same) new.0
      | inr before ↦ old y before
    ]) new.1 l h

---------------------------------------------------------------- links of pairs

at-end : (d e : End) (j i : ℕ) → At d j ≡ At e i → d ≡ e
at-end d e j i h = cc

at-index : (d e : End) (j i : ℕ) → At d j ≡ At e i → j ≡ i
at-index d e j i h = cc

-- a link with two ends is in the set if both ends have it
shown-joined_link : (kinds : Kinds) → AreKinds kinds → (t : Links) (x y : End) (i j : ℕ) → kinds.opposite x.feature ≡ Some y.feature → IsObject x.node → IsObject y.node
    → slice_get (end t x) i ≡ Some (node_value y.node) → slice_get (end t y) j ≡ Some (node_value x.node) → IsShown kinds t (joined_link x i y j (kinds.container x.feature))
shown-joined_link kinds ok t x y i j pair ox oy near far =
    let back = ok.inverse x.feature y.feature pair in
    let apart = ok.two x.feature y.feature pair in
    elim (ltb x.feature.0 y.feature.0) as (λ b. ltb x.feature.0 y.feature.0 ≡ b → IsShown kinds t (if b then record { end = x; index = i; far = At y j; container = kinds.container x.feature } else record { end = y; index = j; far = At x i; container = kinds.container x.feature })) [
      | true ↦ λ low. record {
        kind = record { far = (pair, back, ltb-true x.feature.0 y.feature.0 low); container = refl };
        sides = (λ q. apart q, ox, oy);
        near = near;
        far = λ d k q. (λ l. slice_get (end t (at-end d y k j (sym q) l)) (at-index d y k j (sym q) l)) ∙ far;
      }
      | false ↦ λ high. (
          let le = ltb-false x.feature.0 y.feature.0 high in
          record {
            kind = record { far = (back, pair, omega (arith, le, apart)); container = ok.one_container x.feature y.feature pair };
            sides = (λ q. apart (sym q), oy, ox);
            near = far;
            far = λ d k q. (λ l. slice_get (end t (at-end d x k i (sym q) l)) (at-index d x k i (sym q) l)) ∙ near;
          })
    ] refl

-- the first index at which a test holds
pub first-at : {X : Type 0} (p : X → Bool) (xs : List X) (k : ℕ) (x : X) → slice_get xs k ≡ Some x → p x ≡ true → (i : ℕ) × (y : X) × (position p xs ≡ Some i) × (slice_get xs i ≡ Some y) × (p y ≡ true)
first-at p [] k x at h = absurd (none-some x at)
first-at {X = X} p (z ∷ zs) zero x at h =
    let here : p z ≡ true = subst (λ (w : X). p w ≡ true) (sym (same_Some z x at)) h in
    (0, z, position_cons p z zs ∙ ap (λ (b : Bool). cond b (Some 0) (option_map suc (position p zs))) here, refl, here)
first-at {X = X} p (z ∷ zs) (suc k) x at h =
    let r = first-at p zs k x at h in
    elim (p z) as (λ b. p z ≡ b → (i : ℕ) × (y : X) × (position p (z ∷ zs) ≡ Some i) × (slice_get (z ∷ zs) i ≡ Some y) × (p y ≡ true)) [
      | true ↦ λ q. (0, z, position_cons p z zs ∙ ap (λ (b : Bool). cond b (Some 0) (option_map suc (position p zs))) q, refl, q)
      | false ↦ λ q. (suc r.0, r.1, position_cons p z zs ∙ (λ i. cond (q i) (Some 0) (option_map suc (r.2 i))), r.3, r.4)
    ] refl

---------------------------------------------------------------- the set of the edits

module _ (m : Metamodel) (n : ℕ) (k : ResourceNo) (doc : Doc) (sound : IsSound m doc) (s : Links) (legal : IsLegalSet s) (kinds : AreOfKind (kinds_of m) s) (free : HasNoCycle s) (room : IsRoomFor m n k s) (fit : n + length doc.objects ≤ OBJECTS) where
  abbrev t : Links
  t = loaded_set m n k doc sound s legal kinds free room fit

  pub t-legal : IsLegalSet t
  t-legal = loaded-legal m n k doc sound s legal kinds free room fit

  t-kinds : AreOfKind (kinds_of m) t
  t-kinds = loaded-kinds m n k doc sound s legal kinds free room fit

  shown : (l : Link) → IsShown (kinds_of m) t l → In l t
  shown l is = shown_in (kinds_of m) t t-legal.placed t-kinds l is

  values-end : (o : ObjectNo) (f : FeatureNo) → (shape m f).is_reference ≡ true → IsPlainFeature m f → (i : ℕ) (v : Value) → slice_get (values_in doc o f) i ≡ Some v → slice_get (end t (object_end n o f)) i ≡ Some (loaded_value n v)
  values-end o f reference plain i v at = ap (λ (vs : List Value). slice_get vs i) (end-values m n k doc sound s legal kinds free room fit o f reference plain) ∙ loaded-at n (values_in doc o f) i v at

  ---------------------------------------------------------------- links that were there

  old-end : (d : End) (i : ℕ) (v : Value) → slice_get (end s d) i ≡ Some v → end t d ≡ end s d
  old-end d i v at =
      end-elsewhere m n k doc sound s legal kinds free room fit d
      (λ o f reference q. none-some v (sym (ap (λ (vs : List Value). slice_get vs i) (ap (end s) (sym q) ∙ room.ends o f)) ∙ at))
      (λ q. none-some v (sym (ap (λ (vs : List Value). slice_get vs i) (ap (end s) (sym q) ∙ room.roots)) ∙ at))

  stood : (l : Link) → In l s → (d : End) (i : ℕ) (v : Value) → indexed_value l d ≡ Some (i, v) → slice_get (end t d) i ≡ Some v
  stood l h d i v at = let was = (legal.placed.ends d).has i v (l, h, at) in ap (λ (vs : List Value). slice_get vs i) (old-end d i v was) ∙ was

  pub old-in : (l : Link) → In l s → In l t
  old-in l h = shown l (record {
    kind = kinds l h;
    sides = legal.placed.sides l h;
    near = stood l h l.end l.index (far_value l.far) (indexed_near l);
    far = (λ d j q. (
        let two = subst (λ (x : Far). HasTwoSides l.end x) q (legal.placed.sides l h) in
        stood l h d j (node_value l.end.node) (indexed_at l d j q (λ e. two.0 (ap (λ (x : End). x.feature.0) (sym e))))));
  })

  ---------------------------------------------------------------- links of the document

  root-in : (x : ℕ × ObjectNo) → slice_get doc.roots x.0 ≡ Some x.1 → In (root_link m n k x) t
  root-in x at =
      let q = contents-shape m in
      shown (root_link m n k x) (record {
        kind = record { far = ap (λ (a : Shape). a.opposite) q; container = refl };
        sides = tt;
        near = ap (λ (vs : List Value). slice_get vs x.0) (end-roots m n k doc sound s legal kinds free room fit) ∙ at-map (λ o. value.Object (loaded_number n o)) doc.roots x.0 x.1 at;
        far = λ d j h. absurd (alone-at (loaded_number n x.1) d j h);
      })
    where
      alone-at : (o : ObjectNo) (d : End) (j : ℕ) → Alone o ≡ At d j → ⊥
      alone-at o d j h = cc

  -- the position of the object at the end of the other object
  far-there : (o : ObjectNo) (f : FeatureNo) (b : ObjectNo) (g : FeatureNo) (i : ℕ) → (shape m f).is_reference ≡ true → IsPlainFeature m f → (shape m f).opposite ≡ Some g → slice_get (values_in doc o f) i ≡ Some (value.Object b)
      → slice_get (end t (object_end n b g)) (far_index (shape m f) doc o f b g) ≡ Some (value.Object (loaded_number n o))
  far-there o f b g i reference plain pair at = by (shape m f).containing refl
    where
      back : (shape m g).opposite ≡ Some f
      back = sound.kinds.inverse f g pair

      one : (shape m f).containing ≡ (shape m g).containing
      one = sound.kinds.one_container f g pair

      from-one : (side : IsNearSide m g ⊎ ((h : FeatureNo) × IsFarSide m g h)) (h : FeatureNo) → (shape m f).containing ≡ Some h → slice_get (end t (object_end n b g)) 0 ≡ Some (value.Object (loaded_number n o))
      from-one (inl side) h contains = absurd (side.alone f plain (near-contained m f h reference contains) pair)
      from-one (inr side) h contains =
          let f' = side.0 in
          let same = same_Some f' f (sym side.1.pair ∙ back) in
          let is : end t (object_end n b g) ≡ sources_from n (λ (x : DocObject). values_under x f) b 0 doc.objects =
          end-held m n k doc sound s legal kinds free room fit b g f' h side.1 (sym one ∙ contains) ∙ ap (λ (e : FeatureNo). sources_from n (λ (x : DocObject). values_under x e) b 0 doc.objects) same in
          let x = object-there doc o f i (value.Object b) at in
          let r = at-source n (λ (x : DocObject). values_under x f) b doc.objects o x.0 i x.1 x.2 in
          let z = first-of (sources_from n (λ (x : DocObject). values_under x f) b 0 doc.objects) r.0 (value.Object (loaded_number n o)) r.1 in
          let only = one-source m n k doc sound s legal kinds free room fit b f h contains 0 r.0 z.0 (value.Object (loaded_number n o)) z.1 r.1 in
          ap (λ (vs : List Value). slice_get vs 0) is
          ∙ subst (λ (v : Value). slice_get (sources_from n (λ (x : DocObject). values_under x f) b 0 doc.objects) 0 ≡ Some v) only z.1

      by : (h : Option FeatureNo) → (shape m f).containing ≡ h → slice_get (end t (object_end n b g)) (far_index (shape m f) doc o f b g) ≡ Some (value.Object (loaded_number n o))
      by (Some h) contains =
          let is : is_feature f (shape m f).containing ≡ true = ap (is_feature f) contains ∙ eq-eqb f.0 h.0 (ap (λ (x : FeatureNo). x.0) (sym (plain h contains))) in
          ap (λ (c : Bool). slice_get (end t (object_end n b g)) (if c then 0 else unwrap_or (position (same_value (value.Object o)) (values_in doc b g)) 0)) is
          ∙ from-one (sides m sound.kinds g (opposite-reference m g f back)) h contains
      by None none =
          let there = answered-in m doc sound o f g b i none pair at in
          let p = first-at (same_value (value.Object o)) (values_in doc b g) there.0 (value.Object o) there.1 (same_value-self (value.Object o)) in
          ap (λ (c : Option FeatureNo). slice_get (end t (object_end n b g)) (if is_feature f c then 0 else unwrap_or (position (same_value (value.Object o)) (values_in doc b g)) 0)) none
          ∙ ap (λ (c : Option ℕ). slice_get (end t (object_end n b g)) (unwrap_or c 0)) p.2
          ∙ values-end b g (opposite-reference m g f back) (λ h q. absurd (none-some h (sym none ∙ one ∙ q))) p.0 (value.Object o) (p.3 ∙ ap Some (sym (same_value-true (value.Object o) p.1 p.4)))

  object-in : (o : ObjectNo) (f : FeatureNo) (i : ℕ) (b : ObjectNo) → (shape m f).is_reference ≡ true → IsPlainFeature m f → slice_get (values_in doc o f) i ≡ Some (value.Object b)
      → (h : Option FeatureNo) → (shape m f).opposite ≡ h → In (link_to m n doc o f i b h) t
  object-in o f i b reference plain at None none = shown (link_to m n doc o f i b None) (record {
    kind = record { far = none; container = refl };
    sides = tt;
    near = values-end o f reference plain i (value.Object b) at;
    far = λ d j q. absurd (alone-at (loaded_number n b) d j q);
  })
    where
      alone-at : (o : ObjectNo) (d : End) (j : ℕ) → Alone o ≡ At d j → ⊥
      alone-at o d j h = cc
  object-in o f i b reference plain at (Some g) pair =
      shown (link_to m n doc o f i b (Some g))
      (shown-joined_link (kinds_of m) sound.kinds t (object_end n o f) (far_end (loaded_number n b) g) i (far_index (shape m f) doc o f b g) pair tt tt
      (values-end o f reference plain i (value.Object b) at) (far-there o f b g i reference plain pair at))

  proxy-in : (o : ObjectNo) (f : FeatureNo) (i : ℕ) (p : List ℕ) → (shape m f).is_reference ≡ true → IsPlainFeature m f → (shape m f).containing ≡ None → slice_get (values_in doc o f) i ≡ Some (value.Proxy p)
      → In (record { end = object_end n o f; index = i; far = Proxy p; container = None }) t
  proxy-in o f i p reference plain none at = shown (record { end = object_end n o f; index = i; far = Proxy p; container = None }) (record {
    kind = record { far = tt; container = sym none };
    sides = tt;
    near = values-end o f reference plain i (value.Proxy p) at;
    far = λ d j q. absurd (proxy-at p d j q);
  })
    where
      proxy-at : (p : List ℕ) (d : End) (j : ℕ) → Proxy p ≡ At d j → ⊥
      proxy-at p d j h = cc

  link-in : (o : ObjectNo) (c : Content) → IsSoundContent m doc o c → (i : ℕ) (v : Value) (l : Link) → slice_get c.values i ≡ Some v → IsSort (shape m c.feature) v → link_of m n doc o c.feature (i, v) ≡ Some l → In l t
  link-in o c w i (value.Object b) l at sort is =
      subst (λ (x : Link). In x t) (same_Some (link_to m n doc o c.feature i b (shape m c.feature).opposite) l is)
      (object-in o c.feature i b sort w.plain (ap (λ (vs : List Value). slice_get vs i) w.own ∙ at) (shape m c.feature).opposite refl)
  link-in o c w i (value.Proxy p) l at sort is =
      subst (λ (x : Link). In x t) (same_Some (record { end = object_end n o c.feature; index = i; far = Proxy p; container = None }) l is)
      (proxy-in o c.feature i p sort.0 w.plain sort.1 (ap (λ (vs : List Value). slice_get vs i) w.own ∙ at))
  link-in o c w i value.Null l at sort is = absurd (none-some l is)
  link-in o c w i (value.Bool x) l at sort is = absurd (none-some l is)
  link-in o c w i (value.Int x) l at sort is = absurd (none-some l is)
  link-in o c w i (value.Text x) l at sort is = absurd (none-some l is)
  link-in o c w i (value.Literal x) l at sort is = absurd (none-some l is)

  content-in : (o : ObjectNo) (c : Content) → IsSoundContent m doc o c → AllByRecursion (λ l. In l t) (content_links m n doc o c)
  content-in o c w =
      all-filter_map (λ (x : ℕ × Value). slice_get c.values x.0 ≡ Some x.1) (λ l. In l t) (link_of m n doc o c.feature) (enumerate_from 0 c.values)
      (λ x l at is. link-in o c w x.0 x.1 l at (all-at (IsSort (shape m c.feature)) c.values x.0 x.1 w.sorts at) is) (numbered-all c.values)

  all-in : AllByRecursion (λ l. In l t) (loaded_links m n k doc)
  all-in =
      all-append (λ l. In l t) (map (root_link m n k) (enumerate_from 0 doc.roots)) (of_contents (content_links m n doc) doc)
      (all-map (λ l. In l t) (root_link m n k) (enumerate_from 0 doc.roots) (all-more (λ (x : ℕ × ObjectNo). slice_get doc.roots x.0 ≡ Some x.1) (λ x. In (root_link m n k x) t) (enumerate_from 0 doc.roots) root-in (numbered-all doc.roots)))
      (all-flat_map (AreSoundContents m doc) (λ l. In l t) (of_object (content_links m n doc)) (enumerate_from 0 doc.objects)
      (λ y h. all-flat_map (IsSoundContent m doc (record { 0 = y.0 })) (λ l. In l t) (content_links m n doc (record { 0 = y.0 })) y.1.contents (λ c w. content-in (record { 0 = y.0 }) c w) h) sound.contents)

  pub made-in : (l : Link) → In l (with_links s (loaded_links m n k doc)) → In l t
  unfolding with_links
  made-in l h = inserted-all (loaded_links m n k doc) s t old-in all-in l h
