-- The edits of a document that is read make exactly the links of the document.
use Rattle.std.proofs.Common.{◌≡◌, ◌∙◌, ◌+◌, ◌≤◌, ℕ, Bool, true, if◌then◌else◌, List, Option, Some, None, length, map, refl, sym, ap, subst, arith}
use Rattle.std.specs.Prelude.{position, slice_get, unwrap_or}
use Rattle.std.specs.List.{enumerate_from}
use Rattle.std.proofs.lemmas.Bool.{eq-eqb, true≢false}
use Rattle.std.proofs.lemmas.Option.{none-some}
use Rattle.mm_types.specs.OfDocument.{IsOfDocument}
use Rattle.mm_types.specs.Resolved.{Metamodel}
use Rattle.mm_types.specs.Same.{is_feature, node_value, same_value}
use Rattle.mm_types.specs.Shapes.{shape}
use Rattle.mm_types.specs.declared.limits.TheConstants.{OBJECTS}
use Rattle.mm_types.specs.declared.end.End.{End}
use Rattle.mm_types.specs.declared.numbers.FeatureNo.{FeatureNo}
use Rattle.mm_types.specs.declared.numbers.ObjectNo.{ObjectNo}
use Rattle.mm_types.specs.declared.numbers.ResourceNo.{ResourceNo}
use Rattle.mm_types.specs.declared.value.Value.{Value}
use Rattle.mm_types.specs.declared.value.Value.TheVariants as value
use Rattle.links.proofs.CutLemmas.{indexed_near}
use Rattle.links.proofs.PutLemmas.{indexed_value-joined_far, indexed_value-joined_near}
use Rattle.links.proofs.ScanLemmas.{same_links}
use Rattle.links.specs.Holders.{HasNoCycle}
use Rattle.links.specs.LegalSets.{AreOfKind, IsLegalSet}
use Rattle.links.specs.Links.{In, Links, end, far_end}
use Rattle.links.specs.Indexed.{far_value, indexed_value}
use Rattle.links.specs.declared.link.Far.TheVariants.{Proxy}
use Rattle.links.specs.declared.link.Link.{Link}
use Rattle.models.specs.Legal.{kinds_of}
use Rattle.resource_docs.specs.Causes.{IsRead}
use Rattle.resource_docs.specs.Read.{values_in, values_under}
use Rattle.resource_docs.specs.declared.doc.Doc.{Doc}
use Rattle.resource_docs.specs.declared.doc.DocObject.{DocObject}
use Rattle.doc_loader.specs.Laws.{IsRoomFor, MakesLinks}
use Rattle.doc_loader.specs.Loading.{content_links, far_index, link_of, link_to, loaded_links, loaded_number, object_end, of_contents, of_object, root_link, with_links}
use Rattle.doc_loader.proofs.DocSoundLemmas.{read-sound}
use Rattle.doc_loader.proofs.EndLemmas.{end-elsewhere, end-held, end-near, end-roots, end-values, one-source, loaded-fits, loaded-set_is, loaded-no_cycle, loaded_set}
use Rattle.doc_loader.proofs.GainLemmas.{got_left}
use Rattle.doc_loader.proofs.MadeLemmas.{inserted-new, inserted-old, made-in, t-legal}
use Rattle.doc_loader.proofs.NearLemmas.{IsPlaceOf, at_far, at_near, at_roots, elsewhere, place_of}
use Rattle.doc_loader.proofs.SideLemmas.{IsFarSide, opposite-reference}
use Rattle.doc_loader.proofs.SoundLemmas.{at-map, first-of, there-object, IsSort, IsSound, at-filter_map, at-flat_map, at-numbered, got_right, has-content, map-at}
use Rattle.doc_loader.proofs.PairLemmas.{all-at}
use Rattle.doc_loader.proofs.SourceLemmas.{ascending-distinct, at-loaded, loaded_values, source-at, sources-ascending, sources_from}
use Rattle.models.specs.Reading.{contents_end}

module _ (m : Metamodel) (n : ℕ) (k : ResourceNo) (doc : Doc) (sound : IsSound m doc) (s : Links) (legal : IsLegalSet s) (kinds : AreOfKind (kinds_of m) s) (free : HasNoCycle s) (room : IsRoomFor m n k s) (fit : n + length doc.objects ≤ OBJECTS) where
  abbrev t : Links
  t = loaded_set m n k doc sound s legal kinds free room fit

  abbrev w : Links
  w = with_links s (loaded_links m n k doc)

  in-old : (l : Link) → In l s → In l w
  unfolding with_links
  in-old l h = inserted-old (loaded_links m n k doc) s l h

  in-new : (j : ℕ) (l : Link) → slice_get (loaded_links m n k doc) j ≡ Some l → In l w
  unfolding with_links
  in-new j l h = inserted-new (loaded_links m n k doc) s j l h

  -- a link of the set is the one of the document that is at its index
  same-in : (l x : Link) → In l t → In x w → (v : Value) → indexed_value x l.end ≡ Some (l.index, v) → In l w
  same-in l x h g v at =
      let one = (t-legal m n k doc sound s legal kinds free room fit).placed.once l x l.end l.index (far_value l.far) v h (made-in m n k doc sound s legal kinds free room fit x g) (indexed_near l) at in
      subst (λ (y : Link). In y w) (sym one) g

  ---------------------------------------------------------------- links of the document

  root-link-in : (i : ℕ) (o : ObjectNo) → slice_get doc.roots i ≡ Some o → (x : Link) × In x w × (indexed_value x (contents_end m k) ≡ Some (i, value.Object (loaded_number n o)))
  root-link-in i o at =
      let r = at-numbered doc.roots 0 i o at in
      let number = r.1 in
      let same : r.0 ≡ i = omega (arith, number) in
      let x = root_link m n k (r.0, o) in (
        x,
        in-new i x (got_left (map (root_link m n k) (enumerate_from 0 doc.roots)) (of_contents (content_links m n doc) doc) i x (at-map (root_link m n k) (enumerate_from 0 doc.roots) i (r.0, o) r.2)),
        indexed_near x ∙ ap (λ (j : ℕ). Some (j, value.Object (loaded_number n o))) same,
      )

  -- the link of a value is in the set
  pub record IsLinked (a : ObjectNo) (f : FeatureNo) (i : ℕ) (v : Value) : Type 0 where
    pub object : ObjectNo
    pub object_is : object ≡ a
    pub feature : FeatureNo
    pub feature_is : feature ≡ f
    pub index : ℕ
    pub index_is : index ≡ i
    pub sort : IsSort (shape m feature) v
    pub plain : (h : FeatureNo) → (shape m feature).containing ≡ Some h → h ≡ feature
    pub there : (x : Link) → link_of m n doc object feature (index, v) ≡ Some x → In x w

  linked : (a : ObjectNo) (f : FeatureNo) (i : ℕ) (v : Value) → slice_get (values_in doc a f) i ≡ Some v → IsLinked a f i v
  linked a f i v at =
      let c = has-content m doc sound a f i v at in
      let here = ap (λ (vs : List Value). slice_get vs i) (sym c.values) ∙ at in
      let y = at-numbered doc.objects 0 a.0 c.there.object c.there.at in
      let z = at-numbered c.content.values 0 i v here in
      let yn = y.1 in
      let zn = z.1 in
      let same : y.0 ≡ a.0 = omega (arith, yn) in
      record {
        object = record { 0 = y.0 };
        object_is = (λ j. record { 0 = same j });
        feature = c.content.feature;
        feature_is = c.of;
        index = z.0;
        index_is = omega (arith, zn);
        sort = all-at (IsSort (shape m c.content.feature)) c.content.values i v c.is_sound.sorts here;
        plain = c.is_sound.plain;
        there = (λ x is. (
            let in_content = at-filter_map (link_of m n doc (record { 0 = y.0 }) c.content.feature) (enumerate_from 0 c.content.values) i (z.0, v) x z.2 is in
            let in_object = at-flat_map (content_links m n doc (record { 0 = y.0 })) c.there.object.contents c.there.index in_content.0 c.content x c.there.in_object in_content.1 in
            let in_doc = at-flat_map (of_object (content_links m n doc)) (enumerate_from 0 doc.objects) a.0 in_object.0 (y.0, c.there.object) x y.2 in_object.1 in
            let in_all = got_right (map (root_link m n k) (enumerate_from 0 doc.roots)) (of_contents (content_links m n doc) doc) in_doc.0 x in_doc.1 in
            in-new in_all.0 x in_all.1));
      }

  -- the link is at the end of the value
  link-near : (o : ObjectNo) (f : FeatureNo) (i : ℕ) (v : Value) → (shape m f).is_reference ≡ true → IsSort (shape m f) v → (x : Link) × (link_of m n doc o f (i, v) ≡ Some x) × ((u : Value) × (indexed_value x (object_end n o f) ≡ Some (i, u)))
  link-near o f i (value.Object b) reference sort = by (shape m f).opposite refl
    where
      by : (h : Option FeatureNo) → (shape m f).opposite ≡ h → (x : Link) × (Some (link_to m n doc o f i b (shape m f).opposite) ≡ Some x) × ((u : Value) × (indexed_value x (object_end n o f) ≡ Some (i, u)))
      by None none = let x = link_to m n doc o f i b None in (x, ap (λ (h : Option FeatureNo). Some (link_to m n doc o f i b h)) none, (value.Object (loaded_number n b), indexed_near x))
      by (Some g) pair =
          let d = object_end n o f in
          let e = far_end (loaded_number n b) g in
          let j = far_index (shape m f) doc o f b g in (
            link_to m n doc o f i b (Some g),
            ap (λ (h : Option FeatureNo). Some (link_to m n doc o f i b h)) pair,
            (node_value e.node, indexed_value-joined_near d i e j (shape m f).containing (λ q. sound.kinds.two f g pair (ap (λ (x : End). x.feature.0) (sym q)))),
          )
  link-near o f i (value.Proxy p) reference sort = let x : Link = record { end = object_end n o f; index = i; far = Proxy p; container = None } in (x, refl, (value.Proxy p, indexed_near x))
  link-near o f i value.Null reference sort = absurd (true≢false (sym reference ∙ sort))
  link-near o f i (value.Bool x) reference sort = absurd (true≢false (sym reference ∙ sort))
  link-near o f i (value.Int x) reference sort = absurd (true≢false (sym reference ∙ sort))
  link-near o f i (value.Text x) reference sort = absurd (true≢false (sym reference ∙ sort))
  link-near o f i (value.Literal x) reference sort = absurd (true≢false (sym reference ∙ sort))

  value-link-in : (a : ObjectNo) (f : FeatureNo) (i : ℕ) (v : Value) → (shape m f).is_reference ≡ true → slice_get (values_in doc a f) i ≡ Some v → (x : Link) × In x w × ((u : Value) × (indexed_value x (object_end n a f) ≡ Some (i, u)))
  value-link-in a f i v reference at =
      let r = linked a f i v at in
      let x = link-near r.object r.feature r.index v (ap (λ (g : FeatureNo). (shape m g).is_reference) r.feature_is ∙ reference) r.sort in
      (x.0, r.there x.0 x.1, (x.2.0, (λ j. indexed_value x.0 (object_end n (sym r.object_is j) (sym r.feature_is j))) ∙ x.2.1 ∙ ap (λ (l : ℕ). Some (l, x.2.0)) r.index_is))

  -- if the feature is a containment, the link is first at the container reference
  link-held : (o : ObjectNo) (f g h : FeatureNo) (i : ℕ) (b : ObjectNo) → (shape m f).opposite ≡ Some g → (shape m f).containing ≡ Some h → h ≡ f
      → (x : Link) × (link_of m n doc o f (i, value.Object b) ≡ Some x) × (indexed_value x (object_end n b g) ≡ Some (0, value.Object (loaded_number n o)))
  link-held o f g h i b pair contains own =
      let d = object_end n o f in
      let e = far_end (loaded_number n b) g in
      let j = far_index (shape m f) doc o f b g in
      let is : is_feature f (shape m f).containing ≡ true = ap (is_feature f) contains ∙ eq-eqb f.0 h.0 (ap (λ (x : FeatureNo). x.0) (sym own)) in (
        link_to m n doc o f i b (Some g),
        ap (λ (z : Option FeatureNo). Some (link_to m n doc o f i b z)) pair,
        indexed_value-joined_far d i e j (shape m f).containing (λ q. sound.kinds.two f g pair (ap (λ (x : End). x.feature.0) (sym q)))
            ∙ ap (λ (c : Bool). Some (if c then 0 else unwrap_or (position (same_value (value.Object o)) (values_in doc b g)) 0, value.Object (loaded_number n o))) is,
      )

  held-link-in : (a : ObjectNo) (f g h : FeatureNo) (i : ℕ) (b : ObjectNo) → (shape m f).opposite ≡ Some g → (shape m f).containing ≡ Some h → slice_get (values_in doc a f) i ≡ Some (value.Object b)
      → (x : Link) × In x w × (indexed_value x (object_end n b g) ≡ Some (0, value.Object (loaded_number n a)))
  held-link-in a f g h i b pair contains at =
      let r = linked a f i (value.Object b) at in
      let has = ap (λ (y : FeatureNo). (shape m y).containing) r.feature_is ∙ contains in
      let x = link-held r.object r.feature g h r.index b (ap (λ (y : FeatureNo). (shape m y).opposite) r.feature_is ∙ pair) has (r.plain h has) in
      (x.0, r.there x.0 x.1, x.2 ∙ ap (λ (o : ObjectNo). Some (0, value.Object (loaded_number n o))) r.object_is)

  ---------------------------------------------------------------- all links of the set

  module _ (l : Link) (h : In l t) where
    stands : slice_get (end t l.end) l.index ≡ Some (far_value l.far)
    stands = ((t-legal m n k doc sound s legal kinds free room fit).placed.ends l.end).has l.index (far_value l.far) (l, h, indexed_near l)

    stands-at : (d : End) → d ≡ l.end → slice_get (end t d) l.index ≡ Some (far_value l.far)
    stands-at d q = ap (λ (x : End). slice_get (end t x) l.index) q ∙ stands

    stands-first : (x : Link) (d : End) (v : Value) → d ≡ l.end → indexed_value x d ≡ Some (0, v) → 0 ≡ l.index → indexed_value x l.end ≡ Some (l.index, v)
    stands-first x d v q at zero_is = ap (indexed_value x) (sym q) ∙ at ∙ ap (λ (i : ℕ). Some (i, v)) zero_is

    from-values : (a : ObjectNo) (f : FeatureNo) → object_end n a f ≡ l.end → (shape m f).is_reference ≡ true → end t (object_end n a f) ≡ loaded_values n (values_in doc a f) → In l w
    from-values a f q reference is =
        let v = at-loaded n (values_in doc a f) l.index (far_value l.far) (sym (ap (λ (vs : List Value). slice_get vs l.index) is) ∙ stands-at (object_end n a f) q) in
        let x = value-link-in a f l.index v.0 reference v.1 in
        same-in l x.0 h x.1 x.2.0 (ap (indexed_value x.0) (sym q) ∙ x.2.1)

    from-held : (b : ObjectNo) (g f c : FeatureNo) → object_end n b g ≡ l.end → IsFarSide m g f → (shape m g).containing ≡ Some c → In l w
    from-held b g f c q side contains =
        let from = sources_from n (λ (x : DocObject). values_under x f) b 0 doc.objects in
        let at : slice_get (sources_from n (λ (x : DocObject). values_under x f) b 0 doc.objects) l.index ≡ Some (far_value l.far) =
        sym (ap (λ (vs : List Value). slice_get vs l.index) (end-held m n k doc sound s legal kinds free room fit b g f c side contains)) ∙ stands-at (object_end n b g) q in
        let z = first-of from l.index (far_value l.far) at in
        let r = source-at n (λ (x : DocObject). values_under x f) b doc.objects l.index (far_value l.far) at in
        let holds = sym (sound.kinds.one_container g f side.pair) ∙ contains in
        let only = one-source m n k doc sound s legal kinds free room fit b f c holds 0 l.index z.0 (far_value l.far) z.1 at in
        let first = subst (λ (v : Value). slice_get (sources_from n (λ (x : DocObject). values_under x f) b 0 doc.objects) 0 ≡ Some v) only z.1 in
        let zero_is = ascending-distinct (n + 0) from (sources-ascending n (λ (x : DocObject). values_under x f) b 0 doc.objects) 0 l.index (far_value l.far) first at in
        let x = held-link-in r.0 f g c r.4.0 b side.back holds (there-object doc r.0 f r.1 r.4.0 (value.Object b) r.2 r.4.1) in
        same-in l x.0 h x.1 (value.Object (loaded_number n r.0)) (stands-first x.0 (object_end n b g) (value.Object (loaded_number n r.0)) q x.2 zero_is)

    from-index_of : IsPlaceOf m n k doc sound s legal kinds free room fit l.end → In l w
    from-index_of (at_roots q) =
        let at = sym (ap (λ (vs : List Value). slice_get vs l.index) (end-roots m n k doc sound s legal kinds free room fit)) ∙ stands-at (contents_end m k) q in
        let o = map-at (λ o. value.Object (loaded_number n o)) doc.roots l.index (far_value l.far) at in
        let x = root-link-in l.index o.0 o.1 in
        same-in l x.0 h x.1 (value.Object (loaded_number n o.0)) (ap (indexed_value x.0) (sym q) ∙ x.2)
    from-index_of (at_near a f q side) = from-values a f q side.reference (end-near m n k doc sound s legal kinds free room fit a f side)
    from-index_of (at_far b g f q side) = by (shape m g).containing refl
      where
        by : (c : Option FeatureNo) → (shape m g).containing ≡ c → In l w
        by None none = from-values b g q (opposite-reference m g f side.pair) (end-values m n k doc sound s legal kinds free room fit b g (opposite-reference m g f side.pair) (λ c has. absurd (none-some c (sym none ∙ has))))
        by (Some c) has = from-held b g f c q side has
    from-index_of (elsewhere outside other) =
        let at = sym (ap (λ (vs : List Value). slice_get vs l.index) (end-elsewhere m n k doc sound s legal kinds free room fit l.end outside other)) ∙ stands in
        let x = (legal.placed.ends l.end).only l.index (far_value l.far) at in
        same-in l x.0 h (in-old x.0 x.1) (far_value l.far) x.2

  pub links-made : MakesLinks m n k doc s
  links-made = record {
    fits = loaded-fits m n k doc sound s legal kinds free room fit;
    no_cycle = loaded-no_cycle m n k doc sound s legal kinds free room fit;
    makes = loaded-set_is m n k doc sound s legal kinds free room fit
        ∙ same_links t w (λ l h. from-index_of l h (place_of m n k doc sound s legal kinds free room fit l.end)) (made-in m n k doc sound s legal kinds free room fit);
  }

pub read-makes : (m : Metamodel) (uri : List ℕ) (doc : Doc) (n : ℕ) (k : ResourceNo) (s : Links) → IsOfDocument m → IsRead m uri doc → n + length doc.objects ≤ OBJECTS
    → IsLegalSet s → AreOfKind (kinds_of m) s → HasNoCycle s → IsRoomFor m n k s → MakesLinks m n k doc s
read-makes m uri doc n k s accepted read fit legal kinds free room = links-made m n k doc (read-sound m uri doc n accepted read fit) s legal kinds free room fit
