-- The set that the lists stand for is placed, and its ends are the lists.
use Rattle.std.proofs.Common.{◌≡◌, ◌≢◌, ℕ, zero, suc, ◌+◌, true, false, ltb, List, [], ◌∷◌, ◌++◌, Option, Some, None, if◌then◌else◌, refl, sym, ap, ◌∙◌, subst, inl, inr, arith}
use Rattle.std.specs.Prelude.{◌⊎◌}
use Rattle.std.specs.List.{slice_get, list_any}
use Rattle.std.proofs.lemmas.Bool.{false≢true, or_cases, cases_order, lt-ltb, le-ltb}
use Rattle.std.proofs.lemmas.Option.{none-some, same_Some, some_pair_parts}
use Rattle.mm_types.specs.Ends.{index_in}
use Rattle.mm_types.specs.Same.{node_value, same_end, same_value}
use Rattle.mm_types.specs.SameValues.{same_value-self, same_value-true}
use Rattle.mm_types.specs.declared.numbers.FeatureNo.{FeatureNo}
use Rattle.mm_types.specs.declared.numbers.Node.{Node}
use Rattle.mm_types.specs.declared.numbers.Node.TheVariants as node
use Rattle.mm_types.specs.declared.numbers.ObjectNo.{ObjectNo}
use Rattle.mm_types.specs.declared.end.End.{End}
use Rattle.mm_types.specs.declared.value.Value.{Value}
use Rattle.mm_types.specs.declared.value.Value.TheVariants as value
use Rattle.mm_types.proofs.SameLemmas.{same_end-self, same_end-true}
use Rattle.links.specs.declared.link.Far.TheVariants.{At}
use Rattle.links.specs.declared.link.Link.{Link}
use Rattle.links.specs.LegalSets.{HasTwoSides, IsEnd, IsObject, IsPlaced}
use Rattle.links.specs.Links.{In, end, far_end, joined_link}
use Rattle.links.specs.Indexed.{indexed_value}
use Rattle.links.proofs.EditLemmas.{IsOnce}
use Rattle.links.proofs.EndLemmas.{Among, Among_cases, Among_head, Among_tail, end_is, from_list_HasLinks}
use Rattle.links.proofs.PlaceLemmas.{ne-same_end}
use Rattle.links.proofs.PutLemmas.{cases_end, indexed_value-joined_far, indexed_value-joined_near, indexed_value-joined_other, placed_from}
use Rattle.node_slots.specs.Cells.{Cells}
use Rattle.slot_store.specs.CellLinks.{AreLists, all_links, cell_links, link_from, link_to, links_from}

-- the value is at the index that is found
pub slice_get-index_in : (xs : List Value) (v : Value) (j : ℕ) → slice_get xs j ≡ Some v → slice_get xs (index_in xs v) ≡ Some v
slice_get-index_in [] v j h = absurd (none-some v h)
slice_get-index_in (x ∷ xs) v zero h = let same = same_value-self v in let x_is = same_Some x v h in rw x_is (rw same refl)
slice_get-index_in (x ∷ xs) v (suc j) h =
    elim (same_value v x) as (λ b. same_value v x ≡ b → slice_get (x ∷ xs) (if b then zero else suc (index_in xs v)) ≡ Some v) [
      | true ↦ λ q. ap Some (sym (same_value-true v x q))
      | false ↦ λ q. slice_get-index_in xs v j h
    ] refl

-- a link is the same from either side
joined_comm : (x : End) (i : ℕ) (y : End) (j : ℕ) (c : Option FeatureNo) → ((y.feature.0 ≡ x.feature.0) → ⊥) → joined_link x i y j c ≡ joined_link y j x i c
joined_comm x i y j c ne = elim (cases_order x.feature.0 y.feature.0) [
  | inl e ↦ absurd (ne (sym e))
  | inr (inl lt) ↦ let a = lt-ltb x.feature.0 y.feature.0 lt in let b = le-ltb y.feature.0 x.feature.0 (omega arith) in rw (a, b) refl
  | inr (inr gt) ↦ let a = lt-ltb y.feature.0 x.feature.0 gt in let b = le-ltb x.feature.0 y.feature.0 (omega arith) in rw (a, b) refl
]

Among_left : (xs ys : List Link) (l : Link) → Among l xs → Among l (xs ++ ys)
Among_left [] ys l h = absurd (false≢true h)
Among_left (x ∷ xs) ys l h = elim (Among_cases l x xs h) [
  | inl same ↦ subst (λ (m : Link). Among m (x ∷ (xs ++ ys))) (sym same) (Among_head x (xs ++ ys))
  | inr later ↦ Among_tail l x (xs ++ ys) (Among_left xs ys l later)
]

Among_right : (xs ys : List Link) (l : Link) → Among l ys → Among l (xs ++ ys)
Among_right [] ys l h = h
Among_right (x ∷ xs) ys l h = Among_tail l x (xs ++ ys) (Among_right xs ys l h)

Among_either : (xs ys : List Link) (l : Link) → Among l (xs ++ ys) → Among l xs ⊎ Among l ys
Among_either [] ys l h = inr h
Among_either (x ∷ xs) ys l h = elim (Among_cases l x (xs ++ ys) h) [
  | inl same ↦ inl (subst (λ (m : Link). Among m (x ∷ xs)) (sym same) (Among_head x xs))
  | inr later ↦ elim (Among_either xs ys l later) [ inl a ↦ inl (Among_tail l x xs a) | inr b ↦ inr b ]
]

module _ (c : Cells) where
  ---------------------------------------------------------------- members

  from_back : (e : End) (a : ℕ) (xs : List Value) (l : Link) → Among l (links_from c e a xs) → (k : ℕ) × (v : Value) × (slice_get xs k ≡ Some v) × (l ≡ link_from c e (a + k) v)
  from_back e a [] l h = absurd (false≢true h)
  from_back e a (x ∷ xs) l h = elim (Among_cases l (link_from c e a x) (links_from c e (suc a) xs) h) [
    | inl same ↦ (zero, x, refl, same ∙ ap (λ n. link_from c e n x) {x = a} {y = a + 0} (omega arith))
    | inr later ↦ let r = from_back e (suc a) xs l later in (suc r.0, r.1, r.2, r.3 ∙ ap (λ n. link_from c e n r.1) {x = suc a + r.0} {y = a + suc r.0} (omega arith))
  ]

  from_there : (e : End) (a : ℕ) (xs : List Value) (k : ℕ) (v : Value) → slice_get xs k ≡ Some v → Among (link_from c e (a + k) v) (links_from c e a xs)
  from_there e a [] k v h = absurd (none-some v h)
  from_there e a (x ∷ xs) zero v h =
      subst (λ (w : Value). Among (link_from c e (a + 0) w) (link_from c e a x ∷ links_from c e (suc a) xs)) (same_Some x v h)
      (subst (λ n. Among (link_from c e n x) (link_from c e a x ∷ links_from c e (suc a) xs)) {x = a} (omega arith) (Among_head (link_from c e a x) _))
  from_there e a (x ∷ xs) (suc k) v h =
      subst (λ n. Among (link_from c e n v) (link_from c e a x ∷ links_from c e (suc a) xs)) {x = suc a + k} (omega arith)
      (Among_tail _ (link_from c e a x) _ (from_there e (suc a) xs k v h))

  pub all_back : (es : List End) (l : Link) → Among l (all_links c es) → (e : End) × (k : ℕ) × (v : Value) × (slice_get (c.vals e) k ≡ Some v) × (l ≡ link_from c e k v)
  all_back [] l h = absurd (false≢true h)
  all_back (e ∷ es) l h = elim (Among_either (links_from c e zero (c.vals e)) (all_links c es) l h) [
    | inl here ↦ let r = from_back e zero (c.vals e) l here in (e, r.0, r.1, r.2, r.3 ∙ ap (λ n. link_from c e n r.1) {x = 0 + r.0} {y = r.0} (omega arith))
    | inr later ↦ all_back es l later
  ]

  pub all_there : (es : List End) (e : End) (k : ℕ) (v : Value) → list_any (same_end e) es ≡ true → slice_get (c.vals e) k ≡ Some v → Among (link_from c e k v) (all_links c es)
  all_there [] e k v key h = absurd (false≢true key)
  all_there (d ∷ es) e k v key h = elim (or_cases (same_end e d) (list_any (same_end e) es) key) [
    | inl here ↦
        let is = same_end-true e d here in
        Among_left (links_from c d zero (c.vals d)) (all_links c es) (link_from c e k v)
        (subst (λ (x : End). Among (link_from c e k v) (links_from c x zero (c.vals x))) is
        (subst (λ n. Among (link_from c e n v) (links_from c e zero (c.vals e))) {x = 0 + k} (omega arith) (from_there e zero (c.vals e) k v h)))
    | inr later ↦ Among_right (links_from c d zero (c.vals d)) (all_links c es) (link_from c e k v) (all_there es e k v later h)
  ]

  module _ (es : List End) (ok : AreLists c es) where
    -- an end and the far end of its link are different
    apart : (e : End) (k : ℕ) (o : ObjectNo) (g : FeatureNo) → (c.pairing e).opposite ≡ Some g → slice_get (c.vals e) k ≡ Some (value.Object o) → e ≢ far_end o g
    apart e k o g q h s = (ok.mutual_ e k o g h q).apart (λ i. (sym s i).feature.0)

    ---------------------------------------------------------------- positions

    -- the link of a position is in the set
    place_to : (e : End) (k : ℕ) (o : ObjectNo) (g : Option FeatureNo) → (c.pairing e).opposite ≡ g → slice_get (c.vals e) k ≡ Some (value.Object o) → indexed_value (link_to c e k o g) e ≡ Some (k, value.Object o)
    place_to e k o None q h = rw (same_end-self e) refl
    place_to e k o (Some g) q h = indexed_value-joined_near e k (far_end o g) (index_in (c.vals (far_end o g)) (node_value e.node)) (c.pairing e).container (apart e k o g q h)

    pub place_from : (e : End) (k : ℕ) (v : Value) → slice_get (c.vals e) k ≡ Some v → indexed_value (link_from c e k v) e ≡ Some (k, v)
    place_from e k (value.Object o) h = place_to e k o (c.pairing e).opposite refl h
    place_from e k (value.Proxy t) h = rw (same_end-self e) refl
    place_from e k v h = absurd (ok.references e k v h)

    -- the link of a position is the link of the position on its far side
    module _ (p : ObjectNo) (f : FeatureNo) (k : ℕ) (o : ObjectNo) (g : FeatureNo) (q : (c.pairing (far_end p f)).opposite ≡ Some g) (h : slice_get (c.vals (far_end p f)) k ≡ Some (value.Object o)) where
      abbrev d : End
      d = far_end p f

      abbrev far : End
      far = far_end o g

      abbrev back : ℕ
      back = index_in (c.vals far) (value.Object p)

      at_back : slice_get (c.vals far) back ≡ Some (value.Object p)
      at_back = let m = (ok.mutual_ d k o g h q).back in slice_get-index_in (c.vals far) (value.Object p) m.0 m.1

      there_again : index_in (c.vals d) (value.Object o) ≡ k
      there_again = ok.distinct d (index_in (c.vals d) (value.Object o)) k (value.Object o) (slice_get-index_in (c.vals d) (value.Object o) k h) h

      from_far : link_to c d k o (Some g) ≡ link_from c far back (value.Object p)
      from_far =
          let m = ok.mutual_ d k o g h q in
          joined_comm d k far back (c.pairing d).container m.apart
          ∙ (λ i. joined_link far back d (sym there_again i) (sym m.container i))
          ∙ ap (λ (x : Option FeatureNo). link_to c far back p x) (sym m.opposite)

    -- a link that is at a position is the link of that position
    object_far : (p : ObjectNo) (f : FeatureNo) (k : ℕ) (o : ObjectNo) (g : FeatureNo) → (c.pairing (far_end p f)).opposite ≡ Some g → slice_get (c.vals (far_end p f)) k ≡ Some (value.Object o) → (e : End) (i : ℕ) (v : Value) → far_end p f ≢ e → indexed_value (link_to c (far_end p f) k o (Some g)) e ≡ Some (i, v) → (slice_get (c.vals e) i ≡ Some v) × (link_to c (far_end p f) k o (Some g) ≡ link_from c e i v)
    object_far p f k o g q h e i v ne at =
        let d = far_end p f in
        let y = far_end o g in
        let j = index_in (c.vals y) (value.Object p) in
        let w = (c.pairing d).container in
        let two : d ≢ y = apart d k o g q h in
        elim (cases_end y e) [
          | inl same ↦
              let parts = some_pair_parts j i (value.Object p) v (sym (indexed_value-joined_far d k y j w two) ∙ subst (λ (x : End). indexed_value (joined_link d k y j w) x ≡ Some (i, v)) (sym same) at) in (
                (λ t. slice_get (c.vals (sym same t)) (sym parts.0 t)) ∙ at_back p f k o g q h ∙ ap Some parts.1,
                from_far p f k o g q h ∙ (λ t. link_from c (same t) (parts.0 t) (parts.1 t)),
              )
          | inr out ↦ absurd (none-some _ (sym (indexed_value-joined_other d k y j w two e ne out) ∙ at))
        ]

    only_to : (n : Node) (f : FeatureNo) (k : ℕ) (o : ObjectNo) (g : Option FeatureNo) (e : End) (i : ℕ) (v : Value) → let d : End = record { node = n; feature = f } in (c.pairing d).opposite ≡ g → slice_get (c.vals d) k ≡ Some (value.Object o) → d ≢ e → indexed_value (link_to c d k o g) e ≡ Some (i, v) → (slice_get (c.vals e) i ≡ Some v) × (link_to c d k o g ≡ link_from c e i v)
    only_to n f k o None e i v q h ne at =
        let d : End = record { node = n; feature = f } in
        let other = ne-same_end d e ne in
        let out : indexed_value (link_to c d k o None) e ≡ None = rw other refl in
        absurd (none-some _ (sym out ∙ at))
    only_to (node.Resource r) f k o (Some g) e i v q h ne at = absurd (ok.mutual_ (record { node = node.Resource r; feature = f }) k o g h q).object
    only_to (node.Object p) f k o (Some g) e i v q h ne at = object_far p f k o g q h e i v ne at

    far_from : (d : End) (k : ℕ) (w : Value) → slice_get (c.vals d) k ≡ Some w → (e : End) (i : ℕ) (v : Value) → d ≢ e → indexed_value (link_from c d k w) e ≡ Some (i, v) → (slice_get (c.vals e) i ≡ Some v) × (link_from c d k w ≡ link_from c e i v)
    far_from d k (value.Object o) h e i v ne at = only_to d.node d.feature k o (c.pairing d).opposite e i v refl h ne at
    far_from d k (value.Proxy t) h e i v ne at = let other = ne-same_end d e ne in absurd (none-some _ (let out : indexed_value (link_from c d k (value.Proxy t)) e ≡ None = rw other refl in sym out ∙ at))
    far_from d k w h e i v ne at = absurd (ok.references d k w h)

    only_from : (d : End) (k : ℕ) (w : Value) → slice_get (c.vals d) k ≡ Some w → (e : End) (i : ℕ) (v : Value) → indexed_value (link_from c d k w) e ≡ Some (i, v) → (slice_get (c.vals e) i ≡ Some v) × (link_from c d k w ≡ link_from c e i v)
    only_from d k w h e i v at = elim (cases_end d e) [
      | inl same ↦
          let parts = some_pair_parts k i w v (sym (place_from d k w h) ∙ subst (λ (x : End). indexed_value (link_from c d k w) x ≡ Some (i, v)) (sym same) at) in
          ((λ t. slice_get (c.vals (sym same t)) (sym parts.0 t)) ∙ h ∙ ap Some parts.1, (λ t. link_from c (same t) (parts.0 t) (parts.1 t)))
      | inr ne ↦ far_from d k w h e i v ne at
    ]

    -- a member that is at a position is the link of that position
    pub stands_from : (l : Link) → In l (cell_links c es) → (e : End) (i : ℕ) (v : Value) → indexed_value l e ≡ Some (i, v) → (slice_get (c.vals e) i ≡ Some v) × (l ≡ link_from c e i v)
    stands_from l h e i v at =
        let b = all_back es l ((from_list_HasLinks (all_links c es)).has l h) in
        let r = only_from b.0 b.1 b.2 b.3 e i v (subst (λ (m : Link). indexed_value m e ≡ Some (i, v)) b.4 at) in
        (r.0, b.4 ∙ r.1)

    pub link_in : (e : End) (k : ℕ) (v : Value) → slice_get (c.vals e) k ≡ Some v → In (link_from c e k v) (cell_links c es)
    link_in e k v h = (from_list_HasLinks (all_links c es)).only _ (all_there es e k v (ok.keys e k v h) h)

    ---------------------------------------------------------------- the set

    pub IsEnd-lists : (e : End) → IsEnd (cell_links c es) e (c.vals e)
    IsEnd-lists e = record {
      has = λ k v (l, h, at). (stands_from l h e k v at).0;
      only = λ k v h. (link_from c e k v, link_in e k v h, place_from e k v h);
    }

    IsOnce-lists : IsOnce (cell_links c es)
    IsOnce-lists l m e k v w hl hm al am =
        let a = stands_from l hl e k v al in
        let b = stands_from m hm e k w am in
        a.1 ∙ ap (λ (x : Value). link_from c e k x) (same_Some v w (sym a.0 ∙ b.0)) ∙ sym b.1

    two_sides : (x : End) (i : ℕ) (y : End) (j : ℕ) (h : Option FeatureNo) → ((y.feature.0 ≡ x.feature.0) → ⊥) → IsObject x.node → IsObject y.node → HasTwoSides (joined_link x i y j h).end (joined_link x i y j h).far
    two_sides x i y j h ne a b = elim (ltb x.feature.0 y.feature.0) as (λ b. let l : Link = (if b then record { end = x; index = i; far = At y j; container = h } else record { end = y; index = j; far = At x i; container = h }) in HasTwoSides l.end l.far) [ true ↦ (ne, a, b) | false ↦ (λ e. ne (sym e), b, a) ]

    sides_to : (e : End) (k : ℕ) (o : ObjectNo) (g : Option FeatureNo) → (c.pairing e).opposite ≡ g → slice_get (c.vals e) k ≡ Some (value.Object o) → HasTwoSides (link_to c e k o g).end (link_to c e k o g).far
    sides_to e k o None q h = tt
    sides_to e k o (Some g) q h = let m = ok.mutual_ e k o g h q in two_sides e k (far_end o g) _ _ m.apart m.object tt

    sides_from : (e : End) (k : ℕ) (v : Value) → slice_get (c.vals e) k ≡ Some v → HasTwoSides (link_from c e k v).end (link_from c e k v).far
    sides_from e k (value.Object o) h = sides_to e k o (c.pairing e).opposite refl h
    sides_from e k (value.Proxy t) h = tt
    sides_from e k v h = absurd (ok.references e k v h)

    pub lists_placed : IsPlaced (cell_links c es)
    lists_placed = placed_from (cell_links c es) (λ e. (c.vals e, IsEnd-lists e, ok.distinct e, ok.few e)) IsOnce-lists (λ l h.
        let b = all_back es l ((from_list_HasLinks (all_links c es)).has l h) in
        subst (λ (m : Link). HasTwoSides m.end m.far) (sym b.4) (sides_from b.0 b.1 b.2 b.3))

    -- the values of an end are its list
    pub end-lists : (e : End) → end (cell_links c es) e ≡ c.vals e
    end-lists e = end_is (cell_links c es) e (c.vals e) (IsEnd-lists e)
