-- The ends after a put; each link still has a position of its own.
use Rattle.std.proofs.Common.{◌≡◌, ◌≢◌, ℕ, ◌<◌, ◌≤◌, true, false, ltb, List, [], ◌∷◌, ◌++◌, length, Option, Some, None, if◌then◌else◌, refl, sym, ◌∙◌, subst, inl, inr, arith}
use Rattle.std.specs.Prelude.{◌⊎◌}
use Rattle.std.specs.List.{insert}
use Rattle.std.proofs.lemmas.Bool.{true≢false, cases_Bool}
use Rattle.std.proofs.lemmas.Option.{slice_get_within, none-some, some_pair_parts}
use Rattle.links.proofs.EditLemmas.{AreTwoSided, AreTwoSided-insert, AreTwoSided-renumbered_links, IsEnd-insert_last, IsEnd-insert_none, IsEnd-raise_insert, IsEnd-renumbered_other, IsOnce, IsOnce-insert, IsOnce-renumbered_links, IsVacant, KeepsApart, Stands-renumbered_links, Stands-renumbered_other}
use Rattle.links.proofs.EndLemmas.{end_is}
use Rattle.links.proofs.ListLemmas as lists
use Rattle.links.proofs.PlaceLemmas.{Decides-same_end, ne-same_end}
use Rattle.links.specs.Laws.{IsFar}
use Rattle.links.specs.LegalSets.{HasTwoSides, IsDistinct, IsEnd, IsObject, IsPlaced, Stands, most}
use Rattle.links.specs.Links.{Links, end, far_end, joined_link, new_link, new_proxy, put, put_proxy, raise, renumbered_links}
use Rattle.links.specs.Indexed.{indexed_value}
use Rattle.links.specs.Plans.{FarFitsIn, Lacks, PutFits}
use Rattle.links.specs.declared.link.Far.TheVariants.{At}
use Rattle.links.specs.declared.link.Link.{Link}
use Rattle.mm_types.proofs.SameLemmas.{same_end-self, same_end-true}
use Rattle.mm_types.specs.Same.{node_value, same_end}
use Rattle.mm_types.specs.declared.end.End.{End}
use Rattle.mm_types.specs.declared.numbers.FeatureNo.{FeatureNo}
use Rattle.mm_types.specs.declared.numbers.ObjectNo.{ObjectNo}
use Rattle.mm_types.specs.declared.value.Value.TheVariants as value
use Rattle.mm_types.specs.declared.value.Value.{Value}

pub cases_end : (d e : End) → (d ≡ e) ⊎ (d ≢ e)
cases_end d e = elim (cases_Bool (same_end d e)) [
  | inl h ↦ inl (same_end-true d e h)
  | inr h ↦ inr (λ same. true≢false (sym ((Decides-same_end d e).1 same) ∙ h))
]

-- the far end of a new link is another end, and then both are of objects
abbrev pub IsApart : End → Option FeatureNo → Type 0
IsApart e None = Unit {0}
IsApart e (Some g) = ((g.0 ≡ e.feature.0) → ⊥) × IsObject e.node

pub apart_of : (s : Links) (e : End) (n : ObjectNo) (g : Option FeatureNo) → FarFitsIn s e n g → IsApart e g
apart_of s e n None fits = tt
apart_of s e n (Some g) fits = (fits.apart, fits.object)

-- a set whose every end has some list, and no two links at one position, is placed
pub placed_from : (s : Links) → ((e : End) → (xs : List Value) × IsEnd s e xs × IsDistinct xs × (length xs ≤ most)) → IsOnce s → AreTwoSided s → IsPlaced s
placed_from s all once apart = record {
  ends = λ e. let some = all e in subst (λ (xs : List Value). IsEnd s e xs) (sym (end_is s e some.0 some.1)) some.1;
  once = once;
  distinct = λ e. let some = all e in subst (λ (xs : List Value). IsDistinct xs) (sym (end_is s e some.0 some.1)) some.2;
  sides = apart;
  few = λ e. let some = all e in subst (λ (xs : List Value). length xs ≤ most) (sym (end_is s e some.0 some.1)) some.3;
}

---------------------------------------------------------------- where a new link is

module _ (x : End) (i : ℕ) (y : End) (j : ℕ) (c : Option FeatureNo) (ne : x ≢ y) where
  pub indexed_value-joined_near : indexed_value (joined_link x i y j c) x ≡ Some (i, node_value y.node)
  indexed_value-joined_near =
      elim (ltb x.feature.0 y.feature.0) as (λ b. indexed_value (if b then record { end = x; index = i; far = At y j; container = c } else record { end = y; index = j; far = At x i; container = c }) x ≡ Some (i, node_value y.node)) [
        | true ↦ rw (same_end-self x) refl
        | false ↦ let other = ne-same_end y x (λ same. ne (sym same)) in rw (other, same_end-self x) refl
      ]

  pub indexed_value-joined_far : indexed_value (joined_link x i y j c) y ≡ Some (j, node_value x.node)
  indexed_value-joined_far =
      elim (ltb x.feature.0 y.feature.0) as (λ b. indexed_value (if b then record { end = x; index = i; far = At y j; container = c } else record { end = y; index = j; far = At x i; container = c }) y ≡ Some (j, node_value x.node)) [
        | true ↦ let other = ne-same_end x y ne in rw (other, same_end-self y) refl
        | false ↦ rw (same_end-self y) refl
      ]

  pub indexed_value-joined_other : (d : End) → x ≢ d → y ≢ d → indexed_value (joined_link x i y j c) d ≡ None
  indexed_value-joined_other d nx ny =
      elim (ltb x.feature.0 y.feature.0) as (λ b. indexed_value (if b then record { end = x; index = i; far = At y j; container = c } else record { end = y; index = j; far = At x i; container = c }) d ≡ None) [
        | true ↦ let ox = ne-same_end x d nx in let oy = ne-same_end y d ny in rw (ox, oy) refl
        | false ↦ let ox = ne-same_end x d nx in let oy = ne-same_end y d ny in rw (oy, ox) refl
      ]

---------------------------------------------------------------- put

module _ (s : Links) (placed : IsPlaced s) (e : End) (i : ℕ) (n : ObjectNo) (c : Option FeatureNo) (fits : i ≤ length (end s e)) where
  IsEnd-put_near : (g : Option FeatureNo) → IsApart e g → IsEnd (put s e i n g c) e (insert (end s e) i (value.Object n))
  unfolding put
  IsEnd-put_near None apart = IsEnd-raise_insert s e (end s e) (placed.ends e) (new_link s e i n None c) i (value.Object n) fits (rw (same_end-self e) refl)
  IsEnd-put_near (Some g) apart =
      let far = far_end n g in
      IsEnd-raise_insert s e (end s e) (placed.ends e) (new_link s e i n (Some g) c) i (value.Object n) fits (indexed_value-joined_near e i far (length (end s far)) c (λ same. apart.0 (λ j. (sym same j).feature.0)))

  IsEnd-put_far : (g : FeatureNo) → IsApart e (Some g) → (d : End) → IsFar n (Some g) d → IsEnd (put s e i n (Some g) c) d (end s d ++ node_value e.node ∷ [])
  unfolding put
  IsEnd-put_far g apart d is =
      let far = far_end n g in
      let ne : far ≢ e = λ same. apart.0 (λ j. (same j).feature.0) in
      subst (λ (d : End). IsEnd (put s e i n (Some g) c) d (end s d ++ node_value e.node ∷ [])) is
      (IsEnd-insert_last (renumbered_links s e (raise i)) (new_link s e i n (Some g) c) far (end s far) (node_value e.node) (indexed_value-joined_far e i far (length (end s far)) c (λ same. ne (sym same)))
      (IsEnd-renumbered_other s far e (raise i) (end s far) ne (placed.ends far)))

  IsEnd-put_other : (g : Option FeatureNo) → IsApart e g → (d : End) → e ≢ d → (IsFar n g d → ⊥) → IsEnd (put s e i n g c) d (end s d)
  unfolding put
  IsEnd-put_other None apart d ne not_far =
      IsEnd-insert_none (renumbered_links s e (raise i)) (new_link s e i n None c) d (end s d) (let other = ne-same_end e d ne in rw other refl)
      (IsEnd-renumbered_other s d e (raise i) (end s d) (λ same. ne (sym same)) (placed.ends d))
  IsEnd-put_other (Some g) apart d ne not_far =
      let far = far_end n g in
      IsEnd-insert_none (renumbered_links s e (raise i)) (new_link s e i n (Some g) c) d (end s d) (indexed_value-joined_other e i far (length (end s far)) c (λ same. apart.0 (λ j. (sym same j).feature.0)) d ne not_far)
      (IsEnd-renumbered_other s d e (raise i) (end s d) (λ same. ne (sym same)) (placed.ends d))

  module _ (g : Option FeatureNo) (apart : IsApart e g) where
    -- the value goes in at its position
    pub end-put_near : end (put s e i n g c) e ≡ insert (end s e) i (value.Object n)
    end-put_near = end_is (put s e i n g c) e (insert (end s e) i (value.Object n)) (IsEnd-put_near g apart)

    -- every other end is as it was
    pub end-put_other : (d : End) → e ≢ d → (IsFar n g d → ⊥) → end (put s e i n g c) d ≡ end s d
    end-put_other d ne not_far = end_is (put s e i n g c) d (end s d) (IsEnd-put_other g apart d ne not_far)

  -- the value that the far end gains is appended
  pub end-put_far : (g : FeatureNo) → IsApart e (Some g) → (d : End) → IsFar n (Some g) d → end (put s e i n (Some g) c) d ≡ end s d ++ node_value e.node ∷ []
  end-put_far g apart d is = end_is (put s e i n (Some g) c) d (end s d ++ node_value e.node ∷ []) (IsEnd-put_far g apart d is)

pub put_far : (s : Links) (placed : IsPlaced s) (e : End) (i : ℕ) (n : ObjectNo) (c : Option FeatureNo) → i ≤ length (end s e) → (g : Option FeatureNo) → FarFitsIn s e n g → (d : End) → IsFar n g d → end (put s e i n g c) d ≡ end s d ++ node_value e.node ∷ []
put_far s placed e i n c range None fits d is = absurd is
put_far s placed e i n c range (Some g) fits d is = end-put_far s placed e i n c range g (fits.apart, fits.object) d is

---------------------------------------------------------------- put keeps each link at its position

pub cases_far : (n : ObjectNo) (g : Option FeatureNo) (d : End) → IsFar n g d ⊎ (IsFar n g d → ⊥)
cases_far n None d = inr (λ h. h)
cases_far n (Some g) d = cases_end _ d

HasTwoSides-new : (s : Links) (e : End) (i : ℕ) (n : ObjectNo) (g c : Option FeatureNo) → IsApart e g → HasTwoSides (new_link s e i n g c).end (new_link s e i n g c).far
HasTwoSides-new s e i n None c apart = tt
HasTwoSides-new s e i n (Some g) c apart =
    let far = far_end n g in
    elim (ltb e.feature.0 g.0) as (λ b. let l : Link = (if b then record { end = e; index = i; far = At far (length (end s far)); container = c } else record { end = far; index = length (end s far); far = At e i; container = c }) in HasTwoSides l.end l.far) [
      | true ↦ (apart.0, apart.1, tt)
      | false ↦ (λ h. apart.0 (sym h), tt, apart.1)
    ]

-- no link is at the position of the new link
IsVacant-new : (s : Links) (placed : IsPlaced s) (e : End) (i : ℕ) (n : ObjectNo) (g c : Option FeatureNo) → IsApart e g → IsVacant (renumbered_links s e (raise i)) (new_link s e i n g c)
IsVacant-new s placed e i n None c apart d k v w at st =
    elim (cases_end e d) [
      | inl same ↦
          let here : indexed_value (new_link s e i n None c) e ≡ Some (i, value.Object n) = rw (same_end-self e) refl in
          let parts = some_pair_parts i k (value.Object n) v (sym here ∙ subst (λ (x : End). indexed_value (new_link s e i n None c) x ≡ Some (k, v)) (sym same) at) in
          let from = Stands-renumbered_links s e (raise i) k w (subst (λ (x : End). Stands (renumbered_links s e (raise i)) x k w) (sym same) st) in
          lists.raise_other i from.0 (from.2 ∙ sym parts.0)
      | inr ne ↦ none-some _ ((let other = ne-same_end e d ne in let out : indexed_value (new_link s e i n None c) d ≡ None = rw other refl in sym out) ∙ at)
    ]
IsVacant-new s placed e i n (Some g) c apart d k v w at st =
    let far = far_end n g in
    let new = new_link s e i n (Some g) c in
    let ne : e ≢ far = λ same. apart.0 (λ j. (sym same j).feature.0) in
    elim (cases_end e d) [
      | inl same ↦
          let parts = some_pair_parts i k (value.Object n) v (sym (indexed_value-joined_near e i far (length (end s far)) c ne) ∙ subst (λ (x : End). indexed_value new x ≡ Some (k, v)) (sym same) at) in
          let from = Stands-renumbered_links s e (raise i) k w (subst (λ (x : End). Stands (renumbered_links s e (raise i)) x k w) (sym same) st) in
          lists.raise_other i from.0 (from.2 ∙ sym parts.0)
      | inr ne_e ↦ elim (cases_end far d) [
        | inl same ↦
            let parts = some_pair_parts (length (end s far)) k (node_value e.node) v (sym (indexed_value-joined_far e i far (length (end s far)) c ne) ∙ subst (λ (x : End). indexed_value new x ≡ Some (k, v)) (sym same) at) in
            let was = Stands-renumbered_other s e (raise i) far k w (λ h. ne (sym h)) (subst (λ (x : End). Stands (renumbered_links s e (raise i)) x k w) (sym same) st) in
            let bound = slice_get_within (end s far) k w ((placed.ends far).has k w was) in
            omega (arith, bound, parts.0)
        | inr ne_f ↦ none-some _ (sym (indexed_value-joined_other e i far (length (end s far)) c ne d ne_e ne_f) ∙ at)
      ]
    ]

keeps_apart_raise : (s : Links) (e : End) (i : ℕ) → KeepsApart s e (raise i)
keeps_apart_raise s e i j k v w a b h = lists.raise_injective i j k h

pub put_placed : (s : Links) (e : End) (i : ℕ) (n : ObjectNo) (g c : Option FeatureNo) → IsPlaced s → PutFits s e i (value.Object n) → FarFitsIn s e n g → IsPlaced (put s e i n g c)
unfolding put
put_placed s e i n g c placed ok fits =
    let r = renumbered_links s e (raise i) in
    let new = new_link s e i n g c in
    placed_from (put s e i n g c) (ends g fits)
    (IsOnce-insert r new (IsOnce-renumbered_links s e (raise i) placed.once (keeps_apart_raise s e i)) (IsVacant-new s placed e i n g c (apart_of s e n g fits)))
    (AreTwoSided-insert r new (AreTwoSided-renumbered_links s e (raise i) placed.sides) (HasTwoSides-new s e i n g c (apart_of s e n g fits)))
  where
    far : (g : Option FeatureNo) → FarFitsIn s e n g → (d : End) → IsFar n g d → (xs : List Value) × IsEnd (put s e i n g c) d xs × IsDistinct xs × (length xs ≤ most)
    far None fits d is = absurd is
    far (Some g) fits d is = (
      end s d ++ node_value e.node ∷ [],
      IsEnd-put_far s placed e i n c ok.in_range g (fits.apart, fits.object) d is,
      lists.distinct_push (end s d) (node_value e.node) (placed.distinct d) (subst (λ (x : End). Lacks s x (node_value e.node)) is fits.absent),
      (let room = subst (λ (x : End). length (end s x) < most) is fits.room in omega (arith, room, lists.length_push (end s d) (node_value e.node))),
    )

    ends : (g : Option FeatureNo) → FarFitsIn s e n g → (d : End) → (xs : List Value) × IsEnd (put s e i n g c) d xs × IsDistinct xs × (length xs ≤ most)
    ends g fits d = elim (cases_end e d) [
      | inl same ↦ subst (λ (x : End). (xs : List Value) × IsEnd (put s e i n g c) x xs × IsDistinct xs × (length xs ≤ most)) same (
        insert (end s e) i (value.Object n),
        IsEnd-put_near s placed e i n c ok.in_range g (apart_of s e n g fits),
        lists.distinct_insert (end s e) i (value.Object n) ok.in_range (placed.distinct e) ok.absent,
        omega (arith, ok.room, lists.length_insert (end s e) i (value.Object n) ok.in_range),
      )
      | inr ne ↦ elim (cases_far n g d) [
        | inl is ↦ far g fits d is
        | inr not_far ↦ (end s d, IsEnd-put_other s placed e i n c ok.in_range g (apart_of s e n g fits) d ne not_far, placed.distinct d, placed.few d)
      ]
    ]

---------------------------------------------------------------- a proxy

module _ (s : Links) (e : End) (i : ℕ) (t : List ℕ) (placed : IsPlaced s) (can : PutFits s e i (value.Proxy t)) where
  indexed_value-proxy : (d : End) → e ≢ d → indexed_value (new_proxy e i t) d ≡ None
  indexed_value-proxy d ne = let other = ne-same_end e d ne in rw other refl

  indexed_proxy : indexed_value (new_proxy e i t) e ≡ Some (i, value.Proxy t)
  indexed_proxy = rw (same_end-self e) refl

  IsEnd-proxy_near : IsEnd (put_proxy s e i t) e (insert (end s e) i (value.Proxy t))
  unfolding put_proxy
  IsEnd-proxy_near = IsEnd-raise_insert s e (end s e) (placed.ends e) (new_proxy e i t) i (value.Proxy t) can.in_range indexed_proxy

  IsEnd-proxy_other : (d : End) → e ≢ d → IsEnd (put_proxy s e i t) d (end s d)
  unfolding put_proxy
  IsEnd-proxy_other d ne = IsEnd-insert_none (renumbered_links s e (raise i)) (new_proxy e i t) d (end s d) (indexed_value-proxy d ne) (IsEnd-renumbered_other s d e (raise i) (end s d) (λ same. ne (sym same)) (placed.ends d))

  pub end-put_proxy_near : end (put_proxy s e i t) e ≡ insert (end s e) i (value.Proxy t)
  end-put_proxy_near = end_is (put_proxy s e i t) e (insert (end s e) i (value.Proxy t)) IsEnd-proxy_near

  pub end-put_proxy_other : (d : End) → e ≢ d → end (put_proxy s e i t) d ≡ end s d
  end-put_proxy_other d ne = end_is (put_proxy s e i t) d (end s d) (IsEnd-proxy_other d ne)

  IsVacant-proxy : IsVacant (renumbered_links s e (raise i)) (new_proxy e i t)
  IsVacant-proxy d k v w at st = elim (cases_end e d) [
    | inl same ↦
        let parts = some_pair_parts i k (value.Proxy t) v (sym indexed_proxy ∙ subst (λ (x : End). indexed_value (new_proxy e i t) x ≡ Some (k, v)) (sym same) at) in
        let from = Stands-renumbered_links s e (raise i) k w (subst (λ (x : End). Stands (renumbered_links s e (raise i)) x k w) (sym same) st) in
        lists.raise_other i from.0 (from.2 ∙ sym parts.0)
    | inr ne ↦ none-some _ (sym (indexed_value-proxy d ne) ∙ at)
  ]

  pub put_proxy_placed : IsPlaced (put_proxy s e i t)
  unfolding put_proxy
  put_proxy_placed =
      let r = renumbered_links s e (raise i) in
      placed_from (put_proxy s e i t) ends
      (IsOnce-insert r (new_proxy e i t) (IsOnce-renumbered_links s e (raise i) placed.once (keeps_apart_raise s e i)) IsVacant-proxy)
      (AreTwoSided-insert r (new_proxy e i t) (AreTwoSided-renumbered_links s e (raise i) placed.sides) tt)
    where
      ends : (d : End) → (xs : List Value) × IsEnd (put_proxy s e i t) d xs × IsDistinct xs × (length xs ≤ most)
      ends d = elim (cases_end e d) [
        | inl same ↦ subst (λ (x : End). (xs : List Value) × IsEnd (put_proxy s e i t) x xs × IsDistinct xs × (length xs ≤ most)) same (
          insert (end s e) i (value.Proxy t),
          IsEnd-proxy_near,
          lists.distinct_insert (end s e) i (value.Proxy t) can.in_range (placed.distinct e) can.absent,
          omega (arith, can.room, lists.length_insert (end s e) i (value.Proxy t) can.in_range),
        )
        | inr ne ↦ (end s d, IsEnd-proxy_other d ne, placed.distinct d, placed.few d)
      ]
