-- The positions of values after an edit.
use Rattle.std.proofs.Common.{◌≡◌, ◌≢◌, ℕ, zero, suc, ◌<◌, ◌≤◌, true, false, not, List, [], ◌∷◌, ◌++◌, map, length, Option, Some, None, if◌then◌else◌, refl, sym, ap, ◌∙◌, subst, inl, inr, arith}
use Rattle.std.specs.Prelude.{◌⊎◌}
use Rattle.std.specs.List.{slice_get}
use Rattle.std.specs.Option.{option_map}
use Rattle.std.specs.Ordering.{eq_by_cmp}
use Rattle.std.specs.FinSet as set
use Rattle.std.proofs.lemmas.Bool.{true≢false, false≢true, or_cases, or_left, or_right, and_parts, and_from, not-true, not_from_false, false_from_ne_true}
use Rattle.std.proofs.lemmas.Option.{slice_get_within, same_Some, some_pair_parts, none-some}
use Rattle.std.specs.List.{insert, remove}
use Rattle.std.proofs.lemmas.Bool.{cases_lt, cases_order, cases_eq}
use Rattle.links.proofs.EndLemmas.{Among, Among_cases, Among_head, Among_tail, from_list_HasLinks, items_HasLinks, not_within, same_itself, same_link}
use Rattle.links.proofs.ListLemmas as lists
use Rattle.links.proofs.PlaceLemmas.{Decides-same_end, indexed_value-moved_other, indexed_value-renumbered_link, renumbered_indexed}
use Rattle.links.specs.LegalSets.{HasTwoSides, IsEnd, IsPlaced, Stands}
use Rattle.links.specs.Links.{In, Links, lower, raise, renumbered_links, shifted_index}
use Rattle.mm_types.specs.Lists.{put_back, values_after_move}
use Rattle.links.specs.Order.{link_cmp, link_cmp_total}
use Rattle.links.specs.Indexed.{far_moved, renumbered_link, indexed_value}
use Rattle.links.specs.declared.link.Far.TheVariants.{At, Alone, Proxy}
use Rattle.links.specs.declared.link.Far.{Far}
use Rattle.links.specs.declared.link.Link.{Link}
use Rattle.mm_types.proofs.SameLemmas.{same_end-true}
use Rattle.mm_types.specs.Same.{same_end}
use Rattle.mm_types.specs.declared.end.End.{End}
use Rattle.mm_types.specs.declared.value.Value.{Value}

---------------------------------------------------------------- members

pub Among-map : (f : Link → Link) (ls : List Link) (m : Link) → Among m (map f ls) → (l : Link) × Among l ls × (f l ≡ m)
Among-map f [] m h = absurd (false≢true h)
Among-map f (l ∷ ls) m h = elim (Among_cases m (f l) (map f ls) h) [
  | inl same ↦ (l, Among_head l ls, sym same)
  | inr later ↦ let found = Among-map f ls m later in (found.0, Among_tail found.0 l ls found.1, found.2)
]

pub Among_map : (f : Link → Link) (ls : List Link) (l : Link) → Among l ls → Among (f l) (map f ls)
Among_map f [] l h = absurd (false≢true h)
Among_map f (m ∷ ls) l h = elim (Among_cases l m ls h) [
  | inl same ↦ subst (λ (x : Link). Among (f l) (f x ∷ map f ls)) same (Among_head (f l) (map f ls))
  | inr later ↦ Among_tail (f l) (f m) (map f ls) (Among_map f ls l later)
]

module _ (s : Links) (e : End) (r : ℕ → ℕ) where
  pub In-renumbered_links : (m : Link) → In m (renumbered_links s e r) → (l : Link) × In l s × (renumbered_link l e r ≡ m)
  unfolding renumbered_links
  In-renumbered_links m h =
      let ls = set.items s in
      let f : Link → Link = λ l. renumbered_link l e r in
      let found = Among-map f ls m ((from_list_HasLinks (map f ls)).has m h) in
      (found.0, (items_HasLinks s).only found.0 found.1, found.2)

  pub In_renumbered : (l : Link) → In l s → In (renumbered_link l e r) (renumbered_links s e r)
  unfolding renumbered_links
  In_renumbered l h =
      let ls = set.items s in
      let f : Link → Link = λ l. renumbered_link l e r in
      (from_list_HasLinks (map f ls)).only (f l) (Among_map f ls l ((items_HasLinks s).has l h))

pub In-insert : (s : Links) (k l : Link) → In l (set.insert s k) → (l ≡ k) ⊎ In l s
In-insert s k l h = elim (or_cases (eq_by_cmp link_cmp l k) (set.contains s l) (sym (set.contains-insert link_cmp_total s k l) ∙ h)) [
  | inl same ↦ inl (same_link l k same)
  | inr old ↦ inr old
]

pub In_insert_new : (s : Links) (k : Link) → In k (set.insert s k)
In_insert_new s k = set.contains-insert link_cmp_total s k k ∙ or_left _ _ (same_itself k)

pub In_insert_old : (s : Links) (k l : Link) → In l s → In l (set.insert s k)
In_insert_old s k l h = set.contains-insert link_cmp_total s k l ∙ or_right _ _ h

pub In-remove : (s : Links) (k l : Link) → In l (set.remove s k) → (l ≢ k) × In l s
In-remove s k l h =
    let parts = and_parts (not (eq_by_cmp link_cmp l k)) (set.contains s l) (sym (set.contains-remove link_cmp_total s k l) ∙ h) in
    (λ same. true≢false (sym (subst (λ (x : Link). eq_by_cmp link_cmp l x ≡ true) same (same_itself l)) ∙ not-true _ parts.0), parts.1)

pub In_remove : (s : Links) (k l : Link) → l ≢ k → In l s → In l (set.remove s k)
In_remove s k l ne h =
    set.contains-remove link_cmp_total s k l ∙ and_from _ _ (not_from_false _ (false_from_ne_true _ (λ e. ne (same_link l k e)))) h

---------------------------------------------------------------- positions

-- a position after renumbering comes from a position before
renumbered-some : (r : ℕ → ℕ) (o : Option (ℕ × Value)) (k : ℕ) (v : Value) → option_map (renumbered_indexed r) o ≡ Some (k, v) → (j : ℕ) × (o ≡ Some (j, v)) × (r j ≡ k)
renumbered-some r None k v h = absurd (none-some _ h)
renumbered-some r (Some p) k v h = let parts = some_pair_parts (r p.0) k p.1 v h in (p.0, (λ i. Some (p.0, parts.1 i)), parts.0)

module _ (s : Links) (e : End) (r : ℕ → ℕ) where
  -- in e each position is renumbered
  pub Stands-renumbered_links : (k : ℕ) (v : Value) → Stands (renumbered_links s e r) e k v → (j : ℕ) × Stands s e j v × (r j ≡ k)
  Stands-renumbered_links k v (m, within, at) =
      let from = In-renumbered_links s e r m within in
      let before = renumbered-some r (indexed_value from.0 e) k v (sym (indexed_value-renumbered_link from.0 e r) ∙ ap (λ (l : Link). indexed_value l e) from.2 ∙ at) in
      (before.0, (from.0, from.1, before.1), before.2)

  pub Stands_renumbered : (j : ℕ) (v : Value) → Stands s e j v → Stands (renumbered_links s e r) e (r j) v
  Stands_renumbered j v (l, within, at) =
      (renumbered_link l e r, In_renumbered s e r l within, indexed_value-renumbered_link l e r ∙ ap (option_map (renumbered_indexed r)) at)

  -- in any other end each position stays
  pub Stands-renumbered_other : (d : End) (k : ℕ) (v : Value) → d ≢ e → Stands (renumbered_links s e r) d k v → Stands s d k v
  Stands-renumbered_other d k v ne (m, within, at) =
      let from = In-renumbered_links s e r m within in
      (from.0, from.1, sym (indexed_value-moved_other from.0 d e r ne) ∙ ap (λ (l : Link). indexed_value l d) from.2 ∙ at)

  pub Stands_renumbered_other : (d : End) (k : ℕ) (v : Value) → d ≢ e → Stands s d k v → Stands (renumbered_links s e r) d k v
  Stands_renumbered_other d k v ne (l, within, at) =
      (renumbered_link l e r, In_renumbered s e r l within, indexed_value-moved_other l d e r ne ∙ at)

---------------------------------------------------------------- ends

pub IsEnd-renumbered_other : (s : Links) (d e : End) (r : ℕ → ℕ) (xs : List Value) → d ≢ e → IsEnd s d xs → IsEnd (renumbered_links s e r) d xs
IsEnd-renumbered_other s d e r xs ne is = record {
  has = λ k v h. is.has k v (Stands-renumbered_other s e r d k v ne h);
  only = λ k v h. Stands_renumbered_other s e r d k v ne (is.only k v h);
}

pub IsEnd-insert_none : (s : Links) (l : Link) (d : End) (xs : List Value) → indexed_value l d ≡ None → IsEnd s d xs → IsEnd (set.insert s l) d xs
IsEnd-insert_none s l d xs out is = record {
  has = λ k v (m, within, at). elim (In-insert s l m within) [
    | inl same ↦ absurd (none-some _ (sym out ∙ subst (λ (x : Link). indexed_value x d ≡ Some (k, v)) same at))
    | inr old ↦ is.has k v (m, old, at)
  ];
  only = λ k v h. let old = is.only k v h in (old.0, In_insert_old s l old.0 old.1, old.2);
}

pub IsEnd-insert_last : (s : Links) (l : Link) (d : End) (xs : List Value) (x : Value) → indexed_value l d ≡ Some (length xs, x) → IsEnd s d xs → IsEnd (set.insert s l) d (xs ++ x ∷ [])
IsEnd-insert_last s l d xs x here is = record {
  has = λ k v (m, within, at). elim (In-insert s l m within) [
    | inl same ↦
        let parts = some_pair_parts (length xs) k x v (sym here ∙ subst (λ (y : Link). indexed_value y d ≡ Some (k, v)) same at) in
        subst (λ n. slice_get (xs ++ x ∷ []) n ≡ Some v) parts.0 (lists.slice_get-push xs x ∙ ap Some parts.1)
    | inr old ↦ let was = is.has k v (m, old, at) in lists.slice_get-push_below xs x k (slice_get_within xs k v was) ∙ was
  ];
  only = λ k v h. elim (cases_lt k (length xs)) [
    | inl lt ↦ let old = is.only k v (sym (lists.slice_get-push_below xs x k lt) ∙ h) in (old.0, In_insert_old s l old.0 old.1, old.2)
    | inr ge ↦
        let bound = slice_get_within (xs ++ x ∷ []) k v h in
        let n : length xs ≡ k = omega (arith, bound, lists.length_push xs x) in
        let same = same_Some x v (sym (lists.slice_get-push xs x) ∙ subst (λ m. slice_get (xs ++ x ∷ []) m ≡ Some v) (sym n) h) in
        (l, In_insert_new s l, here ∙ (λ i. Some (n i, same i)))
  ];
}

module _ (s : Links) (e : End) (xs : List Value) (is : IsEnd s e xs) where
  -- a link put in at i
  pub IsEnd-raise_insert : (l : Link) (i : ℕ) (x : Value) → i ≤ length xs → indexed_value l e ≡ Some (i, x) → IsEnd (set.insert (renumbered_links s e (raise i)) l) e (insert xs i x)
  IsEnd-raise_insert l i x fits here = record {
    has = λ k v (m, within, at). elim (In-insert (renumbered_links s e (raise i)) l m within) [
      | inl same ↦
          let parts = some_pair_parts i k x v (sym here ∙ subst (λ (y : Link). indexed_value y e ≡ Some (k, v)) same at) in
          subst (λ n. slice_get (insert xs i x) n ≡ Some v) parts.0 (lists.slice_get-insert_at xs i x fits ∙ ap Some parts.1)
      | inr old ↦
          let before = Stands-renumbered_links s e (raise i) k v (m, old, at) in
          let was = is.has before.0 v before.1 in
          subst (λ n. slice_get (insert xs i x) n ≡ Some v) before.2 (elim (cases_lt before.0 i) [
            | inl lt ↦ rw (lists.raise_below i before.0 lt) (lists.slice_get-insert_below xs i before.0 x lt fits ∙ was)
            | inr ge ↦ rw (lists.raise_above i before.0 ge) (lists.slice_get-insert_above xs i before.0 x ge fits ∙ was)
          ])
    ];
    only = λ k v h. elim (cases_order k i) [
      | inl same ↦
          let x_is = same_Some x v (sym (lists.slice_get-insert_at xs i x fits) ∙ subst (λ n. slice_get (insert xs i x) n ≡ Some v) same h) in
          (l, In_insert_new (renumbered_links s e (raise i)) l, here ∙ (λ j. Some (sym same j, x_is j)))
      | inr (inl lt) ↦
          let was = is.only k v (sym (lists.slice_get-insert_below xs i k x lt fits) ∙ h) in
          let now = subst (λ n. Stands (renumbered_links s e (raise i)) e n v) (lists.raise_below i k lt) (Stands_renumbered s e (raise i) k v was) in
          (now.0, In_insert_old _ l now.0 now.1, now.2)
      | inr (inr gt) ↦ above k v gt h
    ];
  }
    where
      above : (k : ℕ) (v : Value) → i < k → slice_get (insert xs i x) k ≡ Some v → Stands (set.insert (renumbered_links s e (raise i)) l) e k v
      above zero v gt h = absurd (omega (arith, gt))
      above (suc k) v gt h =
          let was = is.only k v (sym (lists.slice_get-insert_above xs i k x (omega (arith, gt)) fits) ∙ h) in
          let now = subst (λ n. Stands (renumbered_links s e (raise i)) e n v) (lists.raise_above i k (omega (arith, gt))) (Stands_renumbered s e (raise i) k v was) in
          (now.0, In_insert_old _ l now.0 now.1, now.2)

-- s, with all values of e except the value at i
pub record IsGapped (s : Links) (e : End) (xs : List Value) (i : ℕ) : Type 0 where
  pub has : (k : ℕ) (v : Value) → Stands s e k v → (slice_get xs k ≡ Some v) × (k ≢ i)
  pub only : (k : ℕ) (v : Value) → slice_get xs k ≡ Some v → k ≢ i → Stands s e k v

pub IsGapped-remove : (s : Links) (l : Link) (e : End) (xs : List Value) (i : ℕ) (x : Value) → IsPlaced s → In l s → indexed_value l e ≡ Some (i, x) → IsEnd s e xs → IsGapped (set.remove s l) e xs i
IsGapped-remove s l e xs i x placed within here is = record {
  has = λ k v (m, left, at).
      let parts = In-remove s l m left in
      (is.has k v (m, parts.1, at), λ same. parts.0 (placed.once m l e i v x parts.1 within (subst (λ n. indexed_value m e ≡ Some (n, v)) same at) here));
  only = λ k v h ne.
      let was = is.only k v h in
      (was.0, In_remove s l was.0 (λ same. ne (sym (some_pair_parts i k x v (sym here ∙ subst (λ (y : Link). indexed_value y e ≡ Some (k, v)) same was.2)).0)) was.1, was.2);
}

pub IsGapped-renumbered_other : (s : Links) (d e : End) (r : ℕ → ℕ) (xs : List Value) (i : ℕ) → d ≢ e → IsGapped s d xs i → IsGapped (renumbered_links s e r) d xs i
IsGapped-renumbered_other s d e r xs i ne is = record {
  has = λ k v h. is.has k v (Stands-renumbered_other s e r d k v ne h);
  only = λ k v h other. Stands_renumbered_other s e r d k v ne (is.only k v h other);
}

-- the same after the gap is closed
pub IsEnd-lower : (s : Links) (e : End) (xs : List Value) (i : ℕ) → IsGapped s e xs i → IsEnd (renumbered_links s e (lower i)) e (remove xs i)
IsEnd-lower s e xs i is = record {
  has = λ k v h.
      let before = Stands-renumbered_links s e (lower i) k v h in
      let was = is.has before.0 v before.1 in
      subst (λ n. slice_get (remove xs i) n ≡ Some v) before.2 (at_lower before.0 v was.1 was.0);
  only = λ k v h. elim (cases_lt k i) [
    | inl lt ↦
        let was = is.only k v (sym (lists.slice_get-remove_below xs i k lt) ∙ h) (λ same. omega (arith, lt, same)) in
        subst (λ n. Stands (renumbered_links s e (lower i)) e n v) (lists.lower_below i k lt) (Stands_renumbered s e (lower i) k v was)
    | inr ge ↦
        let was = is.only (suc k) v (sym (lists.slice_get-remove_above xs i k ge) ∙ h) (λ same. omega (arith, ge, same)) in
        subst (λ n. Stands (renumbered_links s e (lower i)) e n v) (lists.lower_above i k ge) (Stands_renumbered s e (lower i) (suc k) v was)
  ];
}
  where
    above : (j : ℕ) (v : Value) → i < j → slice_get xs j ≡ Some v → slice_get (remove xs i) (lower i j) ≡ Some v
    above zero v gt h = absurd (omega (arith, gt))
    above (suc j) v gt h = rw (lists.lower_above i j (omega (arith, gt))) (lists.slice_get-remove_above xs i j (omega (arith, gt)) ∙ h)

    at_lower : (j : ℕ) (v : Value) → j ≢ i → slice_get xs j ≡ Some v → slice_get (remove xs i) (lower i j) ≡ Some v
    at_lower j v ne h = elim (cases_order j i) [
      | inl same ↦ absurd (ne same)
      | inr (inl lt) ↦ rw (lists.lower_below i j lt) (lists.slice_get-remove_below xs i j lt ∙ h)
      | inr (inr gt) ↦ above j v gt h
    ]

pub IsEnd-remove_none : (s : Links) (l : Link) (d : End) (xs : List Value) → indexed_value l d ≡ None → IsEnd s d xs → IsEnd (set.remove s l) d xs
IsEnd-remove_none s l d xs out is = record {
  has = λ k v (m, left, at). is.has k v (m, (In-remove s l m left).1, at);
  only = λ k v h.
      let was = is.only k v h in
      (was.0, In_remove s l was.0 (λ same. none-some _ (sym out ∙ subst (λ (y : Link). indexed_value y d ≡ Some (k, v)) same was.2)) was.1, was.2);
}

---------------------------------------------------------------- a shift

-- each value is where the shift takes it
slice_get-values_after_move : (xs : List Value) (to from k : ℕ) → from < length xs → to < length xs → slice_get (values_after_move xs to from) (shifted_index to from k) ≡ slice_get xs k
slice_get-values_after_move xs to from k f t =
    elim (slice_get xs from) as (λ o. slice_get xs from ≡ o → slice_get (put_back o xs to from) (shifted_index to from k) ≡ slice_get xs k) [
      | None ↦ λ h. absurd (omega (arith, f, not_within xs from h))
      | Some x ↦ λ h.
          let fits : to ≤ length (remove xs from) = omega (arith, t, lists.length_remove xs from f) in
          elim (cases_eq k from) [
            | inl same ↦ rw (lists.shifted_here to from k same) (lists.slice_get-insert_at (remove xs from) to x fits ∙ sym h ∙ ap (slice_get xs) (sym same))
            | inr other ↦ rw (lists.shifted_else to from k other) (lists.slice_get-insert_raise (remove xs from) to (lower from k) x fits ∙ lists.slice_get-remove_lower xs from k other)
          ]
    ] refl

pub IsEnd-shift : (s : Links) (e : End) (xs : List Value) (to from : ℕ) → from < length xs → to < length xs → IsEnd s e xs → IsEnd (renumbered_links s e (shifted_index to from)) e (values_after_move xs to from)
IsEnd-shift s e xs to from f t is = record {
  has = λ k v h.
      let before = Stands-renumbered_links s e (shifted_index to from) k v h in
      subst (λ n. slice_get (values_after_move xs to from) n ≡ Some v) before.2 (slice_get-values_after_move xs to from before.0 f t ∙ is.has before.0 v before.1);
  only = λ k v h.
      let back = lists.shifted_back to from k in
      let was = is.only (shifted_index from to k) v (sym (slice_get-values_after_move xs to from (shifted_index from to k) f t) ∙ subst (λ n. slice_get (values_after_move xs to from) n ≡ Some v) (sym back) h) in
      subst (λ n. Stands (renumbered_links s e (shifted_index to from)) e n v) back (Stands_renumbered s e (shifted_index to from) (shifted_index from to k) v was);
}

---------------------------------------------------------------- each position once

-- no two links are at one position
abbrev pub IsOnce : Links → Type 0
IsOnce s = (l m : Link) (e : End) (k : ℕ) (v w : Value) → In l s → In m s → indexed_value l e ≡ Some (k, v) → indexed_value m e ≡ Some (k, w) → l ≡ m

-- r gives different positions of e different numbers
abbrev pub KeepsApart : Links → End → (ℕ → ℕ) → Type 0
KeepsApart s e r = (j k : ℕ) (v w : Value) → Stands s e j v → Stands s e k w → r j ≡ r k → j ≡ k

pub IsOnce-renumbered_links : (s : Links) (e : End) (r : ℕ → ℕ) → IsOnce s → KeepsApart s e r → IsOnce (renumbered_links s e r)
IsOnce-renumbered_links s e r once apart l m d k v w in_l in_m at_l at_m =
    let a = In-renumbered_links s e r l in_l in
    let b = In-renumbered_links s e r m in_m in
    elim (same_end d e) as (λ t. same_end d e ≡ t → l ≡ m) [
      | true ↦ λ h.
          let same = same_end-true d e h in
          let pa = renumbered-some r (indexed_value a.0 e) k v (sym (indexed_value-renumbered_link a.0 e r) ∙ subst (λ (x : Link). indexed_value x e ≡ Some (k, v)) (sym a.2) (subst (λ (c : End). indexed_value l c ≡ Some (k, v)) same at_l)) in
          let pb = renumbered-some r (indexed_value b.0 e) k w (sym (indexed_value-renumbered_link b.0 e r) ∙ subst (λ (x : Link). indexed_value x e ≡ Some (k, w)) (sym b.2) (subst (λ (c : End). indexed_value m c ≡ Some (k, w)) same at_m)) in
          let j = apart pa.0 pb.0 v w (a.0, a.1, pa.1) (b.0, b.1, pb.1) (pa.2 ∙ sym pb.2) in
          let one = once a.0 b.0 e pb.0 v w a.1 b.1 (subst (λ n. indexed_value a.0 e ≡ Some (n, v)) j pa.1) pb.1 in
          sym a.2 ∙ ap (λ (x : Link). renumbered_link x e r) one ∙ b.2
      | false ↦ λ h.
          let ne : d ≢ e = λ same. true≢false (sym ((Decides-same_end d e).1 same) ∙ h) in
          let pa = sym (indexed_value-moved_other a.0 d e r ne) ∙ subst (λ (x : Link). indexed_value x d ≡ Some (k, v)) (sym a.2) at_l in
          let pb = sym (indexed_value-moved_other b.0 d e r ne) ∙ subst (λ (x : Link). indexed_value x d ≡ Some (k, w)) (sym b.2) at_m in
          sym a.2 ∙ ap (λ (x : Link). renumbered_link x e r) (once a.0 b.0 d k v w a.1 b.1 pa pb) ∙ b.2
    ] refl

pub IsOnce-remove : (s : Links) (k : Link) → IsOnce s → IsOnce (set.remove s k)
IsOnce-remove s k once l m e i v w in_l in_m at_l at_m = once l m e i v w (In-remove s k l in_l).1 (In-remove s k m in_m).1 at_l at_m

-- a link at positions that are free
abbrev pub IsVacant : Links → Link → Type 0
IsVacant s l = (e : End) (k : ℕ) (v w : Value) → indexed_value l e ≡ Some (k, v) → Stands s e k w → ⊥

pub IsOnce-insert : (s : Links) (n : Link) → IsOnce s → IsVacant s n → IsOnce (set.insert s n)
IsOnce-insert s n once free l m e i v w in_l in_m at_l at_m =
    elim (In-insert s n l in_l) [
      | inl a ↦ elim (In-insert s n m in_m) [
        | inl b ↦ a ∙ sym b
        | inr b ↦ absurd (free e i v w (subst (λ (x : Link). indexed_value x e ≡ Some (i, v)) a at_l) (m, b, at_m))
      ]
      | inr a ↦ elim (In-insert s n m in_m) [
        | inl b ↦ absurd (free e i w v (subst (λ (x : Link). indexed_value x e ≡ Some (i, w)) b at_m) (l, a, at_l))
        | inr b ↦ once l m e i v w a b at_l at_m
      ]
    ]

---------------------------------------------------------------- two features

abbrev pub AreTwoSided : Links → Type 0
AreTwoSided s = (l : Link) → In l s → HasTwoSides l.end l.far

HasTwoSides-far_moved : (e d : End) (x : Far) (r : ℕ → ℕ) → HasTwoSides e x → HasTwoSides e (far_moved x d r)
HasTwoSides-far_moved e d (At c j) r h = elim (same_end c d) as (λ b. HasTwoSides e (if b then At c (r j) else At c j)) [ true ↦ h | false ↦ h ]
HasTwoSides-far_moved e d (Alone n) r h = h
HasTwoSides-far_moved e d (Proxy t) r h = h

HasTwoSides-renumbered_link : (l : Link) (d : End) (r : ℕ → ℕ) → HasTwoSides l.end l.far → HasTwoSides (renumbered_link l d r).end (renumbered_link l d r).far
HasTwoSides-renumbered_link l d r h =
    elim (same_end l.end d) as (λ b. let m : Link = (if b then record l { index = r l.index } else record l { far = far_moved l.far d r }) in HasTwoSides m.end m.far) [
      | true ↦ h
      | false ↦ HasTwoSides-far_moved l.end d l.far r h
    ]

pub AreTwoSided-renumbered_links : (s : Links) (e : End) (r : ℕ → ℕ) → AreTwoSided s → AreTwoSided (renumbered_links s e r)
AreTwoSided-renumbered_links s e r apart m h =
    let from = In-renumbered_links s e r m h in
    subst (λ (x : Link). HasTwoSides x.end x.far) from.2 (HasTwoSides-renumbered_link from.0 e r (apart from.0 from.1))

pub AreTwoSided-insert : (s : Links) (n : Link) → AreTwoSided s → HasTwoSides n.end n.far → AreTwoSided (set.insert s n)
AreTwoSided-insert s n apart new l h = elim (In-insert s n l h) [
  | inl same ↦ subst (λ (x : Link). HasTwoSides x.end x.far) (sym same) new
  | inr old ↦ apart l old
]

pub AreTwoSided-remove : (s : Links) (n : Link) → AreTwoSided s → AreTwoSided (set.remove s n)
AreTwoSided-remove s n apart l h = apart l (In-remove s n l h).1
