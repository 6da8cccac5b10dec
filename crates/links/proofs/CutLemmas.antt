-- The ends after a cut and after a shift; each link still has a position of its own.
use Rattle.std.proofs.Common.{◌≡◌, ◌≢◌, ℕ, ◌<◌, ◌≤◌, List, [], length, Option, Some, None, refl, sym, ap, ◌∙◌, subst, inl, inr, arith}
use Rattle.std.specs.List.{remove}
use Rattle.std.specs.FinSet as set
use Rattle.std.proofs.lemmas.Bool.{false≢true}
use Rattle.std.proofs.lemmas.Option.{none-some}
use Rattle.links.proofs.EditLemmas.{AreTwoSided, AreTwoSided-remove, AreTwoSided-renumbered_links, IsEnd-lower, IsEnd-remove_none, IsEnd-renumbered_other, IsEnd-shift, IsGapped, IsGapped-remove, IsGapped-renumbered_other, IsOnce, IsOnce-remove, IsOnce-renumbered_links, KeepsApart}
use Rattle.links.proofs.EndLemmas.{end_is}
use Rattle.links.proofs.ListLemmas as lists
use Rattle.links.proofs.PlaceLemmas.{ne-same_end}
use Rattle.links.proofs.PutLemmas.{cases_end, placed_from}
use Rattle.links.specs.LegalSets.{HasTwoSides, IsDistinct, IsEnd, IsPlaced, most}
use Rattle.links.specs.Links.{In, Links, cut, end, list_without, lower, lowered_far, renumbered_links, shift, shifted_index}
use Rattle.mm_types.specs.Lists.{values_after_move}
use Rattle.links.specs.Order.{link_cmp}
use Rattle.links.specs.Indexed.{far_value, indexed_value}
use Rattle.links.specs.declared.link.Far.TheVariants.{At, Alone, Proxy}
use Rattle.links.specs.declared.link.Far.{Far}
use Rattle.links.specs.declared.link.Link.{Link}
use Rattle.mm_types.proofs.SameLemmas.{same_end-self}
use Rattle.mm_types.specs.Same.{node_value}
use Rattle.mm_types.specs.declared.end.End.{End}
use Rattle.mm_types.specs.declared.numbers.ObjectNo.{ObjectNo}
use Rattle.mm_types.specs.declared.value.Value.{Value}

---------------------------------------------------------------- cut

-- the positions of a link, by its two sides
pub indexed_near : (l : Link) → indexed_value l l.end ≡ Some (l.index, far_value l.far)
indexed_near l = rw (same_end-self l.end) refl

pub indexed_at : (l : Link) (c : End) (j : ℕ) → l.far ≡ At c j → l.end ≢ c → indexed_value l c ≡ Some (j, node_value l.end.node)
indexed_at l c j h ne = let other = ne-same_end l.end c ne in rw (other, h, same_end-self c) refl

pub indexed_out : (l : Link) (c d : End) (j : ℕ) → l.far ≡ At c j → l.end ≢ d → c ≢ d → indexed_value l d ≡ None
indexed_out l c d j h ne_e ne_c = let oe = ne-same_end l.end d ne_e in let oc = ne-same_end c d ne_c in rw (oe, h, oc) refl

pub indexed_alone : (l : Link) (d : End) (n : ObjectNo) → l.far ≡ Alone n → l.end ≢ d → indexed_value l d ≡ None
indexed_alone l d n h ne = let other = ne-same_end l.end d ne in rw (other, h) refl

pub indexed_proxy : (l : Link) (d : End) (t : List ℕ) → l.far ≡ Proxy t → l.end ≢ d → indexed_value l d ≡ None
indexed_proxy l d t h ne = let other = ne-same_end l.end d ne in rw (other, h) refl

module _ (s : Links) (placed : IsPlaced s) (l : Link) (within : In l s) where
  -- the set without the link, in which then the gap of the near end is closed
  abbrev less : Links
  less = set.remove s l

  abbrev near : Links
  near = renumbered_links less l.end (lower l.index)

  near_end : IsEnd near l.end (remove (end s l.end) l.index)
  near_end = IsEnd-lower less l.end (end s l.end) l.index (IsGapped-remove s l l.end (end s l.end) l.index (far_value l.far) placed within (indexed_near l) (placed.ends l.end))

  other_end : (d : End) → l.end ≢ d → indexed_value l d ≡ None → IsEnd near d (end s d)
  other_end d ne out = IsEnd-renumbered_other less d l.end (lower l.index) (end s d) (λ h. ne (sym h)) (IsEnd-remove_none s l d (end s d) out (placed.ends d))

  far_gap : (c : End) (j : ℕ) → l.far ≡ At c j → l.end ≢ c → IsGapped near c (end s c) j
  far_gap c j h ne = IsGapped-renumbered_other less c l.end (lower l.index) (end s c) j (λ e. ne (sym e)) (IsGapped-remove s l c (end s c) j (node_value l.end.node) placed within (indexed_at l c j h ne) (placed.ends c))

  apart_at : (c : End) (j : ℕ) → l.far ≡ At c j → l.end ≢ c
  apart_at c j h same = (subst (λ (x : Far). HasTwoSides l.end x) h (placed.sides l within)).0 (λ i. (sym same i).feature.0)

  -- the case that the far side is at no end
  one_end : (d : End) → (l.end ≢ d → indexed_value l d ≡ None) → IsEnd near d (list_without (end s d) (indexed_value l d))
  one_end d out = elim (cases_end l.end d) [
    | inl same ↦ subst (λ (y : End). IsEnd near y (list_without (end s y) (indexed_value l y))) same (subst (λ (o : Option (ℕ × Value)). IsEnd near l.end (list_without (end s l.end) o)) (sym (indexed_near l)) near_end)
    | inr ne ↦ subst (λ (o : Option (ℕ × Value)). IsEnd near d (list_without (end s d) o)) (sym (out ne)) (other_end d ne (out ne))
  ]

  cut_end : (x : Far) → l.far ≡ x → (d : End) → IsEnd (lowered_far near x) d (list_without (end s d) (indexed_value l d))
  cut_end (At c j) h d = elim (cases_end l.end d) [
    | inl same ↦ subst (λ (y : End). IsEnd (renumbered_links near c (lower j)) y (list_without (end s y) (indexed_value l y))) same
        (subst (λ (o : Option (ℕ × Value)). IsEnd (renumbered_links near c (lower j)) l.end (list_without (end s l.end) o)) (sym (indexed_near l))
        (IsEnd-renumbered_other near l.end c (lower j) (remove (end s l.end) l.index) (apart_at c j h) near_end))
    | inr ne ↦ elim (cases_end c d) [
      | inl same ↦ subst (λ (y : End). IsEnd (renumbered_links near c (lower j)) y (list_without (end s y) (indexed_value l y))) same
          (subst (λ (o : Option (ℕ × Value)). IsEnd (renumbered_links near c (lower j)) c (list_without (end s c) o)) (sym (indexed_at l c j h (apart_at c j h)))
          (IsEnd-lower near c (end s c) j (far_gap c j h (apart_at c j h))))
      | inr ne_c ↦
          let out = indexed_out l c d j h ne ne_c in
          subst (λ (o : Option (ℕ × Value)). IsEnd (renumbered_links near c (lower j)) d (list_without (end s d) o)) (sym out)
          (IsEnd-renumbered_other near d c (lower j) (end s d) (λ e. ne_c (sym e)) (other_end d ne out))
    ]
  ]
  cut_end (Alone n) h d = one_end d (λ ne. indexed_alone l d n h ne)
  cut_end (Proxy t) h d = one_end d (λ ne. indexed_proxy l d t h ne)

  IsEnd-cut : (d : End) → IsEnd (cut s l) d (list_without (end s d) (indexed_value l d))
  unfolding cut
  IsEnd-cut d = cut_end l.far refl d

  -- each end loses the value of the link
  pub end-cut : (d : End) → end (cut s l) d ≡ list_without (end s d) (indexed_value l d)
  end-cut d = end_is (cut s l) d (list_without (end s d) (indexed_value l d)) (IsEnd-cut d)

  near_apart : KeepsApart less l.end (lower l.index)
  near_apart j k v w a b h =
      let gap = IsGapped-remove s l l.end (end s l.end) l.index (far_value l.far) placed within (indexed_near l) (placed.ends l.end) in
      lists.lower_injective l.index j k (gap.has j v a).1 (gap.has k w b).1 h

  near_once : IsOnce near
  near_once = IsOnce-renumbered_links less l.end (lower l.index) (IsOnce-remove s l placed.once) near_apart

  cut_once : (x : Far) → l.far ≡ x → IsOnce (lowered_far near x)
  cut_once (At c j) h = IsOnce-renumbered_links near c (lower j) near_once (λ a b v w p q e.
      let gap = far_gap c j h (apart_at c j h) in
      lists.lower_injective j a b (gap.has a v p).1 (gap.has b w q).1 e)
  cut_once (Alone n) h = near_once
  cut_once (Proxy t) h = near_once

  near_two : AreTwoSided near
  near_two = AreTwoSided-renumbered_links less l.end (lower l.index) (AreTwoSided-remove s l placed.sides)

  cut_apart : (x : Far) → AreTwoSided (lowered_far near x)
  cut_apart (At c j) = AreTwoSided-renumbered_links near c (lower j) near_two
  cut_apart (Alone n) = near_two
  cut_apart (Proxy t) = near_two

  without_distinct : (xs : List Value) (o : Option (ℕ × Value)) → IsDistinct xs → IsDistinct (list_without xs o)
  without_distinct xs None d = d
  without_distinct xs (Some p) d = lists.distinct_remove xs p.0 d

  without_few : (xs : List Value) (o : Option (ℕ × Value)) → length xs ≤ most → length (list_without xs o) ≤ most
  without_few xs None h = h
  without_few xs (Some p) h = omega (arith, h, lists.length_remove_le xs p.0)

  pub cut_placed : IsPlaced (cut s l)
  unfolding cut
  cut_placed = placed_from (cut s l) (λ d. (list_without (end s d) (indexed_value l d), IsEnd-cut d, without_distinct (end s d) (indexed_value l d) (placed.distinct d), without_few (end s d) (indexed_value l d) (placed.few d))) (cut_once l.far refl) (cut_apart l.far)

---------------------------------------------------------------- shift

module _ (s : Links) (placed : IsPlaced s) (e : End) (to from : ℕ) (f : from < length (end s e)) (t : to < length (end s e)) where
  IsEnd-shift_near : IsEnd (shift s e to from) e (values_after_move (end s e) to from)
  unfolding shift
  IsEnd-shift_near = IsEnd-shift s e (end s e) to from f t (placed.ends e)

  IsEnd-shift_other : (d : End) → e ≢ d → IsEnd (shift s e to from) d (end s d)
  unfolding shift
  IsEnd-shift_other d ne = IsEnd-renumbered_other s d e (shifted_index to from) (end s d) (λ h. ne (sym h)) (placed.ends d)

  pub end-shift_near : end (shift s e to from) e ≡ values_after_move (end s e) to from
  end-shift_near = end_is (shift s e to from) e (values_after_move (end s e) to from) IsEnd-shift_near

  pub end-shift_other : (d : End) → e ≢ d → end (shift s e to from) d ≡ end s d
  end-shift_other d ne = end_is (shift s e to from) d (end s d) (IsEnd-shift_other d ne)

  pub shift_placed : IsPlaced (shift s e to from)
  unfolding shift
  shift_placed = placed_from (shift s e to from) (λ d. elim (cases_end e d) [
    | inl same ↦ subst (λ (x : End). (xs : List Value) × IsEnd (shift s e to from) x xs × IsDistinct xs × (length xs ≤ most)) same (values_after_move (end s e) to from, IsEnd-shift_near, lists.distinct_shifted (end s e) to from f t (placed.distinct e), subst (λ n. n ≤ most) (sym (lists.length_shifted (end s e) to from f t)) (placed.few e))
    | inr ne ↦ (end s d, IsEnd-shift_other d ne, placed.distinct d, placed.few d)
  ])
      (IsOnce-renumbered_links s e (shifted_index to from) placed.once (λ j k v w a b h. sym (lists.shifted_back from to j) ∙ ap (shifted_index from to) h ∙ lists.shifted_back from to k))
      (AreTwoSided-renumbered_links s e (shifted_index to from) placed.sides)

---------------------------------------------------------------- the empty set

pub none_placed : IsPlaced (set.empty {R = link_cmp})
none_placed = placed_from (set.empty {R = link_cmp}) (λ e. ([], record { has = λ k v (l, h, at). absurd (false≢true (sym (set.contains-empty link_cmp l) ∙ h)); only = λ k v h. absurd (none-some v h) }, λ j k v a b. absurd (none-some v a), omega arith))
    (λ l m e k v w a b p q. absurd (false≢true (sym (set.contains-empty link_cmp l) ∙ a))) (λ l h. absurd (false≢true (sym (set.contains-empty link_cmp l) ∙ h)))
