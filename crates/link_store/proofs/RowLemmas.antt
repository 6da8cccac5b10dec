-- The set of the links of rows, after the changes of the rows.
use Rattle.std.proofs.Common.{◌≡◌, ℕ, zero, suc, ◌+◌, ◌<◌, ◌^◌, Bool, true, false, not, cond, List, [], ◌∷◌, ◌++◌, map, length, get_or, Option, Some, None, MatchOption, refl, sym, ap, ◌∙◌, subst, inl, inr, arith}
use Rattle.std.specs.Prelude.{⊤, find}
use Rattle.std.specs.Option.{option_map}
use Rattle.std.specs.List.{filter, All}
use Rattle.std.specs.FinSet as set
use Rattle.std.proofs.lemmas.Bool.{true≢false, false≢true, cases_Bool, not-true, not_from_false}
use Rattle.std.proofs.lemmas.Option.{slice_get_within, none-some, same_Some}
use Rattle.links.proofs.AmongLemmas.{Among-filter, Among_filter}
use Rattle.links.proofs.EditLemmas.{Among-map, Among_map, In-remove, In-renumbered_links, In_remove, In_renumbered}
use Rattle.links.proofs.EndLemmas.{Among, Among_cases, Among_head, Among_tail, from_list_HasLinks, items_HasLinks}
use Rattle.links.proofs.ScanLemmas.{find-some, is_value_at-indexed, is_value_at-true, one_with, same_find, same_links}
use Rattle.links.specs.LegalSets.{IsPlaced}
use Rattle.links.specs.Links.{In, Links, cut, cut_some, cut_value, end, lower, lowered_far, new_link, new_proxy, put, put_proxy, raise, renumbered_links, shift, shifted_index}
use Rattle.links.specs.Order.{link_cmp_exact, link_cmp_total}
use Rattle.links.specs.Indexed.{has_value, is_value_at, renumbered_link, indexed_value}
use Rattle.link_store.specs.Rows.{CanChange, CanMove, far_position, positions}
use Rattle.links.specs.declared.link.Far.TheVariants.{At, Alone, Proxy}
use Rattle.links.specs.declared.link.Far.{Far}
use Rattle.links.specs.declared.link.Link.{Link}
use Rattle.link_store.specs.declared.renumbering.Renumbering.TheVariants.{Raise, Lower, Shift}
use Rattle.link_store.specs.declared.renumbering.Renumbering.{Renumbering}
use Rattle.link_store.specs.declared.rows.LinkPositions.{LinkPositions}
use Rattle.mm_types.specs.declared.end.End.{End}
use Rattle.mm_types.specs.declared.numbers.FeatureNo.{FeatureNo}
use Rattle.mm_types.specs.declared.numbers.ObjectNo.{ObjectNo}
use Rattle.mm_types.specs.declared.value.Value.{Value}

-- the set of the links of rows
abbrev pub of_rows : List Link → Links
of_rows rows = set.from_list rows

pub of_rows-map : (rows : List Link) (e : End) (r : ℕ → ℕ) → of_rows (map (λ l. renumbered_link l e r) rows) ≡ renumbered_links (of_rows rows) e r
of_rows-map rows e r =
    let f : Link → Link = λ l. renumbered_link l e r in
    let old = from_list_HasLinks rows in
    let new = from_list_HasLinks (map f rows) in
    same_links _ _
    (λ m h. let from = Among-map f rows m (new.has m h) in subst (λ (x : Link). In x (renumbered_links (of_rows rows) e r)) from.2 (In_renumbered (of_rows rows) e r from.0 (old.only from.0 from.1)))
    (λ m h. let from = In-renumbered_links (of_rows rows) e r m h in subst (λ (x : Link). In x (of_rows (map f rows))) from.2 (new.only (f from.0) (Among_map f rows from.0 (old.has from.0 from.1))))

pub cut_value-rows : (rows : List Link) (e : End) (v : Value) → IsPlaced (of_rows rows) → cut_value (of_rows rows) e v ≡ cut_some (of_rows rows) (find (has_value e v) rows)
unfolding cut_value
cut_value-rows rows e v placed = ap (cut_some (of_rows rows)) (same_find (of_rows rows) (set.items (of_rows rows)) rows e v placed (items_HasLinks (of_rows rows)) (from_list_HasLinks rows))

-- without the rows that have v in e, the link that had it is gone
pub of_rows-filter : (rows : List Link) (e : End) (v : Value) (l : Link) → IsPlaced (of_rows rows) → find (has_value e v) rows ≡ Some l → of_rows (filter (λ x. not (is_value_at v (indexed_value x e))) rows) ≡ set.remove (of_rows rows) l
of_rows-filter rows e v l placed h =
    let p : Link → Bool = λ x. not (is_value_at v (indexed_value x e)) in
    let at = find-some rows e v l h in
    let old = from_list_HasLinks rows in
    let new = from_list_HasLinks (filter p rows) in
    same_links _ _
    (λ m q.
    let kept = Among-filter p rows m (new.has m q) in
    In_remove (of_rows rows) l m (λ same. true≢false (sym (is_value_at-indexed (indexed_value m e) at.1.0 v (subst (λ (x : Link). indexed_value x e ≡ Some (at.1.0, v)) (sym same) at.1.1)) ∙ not-true _ kept.1)) (old.only m kept.0))
    (λ m q.
    let left = In-remove (of_rows rows) l m q in
    new.only m (Among_filter p rows m (old.has m left.1) (not_from_false _ (elim (cases_Bool (is_value_at v (indexed_value m e))) [
      | inr is_not ↦ is_not
      | inl is_there ↦
          let here = is_value_at-true (indexed_value m e) v is_there in
          absurd (left.0 (one_with (of_rows rows) m l e v here.0 at.1.0 placed left.1 (old.only l at.0) here.1 at.1.1))
    ]))))

Among_get_or : (ls : List Link) (i : ℕ) (d : Link) → i < length ls → Among (get_or ls i d) ls
Among_get_or [] i d h = absurd (omega (arith, h))
Among_get_or (l ∷ ls) zero d h = Among_head l ls
Among_get_or (l ∷ ls) (suc i) d h = Among_tail _ l ls (Among_get_or ls i d (omega (arith, h)))

can_change : (r : Renumbering) (k : ℕ) → k + 1 < 2 ^ 32 → CanChange r k
can_change (Raise i) k h = h
can_change (Lower i) k h = tt
can_change (Shift to from) k h = h

can_move : (r : Renumbering) (o : Option (ℕ × Value)) → ((k : ℕ) (v : Value) → o ≡ Some (k, v) → k + 1 < 2 ^ 32) → MatchOption o ⊤ (λ p. CanChange r p.0)
can_move r None h = tt
can_move r (Some p) h = can_change r p.0 (h p.0 p.1 refl)

-- in a placed set each position can change
pub rows_can_move : (rows : List Link) (r : Renumbering) (e : End) → IsPlaced (of_rows rows) → All (CanMove r e) rows
rows_can_move rows r e placed i d h =
    let l = get_or rows i d in
    can_move r (indexed_value l e) (λ k v at.
    let within = (from_list_HasLinks rows).only l (Among_get_or rows i d h) in
    let below = slice_get_within (end (of_rows rows) e) k v ((placed.ends e).has k v (l, within, at)) in
    omega (arith, below, placed.few e))

---------------------------------------------------------------- what the edits of rows leave

pub rows_put : (rows rs ns : List Link) (link : Link) (e : End) (i : ℕ) (n : ObjectNo) (g c : Option FeatureNo) → rs ≡ map (λ l. renumbered_link l e (raise i)) rows → link ≡ new_link (of_rows rows) e i n g c → ns ≡ rs ++ link ∷ [] → of_rows ns ≡ put (of_rows rows) e i n g c
unfolding put
rows_put rows rs ns link e i n g c is new push =
    ap (λ (ls : List Link). of_rows ls) push
    ∙ set.from_list_push link_cmp_total link_cmp_exact rs link
    ∙ (λ j. set.insert ((ap (λ (ls : List Link). of_rows ls) is ∙ of_rows-map rows e (raise i)) j) (new j))

pub rows_shift : (rows rs : List Link) (e : End) (to from : ℕ) → rs ≡ map (λ l. renumbered_link l e (shifted_index to from)) rows → of_rows rs ≡ shift (of_rows rows) e to from
unfolding shift
rows_shift rows rs e to from is = ap (λ (ls : List Link). of_rows ls) is ∙ of_rows-map rows e (shifted_index to from)

pub rows_put_proxy : (rows rs ns : List Link) (e : End) (i : ℕ) (t : List ℕ) → rs ≡ map (λ l. renumbered_link l e (raise i)) rows → ns ≡ rs ++ new_proxy e i t ∷ [] → of_rows ns ≡ put_proxy (of_rows rows) e i t
unfolding put_proxy
rows_put_proxy rows rs ns e i t is push =
    ap (λ (ls : List Link). of_rows ls) push
    ∙ set.from_list_push link_cmp_total link_cmp_exact rs (new_proxy e i t)
    ∙ ap (λ (s : Links). set.insert s (new_proxy e i t)) (ap (λ (ls : List Link). of_rows ls) is ∙ of_rows-map rows e (raise i))

-- the rows after the gap of the near end is closed
near_rows : (rows os rs : List Link) (e : End) (v : Value) (l : Link) → IsPlaced (of_rows rows) → find (has_value e v) rows ≡ Some l → os ≡ filter (λ x. not (is_value_at v (indexed_value x e))) rows → rs ≡ map (λ x. renumbered_link x l.end (lower l.index)) os → of_rows rs ≡ renumbered_links (set.remove (of_rows rows) l) l.end (lower l.index)
near_rows rows os rs e v l placed at out is =
    ap (λ (ls : List Link). of_rows ls) is
    ∙ of_rows-map os l.end (lower l.index)
    ∙ ap (λ (s : Links). renumbered_links s l.end (lower l.index)) (ap (λ (ls : List Link). of_rows ls) out ∙ of_rows-filter rows e v l placed at)

pub rows_cut_far : (rows os rs fs : List Link) (e : End) (v : Value) (l : Link) (d : End) (j : ℕ) → IsPlaced (of_rows rows) → find (has_value e v) rows ≡ Some l → os ≡ filter (λ x. not (is_value_at v (indexed_value x e))) rows → rs ≡ map (λ x. renumbered_link x l.end (lower l.index)) os → l.far ≡ At d j → fs ≡ map (λ x. renumbered_link x d (lower j)) rs → of_rows fs ≡ cut_value (of_rows rows) e v
unfolding cut
rows_cut_far rows os rs fs e v l d j placed at out is far is_far =
    ap (λ (ls : List Link). of_rows ls) is_far
    ∙ of_rows-map rs d (lower j)
    ∙ ap (λ (s : Links). renumbered_links s d (lower j)) (near_rows rows os rs e v l placed at out is)
    ∙ ap (λ (x : Far). lowered_far (renumbered_links (set.remove (of_rows rows) l) l.end (lower l.index)) x) (sym far)
    ∙ sym (cut_value-rows rows e v placed ∙ ap (λ (o : Option Link). cut_some (of_rows rows) o) at)

not_far : (s : Links) (x : Far) → ((d : End) (j : ℕ) → x ≡ At d j → ⊥) → lowered_far s x ≡ s
not_far s (At d j) h = absurd (h d j refl)
not_far s (Alone n) h = refl
not_far s (Proxy t) h = refl

pub rows_cut_near : (rows os rs : List Link) (e : End) (v : Value) (l : Link) → IsPlaced (of_rows rows) → find (has_value e v) rows ≡ Some l → os ≡ filter (λ x. not (is_value_at v (indexed_value x e))) rows → rs ≡ map (λ x. renumbered_link x l.end (lower l.index)) os → ((d : End) (j : ℕ) → l.far ≡ At d j → ⊥) → of_rows rs ≡ cut_value (of_rows rows) e v
unfolding cut
rows_cut_near rows os rs e v l placed at out is none_far =
    near_rows rows os rs e v l placed at out is
    ∙ sym (not_far _ l.far none_far)
    ∙ sym (cut_value-rows rows e v placed ∙ ap (λ (o : Option Link). cut_some (of_rows rows) o) at)

pub rows_cut_none : (rows : List Link) (e : End) (v : Value) → IsPlaced (of_rows rows) → find (has_value e v) rows ≡ None → of_rows rows ≡ cut_value (of_rows rows) e v
rows_cut_none rows e v placed at = sym (cut_value-rows rows e v placed ∙ ap (λ (o : Option Link). cut_some (of_rows rows) o) at)

---------------------------------------------------------------- a cut by the positions of its link

found_spot : (o : Option Link) (x : LinkPositions) → option_map positions o ≡ Some x → (l : Link) × (o ≡ Some l) × (positions l ≡ x)
found_spot None x h = absurd (none-some x h)
found_spot (Some l) x h = (l, refl, same_Some (positions l) x h)

no_spot : (o : Option Link) → option_map positions o ≡ None → o ≡ None
no_spot None h = refl
no_spot (Some l) h = absurd (none-some (positions l) (sym h))

far_position-some : (x : Far) (d : End) (j : ℕ) → far_position x ≡ Some (d, j) → x ≡ At d j
far_position-some (At c i) d j h = let p = same_Some (c, i) (d, j) h in λ t. At (p t).0 (p t).1
far_position-some (Alone o) d j h = absurd (none-some _ h)
far_position-some (Proxy t) d j h = absurd (none-some _ h)

far_position-none : (x : Far) → far_position x ≡ None → (d : End) (j : ℕ) → x ≡ At d j → ⊥
far_position-none x h d j is = none-some (d, j) (sym h ∙ ap far_position is)

module _ (rows os rs : List Link) (e : End) (v : Value) (x : LinkPositions) (placed : IsPlaced (of_rows rows)) (at : option_map positions (find (has_value e v) rows) ≡ Some x) (out : os ≡ filter (λ l. not (has_value e v l)) rows) (is : rs ≡ map (λ l. renumbered_link l x.end (lower x.index)) os) where
  near_is : (l : Link) → positions l ≡ x → rs ≡ map (λ k. renumbered_link k l.end (lower l.index)) os
  near_is l same = subst (λ (y : LinkPositions). rs ≡ map (λ k. renumbered_link k y.end (lower y.index)) os) (sym same) is

  pub spot_cut_far : (fs : List Link) (d : End) (j : ℕ) → x.far ≡ Some (d, j) → fs ≡ map (λ l. renumbered_link l d (lower j)) rs → of_rows fs ≡ cut_value (of_rows rows) e v
  spot_cut_far fs d j far is_far =
      let found = found_spot (find (has_value e v) rows) x at in
      rows_cut_far rows os rs fs e v found.0 d j placed found.1 out (near_is found.0 found.2) (far_position-some found.0.far d j (ap (λ (y : LinkPositions). y.far) found.2 ∙ far)) is_far

  pub spot_cut_near : x.far ≡ None → of_rows rs ≡ cut_value (of_rows rows) e v
  spot_cut_near far =
      let found = found_spot (find (has_value e v) rows) x at in
      rows_cut_near rows os rs e v found.0 placed found.1 out (near_is found.0 found.2) (far_position-none found.0.far (ap (λ (y : LinkPositions). y.far) found.2 ∙ far))

pub spot_cut_none : (rows : List Link) (e : End) (v : Value) → IsPlaced (of_rows rows) → option_map positions (find (has_value e v) rows) ≡ None → of_rows rows ≡ cut_value (of_rows rows) e v
spot_cut_none rows e v placed at = rows_cut_none rows e v placed (no_spot (find (has_value e v) rows) at)
