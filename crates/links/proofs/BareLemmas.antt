-- A link without its positions: it has the same values and the same holder, and a cut does not change this for the other links.
use Rattle.std.proofs.Common.{◌≡◌, true, false, Option, Some, None, if◌then◌else◌, refl, sym, ap, ◌∙◌}
use Rattle.std.specs.FinSet as set
use Rattle.links.proofs.EditLemmas.{In-remove, In-renumbered_links}
use Rattle.links.proofs.PlaceLemmas.{far_value-bare, link_without_positions-renumbered_link}
use Rattle.links.specs.Holders.{held_through, holding_end}
use Rattle.links.specs.Links.{In, Links, cut, lower, lowered_far, renumbered_links}
use Rattle.links.specs.Indexed.{link_without_positions, bare_far, far_indexed, far_value, is_value_at, indexed_value}
use Rattle.links.specs.declared.link.Far.TheVariants.{At, Alone, Proxy}
use Rattle.links.specs.declared.link.Far.{Far}
use Rattle.links.specs.declared.link.Link.{Link}
use Rattle.mm_types.specs.Same.{node_value, same_end, same_value}
use Rattle.mm_types.specs.declared.end.End.{End}
use Rattle.mm_types.specs.declared.numbers.FeatureNo.{FeatureNo}
use Rattle.mm_types.specs.declared.numbers.Node.{Node}
use Rattle.mm_types.specs.declared.value.Value.{Value}

far_has-bare : (x : Far) (w : Value) (d : End) (v : Value) → is_value_at v (far_indexed (bare_far x) w d) ≡ is_value_at v (far_indexed x w d)
far_has-bare (At c j) w d v = elim (same_end c d) as (λ b. is_value_at v (if b then Some (0, w) else None) ≡ is_value_at v (if b then Some (j, w) else None)) [ true ↦ refl | false ↦ refl ]
far_has-bare (Alone n) w d v = refl
far_has-bare (Proxy t) w d v = refl

has-link_without_positions : (l : Link) (d : End) (v : Value) → is_value_at v (indexed_value (link_without_positions l) d) ≡ is_value_at v (indexed_value l d)
has-link_without_positions l d v =
    elim (same_end l.end d) as (λ b. is_value_at v (if b then Some (0, far_value (bare_far l.far)) else far_indexed (bare_far l.far) (node_value l.end.node) d) ≡ is_value_at v (if b then Some (l.index, far_value l.far) else far_indexed l.far (node_value l.end.node) d)) [
      | true ↦ ap (λ (w : Value). same_value w v) (far_value-bare l.far)
      | false ↦ far_has-bare l.far (node_value l.end.node) d v
    ]

pub same_has : (k l : Link) (d : End) (v : Value) → link_without_positions k ≡ link_without_positions l → is_value_at v (indexed_value k d) ≡ is_value_at v (indexed_value l d)
same_has k l d v same = sym (has-link_without_positions k d v) ∙ ap (λ (x : Link). is_value_at v (indexed_value x d)) same ∙ has-link_without_positions l d v

holding_end-link_without_positions : (l : Link) (n : Node) → holding_end (link_without_positions l) n ≡ holding_end l n
holding_end-link_without_positions l n = through l.container
  where
    by_far : (h : FeatureNo) (x : Far) → held_through (Some h) (record { end = l.end; index = 0; far = bare_far x; container = l.container }) n ≡ held_through (Some h) (record { end = l.end; index = l.index; far = x; container = l.container }) n
    by_far h (At d j) = refl
    by_far h (Alone k) = refl
    by_far h (Proxy t) = refl

    through : (c : Option FeatureNo) → held_through c (link_without_positions l) n ≡ held_through c l n
    through None = refl
    through (Some h) = by_far h l.far

pub same_holding : (k l : Link) (n : Node) → link_without_positions k ≡ link_without_positions l → holding_end k n ≡ holding_end l n
same_holding k l n same = sym (holding_end-link_without_positions k n) ∙ ap (λ (x : Link). holding_end x n) same ∙ holding_end-link_without_positions l n

---------------------------------------------------------------- a cut

-- each link of t is a link of s, up to its positions
abbrev pub IsPart : Links → Links → Type 0
IsPart t s = (k : Link) → In k t → (l : Link) × In l s × (link_without_positions k ≡ link_without_positions l)

In-lowered : (near : Links) (x : Far) → IsPart (lowered_far near x) near
In-lowered near (At d j) m h = let from = In-renumbered_links near d (lower j) m h in (from.0, from.1, ap (λ (x : Link). link_without_positions x) (sym from.2) ∙ link_without_positions-renumbered_link from.0 d (lower j))
In-lowered near (Alone n) m h = (m, h, refl)
In-lowered near (Proxy t) m h = (m, h, refl)

-- a link that remains after a cut was there before
pub In-cut : (s : Links) (l : Link) → IsPart (cut s l) s
unfolding cut
In-cut s l m h =
    let near = renumbered_links (set.remove s l) l.end (lower l.index) in
    let far = In-lowered near l.far m h in
    let from = In-renumbered_links (set.remove s l) l.end (lower l.index) far.0 far.1 in
    (from.0, (In-remove s l from.0 from.1).1, far.2 ∙ ap (λ (x : Link). link_without_positions x) (sym from.2) ∙ link_without_positions-renumbered_link from.0 l.end (lower l.index))
