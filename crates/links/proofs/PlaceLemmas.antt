-- Values that the test finds the same are equal too; and a link whose position in one end is changed has the same positions in all other
-- ends.
use Rattle.std.proofs.Common.{◌≡◌, ◌≢◌, ℕ, true, false, List, Some, None, if◌then◌else◌, refl, sym, ◌∙◌, subst, eqb-true}
use Rattle.std.specs.Option.{option_map}
use Rattle.std.specs.Bool.{Decides}
use Rattle.links.specs.LegalSets.{IsObject}
use Rattle.links.specs.Indexed.{link_without_positions, bare_far, far_moved, far_indexed, far_value, renumbered_link, indexed_value}
use Rattle.links.specs.declared.link.Far.TheVariants.{At, Alone, Proxy}
use Rattle.links.specs.declared.link.Far.{Far}
use Rattle.links.specs.declared.link.Link.{Link}
use Rattle.mm_types.proofs.SameLemmas.{same_end-self, same_end-true, same_node-self}
use Rattle.mm_types.specs.Same.{node_value, same_end, same_feature, same_node}
use Rattle.mm_types.specs.declared.end.End.{End}
use Rattle.mm_types.specs.declared.numbers.FeatureNo.{FeatureNo}
use Rattle.mm_types.specs.declared.numbers.Node.TheVariants as node
use Rattle.mm_types.specs.declared.numbers.Node.{Node}
use Rattle.mm_types.specs.declared.value.Value.TheVariants as value
use Rattle.mm_types.specs.declared.value.Value.{Value}

pub same_node_if : (x y : Node) → x ≡ y → same_node x y ≡ true
same_node_if x y h = subst (λ (z : Node). same_node x z ≡ true) h (same_node-self x)

pub same_feature-true : (f g : FeatureNo) → same_feature f g ≡ true → f ≡ g
same_feature-true f g h = let n = eqb-true f.0 g.0 h in λ i. record { 0 = n i }

-- a node that is an object is known by its value
pub same_node_value : (m n : Node) → IsObject m → node_value m ≡ node_value n → m ≡ n
same_node_value (node.Object a) (node.Object b) is h = cc
same_node_value (node.Object a) (node.Resource b) is h = cc
same_node_value (node.Resource a) n is h = absurd is

pub not_proxy : (t : List ℕ) (n : Node) → value.Proxy t ≡ node_value n → ⊥
not_proxy t (node.Object a) h = cc
not_proxy t (node.Resource a) h = cc

---------------------------------------------------------------- ends

pub Decides-same_end : (d e : End) → Decides (same_end d e) (d ≡ e)
Decides-same_end d e = (same_end-true d e, λ h. subst (λ (x : End). same_end d x ≡ true) h (same_end-self d))

pub ne-same_end : (d e : End) → d ≢ e → same_end d e ≡ false
ne-same_end d e h = elim (same_end d e) as (λ b. same_end d e ≡ b → b ≡ false) [ true ↦ λ p. absurd (h (same_end-true d e p)) | false ↦ λ _. refl ] refl

-- a position changed by r
abbrev pub renumbered_indexed : (ℕ → ℕ) → ℕ × Value → ℕ × Value
renumbered_indexed r p = (r p.0, p.1)

far_value-moved : (x : Far) (e : End) (r : ℕ → ℕ) → far_value (far_moved x e r) ≡ far_value x
far_value-moved (At d j) e r = elim (same_end d e) as (λ b. far_value (if b then At d (r j) else At d j) ≡ node_value d.node) [ true ↦ refl | false ↦ refl ]
far_value-moved (Alone n) e r = refl
far_value-moved (Proxy t) e r = refl

far_indexed-moved : (x : Far) (v : Value) (e : End) (r : ℕ → ℕ) → far_indexed (far_moved x e r) v e ≡ option_map (renumbered_indexed r) (far_indexed x v e)
far_indexed-moved (At d j) v e r =
    elim (same_end d e) as (λ b. same_end d e ≡ b → far_indexed (if b then At d (r j) else At d j) v e ≡ option_map (renumbered_indexed r) (if b then Some (j, v) else None)) [
      | true ↦ λ h. rw h refl
      | false ↦ λ h. rw h refl
    ] refl
far_indexed-moved (Alone n) v e r = refl
far_indexed-moved (Proxy t) v e r = refl

-- its position in that end is renumbered
pub indexed_value-renumbered_link : (l : Link) (e : End) (r : ℕ → ℕ) → indexed_value (renumbered_link l e r) e ≡ option_map (renumbered_indexed r) (indexed_value l e)
indexed_value-renumbered_link l e r =
    elim (same_end l.end e) as (λ b. same_end l.end e ≡ b → indexed_value (if b then record l { index = r l.index } else record l { far = far_moved l.far e r }) e ≡ option_map (renumbered_indexed r) (if b then Some (l.index, far_value l.far) else far_indexed l.far (node_value l.end.node) e)) [
      | true ↦ λ h. rw h refl
      | false ↦ λ h. rw h (far_indexed-moved l.far (node_value l.end.node) e r)
    ] refl

far_indexed-moved_other : (x : Far) (v : Value) (d e : End) (r : ℕ → ℕ) → d ≢ e → far_indexed (far_moved x e r) v d ≡ far_indexed x v d
far_indexed-moved_other (At c j) v d e r ne =
    elim (same_end c e) as (λ b. same_end c e ≡ b → far_indexed (if b then At c (r j) else At c j) v d ≡ far_indexed (At c j) v d) [
      | true ↦ λ h. let other = ne-same_end c d (λ (same : c ≡ d). ne (sym same ∙ same_end-true c e h)) in rw other refl
      | false ↦ λ h. refl
    ] refl
far_indexed-moved_other (Alone n) v d e r ne = refl
far_indexed-moved_other (Proxy t) v d e r ne = refl

-- its position in another end is as it was
pub indexed_value-moved_other : (l : Link) (d e : End) (r : ℕ → ℕ) → d ≢ e → indexed_value (renumbered_link l e r) d ≡ indexed_value l d
indexed_value-moved_other l d e r ne =
    elim (same_end l.end e) as (λ b. same_end l.end e ≡ b → indexed_value (if b then record l { index = r l.index } else record l { far = far_moved l.far e r }) d ≡ indexed_value l d) [
      | true ↦ λ h. let other = ne-same_end l.end d (λ (same : l.end ≡ d). ne (sym same ∙ same_end-true l.end e h)) in rw other refl
      | false ↦ λ h. rw (far_value-moved l.far e r, far_indexed-moved_other l.far (node_value l.end.node) d e r ne) refl
    ] refl

bare_far-moved : (x : Far) (e : End) (r : ℕ → ℕ) → bare_far (far_moved x e r) ≡ bare_far x
bare_far-moved (At d j) e r = elim (same_end d e) as (λ b. bare_far (if b then At d (r j) else At d j) ≡ At d 0) [ true ↦ refl | false ↦ refl ]
bare_far-moved (Alone n) e r = refl
bare_far-moved (Proxy t) e r = refl

-- a change of positions leaves the rest of the link
pub link_without_positions-renumbered_link : (l : Link) (e : End) (r : ℕ → ℕ) → link_without_positions (renumbered_link l e r) ≡ link_without_positions l
link_without_positions-renumbered_link l e r = elim (same_end l.end e) as (λ b. link_without_positions (if b then record l { index = r l.index } else record l { far = far_moved l.far e r }) ≡ link_without_positions l) [
  | true ↦ refl
  | false ↦ λ i. record { end = l.end; index = 0; far = bare_far-moved l.far e r i; container = l.container }
]

pub far_value-bare : (x : Far) → far_value (bare_far x) ≡ far_value x
far_value-bare (At d j) = refl
far_value-bare (Alone n) = refl
far_value-bare (Proxy t) = refl
