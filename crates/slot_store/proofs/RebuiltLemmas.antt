-- Lists that are the ends of a placed set of links of known kinds: they satisfy the invariant, and stand for that set.
use Rattle.std.proofs.Common.{◌≡◌, ℕ, ◌≤◌, true, false, List, length, Option, Some, None, if◌then◌else◌, refl, sym, ap, ◌∙◌, subst}
use Rattle.std.specs.List.{slice_get}
use Rattle.std.proofs.lemmas.Option.{none-some, some_pair_parts}
use Rattle.mm_types.specs.Ends.{index_in}
use Rattle.mm_types.specs.Same.{node_value, same_end}
use Rattle.mm_types.specs.declared.numbers.FeatureNo.{FeatureNo}
use Rattle.mm_types.specs.declared.numbers.Node.{Node}
use Rattle.mm_types.specs.declared.numbers.Node.TheVariants as node
use Rattle.mm_types.specs.declared.numbers.ObjectNo.{ObjectNo}
use Rattle.mm_types.specs.declared.end.End.{End}
use Rattle.mm_types.specs.declared.value.Value.{Value}
use Rattle.mm_types.specs.declared.value.Value.TheVariants as value
use Rattle.links.specs.declared.link.Far.{Far}
use Rattle.links.specs.declared.link.Far.TheVariants.{At, Alone, Proxy}
use Rattle.links.specs.declared.link.Link.{Link}
use Rattle.links.specs.LegalSets.{AreKinds, AreOfKind, HasTwoSides, IsDistinct, IsObject, IsOfKind, IsPlaced, Kinds, most}
use Rattle.links.specs.Links.{Links, end, far_end, joined_link}
use Rattle.links.specs.Indexed.{far_indexed, far_value, indexed_value}
use Rattle.links.proofs.EndLemmas.{from_list_HasLinks}
use Rattle.links.proofs.KindLemmas.{kind_joined}
use Rattle.links.proofs.SameLinksLemmas.{same_by_ends}
use Rattle.links.proofs.SideLemmas.{both_ends, paired}
use Rattle.node_slots.specs.Cells.{Cells, HasKeys}
use Rattle.slot_store.specs.CellLinks.{AreLists, IsMutual, IsReference, all_links, cell_links, link_from, link_to}
use Rattle.slot_store.proofs.LinkLemmas.{all_back, end-lists, lists_placed}
use Rattle.slot_store.proofs.TellingLemmas.{IsTold, kind_pairing}

---------------------------------------------------------------- references

node_reference : (n : Node) → IsObject n → IsReference (node_value n)
node_reference (node.Object o) is = tt
node_reference (node.Resource r) is = absurd is

far_reference : (e : End) (x : Far) → HasTwoSides e x → IsReference (far_value x)
far_reference e (At d j) two = node_reference d.node two.2
far_reference e (Alone o) two = tt
far_reference e (Proxy t) two = tt

there_reference : (e : End) (x : Far) → HasTwoSides e x → (y : End) (k : ℕ) (v : Value) → far_indexed x (node_value e.node) y ≡ Some (k, v) → IsReference v
there_reference e (At d j) two y k v =
    elim (same_end d y) as (λ b. let p : Option (ℕ × Value) = (if b then Some (j, node_value e.node) else None) in p ≡ Some (k, v) → IsReference v) [
      | true ↦ λ at. subst IsReference (some_pair_parts j k (node_value e.node) v at).1 (node_reference e.node two.1)
      | false ↦ λ at. absurd (let w : ℕ × Value = (k, v) in none-some w at)
    ]
there_reference e (Alone o) two y k v = λ at. absurd (let w : ℕ × Value = (k, v) in none-some w at)
there_reference e (Proxy t) two y k v = λ at. absurd (let w : ℕ × Value = (k, v) in none-some w at)

-- only objects and proxies are at the positions of a link
place_reference : (l : Link) → HasTwoSides l.end l.far → (y : End) (k : ℕ) (v : Value) → indexed_value l y ≡ Some (k, v) → IsReference v
place_reference l two y k v =
    elim (same_end l.end y) as (λ b. let p : Option (ℕ × Value) = (if b then Some (l.index, far_value l.far) else far_indexed l.far (node_value l.end.node) y) in p ≡ Some (k, v) → IsReference v) [
      | true ↦ λ at. subst IsReference (some_pair_parts l.index k (far_value l.far) v at).1 (far_reference l.end l.far two)
      | false ↦ λ at. there_reference l.end l.far two y k v at
    ]

---------------------------------------------------------------- the invariant

module _ (m : Kinds) (meta : AreKinds m) (s : Links) (placed : IsPlaced s) (of : AreOfKind m s) (d : Cells) (es : List End) (keys : HasKeys d es) (told : IsTold m d) (same : (x : End) → end s x ≡ d.vals x) where
  stands : (e : End) (k : ℕ) (v : Value) → slice_get (d.vals e) k ≡ Some v → slice_get (end s e) k ≡ Some v
  stands e k v h = ap (λ (xs : List Value). slice_get xs k) (same e) ∙ h

  references : (e : End) (k : ℕ) (v : Value) → slice_get (d.vals e) k ≡ Some v → IsReference v
  references e k v h = let at = (placed.ends e).only k v (stands e k v h) in place_reference at.0 (placed.sides at.0 at.1) e k v at.2

  opposite_of : (e : End) (k : ℕ) (o : ObjectNo) (g : Option FeatureNo) → slice_get (d.vals e) k ≡ Some (value.Object o) → (d.pairing e).opposite ≡ g → m.opposite e.feature ≡ g
  opposite_of e k o g h q = (λ i. (sym (told e k (value.Object o) h) i).opposite) ∙ q

  back : (e : End) (k : ℕ) (o : ObjectNo) (g : FeatureNo) → slice_get (d.vals e) k ≡ Some (value.Object o) → m.opposite e.feature ≡ Some g → (j : ℕ) × (slice_get (d.vals (far_end o g)) j ≡ Some (node_value e.node))
  back e k o g h q =
      let b = both_ends s e (far_end o g) placed (paired m s e.feature g of q) k (stands e k (value.Object o) h) in
      (b.0, ap (λ (xs : List Value). slice_get xs b.0) (sym (same (far_end o g))) ∙ b.1)

  mutual_at : (n : Node) (f : FeatureNo) (k : ℕ) (o : ObjectNo) (g : FeatureNo) → let e : End = record { node = n; feature = f } in slice_get (d.vals e) k ≡ Some (value.Object o) → m.opposite f ≡ Some g → IsMutual d e o g
  mutual_at (node.Resource r) f k o g h q =
      let e : End = record { node = node.Resource r; feature = f } in
      let b = back e k o g h q in
      absurd (references (far_end o g) b.0 value.Null b.1)
  mutual_at (node.Object p) f k o g h q =
      let e : End = record { node = node.Object p; feature = f } in
      let b = back e k o g h q in
      let far = told (far_end o g) b.0 (value.Object p) b.1 in
      record {
        apart = meta.two f g q;
        object = tt;
        back = b;
        opposite = (λ i. (far i).opposite) ∙ meta.inverse f g q;
        container = (λ i. (far i).container) ∙ sym (meta.one_container f g q) ∙ (λ i. (sym (told e k (value.Object o) h) i).container);
      }

  pub rebuilt : AreLists d es
  rebuilt = record {
    keys = keys;
    references = references;
    mutual_ = λ e k o g h q. mutual_at e.node e.feature k o g h (opposite_of e k o (Some g) h q);
    distinct = λ e. subst IsDistinct (same e) (placed.distinct e);
    few = λ e. subst (λ (xs : List Value). length xs ≤ most) (same e) (placed.few e);
  }

  ---------------------------------------------------------------- the set

  kind_to : (e : End) (k : ℕ) (o : ObjectNo) (g : Option FeatureNo) → (d.pairing e).opposite ≡ g → d.pairing e ≡ kind_pairing m e.feature → IsOfKind m (link_to d e k o g)
  kind_to e k o None q is = record { far = (λ i. (sym is i).opposite) ∙ q; container = λ i. (is i).container }
  kind_to e k o (Some g) q is =
      let y = far_end o g in
      let j = index_in (d.vals y) (node_value e.node) in
      let mq = (λ i. (sym is i).opposite) ∙ q in
      subst (λ (h : Option FeatureNo). IsOfKind m (joined_link e k y j h)) (λ i. (sym is i).container)
      (kind_joined m e k y j mq (meta.inverse e.feature g mq) (meta.two e.feature g mq) (meta.one_container e.feature g mq))

  kind_from : (e : End) (k : ℕ) (v : Value) → slice_get (d.vals e) k ≡ Some v → IsOfKind m (link_from d e k v)
  kind_from e k (value.Object o) h = kind_to e k o (d.pairing e).opposite refl (told e k (value.Object o) h)
  kind_from e k (value.Proxy t) h = record { far = tt; container = sym (told e k (value.Proxy t) h) }
  kind_from e k v h = absurd (references e k v h)

  kinds_lists : AreOfKind m (cell_links d es)
  kinds_lists l h =
      let b = all_back d es l ((from_list_HasLinks (all_links d es)).has l h) in
      subst (λ (k : Link). IsOfKind m k) (sym b.4) (kind_from b.0 b.1 b.2 b.3)

  pub rebuilt_links : cell_links d es ≡ s
  rebuilt_links = same_by_ends m (cell_links d es) s (lists_placed d es rebuilt) placed kinds_lists of (λ e. end-lists d es rebuilt e ∙ sym (same e))
