-- The names of the links that are cut with an object name exactly the links of destroyed objects.
use Rattle.std.proofs.Common.{◌≡◌, ℕ, ◌≤◌, Bool, true, false, not, ◌||◌, List, [], filter, flat_map, map, nat_lt, slice_get, Option, Some, None, if◌then◌else◌, refl, sym, ap, ◌∙◌, inl, inr, arith}
use Rattle.std.specs.Prelude.{◌&&◌, is_some}
use Rattle.std.specs.List.{list_any}
use Rattle.std.specs.Option.{option_map_or}
use Rattle.std.proofs.lemmas.Bool.{and_from, false≢true, lt-ltb, ltb-false, or_left, or_right}
use Rattle.std.proofs.lemmas.Option.{none-some}
use Rattle.mm_types.proofs.SameLemmas.{same_end-self, same_end-true}
use Rattle.mm_types.specs.Same.{node_value, same_end, same_feature, same_object, same_value}
use Rattle.mm_types.specs.SameValues.{same_value-self}
use Rattle.mm_types.specs.Shapes.{shape}
use Rattle.mm_types.specs.declared.end.End.{End}
use Rattle.mm_types.specs.declared.numbers.FeatureNo.{FeatureNo}
use Rattle.mm_types.specs.declared.numbers.Node.{Node}
use Rattle.mm_types.specs.declared.numbers.Node.TheVariants as node
use Rattle.mm_types.specs.declared.numbers.ObjectNo.{ObjectNo}
use Rattle.mm_types.specs.declared.value.Value.{Value}
use Rattle.mm_types.specs.declared.value.Value.TheVariants as value
use Rattle.links.proofs.FilterLemmas.{filter_keeps}
use Rattle.links.proofs.NamedLemmas.{names-true, names-itself}
use Rattle.links.proofs.SideLemmas.{both_ends_agree}
use Rattle.links.specs.Laws.{NameLinksOf, goes, is_named, names, names_far}
use Rattle.links.specs.LegalSets.{Kinds}
use Rattle.links.specs.Links.{far_end}
use Rattle.links.specs.Plans.{Has, has_end}
use Rattle.models.specs.Legal.{IsLegal, kinds_of}
use Rattle.models.specs.Model.{Model, reading}
use Rattle.models.specs.Reading.{all_features_of, at_end}
use Rattle.containment.proofs.MemberLemmas.{same-object}
use Rattle.containment.proofs.PartLemmas.{kinds-are, values-linked}
use Rattle.containment.specs.Forest.{subtree}
use Rattle.removal.specs.Outer.{holds_some, is_in_subtree, touched_ends}
use Rattle.removal.proofs.EndLemmas.{object-node, open-end}
use Rattle.removal.proofs.ListLemmas.{any-all, any-at, any-filter, any-flat_map, any-left, any-map, any-right}
use Rattle.links.proofs.OrderLemmas.{has_end-any}
use Rattle.links.proofs.PlaceLemmas.{same_feature-true}
use Rattle.links.proofs.RankLemmas.{same-tests}
use Rattle.removal.proofs.LinkEndLemmas.{AreTouched, IsLinkEnd, all-link_ends, goes-node, lower-named, names_link_end, link_ends-once, link_ends-there}
use Rattle.removal.specs.Laws.{NameTreeLinks, names_of}
use Rattle.removal.specs.TreeLinkEnds.{end_link_ends, is_named_here, node_link_ends, outer_link_ends, references_of, link_end, tree_link_ends}
use Rattle.removal.specs.declared.link_end.LinkEnd.{LinkEnd}

names-back : (m : Kinds) (e : End) (x : ObjectNo) (g : FeatureNo) → m.opposite e.feature ≡ Some g → names m e (value.Object x) (far_end x g) (node_value e.node) ≡ true
names-back m e x g opposite =
    or_right (same_end e (far_end x g) && same_value (value.Object x) (node_value e.node)) _
    (ap (λ (q : Option FeatureNo). names_far e (value.Object x) q (far_end x g) (node_value e.node)) opposite
    ∙ and_from (same_end (far_end x g) (far_end x g)) (same_value (node_value e.node) (node_value e.node)) (same_end-self (far_end x g)) (same_value-self (node_value e.node)))

is_named-any : (s : Model) (ts : List LinkEnd) (u : LinkEnd) → is_named (kinds_of s.metamodel) (names_of ts) u.end u.value ≡ list_any (λ t. names_link_end s t u) ts
is_named-any s ts u = any-map (λ (x : End × Value). names (kinds_of s.metamodel) x.0 x.1 u.end u.value) (λ (t : LinkEnd). (t.end, t.value)) ts

-- the values of an end that pass a test are among its links
any-values : (q : LinkEnd → Bool) (e : End) (p : Value → Bool) (vs : List Value) (k : ℕ) (v : Value) → slice_get vs k ≡ Some v → p v ≡ true → q (link_end e v) ≡ true → list_any q (map (link_end e) (filter p vs)) ≡ true
any-values q e p vs k v at passes h =
    let kept = filter_keeps p vs k v at passes in
    any-map q (link_end e) (filter p vs) ∙ any-at (λ w. q (link_end e w)) (filter p vs) kept.0 v kept.1 h

module _ (s : Model) (legal : IsLegal s) (o : ObjectNo) (touched : AreTouched s o) (q : LinkEnd → Bool) where
  -- a link of a destroyed object, if its end names it
  named-inner : (x : ObjectNo) (f : FeatureNo) (v : Value) → list_any (same_object x) (subtree (reading s) o) ≡ true → Has s.links (far_end x f) v → is_named_here (reading s) (is_in_subtree (reading s) o) f v ≡ true
      → q (link_end (far_end x f) v) ≡ true → list_any q (tree_link_ends (reading s) o) ≡ true
  named-inner x f v among at here h =
      let r = reading s in
      let is_gone : Node → Bool = is_in_subtree r o in
      let n = node.Object x in
      let e : End = far_end x f in
      let known = open-end s e v legal at in
      let there : slice_get (r.values e) at.0 ≡ Some v = ap (λ (vs : List Value). slice_get vs at.0) (values-linked s e known.reference) ∙ at.1 in
      let of_end = any-values q e (is_named_here r is_gone f) (r.values e) at.0 v there here h in
      let listed = any-filter (same_feature f) (λ (g : FeatureNo). (shape s.metamodel g).is_reference) f (same_feature-true f) known.reference (all_features_of r n) known.own in
      let of_node = any-flat_map (same_feature f) q (λ (g : FeatureNo). end_link_ends r is_gone (at_end n g)) f (same_feature-true f) of_end (references_of r n) listed in
      any-left q (flat_map (node_link_ends r is_gone) (subtree r o)) (flat_map (outer_link_ends r is_gone) (touched_ends r o)) (any-flat_map (same_object x) q (node_link_ends r is_gone) x (same-object x) of_node (subtree r o) among)

  -- a link of a remaining node, if no other end can name it
  named-outer : (e : End) (v : Value) → is_in_subtree (reading s) o e.node ≡ false → Has s.links e v → goes (is_in_subtree (reading s) o) v ≡ true → (shape s.metamodel e.feature).opposite ≡ None
      → q (link_end e v) ≡ true → list_any q (tree_link_ends (reading s) o) ≡ true
  named-outer e v stays at lost alone h =
      let r = reading s in
      let is_gone : Node → Bool = is_in_subtree r o in
      let reference = (open-end s e v legal at).reference in
      let there : slice_get (r.values e) at.0 ≡ Some v = ap (λ (vs : List Value). slice_get vs at.0) (values-linked s e reference) ∙ at.1 in
      let some : holds_some r is_gone e ≡ true = and_from (shape s.metamodel e.feature).is_reference (list_any (goes is_gone) (r.values e)) reference (any-at (goes is_gone) (r.values e) at.0 v there lost) in
      let listed : has_end (touched_ends r o) e ≡ true = touched.all e ∙ and_from (not (is_gone e.node)) (holds_some r is_gone e) (ap not stays) some in
      let among = sym (has_end-any (touched_ends r o) e) ∙ listed in
      let of_end : list_any q (outer_link_ends r is_gone e) ≡ true =
      ap (λ (g : Option FeatureNo). list_any q (if is_some g then [] else map (link_end e) (filter (goes is_gone) (r.values e)))) alone ∙ any-values q e (goes is_gone) (r.values e) at.0 v there lost h in
      any-right q (flat_map (node_link_ends r is_gone) (subtree r o)) (flat_map (outer_link_ends r is_gone) (touched_ends r o))
      (any-flat_map (λ (d : End). same_end d e) q (outer_link_ends r is_gone) e (λ d same. sym (same_end-true d e same)) of_end (touched_ends r o) among)

module _ (s : Model) (legal : IsLegal s) (o : ObjectNo) (touched : AreTouched s o) where
  abbrev is_gone : Node → Bool
  is_gone = is_in_subtree (reading s) o

  -- the names name the link
  abbrev IsNamed : End → Value → Type 0
  IsNamed d w = list_any (λ t. names_link_end s t (link_end d w)) (tree_link_ends (reading s) o) ≡ true

  -- the link is named by the far end, which names it if the near end does not
  named-far : (x y : ObjectNo) (f g : FeatureNo) → (shape s.metamodel f).opposite ≡ Some g → list_any (same_object y) (subtree (reading s) o) ≡ true → Has s.links (far_end x f) (value.Object y)
      → is_named_here (reading s) is_gone g (value.Object x) ≡ true → IsNamed (far_end x f) (value.Object y)
  named-far x y f g opposite among at here =
      let m = kinds_of s.metamodel in
      let back = (kinds-are s.metamodel legal.metamodel).inverse f g opposite in
      let there = both_ends_agree m s.links legal.links.set legal.links.kinds (far_end x f) (far_end y g) opposite at in
      named-inner s legal o touched (λ t. names_link_end s t (link_end (far_end x f) (value.Object y))) y g (value.Object x) among there here (names-back m (far_end y g) x f back)

  -- of a link of two destroyed objects the far end names the link if this end does not
  named-higher : (x y : ObjectNo) (f g : FeatureNo) → (shape s.metamodel f).opposite ≡ Some g → is_gone (node.Object x) ≡ true → is_gone (node.Object y) ≡ true → Has s.links (far_end x f) (value.Object y)
      → is_named_here (reading s) is_gone f (value.Object y) ≡ false → IsNamed (far_end x f) (value.Object y)
  named-higher x y f g opposite gone_x gone_y at not_here =
      let ok = kinds-are s.metamodel legal.metamodel in
      let high : g.0 ≤ f.0 = ltb-false f.0 g.0 (sym (lower-named s o f g (value.Object y) opposite gone_y) ∙ not_here) in
      let apart = ok.two f g opposite in
      let here = lower-named s o g f (value.Object x) (ok.inverse f g opposite) gone_x ∙ lt-ltb g.0 f.0 (omega (arith, high, apart)) in
      named-far x y f g opposite gone_y at here

  not-here-cases : (f : FeatureNo) (b : Bool) (h : Option FeatureNo) → (not b || option_map_or (λ (g : FeatureNo). nat_lt f.0 g.0) h true) ≡ false → (b ≡ true) × ((g : FeatureNo) × (h ≡ Some g))
  not-here-cases f true (Some g) q = (refl, (g, refl))
  not-here-cases f true None q = absurd (false≢true (sym q))
  not-here-cases f false h q = absurd (false≢true (sym q))

  -- a link of a destroyed object is named
  near-named : (x : ObjectNo) (f : FeatureNo) (w : Value) → is_gone (node.Object x) ≡ true → Has s.links (far_end x f) w → IsNamed (far_end x f) w
  near-named x f w gone_x at =
      elim (is_named_here (reading s) is_gone f w) as (λ b. is_named_here (reading s) is_gone f w ≡ b → IsNamed (far_end x f) w) [
        | true ↦ λ here. named-inner s legal o touched (λ t. names_link_end s t (link_end (far_end x f) w)) x f w gone_x at here (names-itself (kinds_of s.metamodel) (far_end x f) w)
        | false ↦ λ not_here.
            let both = not-here-cases f (goes is_gone w) (shape s.metamodel f).opposite not_here in
            by w both.1.0 both.1.1 both.0 at not_here
      ] refl
    where
      by : (v : Value) (g : FeatureNo) → (shape s.metamodel f).opposite ≡ Some g → goes is_gone v ≡ true → Has s.links (far_end x f) v → is_named_here (reading s) is_gone f v ≡ false → IsNamed (far_end x f) v
      by (value.Object y) g opposite lost there not_here = named-higher x y f g opposite gone_x lost there not_here
      by _ g opposite lost there not_here = absurd (false≢true lost)

  -- a link from a remaining node to a destroyed object is named
  far-named : (d : End) (y : ObjectNo) → is_gone d.node ≡ false → is_gone (node.Object y) ≡ true → Has s.links d (value.Object y) → IsNamed d (value.Object y)
  far-named d y stays gone_y at =
      elim (shape s.metamodel d.feature).opposite as (λ h. (shape s.metamodel d.feature).opposite ≡ h → IsNamed d (value.Object y)) [
        | None ↦ λ alone. named-outer s legal o touched (λ t. names_link_end s t (link_end d (value.Object y))) d (value.Object y) stays at gone_y alone (names-itself (kinds_of s.metamodel) d (value.Object y))
        | Some g ↦ λ opposite. by d.node d.feature g opposite stays at
      ] refl
    where
      by : (n : Node) (f g : FeatureNo) → (shape s.metamodel f).opposite ≡ Some g → is_gone n ≡ false → Has s.links (at_end n f) (value.Object y) → IsNamed (at_end n f) (value.Object y)
      by (node.Object x) f g opposite kept there =
          named-far x y f g opposite gone_y there (ap (λ (b : Bool). not b || option_map_or (λ (h : FeatureNo). nat_lt g.0 h.0) (shape s.metamodel g).opposite true) kept)
      by (node.Resource k) f g opposite kept there =
          absurd (object-node s (far_end y g) (node.Resource k) legal (both_ends_agree (kinds_of s.metamodel) s.links legal.links.set legal.links.kinds (at_end (node.Resource k) f) (far_end y g) opposite there))

  links-named : (d : End) (w : Value) → Has s.links d w → (is_gone d.node || goes is_gone w) ≡ true → IsNamed d w
  links-named d w at h =
      elim (is_gone d.node) as (λ b. is_gone d.node ≡ b → (b || goes is_gone w) ≡ true → IsNamed d w) [
        | true ↦ λ gone_d _. near d.node d.feature gone_d at
        | false ↦ λ stays lost. far w lost stays at
      ] refl h
    where
      near : (n : Node) (f : FeatureNo) → is_gone n ≡ true → Has s.links (at_end n f) w → IsNamed (at_end n f) w
      near (node.Object x) f gone_x there = near-named x f w gone_x there
      near (node.Resource k) f gone_k there = absurd (false≢true gone_k)

      far : (v : Value) → goes is_gone v ≡ true → is_gone d.node ≡ false → Has s.links d v → IsNamed d v
      far (value.Object y) lost stays there = far-named d y stays lost there
      far _ lost stays there = absurd (false≢true lost)

  -- a link that is named is a link of a destroyed object
  named-gone : (t u : LinkEnd) → IsLinkEnd s o t → names_link_end s t u ≡ true → (is_gone u.end.node || goes is_gone u.value) ≡ true
  named-gone t u (at, inl inner) h = elim (names-true (kinds_of s.metamodel) t.end t.value u.end u.value h) [
    | inl near ↦ or_left _ _ (ap (λ (d : End). is_gone d.node) (sym near.0) ∙ inner.node)
    | inr (x, g, is_v, opposite, is_d, is_w) ↦ or_right (is_gone u.end.node) _ (ap (goes is_gone) (sym is_w) ∙ goes-node s o t.end.node inner.node)
  ]
  named-gone t u (at, inr outer) h = elim (names-true (kinds_of s.metamodel) t.end t.value u.end u.value h) [
    | inl near ↦ or_right (is_gone u.end.node) _ (ap (goes is_gone) (sym near.1) ∙ outer.value)
    | inr (x, g, is_v, opposite, is_d, is_w) ↦ absurd (none-some g (sym outer.alone ∙ opposite))
  ]

  names-all : NameLinksOf (kinds_of s.metamodel) s.links is_gone (names_of (tree_link_ends (reading s) o))
  names-all d w at =
      is_named-any s (tree_link_ends (reading s) o) (link_end d w)
      ∙ same-tests _ _ (any-all (IsLinkEnd s o) (λ t. names_link_end s t (link_end d w)) (λ t known h. named-gone t (link_end d w) known h) (tree_link_ends (reading s) o) (all-link_ends s legal o touched)) (links-named d w at)

  pub tree-links : NameTreeLinks s o
  tree-links = record { there = link_ends-there s legal o touched; once = link_ends-once s legal o touched; all = names-all }
