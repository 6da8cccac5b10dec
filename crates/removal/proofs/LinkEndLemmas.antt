-- Facts about each link that is cut with an object, and that no link is named twice.
use Rattle.std.proofs.Common.{◌≡◌, ℕ, Bool, true, false, not, ◌||◌, List, [], ◌∷◌, filter, flat_map, map, nat_lt, Option, Some, None, if◌then◌else◌, refl, sym, ap, ◌∙◌, subst, inl, inr, arith, eq-eqb}
use Rattle.std.specs.Prelude.{◌⊎◌, ◌&&◌, is_some}
use Rattle.std.specs.List.{AllByRecursion, IsDistinct, list_any}
use Rattle.std.specs.Option.{option_map_or}
use Rattle.std.proofs.lemmas.Bool.{and_parts, false_from_ne_true, false≢true, ltb-true, not-true, or_right, true≢false}
use Rattle.std.proofs.lemmas.Option.{none-some}
use Rattle.mm_types.proofs.SameLemmas.{same_end-self}
use Rattle.mm_types.specs.Same.{node_value, same_end, same_feature, same_object, same_value}
use Rattle.mm_types.specs.SameValues.{same_value-self}
use Rattle.mm_types.specs.Shapes.{shape}
use Rattle.mm_types.specs.declared.end.End.{End}
use Rattle.mm_types.specs.declared.numbers.FeatureNo.{FeatureNo}
use Rattle.mm_types.specs.declared.numbers.Node.{Node}
use Rattle.mm_types.specs.declared.numbers.Node.TheVariants as node
use Rattle.mm_types.specs.declared.numbers.ObjectNo.{ObjectNo}
use Rattle.mm_types.specs.declared.value.Value.{Value}
use Rattle.mm_types.specs.declared.value.Value.TheVariants as value
use Rattle.links.proofs.NamedLemmas.{NamesFar, names-true}
use Rattle.links.specs.Laws.{AreOnce, AreThere, goes, names}
use Rattle.links.specs.LegalSets.{AreKinds}
use Rattle.links.specs.Links.{end, far_end}
use Rattle.links.specs.Plans.{AreInOrder, Has, has_end}
use Rattle.models.specs.Legal.{IsLegal, kinds_of}
use Rattle.models.specs.Model.{Model, reading}
use Rattle.models.specs.Reading.{all_features_of, at_end}
use Rattle.containment.proofs.DistinctLemmas.{features-distinct, subtree-distinct}
use Rattle.mm_meta.proofs.FeatureListLemmas.{all-append}
use Rattle.containment.proofs.PartLemmas.{kinds-are, values-linked}
use Rattle.containment.specs.Forest.{subtree}
use Rattle.removal.specs.Outer.{holds_some, is_in_subtree, touched_ends}
use Rattle.removal.proofs.EndLemmas.{values-distinct}
use Rattle.removal.proofs.ListLemmas.{all-among, all-at, all-filter, all-flat_map, all-map, all-weaker, distinct-append, distinct-filter, distinct-flat_map, distinct-map}
use Rattle.links.proofs.OrderLemmas.{ordered-distinct}
use Rattle.removal.specs.Laws.{names_of}
use Rattle.removal.specs.TreeLinkEnds.{end_link_ends, is_named_here, node_link_ends, outer_link_ends, references_of, link_end, tree_link_ends}
use Rattle.removal.specs.declared.link_end.LinkEnd.{LinkEnd}

-- the ends of other nodes that have an object that is destroyed, in the order of their notifications
pub record AreTouched (s : Model) (o : ObjectNo) : Type 0 where
  pub order : AreInOrder (touched_ends (reading s) o)
  pub all : (e : End) → has_end (touched_ends (reading s) o) e ≡ (not (is_in_subtree (reading s) o e.node) && holds_some (reading s) (is_in_subtree (reading s) o) e)

-- one name names the link of another
abbrev pub names_link_end : Model → LinkEnd → LinkEnd → Bool
names_link_end s t u = names (kinds_of s.metamodel) t.end t.value u.end u.value

-- the link of a destroyed object, named by its end
pub record IsInner (s : Model) (o : ObjectNo) (t : LinkEnd) : Type 0 where
  pub node : is_in_subtree (reading s) o t.end.node ≡ true
  pub here : is_named_here (reading s) (is_in_subtree (reading s) o) t.end.feature t.value ≡ true

-- a link from a remaining node to a destroyed object, which no other end can name
pub record IsOuter (s : Model) (o : ObjectNo) (t : LinkEnd) : Type 0 where
  pub node : is_in_subtree (reading s) o t.end.node ≡ false
  pub value : goes (is_in_subtree (reading s) o) t.value ≡ true
  pub alone : (shape s.metamodel t.end.feature).opposite ≡ None

abbrev pub IsLinkEnd : Model → ObjectNo → LinkEnd → Type 0
IsLinkEnd s o t = Has s.links t.end t.value × (IsInner s o t ⊎ IsOuter s o t)

-- a node that is destroyed is an object of the subtree
pub goes-node : (s : Model) (o : ObjectNo) (n : Node) → is_in_subtree (reading s) o n ≡ true → goes (is_in_subtree (reading s) o) (node_value n) ≡ true
goes-node s o (node.Object x) h = h
goes-node s o (node.Resource k) h = absurd (false≢true h)

-- if both objects are destroyed, the end of the lower feature names the link
pub lower-named : (s : Model) (o : ObjectNo) (f g : FeatureNo) (v : Value) → (shape s.metamodel f).opposite ≡ Some g → goes (is_in_subtree (reading s) o) v ≡ true
    → is_named_here (reading s) (is_in_subtree (reading s) o) f v ≡ nat_lt f.0 g.0
lower-named s o f g v opposite far =
    ap (λ (b : Bool). not b || option_map_or (λ (h : FeatureNo). nat_lt f.0 h.0) (shape s.metamodel f).opposite true) far
    ∙ ap (λ (q : Option FeatureNo). option_map_or (λ (h : FeatureNo). nat_lt f.0 h.0) q true) opposite

module _ (s : Model) (legal : IsLegal s) (o : ObjectNo) where
  abbrev m-kinds : AreKinds (kinds_of s.metamodel)
  m-kinds = kinds-are s.metamodel legal.metamodel

  ---------------------------------------------------------------- no link has two names

  -- two destroyed objects do not both name their link
  not-both : (t u : LinkEnd) (x : ObjectNo) (g : FeatureNo) → IsInner s o t → IsInner s o u → t.value ≡ value.Object x → (shape s.metamodel t.end.feature).opposite ≡ Some g
      → far_end x g ≡ u.end → node_value t.end.node ≡ u.value → ⊥
  not-both t u x g a b is_v opposite is_d is_w =
      let is_gone : Node → Bool = is_in_subtree (reading s) o in
      let far : goes is_gone t.value ≡ true = ap (goes is_gone) is_v ∙ ap (λ (d : End). is_gone d.node) is_d ∙ b.node in
      let near : goes is_gone u.value ≡ true = ap (goes is_gone) (sym is_w) ∙ goes-node s o t.end.node a.node in
      let back : (shape s.metamodel u.end.feature).opposite ≡ Some t.end.feature = ap (λ (d : End). (shape s.metamodel d.feature).opposite) (sym is_d) ∙ m-kinds.inverse t.end.feature g opposite in
      let low = ltb-true t.end.feature.0 g.0 (sym (lower-named s o t.end.feature g t.value opposite far) ∙ a.here) in
      let high = ltb-true u.end.feature.0 t.end.feature.0 (sym (lower-named s o u.end.feature t.end.feature u.value back near) ∙ b.here) in
      let same : g.0 ≡ u.end.feature.0 = ap (λ (d : End). d.feature.0) is_d in
      omega (arith, low, high, same)

  no-far : (t u : LinkEnd) → IsLinkEnd s o t → IsLinkEnd s o u → NamesFar t.end t.value (shape s.metamodel t.end.feature).opposite u.end u.value → ⊥
  no-far t u (at_t, inr a) (at_u, b) (x, g, is_v, opposite, is_d, is_w) = none-some g (sym a.alone ∙ opposite)
  no-far t u (at_t, inl a) (at_u, inr b) (x, g, is_v, opposite, is_d, is_w) =
      none-some t.end.feature (sym b.alone ∙ ap (λ (d : End). (shape s.metamodel d.feature).opposite) (sym is_d) ∙ m-kinds.inverse t.end.feature g opposite)
  no-far t u (at_t, inl a) (at_u, inl b) (x, g, is_v, opposite, is_d, is_w) = not-both t u x g a b is_v opposite is_d is_w

  -- a name that names the same link as another name is that name
  one-name : (t u : LinkEnd) → IsLinkEnd s o t → IsLinkEnd s o u → names_link_end s t u ≡ true → (t.end ≡ u.end) × (t.value ≡ u.value)
  one-name t u a b h = elim (names-true (kinds_of s.metamodel) t.end t.value u.end u.value h) [ inl near ↦ near | inr far ↦ absurd (no-far t u a b far) ]

  ends-apart : (t u : LinkEnd) → IsLinkEnd s o t → IsLinkEnd s o u → (t.end ≡ u.end → ⊥) → names_link_end s t u ≡ false
  ends-apart t u a b other = false_from_ne_true (names_link_end s t u) (λ h. other (one-name t u a b h).0)

  ---------------------------------------------------------------- the links of one end

  abbrev IsOfEnd : End → LinkEnd → Type 0
  IsOfEnd e t = IsLinkEnd s o t × (t.end ≡ e)

  -- the links at the end of a reference whose values pass a test
  abbrev passing : End → (Value → Bool) → List LinkEnd
  passing e p = map (link_end e) (filter p ((reading s).values e))

  known-values : (e : End) (p : Value → Bool) → (shape s.metamodel e.feature).is_reference ≡ true → AllByRecursion (λ v. Has s.links e v × (p v ≡ true)) (filter p ((reading s).values e))
  known-values e p reference =
      subst (λ (vs : List Value). AllByRecursion (λ v. Has s.links e v × (p v ≡ true)) (filter p vs)) (sym (values-linked s e reference))
      (all-filter (Has s.links e) p (end s.links e) (all-at (Has s.links e) (end s.links e) (λ k v at. (k, at))))

  module _ (e : End) (p : Value → Bool) (reference : (shape s.metamodel e.feature).is_reference ≡ true) (tells : (v : Value) → Has s.links e v → p v ≡ true → IsInner s o (link_end e v) ⊎ IsOuter s o (link_end e v)) where
    end-known : AllByRecursion (IsOfEnd e) (passing e p)
    end-known = all-map (IsOfEnd e) (link_end e) (filter p ((reading s).values e)) (all-weaker _ _ (filter p ((reading s).values e)) (λ v h. ((h.0, tells v h.0 h.1), refl)) (known-values e p reference))

    values-apart : (v w : Value) → (Has s.links e v × (p v ≡ true)) → (Has s.links e w × (p w ≡ true)) → same_value v w ≡ false → names_link_end s (link_end e v) (link_end e w) ≡ false
    values-apart v w a b other = false_from_ne_true (names_link_end s (link_end e v) (link_end e w)) (λ h.
        let same = (one-name (link_end e v) (link_end e w) (a.0, tells v a.0 a.1) (b.0, tells w b.0 b.1) h).1 in
        true≢false (sym (same_value-self v) ∙ ap (same_value v) same ∙ other))

    end-distinct : IsDistinct (names_link_end s) (passing e p)
    end-distinct =
        let apart = subst (λ (vs : List Value). IsDistinct same_value vs) (sym (values-linked s e reference)) (values-distinct (end s.links e) (legal.links.set.placed.distinct e)) in
        distinct-map same_value (names_link_end s) (λ v. Has s.links e v × (p v ≡ true)) (link_end e) values-apart (filter p ((reading s).values e)) (known-values e p reference) (distinct-filter same_value p ((reading s).values e) apart)

  ---------------------------------------------------------------- the links of nodes that go

  abbrev IsReference : FeatureNo → Type 0
  IsReference f = (shape s.metamodel f).is_reference ≡ true

  abbrev IsOfNode : ObjectNo → LinkEnd → Type 0
  IsOfNode x t = IsLinkEnd s o t × (t.end.node ≡ node.Object x)

  module _ (x : ObjectNo) (among : list_any (same_object x) (subtree (reading s) o) ≡ true) where
    abbrev own : FeatureNo → End
    own f = at_end (node.Object x) f

    inner-here : (f : FeatureNo) (v : Value) → Has s.links (own f) v → is_named_here (reading s) (is_in_subtree (reading s) o) f v ≡ true → IsInner s o (link_end (own f) v) ⊎ IsOuter s o (link_end (own f) v)
    inner-here f v at h = inl (record { node = among; here = h })

    inner-known : (f : FeatureNo) → IsReference f → AllByRecursion (IsOfEnd (own f)) (end_link_ends (reading s) (is_in_subtree (reading s) o) (own f))
    inner-known f reference = end-known (own f) (is_named_here (reading s) (is_in_subtree (reading s) o) f) reference (inner-here f)

    inner-distinct : (f : FeatureNo) → IsReference f → IsDistinct (names_link_end s) (end_link_ends (reading s) (is_in_subtree (reading s) o) (own f))
    inner-distinct f reference = end-distinct (own f) (is_named_here (reading s) (is_in_subtree (reading s) o) f) reference (inner-here f)

    features-apart : (f g : FeatureNo) (t u : LinkEnd) → same_feature f g ≡ false → IsOfEnd (own f) t → IsOfEnd (own g) u → names_link_end s t u ≡ false
    features-apart f g t u other a b = ends-apart t u a.0 b.0 (λ same. true≢false (sym (eq-eqb f.0 g.0 (ap (λ (d : End). d.feature.0) (sym a.1 ∙ same ∙ b.1))) ∙ other))

    references-are : AllByRecursion IsReference (references_of (reading s) (node.Object x))
    references-are =
        let refers = λ (f : FeatureNo). (shape s.metamodel f).is_reference in
        all-weaker _ IsReference (references_of (reading s) (node.Object x)) (λ f h. h.1) (all-filter (λ f. Unit {0}) refers (all_features_of (reading s) (node.Object x)) (all-at (λ f. Unit {0}) _ (λ k f at. tt)))

    node-known : AllByRecursion (IsOfNode x) (node_link_ends (reading s) (is_in_subtree (reading s) o) x)
    node-known =
        all-flat_map IsReference (IsOfNode x) (λ f. end_link_ends (reading s) (is_in_subtree (reading s) o) (own f))
        (λ f reference. all-weaker (IsOfEnd (own f)) (IsOfNode x) _ (λ t h. (h.0, ap (λ (d : End). d.node) h.1)) (inner-known f reference)) (references_of (reading s) (node.Object x)) references-are

    node-distinct : IsDistinct (names_link_end s) (node_link_ends (reading s) (is_in_subtree (reading s) o) x)
    node-distinct =
        let refers = λ (f : FeatureNo). (shape s.metamodel f).is_reference in
        distinct-flat_map same_feature (names_link_end s) IsReference (λ f t. IsOfEnd (own f) t) (λ f. end_link_ends (reading s) (is_in_subtree (reading s) o) (own f)) inner-distinct inner-known features-apart
        (references_of (reading s) (node.Object x)) references-are (distinct-filter same_feature refers (all_features_of (reading s) (node.Object x)) (features-distinct s legal (node.Object x)))

  abbrev IsAmong : ObjectNo → Type 0
  IsAmong x = list_any (same_object x) (subtree (reading s) o) ≡ true

  all-members : AllByRecursion IsAmong (subtree (reading s) o)
  all-members = all-among IsAmong same_object (λ x. eq-eqb x.0 x.0 refl) (subtree (reading s) o) (λ x h. h)

  nodes-apart : (x y : ObjectNo) (t u : LinkEnd) → same_object x y ≡ false → IsOfNode x t → IsOfNode y u → names_link_end s t u ≡ false
  nodes-apart x y t u other a b = ends-apart t u a.0 b.0 (λ same. true≢false (sym (same-number x y (sym a.1 ∙ ap (λ (d : End). d.node) same ∙ b.1)) ∙ other))
    where
      number : Node → ℕ
      number (node.Object z) = z.0
      number (node.Resource k) = k.0

      same-number : (x y : ObjectNo) → node.Object x ≡ node.Object y → same_object x y ≡ true
      same-number x y h = eq-eqb x.0 y.0 (ap number h)

  abbrev IsGone : LinkEnd → Type 0
  IsGone t = IsLinkEnd s o t × (is_in_subtree (reading s) o t.end.node ≡ true)

  inner-is_in_subtree : AllByRecursion IsGone (flat_map (node_link_ends (reading s) (is_in_subtree (reading s) o)) (subtree (reading s) o))
  inner-is_in_subtree =
      all-flat_map IsAmong IsGone (node_link_ends (reading s) (is_in_subtree (reading s) o))
      (λ x among. all-weaker (IsOfNode x) IsGone _ (λ t h. (h.0, ap (is_in_subtree (reading s) o) h.1 ∙ among)) (node-known x among)) (subtree (reading s) o) all-members

  inner-once : IsDistinct (names_link_end s) (flat_map (node_link_ends (reading s) (is_in_subtree (reading s) o)) (subtree (reading s) o))
  inner-once = distinct-flat_map same_object (names_link_end s) IsAmong (λ x t. IsOfNode x t) (node_link_ends (reading s) (is_in_subtree (reading s) o)) node-distinct node-known nodes-apart (subtree (reading s) o) all-members (subtree-distinct s legal o)

  ---------------------------------------------------------------- the links of nodes that stay

  module _ (touched : AreTouched s o) where
    -- facts about an end that loses something
    record IsTouched (e : End) : Type 0 where
      stays : is_in_subtree (reading s) o e.node ≡ false
      reference : (shape s.metamodel e.feature).is_reference ≡ true

    touched-known : (e : End) → has_end (touched_ends (reading s) o) e ≡ true → IsTouched e
    touched-known e h =
        let both = and_parts (not (is_in_subtree (reading s) o e.node)) (holds_some (reading s) (is_in_subtree (reading s) o) e) (sym (touched.all e) ∙ h) in
        record { stays = not-true (is_in_subtree (reading s) o e.node) both.0; reference = (and_parts (shape s.metamodel e.feature).is_reference _ both.1).0 }

    all-touched : AllByRecursion IsTouched (touched_ends (reading s) o)
    all-touched = by (touched_ends (reading s) o) touched-known
      where
        by : (es : List End) → ((e : End) → has_end es e ≡ true → IsTouched e) → AllByRecursion IsTouched es
        by [] h = tt
        by (e ∷ es) h = (h e (ap (λ b. b || has_end es e) (same_end-self e)), by es (λ d q. h d (or_right (same_end e d) (has_end es d) q)))

    outer-cases : (P : List LinkEnd → Type 0) (e : End) → P [] → ((shape s.metamodel e.feature).opposite ≡ None → P (passing e (goes (is_in_subtree (reading s) o)))) → P (outer_link_ends (reading s) (is_in_subtree (reading s) o) e)
    outer-cases P e none some =
        elim (shape s.metamodel e.feature).opposite as (λ q. (shape s.metamodel e.feature).opposite ≡ q → P (if is_some q then [] else passing e (goes (is_in_subtree (reading s) o)))) [
          | None ↦ some
          | Some g ↦ λ _. none
        ] refl

    outer-here : (e : End) → IsTouched e → (shape s.metamodel e.feature).opposite ≡ None → (v : Value) → Has s.links e v → goes (is_in_subtree (reading s) o) v ≡ true → IsInner s o (link_end e v) ⊎ IsOuter s o (link_end e v)
    outer-here e t alone v at h = inr (record { node = t.stays; value = h; alone = alone })

    outer-known : (e : End) → IsTouched e → AllByRecursion (λ t. IsOfEnd e t × (is_in_subtree (reading s) o t.end.node ≡ false)) (outer_link_ends (reading s) (is_in_subtree (reading s) o) e)
    outer-known e t =
        outer-cases (AllByRecursion (λ u. IsOfEnd e u × (is_in_subtree (reading s) o u.end.node ≡ false))) e tt (λ alone.
        all-weaker (IsOfEnd e) _ _ (λ u h. (h, ap (λ (d : End). is_in_subtree (reading s) o d.node) h.1 ∙ t.stays)) (end-known e (goes (is_in_subtree (reading s) o)) t.reference (outer-here e t alone)))

    outer-distinct : (e : End) → IsTouched e → IsDistinct (names_link_end s) (outer_link_ends (reading s) (is_in_subtree (reading s) o) e)
    unfolding IsDistinct
    outer-distinct e t = outer-cases (IsDistinct (names_link_end s)) e tt (λ alone. end-distinct e (goes (is_in_subtree (reading s) o)) t.reference (outer-here e t alone))

    outer-apart : (d e : End) (t u : LinkEnd) → same_end d e ≡ false → (IsOfEnd d t × (is_in_subtree (reading s) o t.end.node ≡ false)) → (IsOfEnd e u × (is_in_subtree (reading s) o u.end.node ≡ false)) → names_link_end s t u ≡ false
    outer-apart d e t u other a b = ends-apart t u a.0.0 b.0.0 (λ same. true≢false (sym (subst (λ (x : End). same_end d x ≡ true) (sym a.0.1 ∙ same ∙ b.0.1) (same_end-self d)) ∙ other))

    abbrev IsKept : LinkEnd → Type 0
    IsKept t = IsLinkEnd s o t × (is_in_subtree (reading s) o t.end.node ≡ false)

    outer-kept : AllByRecursion IsKept (flat_map (outer_link_ends (reading s) (is_in_subtree (reading s) o)) (touched_ends (reading s) o))
    outer-kept =
        all-flat_map IsTouched IsKept (outer_link_ends (reading s) (is_in_subtree (reading s) o)) (λ e t. all-weaker (λ u. IsOfEnd e u × (is_in_subtree (reading s) o u.end.node ≡ false)) IsKept _ (λ u h. (h.0.0, h.1)) (outer-known e t))
        (touched_ends (reading s) o) all-touched

    outer-once : IsDistinct (names_link_end s) (flat_map (outer_link_ends (reading s) (is_in_subtree (reading s) o)) (touched_ends (reading s) o))
    outer-once =
        distinct-flat_map same_end (names_link_end s) IsTouched (λ e t. IsOfEnd e t × (is_in_subtree (reading s) o t.end.node ≡ false)) (outer_link_ends (reading s) (is_in_subtree (reading s) o)) outer-distinct outer-known outer-apart
        (touched_ends (reading s) o) all-touched (ordered-distinct (touched_ends (reading s) o) touched.order)

    ---------------------------------------------------------------- all links

    pub all-link_ends : AllByRecursion (IsLinkEnd s o) (tree_link_ends (reading s) o)
    all-link_ends = all-append (IsLinkEnd s o) _ _ (all-weaker IsGone (IsLinkEnd s o) _ (λ t h. h.0) inner-is_in_subtree) (all-weaker IsKept (IsLinkEnd s o) _ (λ t h. h.0) outer-kept)

    sides-apart : (t u : LinkEnd) → IsGone t → IsKept u → names_link_end s t u ≡ false
    sides-apart t u a b = ends-apart t u a.0 b.0 (λ same. true≢false (sym (ap (λ (d : End). is_in_subtree (reading s) o d.node) (sym same) ∙ a.1) ∙ b.1))

    link_ends-distinct : IsDistinct (names_link_end s) (tree_link_ends (reading s) o)
    link_ends-distinct = distinct-append (names_link_end s) IsGone IsKept sides-apart _ _ inner-is_in_subtree outer-kept inner-once outer-once

    pub link_ends-once : AreOnce (kinds_of s.metamodel) (names_of (tree_link_ends (reading s) o))
    unfolding IsDistinct
    link_ends-once = by (tree_link_ends (reading s) o) link_ends-distinct
      where
        by : (ts : List LinkEnd) → IsDistinct (names_link_end s) ts → AreOnce (kinds_of s.metamodel) (names_of ts)
        by [] d = tt
        by (t ∷ ts) d = (all-map (λ (u : End × Value). names (kinds_of s.metamodel) t.end t.value u.0 u.1 ≡ false) (λ (u : LinkEnd). (u.end, u.value)) ts d.0, by ts d.1)

    pub link_ends-there : AreThere s.links (names_of (tree_link_ends (reading s) o))
    link_ends-there = all-map (λ (u : End × Value). Has s.links u.0 u.1) (λ (u : LinkEnd). (u.end, u.value)) (tree_link_ends (reading s) o) (all-weaker (IsLinkEnd s o) _ (tree_link_ends (reading s) o) (λ t h. h.0) all-link_ends)
