-- The links that a new link displaces, and the values that a list keeps when they are cut.
use Rattle.std.proofs.Common.{◌≡◌, ℕ, zero, suc, ◌≤◌, eq-eqb, Bool, true, false, ◌&&◌, List, [], ◌∷◌, length, map, slice_get, Option, Some, None, option_map, option_to_list, if◌then◌else◌, refl, sym, ap, ◌∙◌, subst, inl, inr, arith}
use Rattle.std.specs.Prelude.{◌⊎◌, ◌||◌}
use Rattle.std.specs.List.{AllByRecursion, list_any}
use Rattle.std.specs.Option.{option_map_or}
use Rattle.std.proofs.lemmas.Bool.{and_parts, eqb-true, false≢true}
use Rattle.std.proofs.lemmas.Option.{none-some, same_Some}
use Rattle.mm_meta.proofs.OwnerLemmas.{has_none}
use Rattle.mm_meta.proofs.ShapeLemmas.{containing_is_known, opposites_are_pairs}
use Rattle.mm_types.proofs.SameLemmas.{same_end-self, same_end-true}
use Rattle.mm_types.specs.Ends.{has_value, index_in}
use Rattle.mm_types.specs.Lookups as lookups
use Rattle.mm_types.specs.Same.{node_value, same_end, same_feature, same_value}
use Rattle.mm_types.specs.Shapes.{is_containment, shape}
use Rattle.mm_types.specs.declared.end.End.{End}
use Rattle.mm_types.specs.declared.numbers.ClassNo.{ClassNo}
use Rattle.mm_types.specs.declared.numbers.FeatureNo.{FeatureNo}
use Rattle.mm_types.specs.declared.numbers.Node.{Node}
use Rattle.mm_types.specs.declared.numbers.Node.TheVariants as node
use Rattle.mm_types.specs.declared.numbers.ObjectNo.{ObjectNo}
use Rattle.mm_types.specs.declared.value.Value.{Value}
use Rattle.mm_types.specs.declared.value.Value.TheVariants as value
use Rattle.links.proofs.CutNamedLemmas.{end-without_all}
use Rattle.links.proofs.FilterLemmas.{filter_all}
use Rattle.links.proofs.HolderLemmas.{holder-some, indexed_held}
use Rattle.mm_types.specs.SameValues.{same_value-true}
use Rattle.links.specs.Holders.{holder, node_contained}
use Rattle.links.specs.Laws.{is_named, without_all}
use Rattle.links.specs.Links.{end, far_end}
use Rattle.links.specs.Plans.{Lacks}
use Rattle.models.specs.Legal.{IsLegal, kinds_of}
use Rattle.models.proofs.PlaceLemmas.{has-at, index-at}
use Rattle.models.specs.Model.{Model, reading, values_at}
use Rattle.models.specs.Reading.{has_feature}
use Rattle.containment.proofs.HolderLemmas.{container_at, holding_end-feature}
use Rattle.mm_meta.proofs.FeatureListLemmas.{all-append}
use Rattle.containment.proofs.PartLemmas.{contains-reference, holder-at, kinds-are, values-linked}
use Rattle.handshake.proofs.CutLinkEndLemmas.{all_once, is_named-same_link}
use Rattle.removal.specs.Laws.{names_of}
use Rattle.handshake.specs.Displaced.{holding_link_end, in_the_way, other_side, same_link, same_link_end, link_ends_at, link_ends_if_single, displaced_link_ends}
use Rattle.proxies.specs.Resolving.{opposite_end}
use Rattle.removal.specs.TreeLinkEnds.{link_end}
use Rattle.removal.specs.declared.link_end.LinkEnd.{LinkEnd}
use Rattle.removal.proofs.ListLemmas.{all-weaker}

---------------------------------------------------------------- where they come from

-- a link of a single near end, a link of a single far end, or the link that contains the node that becomes contained
abbrev pub AtNear : Model → End → LinkEnd → Type 0
AtNear s e t = (t.end ≡ e) × ((shape s.metamodel e.feature).is_single ≡ true)

pub record AtFar (s : Model) (e : End) (o : ObjectNo) (t : LinkEnd) : Type 0 where
  pub feature : FeatureNo
  pub opposite : (shape s.metamodel e.feature).opposite ≡ Some feature
  pub single : (shape s.metamodel feature).is_single ≡ true
  pub here : t.end ≡ far_end o feature

pub record AtHolder (s : Model) (e : End) (o : ObjectNo) (t : LinkEnd) : Type 0 where
  pub part : Node
  pub becomes : node_contained e o (shape s.metamodel e.feature).containing ≡ Some part
  pub held : holder s.links part ≡ Some t.end
  pub value : t.value ≡ node_value part

abbrev pub Origin : Model → End → ObjectNo → LinkEnd → Type 0
Origin s e o t = AtNear s e t ⊎ (AtFar s e o t ⊎ AtHolder s e o t)

ends_at : (e : End) (vs : List Value) → AllByRecursion (λ (t : LinkEnd). t.end ≡ e) (map (link_end e) vs)
ends_at e [] = tt
ends_at e (v ∷ vs) = (refl, ends_at e vs)

if_single : (s : Model) (d : End) (P : LinkEnd → Type 0) → ((t : LinkEnd) → (shape s.metamodel d.feature).is_single ≡ true → t.end ≡ d → P t) → AllByRecursion P (link_ends_if_single (reading s) d)
if_single s d P each =
    elim (shape s.metamodel d.feature).is_single as (λ b. (shape s.metamodel d.feature).is_single ≡ b → AllByRecursion P (if b then link_ends_at (reading s) d else [])) [
      | true ↦ λ single. all-weaker (λ (t : LinkEnd). t.end ≡ d) P (link_ends_at (reading s) d) (λ t. each t single) (ends_at d ((reading s).values d))
      | false ↦ λ _. tt
    ] refl

module _ (s : Model) (e : End) (o : ObjectNo) where
  near-origin : AllByRecursion (Origin s e o) (link_ends_if_single (reading s) e)
  near-origin = if_single s e (Origin s e o) (λ t single here. inl (here, single))

  far-origin : AllByRecursion (Origin s e o) (option_map_or (link_ends_if_single (reading s)) (opposite_end (reading s) e o) [])
  far-origin =
      elim (shape s.metamodel e.feature).opposite as (λ q. (shape s.metamodel e.feature).opposite ≡ q → AllByRecursion (Origin s e o) (option_map_or (link_ends_if_single (reading s)) (option_map (far_end o) q) [])) [
        | None ↦ λ _. tt
        | Some g ↦ λ opposite. if_single s (far_end o g) (Origin s e o) (λ t single here. inr (inl (record { feature = g; opposite = opposite; single = single; here = here })))
      ] refl

  holder-origin : AllByRecursion (Origin s e o) (option_map_or (λ n. option_to_list (holding_link_end (reading s) n)) (node_contained e o (shape s.metamodel e.feature).containing) [])
  holder-origin =
      elim (node_contained e o (shape s.metamodel e.feature).containing) as (λ q. node_contained e o (shape s.metamodel e.feature).containing ≡ q → AllByRecursion (Origin s e o) (option_map_or (λ n. option_to_list (holding_link_end (reading s) n)) q [])) [
        | None ↦ λ _. tt
        | Some p ↦ λ becomes. elim (holder s.links p) as (λ h. holder s.links p ≡ h → AllByRecursion (Origin s e o) (option_to_list (option_map (λ (d : End). link_end d (node_value p)) h))) [
          | None ↦ λ _. tt
          | Some d ↦ λ held. (inr (inr (record { part = p; becomes = becomes; held = held; value = refl })), tt)
        ] refl
      ] refl

  pub displaced_link_ends-origin : AllByRecursion (Origin s e o) (displaced_link_ends (reading s) e o)
  displaced_link_ends-origin = all_once (reading s) (Origin s e o) (in_the_way (reading s) e o) (all-append _ _ _ near-origin (all-append _ _ _ far-origin holder-origin))

---------------------------------------------------------------- what a list keeps

get-within : {X : Type 0} (xs : List X) (k : ℕ) (x : X) → slice_get xs k ≡ Some x → k ≤ length xs
get-within [] k x h = absurd (none-some x h)
get-within (y ∷ ys) zero x h = omega arith
get-within (y ∷ ys) (suc k) x h = let low = get-within ys k x h in omega (arith, low)

-- a feature that a node has is one of the metamodel's
feature-in_range : (s : Model) (e : End) → IsLegal s → has_feature (reading s) e.node e.feature ≡ true → e.feature.0 ≤ length s.metamodel.features
feature-in_range s e legal has = by e.node has
  where
    of-class : (c : ClassNo) → lookups.has_feature s.metamodel c e.feature ≡ true → e.feature.0 ≤ length s.metamodel.features
    of-class c h =
        elim (lookups.feature s.metamodel e.feature) as (λ q. lookups.feature s.metamodel e.feature ≡ q → e.feature.0 ≤ length s.metamodel.features) [
          | None ↦ λ none. absurd (false≢true (has_none s.metamodel legal.metamodel c e.feature none ∙ h))
          | Some x ↦ λ is. get-within s.metamodel.features e.feature.0 x is
        ] refl

    of-object : (c : Option ClassNo) → option_map_or (λ c. lookups.has_feature s.metamodel c e.feature) c false ≡ true → e.feature.0 ≤ length s.metamodel.features
    of-object None h = absurd (false≢true h)
    of-object (Some c) h = of-class c h

    by : (n : Node) → has_feature (reading s) n e.feature ≡ true → e.feature.0 ≤ length s.metamodel.features
    by (node.Object o) h = of-object ((reading s).class o) h
    by (node.Resource k) h = let same = eqb-true e.feature.0 (length s.metamodel.features) (and_parts _ _ h).1 in omega (arith, same)

-- the feature of the end that contains a node is a containment
pub holder-contains : (s : Model) (n : Node) (d : End) → IsLegal s → holder s.links n ≡ Some d → (shape s.metamodel d.feature).containing ≡ Some d.feature
holder-contains s n d legal h =
    let m = s.metamodel in
    let l = holder-some s.links n d h in
    let at = indexed_held l.0 n d (legal.links.set.placed.sides l.0 l.1) l.2 in
    let by = holding_end-feature l.0 n d l.2 in
    let whose : (shape m d.feature).containing ≡ Some by.0 = sym (container_at (kinds_of m) (kinds-are m legal.metamodel) l.0 d (at.0, node_value n) (legal.links.kinds l.0 l.1) at.1) ∙ by.1 in
    whose ∙ ap (λ (k : ℕ). Some (record { 0 = k })) (sym by.2)

-- the end that contains an object has it
held-there : (s : Model) → IsLegal s → (o : ObjectNo) (e : End) → holder s.links (node.Object o) ≡ Some e → has_value (values_at s e) (value.Object o) ≡ true
held-there s legal o e held =
    let n = node.Object o in
    let l = holder-some s.links n e held in
    let at = indexed_held l.0 n e (legal.links.set.placed.sides l.0 l.1) l.2 in
    let there = (legal.links.set.placed.ends e).has at.0 (node_value n) (l.0, l.1, at.1) in
    let refers = contains-reference s.metamodel e.feature e.feature (holder-contains s n e legal held) in
    has-at (values_at s e) (value.Object o) at.0 (ap (λ (vs : List Value). slice_get vs at.0) (values-linked s e refers) ∙ there)

-- the end of a containment has exactly the objects that it contains
pub contained-there : (s : Model) (e : End) (o : ObjectNo) → IsLegal s → is_containment s.metamodel e.feature ≡ true → option_map_or (same_end e) (holder s.links (node.Object o)) false ≡ has_value (values_at s e) (value.Object o)
contained-there s e o legal contains =
    let vs = values_at s e in
    let v = value.Object o in
    elim (has_value vs v) as (λ b. has_value vs v ≡ b → option_map_or (same_end e) (holder s.links (node.Object o)) false ≡ b) [
      | true ↦ λ there. ap (λ (q : Option End). option_map_or (same_end e) q false) (holder-at s legal e.node e.feature contains (index_in vs v) o (index-at vs v there)) ∙ same_end-self e
      | false ↦ λ absent. by (holder s.links (node.Object o)) refl absent
    ] refl
  where
    by : (q : Option End) → holder s.links (node.Object o) ≡ q → has_value (values_at s e) (value.Object o) ≡ false → option_map_or (same_end e) q false ≡ false
    by None is absent = refl
    by (Some d) is absent =
        elim (same_end e d) as (λ b. same_end e d ≡ b → b ≡ false) [
          | true ↦ λ same. absurd (false≢true (sym absent ∙ held-there s legal o e (is ∙ ap Some (sym (same_end-true e d same)))))
          | false ↦ λ _. refl
        ] refl

and_second : (a b : Bool) → (b ≡ true → ⊥) → (a && b) ≡ false
and_second true true h = absurd (h refl)
and_second true false h = refl
and_second false b h = refl

and_first : (a b : Bool) → (a ≡ true → ⊥) → (a && b) ≡ false
and_first true b h = absurd (h refl)
and_first false b h = refl

neither : (a b : Bool) → a ≡ false → b ≡ false → (a || b) ≡ false
neither a b h q = rw (h, q) refl

module _ (s : Model) (legal : IsLegal s) (e : End) (o : ObjectNo) (has : has_feature (reading s) e.node e.feature ≡ true) (many : (shape s.metamodel e.feature).is_single ≡ false) where
  -- a value of a list that is different from o
  module _ (w : Value) (other : w ≡ value.Object o → ⊥) where
    other-value : same_value w (value.Object o) ≡ true → ⊥
    other-value h = other (same_value-true w (value.Object o) h)

    turned-not : (n : Node) (v : Value) (q : Option FeatureNo) → n ≡ node.Object o → option_map_or (same_link_end (link_end e w)) (other_side n v q) false ≡ false
    turned-not n (value.Object x) (Some f) is =
        subst (λ (y : Node). same_link_end (link_end e w) (link_end (far_end x f) (node_value y)) ≡ false) (sym is) (and_second (same_end e (far_end x f)) (same_value w (value.Object o)) other-value)
    turned-not n (value.Object x) None is = refl
    turned-not n v q is = refl

    not-far : (t : LinkEnd) → AtFar s e o t → same_link (reading s) (link_end e w) t ≡ false
    not-far t at =
        let apart : same_end e t.end ≡ true → ⊥ = λ same. (opposites_are_pairs s.metamodel legal.metamodel e.feature at.feature at.opposite).apart (ap (λ (x : End). x.feature.0) (sym (same_end-true e t.end same ∙ at.here))) in
        neither (same_link_end (link_end e w) t) _ (and_first (same_end e t.end) (same_value w t.value) apart) (turned-not t.end.node t.value (shape s.metamodel t.end.feature).opposite (ap (λ (x : End). x.node) at.here))

    -- an end whose opposite is a containment is single, so it is no list
    not-container : (d : End) (q : Option FeatureNo) → (shape s.metamodel d.feature).opposite ≡ q → (shape s.metamodel d.feature).containing ≡ Some d.feature → (shape s.metamodel e.feature).containing ≡ Some e.feature
        → option_map_or (same_link_end (link_end e w)) (other_side d.node (value.Object o) q) false ≡ false
    not-container d None opposite contains own = refl
    not-container d (Some g) opposite contains own =
        let pair = opposites_are_pairs s.metamodel legal.metamodel d.feature g opposite in
        and_first (same_end e (far_end o g)) (same_value w (node_value d.node)) (λ same.
        let is : g ≡ e.feature = sym (ap (λ (x : End). x.feature) (same_end-true e (far_end o g) same)) in
        let twice : Some d.feature ≡ Some e.feature = sym contains ∙ pair.one_containing ∙ ap (λ (f : FeatureNo). (shape s.metamodel f).containing) is ∙ own in
        pair.apart (ap (λ (f : FeatureNo). f.0) (is ∙ sym (same_Some d.feature e.feature twice))))

    not-held : (t : LinkEnd) → (shape s.metamodel e.feature).containing ≡ Some e.feature → holder s.links (node.Object o) ≡ Some t.end → t.value ≡ value.Object o → same_link (reading s) (link_end e w) t ≡ false
    not-held t own held is =
        neither (same_link_end (link_end e w) t) _ (and_second (same_end e t.end) (same_value w t.value) (λ same. other-value (subst (λ (v : Value). same_value w v ≡ true) is same)))
        (subst (λ (v : Value). option_map_or (same_link_end (link_end e w)) (other_side t.end.node v (shape s.metamodel t.end.feature).opposite) false ≡ false) (sym is)
        (not-container t.end (shape s.metamodel t.end.feature).opposite refl (holder-contains s (node.Object o) t.end legal held) own))

    not-holder : (t : LinkEnd) → AtHolder s e o t → same_link (reading s) (link_end e w) t ≡ false
    not-holder t at = by (shape s.metamodel e.feature).containing refl at.becomes
      where
        self : (f : FeatureNo) → same_feature f f ≡ true
        self f = eq-eqb f.0 f.0 refl

        by : (q : Option FeatureNo) → (shape s.metamodel e.feature).containing ≡ q → node_contained e o q ≡ Some at.part → same_link (reading s) (link_end e w) t ≡ false
        by None is becomes = absurd (none-some at.part becomes)
        by (Some h) is becomes = elim (containing_is_known s.metamodel legal.metamodel e.feature h (feature-in_range s e legal has) is) [
          | inl same ↦
              let part : node.Object o ≡ at.part = sym (ap (λ (b : Bool). if b then node.Object o else e.node) (subst (λ (f : FeatureNo). same_feature f e.feature ≡ true) (sym same) (self e.feature))) ∙ same_Some _ at.part becomes in
              not-held t (is ∙ ap (λ (f : FeatureNo). Some f) same) (ap (holder s.links) part ∙ at.held) (at.value ∙ ap node_value (sym part))
          | inr container ↦ absurd (false≢true (sym many ∙ container.single))
        ]

    pub not-displaced : (t : LinkEnd) → Origin s e o t → same_link (reading s) (link_end e w) t ≡ false
    not-displaced t (inl near) = absurd (false≢true (sym many ∙ near.1))
    not-displaced t (inr (inl far)) = not-far t far
    not-displaced t (inr (inr at)) = not-holder t at

  none-any : (p : LinkEnd → Bool) (ts : List LinkEnd) → AllByRecursion (λ (t : LinkEnd). p t ≡ false) ts → list_any p ts ≡ false
  none-any p [] all = refl
  none-any p (t ∷ ts) all = rw all.0 (none-any p ts all.1)

  -- a list that lacks an object keeps all its values when the links that a new link of the object displaces are cut
  pub near-kept : Lacks s.links e (value.Object o) → end (without_all s.links (names_of (displaced_link_ends (reading s) e o))) e ≡ end s.links e
  near-kept lacks =
      let m = kinds_of s.metamodel in
      let ts = displaced_link_ends (reading s) e o in
      end-without_all m (kinds-are s.metamodel legal.metamodel) s.links (names_of ts) legal.links.set legal.links.kinds e
      ∙ filter_all (is_named m (names_of ts) e) (end s.links e) (λ k w at.
      is_named-same_link (reading s) ts (link_end e w)
      ∙ none-any (same_link (reading s) (link_end e w)) ts (all-weaker _ _ ts (not-displaced w (λ same. lacks k (subst (λ (x : Value). slice_get (end s.links e) k ≡ Some x) same at))) (displaced_link_ends-origin s e o)))
