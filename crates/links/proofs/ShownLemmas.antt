-- A link that is at its ends as a set has them is in the set.
use Rattle.std.proofs.Common.{◌≡◌, ◌≢◌, ℕ, ◌<◌, List, Option, Some, None, refl, sym, ap, ◌∙◌, subst, inl, inr, arith}
use Rattle.std.specs.List.{slice_get}
use Rattle.std.proofs.lemmas.Option.{none-some, same_Some, some_pair_parts}
use Rattle.links.proofs.CutLemmas.{indexed_alone, indexed_at, indexed_near, indexed_out, indexed_proxy}
use Rattle.links.proofs.PlaceLemmas.{not_proxy, same_node_value}
use Rattle.links.proofs.PutLemmas.{cases_end}
use Rattle.links.specs.LegalSets.{AreOfKind, FarOfKind, HasTwoSides, IsOfKind, IsPlaced, Kinds}
use Rattle.links.specs.Links.{In, Links, end}
use Rattle.links.specs.Indexed.{far_value, indexed_value}
use Rattle.links.specs.declared.link.Far.TheVariants.{At, Alone, Proxy}
use Rattle.links.specs.declared.link.Far.{Far}
use Rattle.links.specs.declared.link.Link.{Link}
use Rattle.mm_types.specs.Same.{node_value}
use Rattle.mm_types.specs.declared.end.End.{End}
use Rattle.mm_types.specs.declared.numbers.FeatureNo.{FeatureNo}
use Rattle.mm_types.specs.declared.numbers.Node.TheVariants as node
use Rattle.mm_types.specs.declared.numbers.ObjectNo.{ObjectNo}
use Rattle.mm_types.specs.declared.value.Value.TheVariants as value

-- the ends of a set have a link of the kinds at its positions
pub record IsShown (kinds : Kinds) (t : Links) (l : Link) : Type 0 where
  pub kind : IsOfKind kinds l
  pub sides : HasTwoSides l.end l.far
  pub near : slice_get (end t l.end) l.index ≡ Some (far_value l.far)
  pub far : (d : End) (j : ℕ) → l.far ≡ At d j → slice_get (end t d) j ≡ Some (node_value l.end.node)

same_link_parts : (l m : Link) → l.end ≡ m.end → l.index ≡ m.index → l.far ≡ m.far → l.container ≡ m.container → l ≡ m
same_link_parts l m e i f c = λ t. record { end = e t; index = i t; far = f t; container = c t }

pub proxy_value : (s t : List ℕ) → value.Proxy s ≡ value.Proxy t → s ≡ t
proxy_value s t h = cc

pub object_value : (x y : ObjectNo) → value.Object x ≡ value.Object y → x ≡ y
object_value x y h = cc

no_feature : (o : Option FeatureNo) (f : FeatureNo) → o ≡ None → o ≡ Some f → ⊥
no_feature o f a b = none-some f (sym a ∙ b)

module _ (kinds : Kinds) (t : Links) (lt : IsPlaced t) (kt : AreOfKind kinds t) (l : Link) (s : IsShown kinds t l) (m : Link) (g : In m t) (at : indexed_value m l.end ≡ Some (l.index, far_value l.far)) where
  same_side : l.end ≡ m.end → (l.index ≡ m.index) × (far_value l.far ≡ far_value m.far)
  same_side e =
      let here = subst (λ (x : End). indexed_value m x ≡ Some (m.index, far_value m.far)) (sym e) (indexed_near m) in
      let parts = some_pair_parts m.index l.index (far_value m.far) (far_value l.far) (sym here ∙ at) in
      (sym parts.0, sym parts.1)

  containers : l.end ≡ m.end → l.container ≡ m.container
  containers e = s.kind.container ∙ ap (λ (x : End). kinds.container x.feature) e ∙ sym (kt m g).container

  far_parts : (d c : End) (j k : ℕ) → l.far ≡ At d j → m.far ≡ At c k → l.end ≡ m.end → l.far ≡ m.far
  far_parts d c j k fl fm e =
      let kl = subst (λ (x : Far). FarOfKind kinds l.end.feature x) fl s.kind.far in
      let km = subst (λ (x : Far). FarOfKind kinds m.end.feature x) fm (kt m g).far in
      let sides = subst (λ (x : Far). HasTwoSides l.end x) fl s.sides in
      let node = same_node_value d.node c.node sides.2 (sym (ap far_value fl) ∙ (same_side e).1 ∙ ap far_value fm) in
      let feature = same_Some d.feature c.feature (sym kl.0 ∙ ap (λ (x : End). kinds.opposite x.feature) e ∙ km.0) in
      let is : d ≡ c = λ i. record { node = node i; feature = feature i } in
      let nm : m.end ≢ c = λ q. omega (arith, km.2, ap (λ (x : End). x.feature.0) q) in
      let a = s.far d j fl in
      let b = (lt.ends c).has k (node_value m.end.node) (m, g, indexed_at m c k fm nm) in
      let a' : slice_get (end t c) j ≡ Some (node_value m.end.node) =
      subst (λ (x : End). slice_get (end t c) j ≡ Some (node_value x.node)) e (subst (λ (x : End). slice_get (end t x) j ≡ Some (node_value l.end.node)) is a) in
      let n = lt.distinct c j k (node_value m.end.node) a' b in
      fl ∙ (λ i. At (is i) (n i)) ∙ sym fm

  one_far : (f x : Far) → l.far ≡ f → m.far ≡ x → l.end ≡ m.end → l.far ≡ m.far
  one_far (At d j) (At c k) fl fm e = far_parts d c j k fl fm e
  one_far (At d j) (Alone n) fl fm e = absurd (no_feature (kinds.opposite m.end.feature) d.feature (subst (λ (x : Far). FarOfKind kinds m.end.feature x) fm (kt m g).far) (ap (λ (x : End). kinds.opposite x.feature) (sym e) ∙ (subst (λ (x : Far). FarOfKind kinds l.end.feature x) fl s.kind.far).0))
  one_far (At d j) (Proxy n) fl fm e = absurd (not_proxy n d.node (sym (ap far_value fm) ∙ sym (same_side e).1 ∙ ap far_value fl))
  one_far (Alone n) (At c k) fl fm e = absurd (no_feature (kinds.opposite l.end.feature) c.feature (subst (λ (x : Far). FarOfKind kinds l.end.feature x) fl s.kind.far) (ap (λ (x : End). kinds.opposite x.feature) e ∙ (subst (λ (x : Far). FarOfKind kinds m.end.feature x) fm (kt m g).far).0))
  one_far (Alone n) (Alone k) fl fm e = fl ∙ ap Alone (object_value n k (sym (ap far_value fl) ∙ (same_side e).1 ∙ ap far_value fm)) ∙ sym fm
  one_far (Alone n) (Proxy k) fl fm e = absurd (not_proxy k (node.Object n) (sym (ap far_value fm) ∙ sym (same_side e).1 ∙ ap far_value fl))
  one_far (Proxy n) (At c k) fl fm e = absurd (not_proxy n c.node (sym (ap far_value fl) ∙ (same_side e).1 ∙ ap far_value fm))
  one_far (Proxy n) (Alone k) fl fm e = absurd (not_proxy n (node.Object k) (sym (ap far_value fl) ∙ (same_side e).1 ∙ ap far_value fm))
  one_far (Proxy n) (Proxy k) fl fm e = fl ∙ ap Proxy (proxy_value n k (sym (ap far_value fl) ∙ (same_side e).1 ∙ ap far_value fm)) ∙ sym fm

  crossed_kind : (c : End) (k : ℕ) → m.far ≡ At c k → c ≡ l.end → (kinds.opposite l.end.feature ≡ Some m.end.feature) × (m.end.feature.0 < l.end.feature.0)
  crossed_kind c k fm e =
      let km = subst (λ (x : Far). FarOfKind kinds m.end.feature x) fm (kt m g).far in
      (ap (λ (x : End). kinds.opposite x.feature) (sym e) ∙ km.1, subst (λ (x : End). m.end.feature.0 < x.feature.0) e km.2)

  crossed_text : (c : End) (k : ℕ) → m.far ≡ At c k → c ≡ l.end → (n : List ℕ) → l.far ≡ Proxy n → ⊥
  crossed_text c k fm e n fl =
      let km = subst (λ (x : Far). FarOfKind kinds m.end.feature x) fm (kt m g).far in
      let nm : m.end ≢ c = λ q. omega (arith, km.2, ap (λ (x : End). x.feature.0) q) in
      let here = subst (λ (x : End). indexed_value m x ≡ Some (k, node_value m.end.node)) e (indexed_at m c k fm nm) in
      not_proxy n m.end.node (sym (ap far_value fl) ∙ sym (some_pair_parts k l.index (node_value m.end.node) (far_value l.far) (sym here ∙ at)).1)

  crossed_far : ((n : List ℕ) → l.far ≡ Proxy n → ⊥) → (f : Far) → l.far ≡ f → kinds.opposite l.end.feature ≡ Some m.end.feature → m.end.feature.0 < l.end.feature.0 → ⊥
  crossed_far ct (At d j) fl o lt =
      let kl = subst (λ (x : Far). FarOfKind kinds l.end.feature x) fl s.kind.far in
      let q = same_Some d.feature m.end.feature (sym kl.0 ∙ o) in
      omega (arith, lt, kl.2, ap (λ (y : FeatureNo). y.0) q)
  crossed_far ct (Alone n) fl o lt = no_feature (kinds.opposite l.end.feature) m.end.feature (subst (λ (x : Far). FarOfKind kinds l.end.feature x) fl s.kind.far) o
  crossed_far ct (Proxy n) fl o lt = ct n fl

  not_crossed : (f x : Far) → l.far ≡ f → m.far ≡ x → m.end ≢ l.end → ⊥
  not_crossed f (At c k) fl fm ne = elim (cases_end c l.end) [
    | inl e ↦ let kind = crossed_kind c k fm e in crossed_far (crossed_text c k fm e) f fl kind.0 kind.1
    | inr out ↦ none-some _ (sym (indexed_out m c l.end k fm ne out) ∙ at)
  ]
  not_crossed f (Alone n) fl fm ne = none-some _ (sym (indexed_alone m l.end n fm ne) ∙ at)
  not_crossed f (Proxy n) fl fm ne = none-some _ (sym (indexed_proxy m l.end n fm ne) ∙ at)

  is_found : (f x : Far) → l.far ≡ f → m.far ≡ x → l ≡ m
  is_found f x fl fm = elim (cases_end l.end m.end) [
    | inl e ↦ same_link_parts l m e (same_side e).0 (one_far f x fl fm e) (containers e)
    | inr ne ↦ absurd (not_crossed f x fl fm (λ q. ne (sym q)))
  ]

pub shown_in : (kinds : Kinds) (t : Links) → IsPlaced t → AreOfKind kinds t → (l : Link) → IsShown kinds t l → In l t
shown_in kinds t lt kt l s =
    let m = (lt.ends l.end).only l.index (far_value l.far) s.near in
    subst (λ (x : Link). In x t) (sym (is_found kinds t lt kt l s m.0 m.1 m.2 l.far m.0.far refl refl)) m.1
