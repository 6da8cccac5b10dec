-- Which links an end and a value there name.
use Rattle.std.proofs.Common.{◌≡◌, ◌≢◌, ℕ, true, false, Option, Some, refl, sym, ap, ◌∙◌, subst, inl, inr}
use Rattle.std.specs.Prelude.{◌⊎◌, ◌&&◌}
use Rattle.std.specs.List.{slice_get}
use Rattle.std.proofs.lemmas.Bool.{and_from, and_parts, false≢true, or_cases, or_left, or_right}
use Rattle.std.proofs.lemmas.Option.{none-some, some_pair_parts}
use Rattle.links.proofs.CutLemmas.{indexed_alone, indexed_at, indexed_near, indexed_out, indexed_proxy}
use Rattle.mm_types.specs.SameValues.{same_value-self, same_value-true}
use Rattle.links.proofs.PutLemmas.{cases_end}
use Rattle.links.proofs.ScanLemmas.{is_value_at-indexed, is_value_at-true}
use Rattle.links.proofs.SideLemmas.{both_ends_agree, far_cases, paired_far}
use Rattle.links.specs.Laws.{names, names_far}
use Rattle.links.specs.LegalSets.{AreKinds, AreOfKind, FarOfKind, HasTwoSides, IsLegalSet, IsObject, IsOfKind, Kinds}
use Rattle.links.specs.Links.{Links, end, far_end}
use Rattle.links.specs.Indexed.{far_value, is_value_at, indexed_value}
use Rattle.links.specs.Plans.{Has, Lacks}
use Rattle.links.specs.declared.link.Far.TheVariants.{At, Alone, Proxy}
use Rattle.links.specs.declared.link.Far.{Far}
use Rattle.links.specs.declared.link.Link.{Link}
use Rattle.links.proofs.RankLemmas.{same-tests}
use Rattle.mm_types.proofs.SameLemmas.{same_end-self, same_end-true}
use Rattle.mm_types.specs.Same.{node_value, same_end, same_value}
use Rattle.mm_types.specs.declared.end.End.{End}
use Rattle.mm_types.specs.declared.numbers.FeatureNo.{FeatureNo}
use Rattle.mm_types.specs.declared.numbers.Node.TheVariants as node
use Rattle.mm_types.specs.declared.numbers.Node.{Node}
use Rattle.mm_types.specs.declared.numbers.ObjectNo.{ObjectNo}
use Rattle.mm_types.specs.declared.value.Value.TheVariants as value
use Rattle.mm_types.specs.declared.value.Value.{Value}

---------------------------------------------------------------- a link that is in two ends

-- each of the two ends has the other's node
abbrev pub AreOpposite : Kinds → End → End → Value → Value → Type 0
AreOpposite m e d v w = (m.opposite e.feature ≡ Some d.feature) × IsObject d.node × (v ≡ node_value d.node) × (w ≡ node_value e.node)

module _ (m : Kinds) (l : Link) (ok : IsOfKind m l) (two : HasTwoSides l.end l.far) (e d : End) (j k : ℕ) (v w : Value) (ne : e ≢ d) (at_e : indexed_value l e ≡ Some (j, v)) (at_d : indexed_value l d ≡ Some (k, w)) where
  near_first : (c : End) (i : ℕ) → l.far ≡ At c i → l.end ≢ c → l.end ≡ e → c ≡ d → AreOpposite m e d v w
  near_first c i h apart same_e same_d =
      let kind = subst (λ (x : Far). FarOfKind m l.end.feature x) h ok.far in
      let sides = subst (λ (x : Far). HasTwoSides l.end x) h two in
      let near = subst (λ (x : End). indexed_value l x ≡ Some (l.index, far_value l.far)) same_e (indexed_near l) in
      let far = subst (λ (x : End). indexed_value l x ≡ Some (i, node_value l.end.node)) same_d (indexed_at l c i h apart) in
      let is_v = (some_pair_parts l.index j (far_value l.far) v (sym near ∙ at_e)).1 in
      let is_w = (some_pair_parts i k (node_value l.end.node) w (sym far ∙ at_d)).1 in (
        subst (λ (x : End). m.opposite x.feature ≡ Some d.feature) same_e (subst (λ (x : End). m.opposite l.end.feature ≡ Some x.feature) same_d kind.0),
        subst (λ (x : End). IsObject x.node) same_d sides.2,
        sym is_v ∙ ap far_value h ∙ (λ t. node_value (same_d t).node),
        sym is_w ∙ (λ t. node_value (same_e t).node),
      )

  far_first : (c : End) (i : ℕ) → l.far ≡ At c i → l.end ≢ c → c ≡ e → l.end ≡ d → AreOpposite m e d v w
  far_first c i h apart same_e same_d =
      let kind = subst (λ (x : Far). FarOfKind m l.end.feature x) h ok.far in
      let sides = subst (λ (x : Far). HasTwoSides l.end x) h two in
      let far = subst (λ (x : End). indexed_value l x ≡ Some (i, node_value l.end.node)) same_e (indexed_at l c i h apart) in
      let near = subst (λ (x : End). indexed_value l x ≡ Some (l.index, far_value l.far)) same_d (indexed_near l) in
      let is_v = (some_pair_parts i j (node_value l.end.node) v (sym far ∙ at_e)).1 in
      let is_w = (some_pair_parts l.index k (far_value l.far) w (sym near ∙ at_d)).1 in (
        subst (λ (x : End). m.opposite x.feature ≡ Some d.feature) same_e (subst (λ (x : End). m.opposite c.feature ≡ Some x.feature) same_d kind.1),
        subst (λ (x : End). IsObject x.node) same_d sides.1,
        sym is_v ∙ (λ t. node_value (same_d t).node),
        sym is_w ∙ ap far_value h ∙ (λ t. node_value (same_e t).node),
      )

  by_far : (x : Far) → l.far ≡ x → AreOpposite m e d v w
  by_far (At c i) h =
      let sides = subst (λ (x : Far). HasTwoSides l.end x) h two in
      let apart : l.end ≢ c = λ same. sides.0 (λ t. (sym same t).feature.0) in
      elim (cases_end l.end e) [
        | inl same_e ↦ elim (cases_end c d) [
          | inl same_d ↦ near_first c i h apart same_e same_d
          | inr out ↦ absurd (none-some _ (sym (indexed_out l c d i h (λ q. ne (sym same_e ∙ q)) out) ∙ at_d))
        ]
        | inr out_e ↦ elim (cases_end c e) [
          | inl same_e ↦ elim (cases_end l.end d) [
            | inl same_d ↦ far_first c i h apart same_e same_d
            | inr out ↦ absurd (none-some _ (sym (indexed_out l c d i h out (λ q. ne (sym same_e ∙ q))) ∙ at_d))
          ]
          | inr out ↦ absurd (none-some _ (sym (indexed_out l c e i h out_e out) ∙ at_e))
        ]
      ]
  by_far (Alone o) h = elim (cases_end l.end e) [
    | inl same ↦ absurd (none-some _ (sym (indexed_alone l d o h (λ q. ne (sym same ∙ q))) ∙ at_d))
    | inr out ↦ absurd (none-some _ (sym (indexed_alone l e o h out) ∙ at_e))
  ]
  by_far (Proxy t) h = elim (cases_end l.end e) [
    | inl same ↦ absurd (none-some _ (sym (indexed_proxy l d t h (λ q. ne (sym same ∙ q))) ∙ at_d))
    | inr out ↦ absurd (none-some _ (sym (indexed_proxy l e t h out) ∙ at_e))
  ]

  pub two_entries : AreOpposite m e d v w
  two_entries = by_far l.far refl

---------------------------------------------------------------- what a name says

abbrev pub NamesFar : End → Value → Option FeatureNo → End → Value → Type 0
NamesFar e v q d w = (o : ObjectNo) × (g : FeatureNo) × (v ≡ value.Object o) × (q ≡ Some g) × (far_end o g ≡ d) × (node_value e.node ≡ w)

names_far-true : (e : End) (v : Value) (q : Option FeatureNo) (d : End) (w : Value) → names_far e v q d w ≡ true → NamesFar e v q d w
names_far-true e (value.Object o) (Some g) d w h =
    let both = and_parts (same_end (far_end o g) d) (same_value (node_value e.node) w) h in
    (o, g, refl, refl, same_end-true (far_end o g) d both.0, same_value-true (node_value e.node) w both.1)
names_far-true e _ _ d w h = absurd (false≢true h)

pub names-true : (m : Kinds) (e : End) (v : Value) (d : End) (w : Value) → names m e v d w ≡ true → ((e ≡ d) × (v ≡ w)) ⊎ NamesFar e v (m.opposite e.feature) d w
names-true m e v d w h = elim (or_cases (same_end e d && same_value v w) (names_far e v (m.opposite e.feature) d w) h) [
  | inl near ↦ let both = and_parts (same_end e d) (same_value v w) near in inl (same_end-true e d both.0, same_value-true v w both.1)
  | inr far ↦ inr (names_far-true e v (m.opposite e.feature) d w far)
]

pub names-itself : (m : Kinds) (e : End) (v : Value) → names m e v e v ≡ true
names-itself m e v = or_left _ _ (and_from (same_end e e) (same_value v v) (same_end-self e) (same_value-self v))

names_far-turned : (e : End) (o : ObjectNo) (g : FeatureNo) (q : Option FeatureNo) → q ≡ Some g → names_far e (value.Object o) q (far_end o g) (node_value e.node) ≡ true
names_far-turned e o g q is = subst (λ (x : Option FeatureNo). names_far e (value.Object o) x (far_end o g) (node_value e.node) ≡ true) (sym is)
    (and_from (same_end (far_end o g) (far_end o g)) (same_value (node_value e.node) (node_value e.node)) (same_end-self (far_end o g)) (same_value-self (node_value e.node)))

names_turned : (m : Kinds) (e : End) (n : Node) (g : FeatureNo) → m.opposite e.feature ≡ Some g → IsObject n → names m e (node_value n) (record { node = n; feature = g }) (node_value e.node) ≡ true
names_turned m e (node.Object o) g opposite is = or_right _ _ (names_far-turned e o g (m.opposite e.feature) opposite)
names_turned m e (node.Resource r) g opposite is = absurd is

names_opposite : (m : Kinds) (e : End) (v : Value) (d : End) (w : Value) → AreOpposite m e d v w → names m e v d w ≡ true
names_opposite m e v d w (opposite, object, is_v, is_w) =
    subst (λ (x : Value). names m e x d w ≡ true) (sym is_v) (subst (λ (x : Value). names m e (node_value d.node) d x ≡ true) (sym is_w) (names_turned m e d.node d.feature opposite object))

---------------------------------------------------------------- the link that has a name

module _ (m : Kinds) (l : Link) (ok : IsOfKind m l) (two : HasTwoSides l.end l.far) (e : End) (k : ℕ) (v : Value) (at : indexed_value l e ≡ Some (k, v)) (d : End) (w : Value) where
  pub value-named : is_value_at w (indexed_value l d) ≡ true → names m e v d w ≡ true
  value-named h =
      let there = is_value_at-true (indexed_value l d) w h in
      elim (cases_end e d) [
        | inl same ↦
            let here = subst (λ (x : End). indexed_value l x ≡ Some (k, v)) same at in
            let is = (some_pair_parts k there.0 v w (sym here ∙ there.1)).1 in
            subst (λ (x : End). names m e v x w ≡ true) same (subst (λ (x : Value). names m e v e x ≡ true) is (names-itself m e v))
        | inr ne ↦ names_opposite m e v d w (two_entries m l ok two e d k there.0 v w ne at there.1)
      ]

  pub named-value : names m e v d w ≡ true → is_value_at w (indexed_value l d) ≡ true
  named-value h = elim (names-true m e v d w h) [
    | inl near ↦ is_value_at-indexed (indexed_value l d) k w (subst (λ (x : Value). indexed_value l d ≡ Some (k, x)) near.1 (subst (λ (x : End). indexed_value l x ≡ Some (k, v)) near.0 at))
    | inr (o, g, is_v, opposite, is_d, is_w) ↦
        let y = far_end o g in
        let here = subst (λ (x : Value). indexed_value l e ≡ Some (k, x)) is_v at in
        let other = far_cases l e y k two (paired_far m l.end.feature l.far e.feature g opposite ok.far) here l.far refl in
        is_value_at-indexed (indexed_value l d) other.0 w (subst (λ (x : Value). indexed_value l d ≡ Some (other.0, x)) is_w (subst (λ (x : End). indexed_value l x ≡ Some (other.0, node_value e.node)) is_d other.1))
  ]

  -- the name of a link says at which positions the link is
  pub indexed_value-named : is_value_at w (indexed_value l d) ≡ names m e v d w
  indexed_value-named = same-tests _ _ value-named named-value

-- if a name names no link of a set, no value of an end is named by it
pub names_nothing : (m : Kinds) → AreKinds m → (s : Links) → IsLegalSet s → AreOfKind m s → (e : End) (v : Value) → Lacks s e v → (d : End) (w : Value) → Has s d w → names m e v d w ≡ false
names_nothing m ok s legal kinds e v lacks d w has = elim (names m e v d w) as (λ b. names m e v d w ≡ b → b ≡ false) [
  | false ↦ λ _. refl
  | true ↦ λ h. elim (names-true m e v d w h) [
    | inl near ↦ absurd (lacks has.0 (subst (λ (x : End). slice_get (end s x) has.0 ≡ Some v) (sym near.0) (subst (λ (x : Value). slice_get (end s d) has.0 ≡ Some x) (sym near.1) has.1)))
    | inr (o, g, is_v, opposite, is_d, is_w) ↦
        let y = far_end o g in
        let there : Has s y (node_value e.node) = (has.0, subst (λ (x : Value). slice_get (end s y) has.0 ≡ Some x) (sym is_w) (subst (λ (x : End). slice_get (end s x) has.0 ≡ Some w) (sym is_d) has.1)) in
        let back = both_ends_agree m s legal kinds y e (ok.inverse e.feature g opposite) there in
        absurd (lacks back.0 (subst (λ (x : Value). slice_get (end s e) back.0 ≡ Some x) (sym is_v) back.1))
  ]
] refl
