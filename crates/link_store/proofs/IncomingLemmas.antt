-- A scan of rows finds the ends that have a node.
use Rattle.std.proofs.Common.{◌≡◌, ◌≢◌, ℕ, Bool, true, false, List, [], ◌∷◌, ◌++◌, Some, refl, sym, ◌∙◌, subst, inl, inr}
use Rattle.std.specs.Prelude.{◌⊎◌}
use Rattle.std.proofs.lemmas.Bool.{false≢true, or_cases, or_left, or_right}
use Rattle.std.proofs.lemmas.Option.{none-some, some_pair_parts}
use Rattle.links.proofs.EntriesLemmas.{has_end_cases, has_end_left, has_end_right}
use Rattle.links.proofs.CutLemmas.{indexed_alone, indexed_at, indexed_near, indexed_out, indexed_proxy}
use Rattle.links.proofs.EndLemmas.{Among, Among_cases, Among_head, Among_tail, from_list_HasLinks}
use Rattle.links.proofs.HolderLemmas.{is_far_node-true}
use Rattle.links.proofs.PlaceLemmas.{not_proxy, same_node_if, same_node_value}
use Rattle.links.proofs.PutLemmas.{cases_end}
use Rattle.link_store.proofs.RowLemmas.{of_rows}
use Rattle.links.specs.Holders.{is_far_node}
use Rattle.links.specs.LegalSets.{HasTwoSides, IsPlaced}
use Rattle.links.specs.Indexed.{far_value, indexed_value}
use Rattle.links.specs.Plans.{AreIncoming, has_end}
use Rattle.link_store.specs.Rows.{ends_to, ends_with, far_ends_to, if_end}
use Rattle.links.specs.declared.link.Far.TheVariants.{At, Alone, Proxy}
use Rattle.links.specs.declared.link.Far.{Far}
use Rattle.links.specs.declared.link.Link.{Link}
use Rattle.mm_types.proofs.SameLemmas.{same_end-self, same_end-true, same_node-true}
use Rattle.mm_types.specs.Same.{node_value, same_end, same_node}
use Rattle.mm_types.specs.declared.end.End.{End}
use Rattle.mm_types.specs.declared.numbers.Node.TheVariants as node
use Rattle.mm_types.specs.declared.numbers.Node.{Node}
use Rattle.mm_types.specs.declared.numbers.ObjectNo.{ObjectNo}
use Rattle.mm_types.specs.declared.value.Value.TheVariants as value

if_end-is : (b : Bool) (e c : End) → has_end (if_end b e) c ≡ true → (b ≡ true) × (e ≡ c)
if_end-is true e c h = elim (or_cases (same_end e c) false h) [ inl here ↦ (refl, same_end-true e c here) | inr later ↦ absurd (false≢true later) ]
if_end-is false e c h = absurd (false≢true h)

if_end_is : (b : Bool) (e c : End) → b ≡ true → e ≡ c → has_end (if_end b e) c ≡ true
if_end_is b e c hb he = subst (λ (q : Bool). has_end (if_end q e) c ≡ true) (sym hb) (or_left _ _ (subst (λ (x : End). same_end e x ≡ true) he (same_end-self e)))

is_far_node_value : (e : End) (x : Far) (n : Node) → HasTwoSides e x → far_value x ≡ node_value n → is_far_node x n ≡ true
is_far_node_value e (At d j) n two h = same_node_if d.node n (same_node_value d.node n two.2 h)
is_far_node_value e (Alone o) n two h = same_node_if (node.Object o) n (same_node_value (node.Object o) n tt h)
is_far_node_value e (Proxy t) n two h = absurd (not_proxy t n h)

module _ (l : Link) (n : Node) (two : HasTwoSides l.end l.far) where
  far_ends-has : (e : End) (x : Far) → l.far ≡ x → has_end (far_ends_to l.end.node x n) e ≡ true → (k : ℕ) × (indexed_value l e ≡ Some (k, node_value n))
  far_ends-has e (At d j) h q =
      let p = if_end-is (same_node l.end.node n) d e q in
      let same = same_node-true l.end.node n p.0 in
      let sides = subst (λ (x : Far). HasTwoSides l.end x) h two in
      let ne : l.end ≢ d = λ is. sides.0 (λ i. (sym is i).feature.0) in
      (j, subst (λ (y : End). indexed_value l y ≡ Some (j, node_value n)) p.1 (indexed_at l d j h ne ∙ (λ i. Some (j, node_value (same i)))))
  far_ends-has e (Alone o) h q = absurd (false≢true q)
  far_ends-has e (Proxy t) h q = absurd (false≢true q)

  -- an end of the scan has the node
  ends_to-has : (e : End) → has_end (ends_to l n) e ≡ true → (k : ℕ) × (indexed_value l e ≡ Some (k, node_value n))
  ends_to-has e q = elim (has_end_cases (if_end (is_far_node l.far n) l.end) (far_ends_to l.end.node l.far n) e q) [
    | inl near ↦
        let p = if_end-is (is_far_node l.far n) l.end e near in
        let same = is_far_node-true l.far n p.0 in
        (l.index, subst (λ (y : End). indexed_value l y ≡ Some (l.index, node_value n)) p.1 (indexed_near l ∙ (λ i. Some (l.index, same i))))
    | inr far ↦ far_ends-has e l.far refl far
  ]

  has-far_ends : (e : End) (k : ℕ) (x : Far) → l.far ≡ x → l.end ≢ e → indexed_value l e ≡ Some (k, node_value n) → has_end (far_ends_to l.end.node x n) e ≡ true
  has-far_ends e k (At d j) h ne at = elim (cases_end d e) [
    | inl same ↦
        let sides = subst (λ (x : Far). HasTwoSides l.end x) h two in
        let apart : l.end ≢ d = λ is. sides.0 (λ i. (sym is i).feature.0) in
        let here = subst (λ (y : End). indexed_value l y ≡ Some (j, node_value l.end.node)) same (indexed_at l d j h apart) in
        let is = same_node_value l.end.node n sides.1 (some_pair_parts j k (node_value l.end.node) (node_value n) (sym here ∙ at)).1 in
        if_end_is (same_node l.end.node n) d e (same_node_if l.end.node n is) same
    | inr ne_d ↦ absurd (none-some _ (sym (indexed_out l d e j h ne ne_d) ∙ at))
  ]
  has-far_ends e k (Alone o) h ne at = absurd (none-some _ (sym (indexed_alone l e o h ne) ∙ at))
  has-far_ends e k (Proxy t) h ne at = absurd (none-some _ (sym (indexed_proxy l e t h ne) ∙ at))

  -- and each end that has it is found
  has-ends_to : (e : End) (k : ℕ) → indexed_value l e ≡ Some (k, node_value n) → has_end (ends_to l n) e ≡ true
  has-ends_to e k at = elim (cases_end l.end e) [
    | inl same ↦
        let here = subst (λ (y : End). indexed_value l y ≡ Some (l.index, far_value l.far)) same (indexed_near l) in
        let is = (some_pair_parts l.index k (far_value l.far) (node_value n) (sym here ∙ at)).1 in
        has_end_left (if_end (is_far_node l.far n) l.end) (far_ends_to l.end.node l.far n) e (if_end_is (is_far_node l.far n) l.end e (is_far_node_value l.end l.far n two is) same)
    | inr ne ↦ has_end_right (if_end (is_far_node l.far n) l.end) (far_ends_to l.end.node l.far n) e (has-far_ends e k l.far refl ne at)
  ]

ends_with-some : (ls : List Link) (n : Node) (e : End) → has_end (ends_with ls n) e ≡ true → (l : Link) × Among l ls × (has_end (ends_to l n) e ≡ true)
ends_with-some [] n e h = absurd (false≢true h)
ends_with-some (l ∷ ls) n e h = elim (has_end_cases (ends_to l n) (ends_with ls n) e h) [
  | inl here ↦ (l, Among_head l ls, here)
  | inr later ↦ let r = ends_with-some ls n e later in (r.0, Among_tail r.0 l ls r.1, r.2)
]

ends_with_some : (ls : List Link) (n : Node) (e : End) (l : Link) → Among l ls → has_end (ends_to l n) e ≡ true → has_end (ends_with ls n) e ≡ true
ends_with_some [] n e l among h = absurd (false≢true among)
ends_with_some (m ∷ ms) n e l among h = elim (Among_cases l m ms among) [
  | inl same ↦ has_end_left (ends_to m n) (ends_with ms n) e (subst (λ (x : Link). has_end (ends_to x n) e ≡ true) same h)
  | inr later ↦ has_end_right (ends_to m n) (ends_with ms n) e (ends_with_some ms n e l later h)
]

pub rows_incoming : (rows : List Link) → IsPlaced (of_rows rows) → (o : ObjectNo) → AreIncoming (of_rows rows) o (ends_with rows (node.Object o))
rows_incoming rows placed o e =
    let of = from_list_HasLinks rows in
    let n = node.Object o in (
      λ h.
          let l = ends_with-some rows n e h in
          let within = of.only l.0 l.1 in
          let at = ends_to-has l.0 n (placed.sides l.0 within) e l.2 in
          (at.0, (placed.ends e).has at.0 (value.Object o) (l.0, within, at.1)),
      λ h.
          let st = (placed.ends e).only h.0 (value.Object o) h.1 in
          ends_with_some rows n e st.0 (of.has st.0 st.1) (has-ends_to st.0 n (placed.sides st.0 st.1) e h.0 st.2),
    )
