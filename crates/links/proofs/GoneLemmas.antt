-- A legal set after some nodes are removed.
use Rattle.std.proofs.Common.{◌≡◌, ◌≢◌, ℕ, Bool, true, false, not, List, [], ◌∷◌, fold, Option, Some, None, if◌then◌else◌, refl, sym, ap, ◌∙◌, subst, inl, inr}
use Rattle.std.specs.Prelude.{◌||◌, option_and_then}
use Rattle.std.specs.List.{filter, list_any, slice_get}
use Rattle.std.specs.Option.{option_or}
use Rattle.std.specs.FinSet as set
use Rattle.std.proofs.lemmas.Bool.{false≢true, not-true, or_cases, or_left, or_right, true≢false}
use Rattle.std.proofs.lemmas.Option.{none-some, some_pair_parts}
use Rattle.links.proofs.AboveLemmas.{held_object}
use Rattle.links.proofs.BareLemmas.{In-cut, IsPart, same_has, same_holding}
use Rattle.links.proofs.CutLemmas.{indexed_alone, indexed_at, indexed_near, indexed_out, indexed_proxy}
use Rattle.links.proofs.CutNamedLemmas.{cut_value-cases, end-cut_filter, end-without_all, without_all_kinds, without_all_legal}
use Rattle.links.proofs.CycleLemmas.{cut_value_no_cycle}
use Rattle.links.proofs.EndLemmas.{Among, Among_cases, Among_head, Among_tail, items_HasLinks}
use Rattle.links.proofs.FilterLemmas.{filter_all, filter_alike, filter_or, filter_passes, filter_twice}
use Rattle.links.proofs.HolderLemmas.{holder-cut, holder-some, indexed_held, unheld}
use Rattle.links.proofs.KindLemmas.{kinds_cut_value}
use Rattle.links.proofs.LegalLemmas.{cut_value_legal}
use Rattle.links.proofs.PutLemmas.{cases_end}
use Rattle.links.proofs.AmongLemmas.{Among-filter, Among_filter}
use Rattle.links.proofs.SameLinksLemmas.{same_by_ends}
use Rattle.links.proofs.ScanLemmas.{first_holding-none, first_holding-some, is_value_at-indexed, is_value_at-true, one_with}
use Rattle.links.specs.Holders.{HasNoCycle, first_holding, holder, holding_end}
use Rattle.links.specs.Laws.{goes, is_named, without_all}
use Rattle.links.specs.LegalSets.{AreKinds, AreOfKind, HasTwoSides, IsLegalSet, IsObject, Kinds}
use Rattle.links.specs.Links.{In, Links, cut_value, end, far_touches, touches, without_nodes}
use Rattle.links.specs.Indexed.{link_without_positions, far_value, is_value_at, indexed_value}
use Rattle.links.specs.Plans.{Has}
use Rattle.links.specs.declared.link.Far.TheVariants.{At, Alone, Proxy}
use Rattle.links.specs.declared.link.Far.{Far}
use Rattle.links.specs.declared.link.Link.{Link}
use Rattle.links.proofs.RankLemmas.{same-tests}
use Rattle.mm_types.specs.Same.{node_value}
use Rattle.mm_types.specs.declared.end.End.{End}
use Rattle.mm_types.specs.declared.numbers.Node.TheVariants as node
use Rattle.mm_types.specs.declared.numbers.Node.{Node}
use Rattle.mm_types.specs.declared.value.Value.{Value}

---------------------------------------------------------------- one link of a larger set

module _ (s t : Links) (legal_s : IsLegalSet s) (legal : IsLegalSet t) (part : IsPart t s) (l : Link) (within : In l s) where
  -- the smaller set after the link is cut in it, if it has the link
  abbrev less : Links
  less = cut_value t l.end (far_value l.far)

  -- if a link of the smaller set has a value of this link in an end, it is this link
  the_same : (k : Link) → In k t → (d : End) (w : Value) → is_value_at w (indexed_value k d) ≡ true → is_value_at w (indexed_value l d) ≡ true → link_without_positions k ≡ link_without_positions l
  the_same k h d w in_k in_l =
      let was = part k h in
      let at_k = is_value_at-true (indexed_value was.0 d) w (sym (same_has k was.0 d w was.2) ∙ in_k) in
      let at_l = is_value_at-true (indexed_value l d) w in_l in
      was.2 ∙ ap (λ (x : Link). link_without_positions x) (one_with s was.0 l d w at_k.0 at_l.0 legal_s.placed was.1 within at_k.1 at_l.1)

  near_has : is_value_at (far_value l.far) (indexed_value l l.end) ≡ true
  near_has = is_value_at-indexed (indexed_value l l.end) l.index (far_value l.far) (indexed_near l)

  -- if the set lacks the link, no link of it is that one
  absent : ((j : ℕ) → slice_get (end t l.end) j ≡ Some (far_value l.far) → ⊥) → (k : Link) → In k t → link_without_positions k ≡ link_without_positions l → ⊥
  absent lacks k h same =
      let at = is_value_at-true (indexed_value k l.end) (far_value l.far) (same_has k l l.end (far_value l.far) same ∙ near_has) in
      lacks at.0 ((legal.placed.ends l.end).has at.0 (far_value l.far) (k, h, at.1))

  cut_end : (d : End) → end less d ≡ filter (λ w. not (is_value_at w (indexed_value l d))) (end t d)
  cut_end d = elim (cut_value-cases t legal.placed l.end (far_value l.far)) [
    | inl (k, j, h, at, is) ↦
        let same = the_same k h l.end (far_value l.far) (is_value_at-indexed (indexed_value k l.end) j (far_value l.far) at) near_has in
        ap (λ (u : Links). end u d) is ∙ end-cut_filter t legal.placed k h d
        ∙ ap (λ (p : Value → Bool). filter (λ w. not (p w)) (end t d)) (λ i w. same_has k l d w same i)
    | inr (is, lacks) ↦
        ap (λ (u : Links). end u d) is
        ∙ sym (filter_all (λ w. is_value_at w (indexed_value l d)) (end t d) (λ j w at. elim (is_value_at w (indexed_value l d)) as (λ b. is_value_at w (indexed_value l d) ≡ b → b ≡ false) [
          | true ↦ λ q.
              let st = (legal.placed.ends d).only j w at in
              absurd (absent lacks st.0 st.1 (the_same st.0 st.1 d w (is_value_at-indexed (indexed_value st.0 d) j w st.2) q))
          | false ↦ λ q. refl
        ] refl))
  ]

  cut_holder : (n : Node) → holder less n ≡ unheld (holding_end l n) (holder t n)
  cut_holder n = elim (cut_value-cases t legal.placed l.end (far_value l.far)) [
    | inl (k, j, h, at, is) ↦
        let same = the_same k h l.end (far_value l.far) (is_value_at-indexed (indexed_value k l.end) j (far_value l.far) at) near_has in
        ap (λ (u : Links). holder u n) is ∙ holder-cut t legal.placed legal.held k h n ∙ ap (λ (o : Option End). unheld o (holder t n)) (same_holding k l n same)
    | inr (is, lacks) ↦
        ap (λ (u : Links). holder u n) is
        ∙ elim (holding_end l n) as (λ o. holding_end l n ≡ o → holder t n ≡ unheld o (holder t n)) [
          | None ↦ λ g. refl
          | Some x ↦ λ g. elim (holder t n) as (λ o. holder t n ≡ o → o ≡ None) [
            | None ↦ λ h. refl
            | Some d ↦ λ h.
                let k = holder-some t n d h in
                let was = part k.0 k.1 in
                let same = legal_s.held was.0 l n d x was.1 within (sym (same_holding k.0 was.0 n was.2) ∙ k.2) g in
                let at_k = indexed_held k.0 n d (legal.placed.sides k.0 k.1) k.2 in
                let at_l = indexed_held l n x (legal_s.placed.sides l within) g in
                let here = subst (λ (y : End). indexed_value l y ≡ Some (at_l.0, node_value n)) (sym same) at_l.1 in
                absurd (absent lacks k.0 k.1 (the_same k.0 k.1 d (node_value n) (is_value_at-indexed (indexed_value k.0 d) at_k.0 (node_value n) at_k.1) (is_value_at-indexed (indexed_value l d) at_l.0 (node_value n) here)))
          ] refl
        ] refl
  ]

  part_cut : IsPart less s
  part_cut k h = elim (cut_value-cases t legal.placed l.end (far_value l.far)) [
    | inl (m, j, hm, at, is) ↦
        let from = In-cut t m k (subst (λ (u : Links). In k u) is h) in
        let was = part from.0 from.1 in
        (was.0, was.1, from.2 ∙ was.2)
    | inr (is, lacks) ↦ part k (subst (λ (u : Links). In k u) is h)
  ]

---------------------------------------------------------------- several

-- cuts links, each if it is still there
abbrev pub cut_each : Links → List Link → Links
cut_each s ls = fold (λ t l. cut_value t l.end (far_value l.far)) s ls

cut_each_legal : (s : Links) (ls : List Link) → IsLegalSet s → IsLegalSet (cut_each s ls)
cut_each_legal s [] legal = legal
cut_each_legal s (l ∷ ls) legal = cut_each_legal (cut_value s l.end (far_value l.far)) ls (cut_value_legal s l.end (far_value l.far) legal)

cut_each_kinds : (m : Kinds) (s : Links) (ls : List Link) → AreOfKind m s → AreOfKind m (cut_each s ls)
cut_each_kinds m s [] kinds = kinds
cut_each_kinds m s (l ∷ ls) kinds = cut_each_kinds m (cut_value s l.end (far_value l.far)) ls (kinds_cut_value m s l.end (far_value l.far) kinds)

cut_each_no_cycle : (s : Links) (ls : List Link) → IsLegalSet s → HasNoCycle s → HasNoCycle (cut_each s ls)
cut_each_no_cycle s [] legal free = free
cut_each_no_cycle s (l ∷ ls) legal free = cut_each_no_cycle (cut_value s l.end (far_value l.far)) ls (cut_value_legal s l.end (far_value l.far) legal) (cut_value_no_cycle s l.end (far_value l.far) legal free)

-- some link of the list has w in d
abbrev some_has : List Link → End → Value → Bool
some_has ls d w = list_any (λ l. is_value_at w (indexed_value l d)) ls

unheld_twice : (a b o : Option End) → unheld b (unheld a o) ≡ unheld (option_or a b) o
unheld_twice None b o = refl
unheld_twice (Some x) None o = refl
unheld_twice (Some x) (Some y) o = refl

module _ (s : Links) (legal_s : IsLegalSet s) where
  end-cut_each : (t : Links) (ls : List Link) → IsLegalSet t → IsPart t s → ((l : Link) → Among l ls → In l s) → (d : End) → end (cut_each t ls) d ≡ filter (λ w. not (some_has ls d w)) (end t d)
  end-cut_each t [] legal part all d = sym (filter_all (λ w. false) (end t d) (λ k w at. refl))
  end-cut_each t (l ∷ ls) legal part all d =
      let within = all l (Among_head l ls) in
      end-cut_each (cut_value t l.end (far_value l.far)) ls (cut_value_legal t l.end (far_value l.far) legal) (part_cut s t legal_s legal part l within) (λ k h. all k (Among_tail k l ls h)) d
      ∙ ap (λ (xs : List Value). filter (λ w. not (some_has ls d w)) xs) (cut_end s t legal_s legal part l within d)
      ∙ filter_twice (λ w. is_value_at w (indexed_value l d)) (some_has ls d) (end t d)

  holder-cut_each : (t : Links) (ls : List Link) → IsLegalSet t → IsPart t s → ((l : Link) → Among l ls → In l s) → (n : Node) → holder (cut_each t ls) n ≡ unheld (first_holding ls n) (holder t n)
  holder-cut_each t [] legal part all n = refl
  holder-cut_each t (l ∷ ls) legal part all n =
      let within = all l (Among_head l ls) in
      holder-cut_each (cut_value t l.end (far_value l.far)) ls (cut_value_legal t l.end (far_value l.far) legal) (part_cut s t legal_s legal part l within) (λ k h. all k (Among_tail k l ls h)) n
      ∙ ap (unheld (first_holding ls n)) (cut_holder s t legal_s legal part l within n)
      ∙ unheld_twice (holding_end l n) (first_holding ls n) (holder t n)

---------------------------------------------------------------- nodes that go

goes_node : (gone : Node → Bool) (n : Node) → IsObject n → goes gone (node_value n) ≡ gone n
goes_node gone (node.Object o) is = refl
goes_node gone (node.Resource r) is = absurd is

if_or : (a b : Bool) → (if a then true else b) ≡ (a || b)
if_or true b = refl
if_or false b = refl

or_turned : (a b : Bool) → (if a then true else b) ≡ (b || a)
or_turned true true = refl
or_turned true false = refl
or_turned false true = refl
or_turned false false = refl

far_goes : (gone : Node → Bool) (e : End) (x : Far) → HasTwoSides e x → far_touches gone x ≡ goes gone (far_value x)
far_goes gone e (At d j) two = sym (goes_node gone d.node two.2)
far_goes gone e (Alone o) two = refl
far_goes gone e (Proxy t) two = refl

-- a link names a node that is removed, if the end or the value at any of its positions does
module _ (gone : Node → Bool) (l : Link) (two : HasTwoSides l.end l.far) (d : End) (j : ℕ) (w : Value) (at : indexed_value l d ≡ Some (j, w)) where
  touches_far : (x : Far) → l.far ≡ x → l.end ≢ d → touches gone l ≡ (gone d.node || goes gone w)
  touches_far (At c i) h ne = elim (cases_end c d) [
    | inl same ↦
        let sides = subst (λ (x : Far). HasTwoSides l.end x) h two in
        let apart : l.end ≢ c = λ is. sides.0 (λ t. (sym is t).feature.0) in
        let here = subst (λ (x : End). indexed_value l x ≡ Some (i, node_value l.end.node)) same (indexed_at l c i h apart) in
        let is_w = (some_pair_parts i j (node_value l.end.node) w (sym here ∙ at)).1 in
        ap (λ (x : Far). if gone l.end.node then true else far_touches gone x) h
        ∙ or_turned (gone l.end.node) (gone c.node)
        ∙ (λ t. gone (same t).node || sym (goes_node gone l.end.node sides.1) t)
        ∙ ap (λ (v : Value). gone d.node || goes gone v) is_w
    | inr out ↦ absurd (none-some _ (sym (indexed_out l c d i h ne out) ∙ at))
  ]
  touches_far (Alone o) h ne = absurd (none-some _ (sym (indexed_alone l d o h ne) ∙ at))
  touches_far (Proxy t) h ne = absurd (none-some _ (sym (indexed_proxy l d t h ne) ∙ at))

  touches_indexed : touches gone l ≡ (gone d.node || goes gone w)
  touches_indexed = elim (cases_end l.end d) [
    | inl same ↦
        let here = subst (λ (x : End). indexed_value l x ≡ Some (l.index, far_value l.far)) same (indexed_near l) in
        let is_w = (some_pair_parts l.index j (far_value l.far) w (sym here ∙ at)).1 in
        if_or (gone l.end.node) (far_touches gone l.far)
        ∙ ap (λ (b : Bool). gone l.end.node || b) (far_goes gone l.end l.far two)
        ∙ (λ t. gone (same t).node || goes gone (is_w t))
    | inr ne ↦ touches_far l.far refl ne
  ]

any_link : (p : Link → Bool) (ls : List Link) → list_any p ls ≡ true → (l : Link) × Among l ls × (p l ≡ true)
any_link p [] h = absurd (false≢true h)
any_link p (l ∷ ls) h = elim (or_cases (p l) (list_any p ls) h) [
  | inl here ↦ (l, Among_head l ls, here)
  | inr later ↦ let rest = any_link p ls later in (rest.0, Among_tail rest.0 l ls rest.1, rest.2)
]

link_any : (p : Link → Bool) (ls : List Link) (l : Link) → Among l ls → p l ≡ true → list_any p ls ≡ true
link_any p [] l among h = absurd (false≢true among)
link_any p (m ∷ ls) l among h = elim (Among_cases l m ls among) [
  | inl same ↦ or_left _ _ (ap p (sym same) ∙ h)
  | inr later ↦ or_right _ _ (link_any p ls l later h)
]

module _ (s : Links) (gone : Node → Bool) (legal : IsLegalSet s) where
  -- the links that name a node that is removed
  abbrev going : List Link
  going = filter (touches gone) (set.items s)

  going_in : (l : Link) → Among l going → In l s × (touches gone l ≡ true)
  going_in l h = let parts = Among-filter (touches gone) (set.items s) l h in ((items_HasLinks s).only l parts.0, parts.1)

  in_going : (l : Link) → In l s → touches gone l ≡ true → Among l going
  in_going l h q = Among_filter (touches gone) (set.items s) l ((items_HasLinks s).has l h) q

  going_has : (d : End) (k : ℕ) (w : Value) → slice_get (end s d) k ≡ Some w → some_has going d w ≡ (gone d.node || goes gone w)
  going_has d k w at =
      let st = (legal.placed.ends d).only k w at in
      let is = touches_indexed gone st.0 (legal.placed.sides st.0 st.1) d k w st.2 in
      same-tests _ _
      (λ h.
      let l = any_link (λ x. is_value_at w (indexed_value x d)) going h in
      let parts = going_in l.0 l.1 in
      let there = is_value_at-true (indexed_value l.0 d) w l.2 in
      sym is ∙ ap (touches gone) (one_with s st.0 l.0 d w k there.0 legal.placed st.1 parts.0 st.2 there.1) ∙ parts.1)
      (λ h. link_any (λ x. is_value_at w (indexed_value x d)) going st.0 (in_going st.0 st.1 (is ∙ h)) (is_value_at-indexed (indexed_value st.0 d) k w st.2))

  part_itself : IsPart s s
  part_itself k h = (k, h, refl)

  -- ends of remaining nodes lose the nodes that are removed
  pub end-without_nodes : (d : End) → end (without_nodes s gone) d ≡ (if gone d.node then [] else filter (λ v. not (goes gone v)) (end s d))
  unfolding without_nodes
  end-without_nodes d =
      end-cut_each s legal s going legal part_itself (λ l h. (going_in l h).0) d
      ∙ filter_alike (λ w. not (some_has going d w)) (λ w. not (gone d.node || goes gone w)) (end s d) (λ k w at. ap not (going_has d k w at))
      ∙ filter_or (gone d.node) (goes gone) (end s d)

  pub without_nodes_legal : IsLegalSet (without_nodes s gone)
  unfolding without_nodes
  without_nodes_legal = cut_each_legal s going legal

  pub without_nodes_no_cycle : HasNoCycle s → HasNoCycle (without_nodes s gone)
  unfolding without_nodes
  without_nodes_no_cycle free = cut_each_no_cycle s going legal free

  module _ (n : Node) where
    -- the holder of n, unless its node or n is removed
    abbrev left : Option End → Option End
    left o = option_and_then (λ (d : End). if gone d.node || gone n then None else Some d) o

    held_goes : (d : End) → holder s n ≡ Some d → unheld (first_holding going n) (Some d) ≡ (if gone d.node || gone n then None else Some d)
    held_goes d h =
        let k = holder-some s n d h in
        let two = legal.placed.sides k.0 k.1 in
        let at = indexed_held k.0 n d two k.2 in
        let is = touches_indexed gone k.0 two d at.0 (node_value n) at.1 ∙ ap (λ (b : Bool). gone d.node || b) (goes_node gone n (held_object k.0.container k.0 n d two k.2)) in
        elim (gone d.node || gone n) as (λ b. (gone d.node || gone n) ≡ b → unheld (first_holding going n) (Some d) ≡ (if b then None else Some d)) [
          | true ↦ λ q. elim (first_holding going n) as (λ o. first_holding going n ≡ o → unheld o (Some d) ≡ None) [
            | None ↦ λ g. absurd (first_holding-none n going k.0 d g (in_going k.0 k.1 (is ∙ q)) k.2)
            | Some x ↦ λ g. refl
          ] refl
          | false ↦ λ q. elim (first_holding going n) as (λ o. first_holding going n ≡ o → unheld o (Some d) ≡ Some d) [
            | None ↦ λ g. refl
            | Some x ↦ λ g.
                let l = first_holding-some n going x g in
                let parts = going_in l.0 l.1 in
                let same = legal.held l.0 k.0 n x d parts.0 k.1 l.2 k.2 in
                let there = indexed_held l.0 n x (legal.placed.sides l.0 parts.0) l.2 in
                let here = subst (λ (y : End). indexed_value l.0 y ≡ Some (there.0, node_value n)) same there.1 in
                let one = one_with s l.0 k.0 d (node_value n) there.0 at.0 legal.placed parts.0 k.1 here at.1 in
                absurd (true≢false (sym parts.1 ∙ ap (touches gone) one ∙ is ∙ q))
          ] refl
        ] refl

    -- n keeps its holder, if neither its node nor n is removed
    pub holder-without_nodes : holder (without_nodes s gone) n ≡ left (holder s n)
    unfolding without_nodes
    holder-without_nodes =
        holder-cut_each s legal s going legal part_itself (λ l h. (going_in l h).0) n
        ∙ elim (holder s n) as (λ o. holder s n ≡ o → unheld (first_holding going n) o ≡ left o) [
          | None ↦ λ h. elim (first_holding going n) as (λ o. unheld o None ≡ None) [ None ↦ refl | Some x ↦ refl ]
          | Some d ↦ λ h. held_goes d h
        ] refl

  -- the remaining links name no node that is removed
  stays : (d : End) (k : ℕ) (v : Value) → slice_get (end (without_nodes s gone) d) k ≡ Some v → (gone d.node ≡ false) × (goes gone v ≡ false)
  stays d k v at =
      elim (gone d.node) as (λ b. slice_get (if b then [] else filter (λ w. not (goes gone w)) (end s d)) k ≡ Some v → (b ≡ false) × (goes gone v ≡ false)) [
        | true ↦ λ q. absurd (none-some v q)
        | false ↦ λ q. (refl, not-true _ (filter_passes (λ w. not (goes gone w)) (end s d) k v q))
      ] (subst (λ (xs : List Value). slice_get xs k ≡ Some v) (end-without_nodes d) at)

  pub untouched : (l : Link) → In l (without_nodes s gone) → touches gone l ≡ false
  untouched l h =
      let now = without_nodes_legal.placed in
      let is = stays l.end l.index (far_value l.far) ((now.ends l.end).has l.index (far_value l.far) (l, h, indexed_near l)) in
      touches_indexed gone l (now.sides l h) l.end l.index (far_value l.far) (indexed_near l) ∙ (λ t. is.0 t || is.1 t)

pub without_nodes_kinds : (m : Kinds) (s : Links) (gone : Node → Bool) → AreOfKind m s → AreOfKind m (without_nodes s gone)
unfolding without_nodes
without_nodes_kinds m s gone kinds = cut_each_kinds m s (filter (touches gone) (set.items s)) kinds

-- cutting exactly the links of the removed nodes by their names leaves the same set
pub without_all-nodes : (m : Kinds) → AreKinds m → (s : Links) (gone : Node → Bool) (ts : List (End × Value)) → IsLegalSet s → AreOfKind m s → ((d : End) (w : Value) → Has s d w → is_named m ts d w ≡ (gone d.node || goes gone w)) → without_all s ts ≡ without_nodes s gone
without_all-nodes m ok s gone ts legal kinds same =
    same_by_ends m (without_all s ts) (without_nodes s gone) (without_all_legal s ts legal).placed (without_nodes_legal s gone legal).placed
    (without_all_kinds m s ts kinds) (without_nodes_kinds m s gone kinds)
    (λ d.
    end-without_all m ok s ts legal kinds d
    ∙ filter_alike (λ w. not (is_named m ts d w)) (λ w. not (gone d.node || goes gone w)) (end s d) (λ k w at. ap not (same d w (k, at)))
    ∙ filter_or (gone d.node) (goes gone) (end s d)
    ∙ sym (end-without_nodes s gone legal d))
