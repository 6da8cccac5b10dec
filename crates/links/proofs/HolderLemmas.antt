-- The holders of nodes after an edit.
use Rattle.std.proofs.Common.{◌≡◌, ◌≢◌, ℕ, Bool, true, false, Option, Some, None, if◌then◌else◌, refl, sym, ap, ◌∙◌, subst, inl, inr}
use Rattle.std.specs.FinSet as set
use Rattle.std.proofs.lemmas.Option.{none-some, same_Some}
use Rattle.std.specs.Prelude.{◌&&◌, List}
use Rattle.std.specs.Option.{option_map_or, option_or}
use Rattle.std.proofs.lemmas.Bool.{and_parts, false≢true}
use Rattle.links.proofs.CutLemmas.{indexed_at, indexed_near}
use Rattle.links.proofs.EditLemmas.{In-insert, In-remove, In-renumbered_links, In_insert_new, In_insert_old, In_remove, In_renumbered}
use Rattle.links.proofs.EndLemmas.{items_HasLinks}
use Rattle.links.proofs.ScanLemmas.{first_holding-none, first_holding-some, one_with}
use Rattle.links.specs.Holders.{far_holding, held_through, holder, holding_end, is_far_node}
use Rattle.links.specs.LegalSets.{HasTwoSides, IsHeldOnce, IsPlaced}
use Rattle.links.specs.Links.{In, Links, cut, lower, lowered_far, new_link, new_proxy, put, put_proxy, raise, renumbered_links, shift, shifted_index}
use Rattle.links.specs.Indexed.{far_moved, far_value, renumbered_link, indexed_value}
use Rattle.links.specs.declared.link.Far.TheVariants.{At, Alone, Proxy}
use Rattle.links.specs.declared.link.Far.{Far}
use Rattle.links.specs.declared.link.Link.{Link}
use Rattle.mm_types.proofs.SameLemmas.{same_node-true}
use Rattle.mm_types.specs.Same.{node_value, same_end, same_feature, same_node}
use Rattle.mm_types.specs.declared.end.End.{End}
use Rattle.mm_types.specs.declared.numbers.FeatureNo.{FeatureNo}
use Rattle.mm_types.specs.declared.numbers.Node.TheVariants as node
use Rattle.mm_types.specs.declared.numbers.Node.{Node}
use Rattle.mm_types.specs.declared.numbers.ObjectNo.{ObjectNo}

-- a holder comes from a link, and it is the only one
pub holder-some : (s : Links) (x : Node) (e : End) → holder s x ≡ Some e → (l : Link) × In l s × (holding_end l x ≡ Some e)
unfolding holder
holder-some s x e h = let f = first_holding-some x (set.items s) e h in (f.0, (items_HasLinks s).only f.0 f.1, f.2)

pub holder-none : (s : Links) (x : Node) (l : Link) (e : End) → holder s x ≡ None → In l s → holding_end l x ≡ Some e → ⊥
unfolding holder
holder-none s x l e h within at = first_holding-none x (set.items s) l e h ((items_HasLinks s).has l within) at

pub holder_is : (s : Links) (x : Node) (l : Link) (e : End) → IsHeldOnce s → In l s → holding_end l x ≡ Some e → holder s x ≡ Some e
holder_is s x l e once within at =
    elim (holder s x) as (λ o. holder s x ≡ o → o ≡ Some e) [
      | None ↦ λ h. absurd (holder-none s x l e h within at)
      | Some d ↦ λ h. let m = holder-some s x d h in ap Some (once m.0 l x d e m.1 within m.2 at)
    ] refl

-- a test that gives something
pub test_some : {X : Type 0} (b : Bool) (d e : X) → (if b then Some d else None) ≡ Some e → (b ≡ true) × (d ≡ e)
test_some true d e h = (refl, same_Some d e h)
test_some false d e h = absurd (none-some e h)

pub is_far_node-true : (x : Far) (n : Node) → is_far_node x n ≡ true → far_value x ≡ node_value n
is_far_node-true (At d j) n h = ap node_value (same_node-true d.node n h)
is_far_node-true (Alone o) n h = ap node_value (same_node-true (node.Object o) n h)
is_far_node-true (Proxy t) n h = absurd (false≢true h)

one_far : (x : Far) (m n : Node) → is_far_node x m ≡ true → is_far_node x n ≡ true → m ≡ n
one_far (At d j) m n a b = sym (same_node-true d.node m a) ∙ same_node-true d.node n b
one_far (Alone o) m n a b = sym (same_node-true (node.Object o) m a) ∙ same_node-true (node.Object o) n b
one_far (Proxy t) m n a b = absurd (false≢true a)

-- a link contains one node
far_one : (f : Far) (h : FeatureNo) (m x y : Node) (d e : End) → far_holding f h m x ≡ Some d → far_holding f h m y ≡ Some e → x ≡ y
far_one (At c j) h m x y d e a b =
    sym (same_node-true m x (and_parts (same_feature c.feature h) (same_node m x) (test_some _ c d a).0).1) ∙ same_node-true m y (and_parts (same_feature c.feature h) (same_node m y) (test_some _ c e b).0).1
far_one (Alone n) h m x y d e a b = absurd (none-some d a)
far_one (Proxy t) h m x y d e a b = absurd (none-some d a)

pub through_one : (c : Option FeatureNo) (l : Link) (x y : Node) (d e : End) → held_through c l x ≡ Some d → held_through c l y ≡ Some e → x ≡ y
through_one None l x y d e a b = absurd (none-some d a)
through_one (Some h) l x y d e a b =
    elim (same_feature l.end.feature h) as (λ t. (if t then (if is_far_node l.far x then Some l.end else None) else far_holding l.far h l.end.node x) ≡ Some d → (if t then (if is_far_node l.far y then Some l.end else None) else far_holding l.far h l.end.node y) ≡ Some e → x ≡ y) [
      | true ↦ λ p q. one_far l.far x y (test_some _ l.end d p).0 (test_some _ l.end e q).0
      | false ↦ λ p q. far_one l.far h l.end.node x y d e p q
    ] a b

-- a holder does not depend on positions
far_same : (c : Option FeatureNo) (d : End) (i : ℕ) (x : Far) (e : End) (r : ℕ → ℕ) (n : Node) → holding_end (record { end = d; index = i; far = far_moved x e r; container = c }) n ≡ holding_end (record { end = d; index = i; far = x; container = c }) n
far_same c d i (At k j) e r n = elim (same_end k e) as (λ b. holding_end (record { end = d; index = i; far = (if b then At k (r j) else At k j); container = c }) n ≡ holding_end (record { end = d; index = i; far = At k j; container = c }) n) [ true ↦ index_same c | false ↦ refl ]
  where
    index_same : (c : Option FeatureNo) → holding_end (record { end = d; index = i; far = At k (r j); container = c }) n ≡ holding_end (record { end = d; index = i; far = At k j; container = c }) n
    index_same None = refl
    index_same (Some h) = refl
far_same c d i (Alone k) e r n = refl
far_same c d i (Proxy t) e r n = refl

near_same : (c : Option FeatureNo) (l : Link) (i : ℕ) (n : Node) → held_through c (record l { index = i }) n ≡ held_through c l n
near_same None l i n = refl
near_same (Some h) l i n = refl

pub holding_end-renumbered_link : (l : Link) (e : End) (r : ℕ → ℕ) (n : Node) → holding_end (renumbered_link l e r) n ≡ holding_end l n
holding_end-renumbered_link l e r n = elim (same_end l.end e) as (λ b. holding_end (if b then record l { index = r l.index } else record l { far = far_moved l.far e r }) n ≡ holding_end l n) [
  | true ↦ near_same l.container l (r l.index) n
  | false ↦ far_same l.container l.end l.index l.far e r n
]

module _ (s : Links) (once : IsHeldOnce s) where
  pub IsHeldOnce-renumbered_links : (e : End) (r : ℕ → ℕ) → IsHeldOnce (renumbered_links s e r)
  IsHeldOnce-renumbered_links e r l m n x y hl hm a b =
      let p = In-renumbered_links s e r l hl in
      let q = In-renumbered_links s e r m hm in
      once p.0 q.0 n x y p.1 q.1 (sym (holding_end-renumbered_link p.0 e r n) ∙ ap (λ (k : Link). holding_end k n) p.2 ∙ a) (sym (holding_end-renumbered_link q.0 e r n) ∙ ap (λ (k : Link). holding_end k n) q.2 ∙ b)

  pub holder-renumbered_links : (e : End) (r : ℕ → ℕ) (n : Node) → holder (renumbered_links s e r) n ≡ holder s n
  holder-renumbered_links e r n =
      elim (holder s n) as (λ o. holder s n ≡ o → holder (renumbered_links s e r) n ≡ o) [
        | None ↦ λ h. elim (holder (renumbered_links s e r) n) as (λ o. holder (renumbered_links s e r) n ≡ o → o ≡ None) [
          | None ↦ λ _. refl
          | Some d ↦ λ g.
              let m = holder-some (renumbered_links s e r) n d g in
              let p = In-renumbered_links s e r m.0 m.1 in
              absurd (holder-none s n p.0 d h p.1 (sym (holding_end-renumbered_link p.0 e r n) ∙ ap (λ (k : Link). holding_end k n) p.2 ∙ m.2))
        ] refl
        | Some d ↦ λ h.
            let m = holder-some s n d h in
            holder_is (renumbered_links s e r) n (renumbered_link m.0 e r) d (IsHeldOnce-renumbered_links e r) (In_renumbered s e r m.0 m.1) (holding_end-renumbered_link m.0 e r n ∙ m.2)
      ] refl

  pub IsHeldOnce-remove : (k : Link) → IsHeldOnce (set.remove s k)
  IsHeldOnce-remove k l m n x y p q = once l m n x y (In-remove s k l p).1 (In-remove s k m q).1

  -- each node has one holder after a new link, if the node that the link contains had none
  pub IsHeldOnce-insert : (k : Link) → ((n : Node) (x : End) → holding_end k n ≡ Some x → holder s n ≡ None) → IsHeldOnce (set.insert s k)
  IsHeldOnce-insert k new l m n x y hl hm a b = elim (In-insert s k l hl) [
    | inl p ↦ elim (In-insert s k m hm) [
      | inl q ↦ same_Some x y (sym a ∙ ap (λ (j : Link). holding_end j n) (p ∙ sym q) ∙ b)
      | inr q ↦ absurd (holder-none s n m y (new n x (subst (λ (j : Link). holding_end j n ≡ Some x) p a)) q b)
    ]
    | inr p ↦ elim (In-insert s k m hm) [
      | inl q ↦ absurd (holder-none s n l x (new n y (subst (λ (j : Link). holding_end j n ≡ Some y) q b)) p a)
      | inr q ↦ once l m n x y p q a b
    ]
  ]

  pub holder-insert : (k : Link) → ((n : Node) (x : End) → holding_end k n ≡ Some x → holder s n ≡ None) → (n : Node) → holder (set.insert s k) n ≡ option_or (holding_end k n) (holder s n)
  holder-insert k new n =
      let all = IsHeldOnce-insert k new in
      elim (holding_end k n) as (λ o. holding_end k n ≡ o → holder (set.insert s k) n ≡ option_or o (holder s n)) [
        | Some x ↦ λ h. holder_is (set.insert s k) n k x all (In_insert_new s k) h
        | None ↦ λ h. elim (holder s n) as (λ o. holder s n ≡ o → holder (set.insert s k) n ≡ o) [
          | Some x ↦ λ g. let m = holder-some s n x g in holder_is (set.insert s k) n m.0 x all (In_insert_old s k m.0 m.1) m.2
          | None ↦ λ g. elim (holder (set.insert s k) n) as (λ o. holder (set.insert s k) n ≡ o → o ≡ None) [
            | None ↦ λ _. refl
            | Some d ↦ λ f.
                let m = holder-some (set.insert s k) n d f in
                elim (In-insert s k m.0 m.1) [
                  | inl p ↦ absurd (none-some d (sym h ∙ subst (λ (j : Link). holding_end j n ≡ Some d) p m.2))
                  | inr p ↦ absurd (holder-none s n m.0 d g p m.2)
                ]
          ] refl
        ] refl
      ] refl

-- the node that a link contains is in the end that is its holder
pub indexed_held : (l : Link) (n : Node) (x : End) → HasTwoSides l.end l.far → holding_end l n ≡ Some x → (k : ℕ) × (indexed_value l x ≡ Some (k, node_value n))
indexed_held l n x two h = through l.container h
  where
    near : is_far_node l.far n ≡ true → l.end ≡ x → (k : ℕ) × (indexed_value l x ≡ Some (k, node_value n))
    near v is = let same = is_far_node-true l.far n v in (l.index, subst (λ (e : End). indexed_value l e ≡ Some (l.index, node_value n)) is (indexed_near l ∙ (λ i. Some (l.index, same i))))

    far : (c : Far) (h : FeatureNo) → l.far ≡ c → far_holding c h l.end.node n ≡ Some x → (k : ℕ) × (indexed_value l x ≡ Some (k, node_value n))
    far (At d j) h is at =
        let t = test_some (same_feature d.feature h && same_node l.end.node n) d x at in
        let node = same_node-true l.end.node n (and_parts (same_feature d.feature h) (same_node l.end.node n) t.0).1 in
        let ne : l.end ≢ d = λ same. (subst (λ (o : Far). HasTwoSides l.end o) is two).0 (λ i. (sym same i).feature.0) in
        (j, subst (λ (e : End). indexed_value l e ≡ Some (j, node_value n)) t.1 (indexed_at l d j is ne ∙ (λ i. Some (j, node_value (node i)))))
    far (Alone k) h is at = absurd (none-some x at)
    far (Proxy t) h is at = absurd (none-some x at)

    through : (c : Option FeatureNo) → held_through c l n ≡ Some x → (k : ℕ) × (indexed_value l x ≡ Some (k, node_value n))
    through None at = absurd (none-some x at)
    through (Some h) at =
        elim (same_feature l.end.feature h) as (λ b. (if b then (if is_far_node l.far n then Some l.end else None) else far_holding l.far h l.end.node n) ≡ Some x → (k : ℕ) × (indexed_value l x ≡ Some (k, node_value n))) [
          | true ↦ λ q. let t = test_some (is_far_node l.far n) l.end x q in near t.0 t.1
          | false ↦ λ q. far l.far h refl q
        ] at

-- the holder of a node after a link is removed: none if the link contained the node
abbrev pub unheld : Option End → Option End → Option End
unheld gone other = option_map_or (λ x. None) gone other

module _ (s : Links) (placed : IsPlaced s) (once : IsHeldOnce s) (l : Link) (within : In l s) where
  holder-remove : (n : Node) → holder (set.remove s l) n ≡ unheld (holding_end l n) (holder s n)
  holder-remove n =
      elim (holding_end l n) as (λ o. holding_end l n ≡ o → holder (set.remove s l) n ≡ unheld o (holder s n)) [
        | Some x ↦ λ h. elim (holder (set.remove s l) n) as (λ o. holder (set.remove s l) n ≡ o → o ≡ None) [
          | None ↦ λ _. refl
          | Some d ↦ λ g.
              let k = holder-some (set.remove s l) n d g in
              let left = In-remove s l k.0 k.1 in
              let same = once k.0 l n d x left.1 within k.2 h in
              let a = indexed_held k.0 n d (placed.sides k.0 left.1) k.2 in
              let b = indexed_held l n x (placed.sides l within) h in
              absurd (left.0 (one_with s k.0 l x (node_value n) a.0 b.0 placed left.1 within (subst (λ (e : End). indexed_value k.0 e ≡ Some (a.0, node_value n)) same a.1) b.1))
        ] refl
        | None ↦ λ h. elim (holder s n) as (λ o. holder s n ≡ o → holder (set.remove s l) n ≡ o) [
          | None ↦ λ g. elim (holder (set.remove s l) n) as (λ o. holder (set.remove s l) n ≡ o → o ≡ None) [
            | None ↦ λ _. refl
            | Some d ↦ λ f. let k = holder-some (set.remove s l) n d f in absurd (holder-none s n k.0 d g (In-remove s l k.0 k.1).1 k.2)
          ] refl
          | Some d ↦ λ g.
              let k = holder-some s n d g in
              holder_is (set.remove s l) n k.0 d (IsHeldOnce-remove s once l) (In_remove s l k.0 (λ same. none-some d (sym h ∙ subst (λ (j : Link). holding_end j n ≡ Some d) same k.2)) k.1) k.2
        ] refl
      ] refl

  abbrev near : Links
  near = renumbered_links (set.remove s l) l.end (lower l.index)

  near_once : IsHeldOnce near
  near_once = IsHeldOnce-renumbered_links (set.remove s l) (IsHeldOnce-remove s once l) l.end (lower l.index)

  lowered_once : (x : Far) → IsHeldOnce (lowered_far near x)
  lowered_once (At d j) = IsHeldOnce-renumbered_links near near_once d (lower j)
  lowered_once (Alone n) = near_once
  lowered_once (Proxy t) = near_once

  lowered_holder : (x : Far) (n : Node) → holder (lowered_far near x) n ≡ holder near n
  lowered_holder (At d j) n = holder-renumbered_links near near_once d (lower j) n
  lowered_holder (Alone k) n = refl
  lowered_holder (Proxy t) n = refl

  pub IsHeldOnce-cut : IsHeldOnce (cut s l)
  unfolding cut
  IsHeldOnce-cut = lowered_once l.far

  -- a cut takes away the holder that its link gave, and no other
  pub holder-cut : (n : Node) → holder (cut s l) n ≡ unheld (holding_end l n) (holder s n)
  unfolding cut
  holder-cut n = lowered_holder l.far n ∙ holder-renumbered_links (set.remove s l) (IsHeldOnce-remove s once l) l.end (lower l.index) n ∙ holder-remove n

-- a put adds the holder that the new link gives, and no other
pub holder-put : (s : Links) (e : End) (i : ℕ) (n : ObjectNo) (g c : Option FeatureNo) → IsHeldOnce s → ((m : Node) (x : End) → holding_end (new_link s e i n g c) m ≡ Some x → holder s m ≡ None) → (m : Node) → holder (put s e i n g c) m ≡ option_or (holding_end (new_link s e i n g c) m) (holder s m)
unfolding put
holder-put s e i n g c once new m =
    holder-insert (renumbered_links s e (raise i)) (IsHeldOnce-renumbered_links s once e (raise i)) (new_link s e i n g c) (λ k x h. holder-renumbered_links s once e (raise i) k ∙ new k x h) m
    ∙ ap (option_or (holding_end (new_link s e i n g c) m)) (holder-renumbered_links s once e (raise i) m)

pub IsHeldOnce-put : (s : Links) (e : End) (i : ℕ) (n : ObjectNo) (g c : Option FeatureNo) → IsHeldOnce s → ((m : Node) (x : End) → holding_end (new_link s e i n g c) m ≡ Some x → holder s m ≡ None) → IsHeldOnce (put s e i n g c)
unfolding put
IsHeldOnce-put s e i n g c once new = IsHeldOnce-insert (renumbered_links s e (raise i)) (IsHeldOnce-renumbered_links s once e (raise i)) (new_link s e i n g c) (λ k x h. holder-renumbered_links s once e (raise i) k ∙ new k x h)

pub IsHeldOnce-put_proxy : (s : Links) (e : End) (i : ℕ) (t : List ℕ) → IsHeldOnce s → IsHeldOnce (put_proxy s e i t)
unfolding put_proxy
IsHeldOnce-put_proxy s e i t once = IsHeldOnce-insert (renumbered_links s e (raise i)) (IsHeldOnce-renumbered_links s once e (raise i)) (new_proxy e i t) (λ k x h. absurd (none-some x h))

-- a proxy adds no holder
pub holder-put_proxy : (s : Links) (e : End) (i : ℕ) (t : List ℕ) → IsHeldOnce s → (m : Node) → holder (put_proxy s e i t) m ≡ holder s m
unfolding put_proxy
holder-put_proxy s e i t once m =
    holder-insert (renumbered_links s e (raise i)) (IsHeldOnce-renumbered_links s once e (raise i)) (new_proxy e i t) (λ k x h. absurd (none-some x h)) m
    ∙ holder-renumbered_links s once e (raise i) m

pub IsHeldOnce-shift : (s : Links) (e : End) (to from : ℕ) → IsHeldOnce s → IsHeldOnce (shift s e to from)
unfolding shift
IsHeldOnce-shift s e to from once = IsHeldOnce-renumbered_links s once e (shifted_index to from)

-- a shift leaves all holders
pub holder-shift : (s : Links) (e : End) (to from : ℕ) → IsHeldOnce s → (m : Node) → holder (shift s e to from) m ≡ holder s m
unfolding shift
holder-shift s e to from once m = holder-renumbered_links s once e (shifted_index to from) m
