-- The ends and the holders after a put, and when it makes no cycle.
use Rattle.std.proofs.Common.{◌≡◌, ◌≢◌, ℕ, length, Bool, true, false, ltb, [], ◌∷◌, ◌++◌, Option, Some, None, if◌then◌else◌, refl, sym, ap, ◌∙◌, subst}
use Rattle.std.specs.Prelude.{◌&&◌, ◌||◌}
use Rattle.std.specs.List.{insert}
use Rattle.std.specs.Option.{option_or}
use Rattle.std.proofs.lemmas.Bool.{and_parts, eqb-true, eq-eqb, ne_eqb, true≢false}
use Rattle.std.proofs.lemmas.Option.{none-some}
use Rattle.links.proofs.AboveLemmas.{above_under}
use Rattle.links.proofs.ContainedLemmas.{free_new}
use Rattle.links.proofs.CycleLemmas.{put_no_cycle}
use Rattle.links.proofs.HolderLemmas.{holder-put}
use Rattle.links.proofs.PlaceLemmas.{same_feature-true, same_node_if}
use Rattle.links.proofs.PutLemmas.{IsApart, apart_of, end-put_near, end-put_other, put_far}
use Rattle.links.specs.Holders.{HasNoCycle, end_containing, holder, holding_end, node_contained}
use Rattle.links.specs.Laws.{IsFar, IsPutOutside, is_contained, is_far, is_of_pair, put_end, put_holder}
use Rattle.links.specs.LegalSets.{IsLegalSet}
use Rattle.links.specs.Links.{Links, end, far_end, new_link, put}
use Rattle.links.specs.Plans.{EditFits, IsOutside, put_of}
use Rattle.links.specs.declared.link.Far.TheVariants.{At, Alone}
use Rattle.links.proofs.RankLemmas.{same-tests}
use Rattle.mm_types.proofs.SameLemmas.{same_end-self, same_end-true, same_node-true}
use Rattle.mm_types.specs.Same.{node_value, same_end, same_feature, same_node}
use Rattle.mm_types.specs.declared.end.End.{End}
use Rattle.mm_types.specs.declared.numbers.FeatureNo.{FeatureNo}
use Rattle.mm_types.specs.declared.numbers.Node.TheVariants as node
use Rattle.mm_types.specs.declared.numbers.Node.{Node}
use Rattle.mm_types.specs.declared.numbers.ObjectNo.{ObjectNo}
use Rattle.mm_types.specs.declared.value.Value.TheVariants as value

---------------------------------------------------------------- ends

is_far-true : (o : ObjectNo) (g : Option FeatureNo) (d : End) → is_far o g d ≡ true → IsFar o g d
is_far-true o None d h = true≢false (sym h)
is_far-true o (Some g) d h = same_end-true (far_end o g) d h

far-is_far : (o : ObjectNo) (g : Option FeatureNo) (d : End) → IsFar o g d → is_far o g d ≡ true
far-is_far o None d h = absurd h
far-is_far o (Some g) d h = subst (λ (x : End). same_end (far_end o g) x ≡ true) h (same_end-self (far_end o g))

module _ (s : Links) (e : End) (i : ℕ) (o : ObjectNo) (g c : Option FeatureNo) (legal : IsLegalSet s) (fits : EditFits s (put_of e i o g c)) where
  pub end-put : (d : End) → end (put s e i o g c) d ≡ put_end s e i o g d
  end-put d =
      let apart = apart_of s e o g fits.1 in
      elim (same_end e d) as (λ b. same_end e d ≡ b → end (put s e i o g c) d ≡ (if b then insert (end s d) i (value.Object o) else if is_far o g d then end s d ++ node_value e.node ∷ [] else end s d)) [
        | true ↦ λ h. subst (λ (x : End). end (put s e i o g c) x ≡ insert (end s x) i (value.Object o)) (same_end-true e d h) (end-put_near s legal.placed e i o c fits.0.in_range g apart)
        | false ↦ λ h.
            let ne : e ≢ d = λ same. true≢false (sym (subst (λ (x : End). same_end e x ≡ true) same (same_end-self e)) ∙ h) in
            elim (is_far o g d) as (λ b. is_far o g d ≡ b → end (put s e i o g c) d ≡ (if b then end s d ++ node_value e.node ∷ [] else end s d)) [
              | true ↦ λ q. put_far s legal.placed e i o c fits.0.in_range g fits.1 d (is_far-true o g d q)
              | false ↦ λ q. end-put_other s legal.placed e i o c fits.0.in_range g apart d ne (λ far. true≢false (sym (far-is_far o g d far) ∙ q))
            ] refl
      ] refl

---------------------------------------------------------------- holders

pub same_feature-turned : (f h : FeatureNo) → same_feature f h ≡ same_feature h f
same_feature-turned f h = same-tests _ _ (λ p. eq-eqb h.0 f.0 (sym (eqb-true f.0 h.0 p))) (λ p. eq-eqb f.0 h.0 (sym (eqb-true h.0 f.0 p)))

-- the node that a new link contains, and its holder
abbrev held_new : End → ObjectNo → Option FeatureNo → Option FeatureNo → Node → Option End
held_new e o g c n = if is_of_pair e.feature g c && is_contained e o c n then end_containing e o c else None

alone_held : (e : End) (i : ℕ) (o : ObjectNo) (c : Option FeatureNo) (n : Node) → holding_end (record { end = e; index = i; far = Alone o; container = c }) n ≡ held_new e o None c n
alone_held e i o None n = refl
alone_held e i o (Some h) n =
    let flip = same_feature-turned e.feature h in
    rw flip
    (elim (same_feature h e.feature) as (λ b. (if b then (if same_node (node.Object o) n then Some e else None) else None) ≡ (if (b || false) && same_node (if b then node.Object o else e.node) n then Some (if b then e else far_end o h) else None)) [
      | true ↦ refl
      | false ↦ refl
    ])

-- the same by the opposite feature
far_held : (e : End) (o : ObjectNo) (g h : FeatureNo) (n : Node) → (if same_feature g h && same_node e.node n then Some (far_end o g) else None) ≡ (if same_feature h g && same_node e.node n then Some (far_end o h) else None)
far_held e o g h n =
    let flip = same_feature-turned g h in
    rw flip
    (elim (same_feature h g) as (λ b. same_feature h g ≡ b → (if b && same_node e.node n then Some (far_end o g) else None) ≡ (if b && same_node e.node n then Some (far_end o h) else None)) [
      | true ↦ λ q. ap (λ (f : FeatureNo). if same_node e.node n then Some (far_end o f) else None) (sym (same_feature-true h g q))
      | false ↦ λ q. refl
    ] refl)

near_held : (e : End) (i : ℕ) (o : ObjectNo) (g : FeatureNo) (j : ℕ) (c : Option FeatureNo) (n : Node) → holding_end (record { end = e; index = i; far = At (far_end o g) j; container = c }) n ≡ held_new e o (Some g) c n
near_held e i o g j None n = refl
near_held e i o g j (Some h) n =
    let flip = same_feature-turned e.feature h in
    rw flip
    (elim (same_feature h e.feature) as (λ b. (if b then (if same_node (node.Object o) n then Some e else None) else (if same_feature g h && same_node e.node n then Some (far_end o g) else None)) ≡ (if (b || same_feature h g) && same_node (if b then node.Object o else e.node) n then Some (if b then e else far_end o h) else None)) [
      | true ↦ refl
      | false ↦ far_held e o g h n
    ])

turned_held : (e : End) (i : ℕ) (o : ObjectNo) (g : FeatureNo) (j : ℕ) (c : Option FeatureNo) (n : Node) → ((g.0 ≡ e.feature.0) → ⊥) → holding_end (record { end = far_end o g; index = j; far = At e i; container = c }) n ≡ held_new e o (Some g) c n
turned_held e i o g j None n apart = refl
turned_held e i o g j (Some h) n apart =
    let flip = same_feature-turned e.feature h in
    rw flip
    (elim (same_feature h e.feature) as (λ b. same_feature h e.feature ≡ b → (if same_feature g h then (if same_node e.node n then Some (far_end o g) else None) else (if b && same_node (node.Object o) n then Some e else None)) ≡ (if (b || same_feature h g) && same_node (if b then node.Object o else e.node) n then Some (if b then e else far_end o h) else None)) [
      | true ↦ λ q. let other = ne_eqb g.0 h.0 (λ is. apart (is ∙ eqb-true h.0 e.feature.0 q)) in rw other refl
      | false ↦ λ q. nested (same_feature g h) ∙ far_held e o g h n
    ] refl)
  where
    nested : (b : Bool) → (if b then (if same_node e.node n then Some (far_end o g) else None) else None) ≡ (if b && same_node e.node n then Some (far_end o g) else None)
    nested true = refl
    nested false = refl

holding_end-new : (s : Links) (e : End) (i : ℕ) (o : ObjectNo) (g c : Option FeatureNo) (n : Node) → IsApart e g → holding_end (new_link s e i o g c) n ≡ held_new e o g c n
holding_end-new s e i o None c n apart = alone_held e i o c n
holding_end-new s e i o (Some g) c n apart =
    let j = length (end s (far_end o g)) in
    elim (ltb e.feature.0 g.0) as (λ b. holding_end (if b then record { end = e; index = i; far = At (far_end o g) j; container = c } else record { end = far_end o g; index = j; far = At e i; container = c }) n ≡ held_new e o (Some g) c n) [
      | true ↦ near_held e i o g j c n
      | false ↦ turned_held e i o g j c n apart.0
    ]

some_or : (b : Bool) (c : Option FeatureNo) (e : End) (o : ObjectNo) (n : Node) (x : Option End) → option_or (if b && is_contained e o c n then end_containing e o c else None) x ≡ (if b && is_contained e o c n then end_containing e o c else x)
some_or false c e o n x = refl
some_or true None e o n x = refl
some_or true (Some h) e o n x = elim (same_node (if same_feature h e.feature then node.Object o else e.node) n) as (λ t. option_or (if t then end_containing e o (Some h) else None) x ≡ (if t then end_containing e o (Some h) else x)) [ true ↦ refl | false ↦ refl ]

module _ (s : Links) (e : End) (i : ℕ) (o : ObjectNo) (g c : Option FeatureNo) (legal : IsLegalSet s) (fits : EditFits s (put_of e i o g c)) where
  -- the node that the new link contains gets its holder, and all other holders stay
  pub holder-put_is : (n : Node) → holder (put s e i o g c) n ≡ put_holder s e o g c n
  holder-put_is n =
      let apart = apart_of s e o g fits.1 in
      holder-put s e i o g c legal.held (free_new s e i o g c apart fits.2) n
      ∙ ap (λ (x : Option End). option_or x (holder s n)) (holding_end-new s e i o g c n apart)
      ∙ some_or (is_of_pair e.feature g c) c e o n (holder s n)

---------------------------------------------------------------- cycles

contained_is : (e : End) (o : ObjectNo) (c : Option FeatureNo) (n : Node) → is_contained e o c n ≡ true → node_contained e o c ≡ Some n
contained_is e o None n h = absurd (true≢false (sym h))
contained_is e o (Some h) n is = ap Some (same_node-true (if same_feature h e.feature then node.Object o else e.node) n is)

taken : {X : Type 0} (b : Bool) (x : Option X) (d : X) → (if b then x else None) ≡ Some d → (b ≡ true) × (x ≡ Some d)
taken true x d h = (refl, h)
taken false x d h = absurd (none-some d h)

module _ (s : Links) (e : End) (i : ℕ) (o : ObjectNo) (g c : Option FeatureNo) (legal : IsLegalSet s) (fits : EditFits s (put_of e i o g c)) (free : HasNoCycle s) (clear : IsPutOutside s e o c) where
  pub put_outside : IsOutside s (new_link s e i o g c)
  put_outside x d h =
      let is = taken (is_of_pair e.feature g c && is_contained e o c x) (end_containing e o c) d (sym (holding_end-new s e i o g c x (apart_of s e o g fits.1)) ∙ h) in
      let out = clear x d (contained_is e o c x (and_parts (is_of_pair e.feature g c) (is_contained e o c x) is.0).1) is.1 in (
        λ same. true≢false (sym (same_node_if d.node x same) ∙ out.0),
        λ under. true≢false (sym ((above_under s legal free d.node x).1 under) ∙ out.1),
      )

  pub put_without_cycle : HasNoCycle (put s e i o g c)
  put_without_cycle = put_no_cycle s e i o g c legal.held free (free_new s e i o g c (apart_of s e o g fits.1) fits.2) put_outside
