-- A plan that appends values to ends fits if the resulting ends are good.
use Rattle.std.proofs.Common.{◌≡◌, ◌≢◌, ◌∙◌, ◌<◌, ◌≤◌, ◌++◌, ℕ, zero, suc, true, false, List, [], ◌∷◌, Option, Some, None, if◌then◌else◌, length, append_assoc, append-nil, refl, sym, ap, subst, arith}
use Rattle.std.specs.Prelude.{flat_map}
use Rattle.std.specs.List.{AllByRecursion, insert, list_any, slice_get}
use Rattle.std.proofs.lemmas.Bool.{eq-eqb, false_from_ne_true, true≢false}
use Rattle.std.proofs.lemmas.Option.{none-some, same_Some, slice_get_within}
use Rattle.links.proofs.AboveLemmas.{above-under, resource_top}
use Rattle.links.proofs.ClimbLemmas.{climb_step, climb_stop}
use Rattle.links.proofs.CycleLemmas.{plan_makes_no_cycle}
use Rattle.links.proofs.KindLemmas.{plan_keeps_kinds}
use Rattle.links.proofs.LegalLemmas.{edited_legal}
use Rattle.links.proofs.ListLemmas.{insert_end_is}
use Rattle.links.proofs.PlaceLemmas.{ne-same_end}
use Rattle.links.proofs.PutLemmas.{end-put_proxy_near, end-put_proxy_other}
use Rattle.links.proofs.PutEndLemmas.{end-put, put_outside}
use Rattle.links.specs.Holders.{HasNoCycle, IsUnder, above, climb, end_containing, holder, node_contained}
use Rattle.links.specs.Laws.{IsPutOutside, is_far}
use Rattle.links.specs.LegalSets.{AreKinds, AreOfKind, IsDistinct, IsLegalSet, IsObject, Kinds, most}
use Rattle.links.specs.Links.{Links, end, far_end, put, put_proxy}
use Rattle.links.specs.Plans.{EditFits, FarFitsIn, IsFree, IsPlanOfKind, MakesNoCycle, PlanFits, PlanMakesNoCycle, PutFits, links_after_edit, links_after_edits, put_of}
use Rattle.links.specs.declared.plan.Edit.TheVariants as edit
use Rattle.links.specs.declared.plan.Edit.{Edit}
use Rattle.mm_types.proofs.SameLemmas.{same_end-self, same_end-true, same_node-true}
use Rattle.mm_types.specs.Same.{node_value, same_end, same_node}
use Rattle.mm_types.specs.declared.end.End.{End}
use Rattle.mm_types.specs.declared.numbers.FeatureNo.{FeatureNo}
use Rattle.mm_types.specs.declared.numbers.Node.TheVariants as node
use Rattle.mm_types.specs.declared.numbers.Node.{Node}
use Rattle.mm_types.specs.declared.numbers.ObjectNo.{ObjectNo}
use Rattle.mm_types.specs.declared.value.Value.TheVariants as value
use Rattle.mm_types.specs.declared.value.Value.{Value}
use Rattle.doc_loader.proofs.StandLemmas.{holder_end}

---------------------------------------------------------------- lists

pub got_left : {X : Type 0} (xs ys : List X) (k : ℕ) (v : X) → slice_get xs k ≡ Some v → slice_get (xs ++ ys) k ≡ Some v
got_left [] ys k v h = absurd (none-some v h)
got_left (x ∷ xs) ys zero v h = h
got_left (x ∷ xs) ys (suc k) v h = got_left xs ys k v h

pub got_mid : {X : Type 0} (xs : List X) (v : X) (ys : List X) → slice_get (xs ++ v ∷ ys) (length xs) ≡ Some v
got_mid [] v ys = refl
got_mid (x ∷ xs) v ys = got_mid xs v ys

pub short_left : {X : Type 0} (xs : List X) (v : X) (ys : List X) → length xs < length (xs ++ v ∷ ys)
short_left [] v ys = omega arith
short_left (x ∷ xs) v ys = omega (arith, short_left xs v ys)

module _ (xs : List Value) (v : Value) (ys all : List Value) (is : xs ++ v ∷ ys ≡ all) (distinct : IsDistinct all) where
  here_at : slice_get all (length xs) ≡ Some v
  here_at = sym (ap (λ (zs : List Value). slice_get zs (length xs)) is) ∙ got_mid xs v ys

  next_at : (i : ℕ) → slice_get all i ≡ Some v → i ≡ length xs
  next_at i at = distinct i (length xs) v at here_at

  not_before : (k : ℕ) → slice_get xs k ≡ Some v → ⊥
  not_before k at =
      let there = sym (ap (λ (zs : List Value). slice_get zs k) is) ∙ got_left xs (v ∷ ys) k v at in
      let same = distinct k (length xs) v there here_at in
      let low = slice_get_within xs k v at in
      omega (arith, same, low)

---------------------------------------------------------------- what an edit adds

-- the values that an edit appends to an end
abbrev pub gains : End → Edit → List Value
gains d (edit.Put l) = if same_end l.end d then value.Object l.object ∷ [] else (if is_far l.object l.opposite d then node_value l.end.node ∷ [] else [])
gains d (edit.PutProxy e i t) = if same_end e d then value.Proxy t ∷ [] else []
gains d _ = []

-- a node is a resource, or an object from number n on that comes before b
abbrev pub IsBefore : ℕ → Node → ObjectNo → Type 0
IsBefore n (node.Object a) b = (n ≤ a.0) × (a.0 < b.0)
IsBefore n (node.Resource r) b = Unit {0}

-- the lists of ends have no value twice and are short, and each object from number n on is contained at most once, by a node that comes
-- before it
pub record AreGood (m : Kinds) (n : ℕ) (T : End → List Value) : Type 0 where
  pub distinct : (d : End) → IsDistinct (T d)
  pub few : (d : End) → length (T d) ≤ most
  pub one : (d e : End) (b : ObjectNo) (j k : ℕ) → n ≤ b.0 → m.container d.feature ≡ Some d.feature → m.container e.feature ≡ Some e.feature → slice_get (T d) j ≡ Some (value.Object b) → slice_get (T e) k ≡ Some (value.Object b) → d ≡ e
  pub before : (d : End) (b : ObjectNo) (k : ℕ) → n ≤ b.0 → m.container d.feature ≡ Some d.feature → slice_get (T d) k ≡ Some (value.Object b) → IsBefore n d.node b

-- a put that agrees with the kind of its feature and whose object doesn't contain the node of its end; the object is in the resulting end
pub record IsGoodPut (m : Kinds) (n : ℕ) (T : End → List Value) (e : End) (i : ℕ) (o : ObjectNo) (g c : Option FeatureNo) : Type 0 where
  pub opposite : g ≡ m.opposite e.feature
  pub container : c ≡ m.container e.feature
  pub own : (h : FeatureNo) → c ≡ Some h → h ≡ e.feature
  pub new : n ≤ o.0
  pub object : (h : FeatureNo) → g ≡ Some h → IsObject e.node
  pub at : slice_get (T e) i ≡ Some (value.Object o)

abbrev pub IsGood : Kinds → ℕ → (End → List Value) → Edit → Type 0
IsGood m n T (edit.Put l) = IsGoodPut m n T l.end l.index l.object l.opposite l.container
IsGood m n T (edit.PutProxy e i t) = (m.container e.feature ≡ None) × (slice_get (T e) i ≡ Some (value.Proxy t))
IsGood m n T _ = ⊥

-- these edits agree with the kinds of their features
pub good_kinds : (m : Kinds) (n : ℕ) (T : End → List Value) (ys : List Edit) → AllByRecursion (IsGood m n T) ys → IsPlanOfKind m ys
good_kinds m n T [] all = tt
good_kinds m n T (edit.Put l ∷ ys) all = ((all.0.opposite, all.0.container), good_kinds m n T ys all.1)
good_kinds m n T (edit.PutProxy e i t ∷ ys) all = (all.0.0, good_kinds m n T ys all.1)
good_kinds m n T (edit.Cut e v ∷ ys) all = absurd all.0
good_kinds m n T (edit.Shift e to from ∷ ys) all = absurd all.0

gains-near : (e : End) (i : ℕ) (o : ObjectNo) (g c : Option FeatureNo) → gains e (put_of e i o g c) ≡ value.Object o ∷ []
gains-near e i o g c = let self = same_end-self e in rw self refl

gains-near_proxy : (e : End) (i : ℕ) (t : List ℕ) → gains e (edit.PutProxy e i t) ≡ value.Proxy t ∷ []
gains-near_proxy e i t = let self = same_end-self e in rw self refl

gains-far : (e : End) (i : ℕ) (o : ObjectNo) (g : FeatureNo) (c : Option FeatureNo) → ((g.0 ≡ e.feature.0) → ⊥) → gains (far_end o g) (put_of e i o (Some g) c) ≡ node_value e.node ∷ []
gains-far e i o g c apart =
    let other = ne-same_end e (far_end o g) (λ q. apart (sym (ap (λ (x : End). x.feature.0) q))) in
    let self = same_end-self (far_end o g) in
    rw (other, self) refl

---------------------------------------------------------------- one edit

module _ (m : Kinds) (ok : AreKinds m) (n : ℕ) (T : End → List Value) (good : AreGood m n T) where
  before-less : (x : Node) (a b : ObjectNo) → IsBefore n x a → a.0 < b.0 → IsBefore n x b
  before-less (node.Object y) a b less lt = (less.0, omega (arith, less.1, lt))
  before-less (node.Resource r) a b less lt = tt

  -- the end with the values that are still to come is the resulting end
  abbrev Comes : Links → List Edit → Type 0
  Comes t ys = (d : End) → end t d ++ flat_map (gains d) ys ≡ T d

  module _ (t : Links) (legal : IsLegalSet t) (kinds : AreOfKind m t) (ys : List Edit) (comes : Comes t ys) where
    later : (d : End) (k : ℕ) (v : Value) → slice_get (end t d) k ≡ Some v → slice_get (T d) k ≡ Some v
    later d k v at = sym (ap (λ (zs : List Value). slice_get zs k) (comes d)) ∙ got_left (end t d) (flat_map (gains d) ys) k v at

    -- the nodes above a node that comes before b come before b
    above-before : (j : ℕ) (x z : Node) (b : ObjectNo) → IsBefore n x b → climb t j x ≡ Some z → IsBefore n z b
    above-before zero x z b less up = subst (λ (y : Node). IsBefore n y b) (same_Some x z up) less
    above-before (suc j) (node.Resource r) z b less up = absurd (none-some z (sym (climb_stop t (node.Resource r) j (resource_top t r legal)) ∙ up))
    above-before (suc j) (node.Object a) z b less up =
        elim (holder t (node.Object a)) as (λ o. holder t (node.Object a) ≡ o → IsBefore n z b) [
          | None ↦ λ q. absurd (none-some z (sym (climb_stop t (node.Object a) j q) ∙ up))
          | Some d ↦ λ q.
              let at = holder_end m ok t legal kinds (node.Object a) d q in
              let first = before-less d.node a b (good.before d a at.0 less.0 at.2 (later d at.0 (value.Object a) at.1)) less.1 in
              above-before j d.node z b first (sym (climb_step t (node.Object a) d j q) ∙ up)
        ] refl

    not-above : (x : Node) (b : ObjectNo) → IsBefore n x b → IsUnder t x (node.Object b) → ⊥
    not-above x b less under = let q = above-before (suc under.0) x (node.Object b) b less under.1 in omega (arith, q.1)

  ---------------------------------------------------------------- a put

  module _ (t : Links) (legal : IsLegalSet t) (kinds : AreOfKind m t) (free : HasNoCycle t) (ys : List Edit) (e : End) (i : ℕ) (o : ObjectNo) (g c : Option FeatureNo)
      (comes : Comes t (put_of e i o g c ∷ ys)) (put_good : IsGoodPut m n T e i o g c) where
    at_near : end t e ++ value.Object o ∷ flat_map (gains e) ys ≡ T e
    at_near = ap (λ (vs : List Value). end t e ++ (vs ++ flat_map (gains e) ys)) (sym (gains-near e i o g c)) ∙ comes e

    is_last : i ≡ length (end t e)
    is_last = next_at (end t e) (value.Object o) (flat_map (gains e) ys) (T e) at_near (good.distinct e) i put_good.at

    short : (d : End) (v : Value) (vs : List Value) → end t d ++ v ∷ vs ≡ T d → length (end t d) < most
    short d v vs is = let few = good.few d in let same = ap length is in let low = short_left (end t d) v vs in omega (arith, few, same, low)

    put-fits : PutFits t e i (value.Object o)
    put-fits = record {
      in_range = (let q = is_last in omega (arith, q));
      absent = not_before (end t e) (value.Object o) (flat_map (gains e) ys) (T e) at_near (good.distinct e);
      room = short e (value.Object o) (flat_map (gains e) ys) at_near;
    }

    far-fits : (h : Option FeatureNo) → g ≡ h → FarFitsIn t e o h
    far-fits None is = tt
    far-fits (Some h) is =
        let apart = ok.two e.feature h (sym put_good.opposite ∙ is) in
        let there : end t (far_end o h) ++ node_value e.node ∷ flat_map (gains (far_end o h)) ys ≡ T (far_end o h) =
        ap (λ (vs : List Value). end t (far_end o h) ++ (vs ++ flat_map (gains (far_end o h)) ys)) (sym (gains-far e i o h c apart) ∙ ap (λ (x : Option FeatureNo). gains (far_end o h) (put_of e i o x c)) (sym is)) ∙ comes (far_end o h) in
        record {
          apart = apart;
          object = put_good.object h is;
          absent = not_before (end t (far_end o h)) (node_value e.node) (flat_map (gains (far_end o h)) ys) (T (far_end o h)) there (good.distinct (far_end o h));
          room = short (far_end o h) (node_value e.node) (flat_map (gains (far_end o h)) ys) there;
        }

    contains : (h : FeatureNo) → c ≡ Some h → m.container e.feature ≡ Some e.feature
    contains h is = sym put_good.container ∙ is ∙ ap Some (put_good.own h is)

    is-free : (h : FeatureNo) → c ≡ Some h → holder t (node.Object o) ≡ None
    is-free h is =
        elim (holder t (node.Object o)) as (λ x. holder t (node.Object o) ≡ x → x ≡ None) [
          | None ↦ λ q. refl
          | Some d ↦ λ q.
              let at = holder_end m ok t legal kinds (node.Object o) d q in
              let same = good.one d e o at.0 i put_good.new at.2 (contains h is) (later t legal kinds (put_of e i o g c ∷ ys) comes d at.0 (value.Object o) at.1) put_good.at in
              absurd (not_before (end t e) (value.Object o) (flat_map (gains e) ys) (T e) at_near (good.distinct e) at.0 (subst (λ (x : End). slice_get (end t x) at.0 ≡ Some (value.Object o)) same at.1))
        ] refl

    contained-is : (h : FeatureNo) → c ≡ Some h → node_contained e o (Some h) ≡ Some (node.Object o)
    contained-is h is = let same = eq-eqb h.0 e.feature.0 (ap (λ (x : FeatureNo). x.0) (put_good.own h is)) in rw same refl

    containing-is : (h : FeatureNo) → c ≡ Some h → end_containing e o (Some h) ≡ Some e
    containing-is h is = let same = eq-eqb h.0 e.feature.0 (ap (λ (x : FeatureNo). x.0) (put_good.own h is)) in rw same refl

    free-fits : (x : Option FeatureNo) → c ≡ x → IsFree t (node_contained e o x)
    free-fits None is = tt
    free-fits (Some h) is = subst (λ (y : Option Node). IsFree t y) (sym (contained-is h is)) (is-free h is)

    fits : EditFits t (put_of e i o g c)
    fits = (put-fits, far-fits g refl, free-fits c refl)

    outside : IsPutOutside t e o c
    outside = by c refl
      where
        by : (x : Option FeatureNo) → c ≡ x → IsPutOutside t e o x
        by None is = λ x d q r. absurd (none-some x q)
        by (Some h) is = λ x d q r.
            let sx = same_Some (node.Object o) x (sym (contained-is h is) ∙ q) in
            let sd = same_Some e d (sym (containing-is h is) ∙ r) in
            let less = good.before e o i put_good.new (contains h is) put_good.at in
            subst (λ (y : End). (same_node y.node x ≡ false) × (list_any (same_node x) (above t y.node) ≡ false)) sd
            (subst (λ (y : Node). (same_node e.node y ≡ false) × (list_any (same_node y) (above t e.node) ≡ false)) sx (
              false_from_ne_true (same_node e.node (node.Object o)) (λ same. (let z = subst (λ (y : Node). IsBefore n y o) (same_node-true e.node (node.Object o) same) less in omega (arith, z.1))),
              false_from_ne_true (list_any (same_node (node.Object o)) (above t e.node)) (λ found. not-above t legal kinds (put_of e i o g c ∷ ys) comes e.node o less (above-under t e.node (node.Object o) found)),
            ))

    no_cycle : MakesNoCycle t (put_of e i o g c)
    no_cycle = put_outside t e i o g c legal fits free outside

    adds : (d : End) → end (put t e i o g c) d ≡ end t d ++ gains d (put_of e i o g c)
    adds d =
        end-put t e i o g c legal fits d
        ∙ elim (same_end e d) as (λ b. same_end e d ≡ b → (if b then insert (end t d) i (value.Object o) else (if is_far o g d then end t d ++ node_value e.node ∷ [] else end t d)) ≡ end t d ++ (if b then value.Object o ∷ [] else (if is_far o g d then node_value e.node ∷ [] else []))) [
          | true ↦ λ q. ap (λ (j : ℕ). insert (end t d) j (value.Object o)) (is_last ∙ ap (λ (x : End). length (end t x)) (same_end-true e d q)) ∙ insert_end_is (end t d) (value.Object o)
          | false ↦ λ q. elim (is_far o g d) as (λ b. (if b then end t d ++ node_value e.node ∷ [] else end t d) ≡ end t d ++ (if b then node_value e.node ∷ [] else [])) [ true ↦ refl | false ↦ sym (append-nil (end t d)) ]
        ] refl

  ---------------------------------------------------------------- a proxy

  module _ (t : Links) (legal : IsLegalSet t) (ys : List Edit) (e : End) (i : ℕ) (p : List ℕ) (comes : Comes t (edit.PutProxy e i p ∷ ys)) (at : slice_get (T e) i ≡ Some (value.Proxy p)) where
    proxy_near : end t e ++ value.Proxy p ∷ flat_map (gains e) ys ≡ T e
    proxy_near = ap (λ (vs : List Value). end t e ++ (vs ++ flat_map (gains e) ys)) (sym (gains-near_proxy e i p)) ∙ comes e

    proxy_last : i ≡ length (end t e)
    proxy_last = next_at (end t e) (value.Proxy p) (flat_map (gains e) ys) (T e) proxy_near (good.distinct e) i at

    proxy-fits : PutFits t e i (value.Proxy p)
    proxy-fits = record {
      in_range = (let q = proxy_last in omega (arith, q));
      absent = not_before (end t e) (value.Proxy p) (flat_map (gains e) ys) (T e) proxy_near (good.distinct e);
      room = (let few = good.few e in let same = ap length proxy_near in let low = short_left (end t e) (value.Proxy p) (flat_map (gains e) ys) in omega (arith, few, same, low));
    }

    proxy-adds : (d : End) → end (put_proxy t e i p) d ≡ end t d ++ gains d (edit.PutProxy e i p)
    proxy-adds d =
        elim (same_end e d) as (λ b. same_end e d ≡ b → end (put_proxy t e i p) d ≡ end t d ++ (if b then value.Proxy p ∷ [] else [])) [
          | true ↦ λ q.
              subst (λ (x : End). end (put_proxy t e i p) x ≡ end t x ++ value.Proxy p ∷ []) (same_end-true e d q)
              (end-put_proxy_near t e i p legal.placed proxy-fits ∙ ap (λ (j : ℕ). insert (end t e) j (value.Proxy p)) proxy_last ∙ insert_end_is (end t e) (value.Proxy p))
          | false ↦ λ q.
              let ne : e ≢ d = λ same. true≢false (sym (subst (λ (x : End). same_end e x ≡ true) same (same_end-self e)) ∙ q) in
              end-put_proxy_other t e i p legal.placed proxy-fits d ne ∙ sym (append-nil (end t d))
        ] refl

  ---------------------------------------------------------------- a plan

  comes-next : (t u : Links) (y : Edit) (ys : List Edit) → ((d : End) → end u d ≡ end t d ++ gains d y) → Comes t (y ∷ ys) → Comes u ys
  comes-next t u y ys adds comes d = ap (λ (vs : List Value). vs ++ flat_map (gains d) ys) (adds d) ∙ append_assoc (end t d) (gains d y) (flat_map (gains d) ys) ∙ comes d

  pub record IsMade (t : Links) (ys : List Edit) : Type 0 where
    pub fits : PlanFits t ys
    pub no_cycle : PlanMakesNoCycle t ys
    pub ends : (d : End) → end (links_after_edits t ys) d ≡ T d

  made-more : (t : Links) (y : Edit) (ys : List Edit) → EditFits t y → MakesNoCycle t y → IsMade (links_after_edit t y) ys → IsMade t (y ∷ ys)
  made-more t y ys fits no_cycle made = record { fits = (fits, made.fits); no_cycle = (no_cycle, made.no_cycle); ends = made.ends }

  pub plan_made : (ys : List Edit) (t : Links) → IsLegalSet t → AreOfKind m t → HasNoCycle t → Comes t ys → AllByRecursion (IsGood m n T) ys → IsMade t ys
  plan_made [] t legal kinds free comes all = record { fits = tt; no_cycle = tt; ends = λ d. sym (append-nil (end t d)) ∙ comes d }
  plan_made (edit.Put l ∷ ys) t legal kinds free comes all =
      let fit = fits t legal kinds free ys l.end l.index l.object l.opposite l.container comes all.0 in
      let clear = no_cycle t legal kinds free ys l.end l.index l.object l.opposite l.container comes all.0 in
      let u = put t l.end l.index l.object l.opposite l.container in
      made-more t (edit.Put l) ys fit clear
      (plan_made ys u (edited_legal t (edit.Put l) legal fit) (plan_keeps_kinds m ok t (edit.Put l ∷ []) kinds ((all.0.opposite, all.0.container), tt))
      (plan_makes_no_cycle t (edit.Put l ∷ []) legal (fit, tt) (clear, tt) free)
      (comes-next t u (edit.Put l) ys (adds t legal kinds free ys l.end l.index l.object l.opposite l.container comes all.0) comes) all.1)
  plan_made (edit.PutProxy e i p ∷ ys) t legal kinds free comes all =
      let fit = proxy-fits t legal ys e i p comes all.0.1 in
      let u = put_proxy t e i p in
      made-more t (edit.PutProxy e i p) ys fit tt
      (plan_made ys u (edited_legal t (edit.PutProxy e i p) legal fit) (plan_keeps_kinds m ok t (edit.PutProxy e i p ∷ []) kinds (all.0.0, tt))
      (plan_makes_no_cycle t (edit.PutProxy e i p ∷ []) legal (fit, tt) (tt, tt) free)
      (comes-next t u (edit.PutProxy e i p) ys (proxy-adds t legal ys e i p comes all.0.1) comes) all.1)
  plan_made (edit.Cut e v ∷ ys) t legal kinds free comes all = absurd all.0
  plan_made (edit.Shift e to from ∷ ys) t legal kinds free comes all = absurd all.0
