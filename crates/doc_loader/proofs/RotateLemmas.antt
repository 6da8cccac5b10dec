-- A link of a pair that is cut and put in again at its index is last at the other end.
use Rattle.std.proofs.Common.{◌≡◌, ◌≢◌, ◌∙◌, ◌<◌, ◌++◌, ℕ, zero, suc, Bool, true, false, List, [], ◌∷◌, Option, Some, None, if◌then◌else◌, length, append_assoc, append-nil, refl, sym, ap, subst, inl, inr, arith}
use Rattle.std.specs.Prelude.{◌&&◌, ◌||◌, filter, flat_map, not}
use Rattle.std.specs.List.{AllByRecursion, insert, list_any, remove, slice_get}
use Rattle.std.proofs.lemmas.Bool.{false≢true, false_from_ne_true, or_cases, or_left, or_right, true≢false}
use Rattle.std.proofs.lemmas.Option.{none-some, same_Some, slice_get_within}
use Rattle.std.proofs.lemmas.List.Elements.{filter-append, filter_agree}
use Rattle.links.proofs.CutNamedLemmas.{end-cut_value}
use Rattle.links.proofs.CycleLemmas.{cut_value_no_cycle, plan_makes_no_cycle}
use Rattle.links.proofs.FilterLemmas.{filter_passes, filter_twice, remove-filter}
use Rattle.links.proofs.KindLemmas.{plan_keeps_kinds}
use Rattle.links.proofs.LegalLemmas.{edited_legal}
use Rattle.links.proofs.ListLemmas.{length_remove, removed_absent}
use Rattle.links.proofs.PlaceLemmas.{ne-same_end}
use Rattle.links.proofs.PutEndLemmas.{end-put, put_outside}
use Rattle.links.proofs.SideLemmas.{both_ends_agree}
use Rattle.links.specs.Holders.{HasNoCycle}
use Rattle.links.specs.Laws.{names, names_far}
use Rattle.links.specs.LegalSets.{AreKinds, AreOfKind, IsDistinct, IsLegalSet, IsObject, Kinds, most}
use Rattle.links.specs.Links.{Links, cut_value, end, far_end, put}
use Rattle.links.specs.Plans.{EditFits, IsPlanOfKind, MakesNoCycle, PlanFits, PlanMakesNoCycle, links_after_edits, put_of}
use Rattle.links.specs.declared.plan.Edit.TheVariants as edit
use Rattle.links.specs.declared.plan.Edit.{Edit}
use Rattle.mm_types.proofs.SameLemmas.{same_end-self, same_end-true}
use Rattle.mm_types.specs.Same.{node_value, same_end, same_value}
use Rattle.mm_types.specs.SameValues.{same_value-self, same_value-true}
use Rattle.mm_types.specs.declared.end.End.{End}
use Rattle.mm_types.specs.declared.numbers.FeatureNo.{FeatureNo}
use Rattle.mm_types.specs.declared.numbers.ObjectNo.{ObjectNo}
use Rattle.mm_types.specs.declared.value.Value.TheVariants as value
use Rattle.mm_types.specs.declared.value.Value.{Value}
use Rattle.doc_loader.proofs.FillLemmas.{distinct-tail}

---------------------------------------------------------------- lists

-- v taken out, and put last
abbrev pub put_last : Value → List Value → List Value
put_last v xs = filter (λ w. not (same_value v w)) xs ++ v ∷ []

-- some values, each put last, one after another
abbrev pub put_all_last : List Value → List Value → List Value
put_all_last [] vs = vs
put_all_last (u ∷ us) vs = put_all_last us (put_last u vs)

abbrev pub among : List Value → Value → Bool
among us w = list_any (λ u. same_value u w) us

pub among-at : (us : List Value) (w : Value) → among us w ≡ true → (k : ℕ) × (slice_get us k ≡ Some w)
among-at [] w h = absurd (false≢true h)
among-at (u ∷ us) w h = elim (or_cases (same_value u w) (among us w) h) [
  | inl same ↦ (0, ap Some (same_value-true u w same))
  | inr later ↦ let r = among-at us w later in (suc r.0, r.1)
]

pub at-among : (us : List Value) (k : ℕ) (w : Value) → slice_get us k ≡ Some w → among us w ≡ true
at-among [] k w h = absurd (none-some w h)
at-among (u ∷ us) zero w h = or_left (same_value u w) (among us w) (subst (λ (x : Value). same_value u x ≡ true) (same_Some u w h) (same_value-self u))
at-among (u ∷ us) (suc k) w h = or_right (same_value u w) (among us w) (at-among us k w h)

pub distinct-head : (u : Value) (us : List Value) → IsDistinct (u ∷ us) → among us u ≡ false
distinct-head u us d = false_from_ne_true (among us u) (λ h. (let r = among-at us u h in let e = d zero (suc r.0) u refl r.1 in omega (arith, e)))

filter-whole : (xs : List Value) → filter (λ w. true) xs ≡ xs
filter-whole [] = refl
filter-whole (x ∷ xs) = ap (λ (ys : List Value). x ∷ ys) (filter-whole xs)

kept-one : (q : Bool) (u : Value) → q ≡ false → (if not q then u ∷ [] else []) ≡ u ∷ []
kept-one q u h = rw h refl

put_all_last-is : (us vs : List Value) → IsDistinct us → put_all_last us vs ≡ filter (λ w. not (among us w)) vs ++ us
put_all_last-is [] vs d = sym (filter-whole vs) ∙ sym (append-nil (filter (λ w. true) vs))
put_all_last-is (u ∷ us) vs d =
    put_all_last-is us (put_last u vs) (distinct-tail u us d)
    ∙ ap (λ (xs : List Value). xs ++ us) (
    filter-append (λ w. not (among us w)) (filter (λ w. not (same_value u w)) vs) (u ∷ [])
    ∙ ap (λ (xs : List Value). xs ++ (if not (among us u) then u ∷ [] else [])) (filter_twice (same_value u) (among us) vs)
    ∙ ap (λ (xs : List Value). filter (λ w. not (same_value u w || among us w)) vs ++ xs) (kept-one (among us u) u (distinct-head u us d)))
    ∙ append_assoc (filter (λ w. not (same_value u w || among us w)) vs) (u ∷ []) us

filter-nothing : (p : Value → Bool) (vs : List Value) → ((k : ℕ) (w : Value) → slice_get vs k ≡ Some w → p w ≡ true) → filter (λ w. not (p w)) vs ≡ []
filter-nothing p [] h = refl
filter-nothing p (v ∷ vs) h = let here = h zero v refl in rw here (filter-nothing p vs (λ k w at. h (suc k) w at))

-- if all values of a list are among the values that are put last, the list is then these values
pub put_all_last-whole : (us vs : List Value) → IsDistinct us → ((k : ℕ) (w : Value) → slice_get vs k ≡ Some w → among us w ≡ true) → put_all_last us vs ≡ us
put_all_last-whole us vs d all = put_all_last-is us vs d ∙ ap (λ (xs : List Value). xs ++ us) (filter-nothing (among us) vs all)

insert-removed : (xs : List Value) (i : ℕ) (v : Value) → slice_get xs i ≡ Some v → insert (remove xs i) i v ≡ xs
insert-removed [] i v h = absurd (none-some v h)
insert-removed (x ∷ xs) zero v h = ap (λ (y : Value). y ∷ xs) (sym (same_Some x v h))
insert-removed (x ∷ xs) (suc i) v h = ap (λ (ys : List Value). x ∷ ys) (insert-removed xs i v h)

---------------------------------------------------------------- one link

near_only : (a b x y : Bool) → a ≡ true → b ≡ false → (a && x) || (b && y) ≡ x
near_only true false true y h k = refl
near_only true false false y h k = refl
near_only true true x y h k = absurd (true≢false k)
near_only false b x y h k = absurd (false≢true h)

far_only : (a b x y : Bool) → a ≡ false → b ≡ true → (a && x) || (b && y) ≡ y
far_only false true x y h k = refl
far_only false false x y h k = absurd (false≢true k)
far_only true b x y h k = absurd (true≢false h)

neither : (a b x y : Bool) → a ≡ false → b ≡ false → (a && x) || (b && y) ≡ false
neither false false x y h k = refl
neither false true x y h k = absurd (true≢false k)
neither true b x y h k = absurd (true≢false h)

module _ (m : Kinds) (ok : AreKinds m) (t : Links) (legal : IsLegalSet t) (kinds : AreOfKind m t) (free : HasNoCycle t) (e : End) (i : ℕ) (o : ObjectNo) (g : FeatureNo)
    (pair : m.opposite e.feature ≡ Some g) (plain : m.container e.feature ≡ None) (object : IsObject e.node) (at : slice_get (end t e) i ≡ Some (value.Object o)) where
  abbrev one : Links
  one = cut_value t e (value.Object o)

  apart : e ≢ far_end o g
  apart q = ok.two e.feature g pair (sym (ap (λ (x : End). x.feature.0) q))

  named : (d : End) (w : Value) → names m e (value.Object o) d w ≡ ((same_end e d && same_value (value.Object o) w) || (same_end (far_end o g) d && same_value (node_value e.node) w))
  named d w = ap (λ (h : Option FeatureNo). (same_end e d && same_value (value.Object o) w) || names_far e (value.Object o) h d w) pair

  cut : (d : End) → end one d ≡ filter (λ w. not ((same_end e d && same_value (value.Object o) w) || (same_end (far_end o g) d && same_value (node_value e.node) w))) (end t d)
  cut d = end-cut_value m ok t legal kinds e (value.Object o) d ∙ filter_agree (λ w. not (names m e (value.Object o) d w)) (λ w. not ((same_end e d && same_value (value.Object o) w) || (same_end (far_end o g) d && same_value (node_value e.node) w))) (λ w. ap not (named d w)) (end t d)

  cut_near : end one e ≡ remove (end t e) i
  cut_near =
      cut e
      ∙ filter_agree (λ w. not ((same_end e e && same_value (value.Object o) w) || (same_end (far_end o g) e && same_value (node_value e.node) w))) (λ w. not (same_value (value.Object o) w))
      (λ w. ap not (near_only (same_end e e) (same_end (far_end o g) e) (same_value (value.Object o) w) (same_value (node_value e.node) w) (same_end-self e) (ne-same_end (far_end o g) e (λ q. apart (sym q))))) (end t e)
      ∙ sym (remove-filter (end t e) i (value.Object o) (legal.placed.distinct e) at)

  cut_far : end one (far_end o g) ≡ filter (λ w. not (same_value (node_value e.node) w)) (end t (far_end o g))
  cut_far =
      cut (far_end o g)
      ∙ filter_agree (λ w. not ((same_end e (far_end o g) && same_value (value.Object o) w) || (same_end (far_end o g) (far_end o g) && same_value (node_value e.node) w))) (λ w. not (same_value (node_value e.node) w))
      (λ w. ap not (far_only (same_end e (far_end o g)) (same_end (far_end o g) (far_end o g)) (same_value (value.Object o) w) (same_value (node_value e.node) w) (ne-same_end e (far_end o g) apart) (same_end-self (far_end o g)))) (end t (far_end o g))

  cut_other : (d : End) → same_end e d ≡ false → same_end (far_end o g) d ≡ false → end one d ≡ end t d
  cut_other d a b =
      cut d
      ∙ filter_agree (λ w. not ((same_end e d && same_value (value.Object o) w) || (same_end (far_end o g) d && same_value (node_value e.node) w))) (λ w. true)
      (λ w. ap not (neither (same_end e d) (same_end (far_end o g) d) (same_value (value.Object o) w) (same_value (node_value e.node) w) a b)) (end t d)
      ∙ filter-whole (end t d)

  has_near : (j : ℕ) × (slice_get (end t (far_end o g)) j ≡ Some (node_value e.node))
  has_near = both_ends_agree m t legal kinds e (far_end o g) pair (i, at)

  one_legal : IsLegalSet one
  one_legal = edited_legal t (edit.Cut e (value.Object o)) legal (i, at)

  one_kinds : AreOfKind m one
  one_kinds = plan_keeps_kinds m ok t (edit.Cut e (value.Object o) ∷ []) kinds (tt, tt)

  one_free : HasNoCycle one
  one_free = cut_value_no_cycle t e (value.Object o) legal free

  far_shorter : length (end one (far_end o g)) < most
  far_shorter =
      let j = has_near in
      let is = cut_far ∙ sym (remove-filter (end t (far_end o g)) j.0 (node_value e.node) (legal.placed.distinct (far_end o g)) j.1) in
      let same = ap length is in
      let low = length_remove (end t (far_end o g)) j.0 (slice_get_within (end t (far_end o g)) j.0 (node_value e.node) j.1) in
      let few = legal.placed.few (far_end o g) in
      omega (arith, same, low, few)

  fits : EditFits one (put_of e i o (Some g) None)
  fits =
      let same = ap length cut_near in
      let inside = slice_get_within (end t e) i (value.Object o) at in
      let low = length_remove (end t e) i inside in
      let few = legal.placed.few e in (
        record {
          in_range = omega (arith, same, low, inside);
          absent = (λ k h. removed_absent (end t e) i (value.Object o) (legal.placed.distinct e) at k (sym (ap (λ (xs : List Value). slice_get xs k) cut_near) ∙ h));
          room = omega (arith, same, low, few);
        },
        record {
          apart = ok.two e.feature g pair;
          object = object;
          absent = (λ k h. (
              let passes = filter_passes (λ w. not (same_value (node_value e.node) w)) (end t (far_end o g)) k (node_value e.node) (sym (ap (λ (xs : List Value). slice_get xs k) cut_far) ∙ h) in
              let self = same_value-self (node_value e.node) in
              false≢true (sym (ap not self) ∙ passes)));
          room = far_shorter;
        },
        tt,
      )

  no_cycle : MakesNoCycle one (put_of e i o (Some g) None)
  no_cycle = put_outside one e i o (Some g) None one_legal fits one_free (λ x d q r. absurd (none-some x q))

  abbrev two : Links
  two = put one e i o (Some g) None

  -- only the far end changes: there the object of the near end is then the last
  again : (d : End) → end two d ≡ (if same_end (far_end o g) d then put_last (node_value e.node) (end t d) else end t d)
  again d =
      end-put one e i o (Some g) None one_legal fits d
      ∙ elim (same_end e d) as (λ a. same_end e d ≡ a → (if a then insert (end one d) i (value.Object o) else (if same_end (far_end o g) d then end one d ++ node_value e.node ∷ [] else end one d)) ≡ (if same_end (far_end o g) d then put_last (node_value e.node) (end t d) else end t d)) [
        | true ↦ λ q.
            let is = same_end-true e d q in
            let other = ne-same_end (far_end o g) d (λ r. apart (is ∙ sym r)) in
            rw other (subst (λ (x : End). insert (end one x) i (value.Object o) ≡ end t x) is (ap (λ (xs : List Value). insert xs i (value.Object o)) cut_near ∙ insert-removed (end t e) i (value.Object o) at))
        | false ↦ λ q. elim (same_end (far_end o g) d) as (λ b. same_end (far_end o g) d ≡ b → (if b then end one d ++ node_value e.node ∷ [] else end one d) ≡ (if b then put_last (node_value e.node) (end t d) else end t d)) [
          | true ↦ λ r. ap (λ (xs : List Value). xs ++ node_value e.node ∷ []) (subst (λ (x : End). end one x ≡ filter (λ w. not (same_value (node_value e.node) w)) (end t x)) (same_end-true (far_end o g) d r) cut_far)
          | false ↦ λ r. cut_other d q r
        ] refl
      ] refl

---------------------------------------------------------------- several links

-- a link that is cut and put in again
pub record Again : Type 0 where
  pub near : End
  pub index : ℕ
  pub object : ObjectNo
  pub far : FeatureNo

abbrev pub again_edits : Kinds → Again → List Edit
again_edits m x = edit.Cut x.near (value.Object x.object) ∷ put_of x.near x.index x.object (m.opposite x.near.feature) (m.container x.near.feature) ∷ []

abbrev pub all_again : Kinds → List Again → List Edit
all_again m xs = flat_map (again_edits m) xs

pub again_kinds : (m : Kinds) (xs : List Again) → IsPlanOfKind m (all_again m xs)
again_kinds m [] = tt
again_kinds m (x ∷ xs) = (tt, ((refl, refl), again_kinds m xs))

abbrev pub again_at : End → Again → List Value
again_at d x = if same_end (far_end x.object x.far) d then node_value x.near.node ∷ [] else []

-- a link of a pair without containment, at its index in N, which is one of the ends that do not change
pub record IsGoodAgain (m : Kinds) (Near : End → Type 0) (N : End → List Value) (x : Again) : Type 0 where
  pub pair : m.opposite x.near.feature ≡ Some x.far
  pub plain : m.container x.near.feature ≡ None
  pub object : IsObject x.near.node
  pub at : slice_get (N x.near) x.index ≡ Some (value.Object x.object)
  pub stays : Near x.near
  pub apart : (d : End) → Near d → far_end x.object x.far ≢ d

pub record ArePutAgain (m : Kinds) (t : Links) (xs : List Again) (plan : List Edit) : Type 0 where
  pub fits : PlanFits t plan
  pub no_cycle : PlanMakesNoCycle t plan
  pub ends : (d : End) → end (links_after_edits t plan) d ≡ put_all_last (flat_map (again_at d) xs) (end t d)

last-more : (b : Bool) (v : Value) (us vs : List Value) → put_all_last us (if b then put_last v vs else vs) ≡ put_all_last ((if b then v ∷ [] else []) ++ us) vs
last-more true v us vs = refl
last-more false v us vs = refl

module _ (m : Kinds) (ok : AreKinds m) (Near : End → Type 0) (N : End → List Value) where
  again-more : (t : Links) → IsLegalSet t → AreOfKind m t → HasNoCycle t → (x : Again) (xs : List Again) → IsGoodAgain m Near N x → slice_get (end t x.near) x.index ≡ Some (value.Object x.object)
      → ((u : Links) → IsLegalSet u → AreOfKind m u → HasNoCycle u → ((d : End) → Near d → end u d ≡ end t d) → ArePutAgain m u xs (all_again m xs))
      → (p c : Option FeatureNo) → p ≡ Some x.far → c ≡ None → ArePutAgain m t (x ∷ xs) (edit.Cut x.near (value.Object x.object) ∷ put_of x.near x.index x.object p c ∷ all_again m xs)
  again-more t legal kinds free x xs good at rest p c is_pair is_plain =
      subst (λ (z : Option FeatureNo). ArePutAgain m t (x ∷ xs) (edit.Cut x.near (value.Object x.object) ∷ put_of x.near x.index x.object z c ∷ all_again m xs)) (sym is_pair)
      (subst (λ (z : Option FeatureNo). ArePutAgain m t (x ∷ xs) (edit.Cut x.near (value.Object x.object) ∷ put_of x.near x.index x.object (Some x.far) z ∷ all_again m xs)) (sym is_plain) (
      let cut_out = cut_value t x.near (value.Object x.object) in
      let fit = fits m ok t legal kinds free x.near x.index x.object x.far good.pair good.plain good.object at in
      let clear = no_cycle m ok t legal kinds free x.near x.index x.object x.far good.pair good.plain good.object at in
      let is = again m ok t legal kinds free x.near x.index x.object x.far good.pair good.plain good.object at in
      let legal_one = one_legal m ok t legal kinds free x.near x.index x.object x.far good.pair good.plain good.object at in
      let kinds_one = one_kinds m ok t legal kinds free x.near x.index x.object x.far good.pair good.plain good.object at in
      let free_one = one_free m ok t legal kinds free x.near x.index x.object x.far good.pair good.plain good.object at in
      let step = put_of x.near x.index x.object (Some x.far) None in
      let next = rest (put cut_out x.near x.index x.object (Some x.far) None) (edited_legal cut_out step legal_one fit) (plan_keeps_kinds m ok cut_out (step ∷ []) kinds_one ((sym good.pair, sym good.plain), tt))
      (plan_makes_no_cycle cut_out (step ∷ []) legal_one (fit, tt) (clear, tt) free_one)
      (λ d near. is d ∙ ap (λ (b : Bool). if b then put_last (node_value x.near.node) (end t d) else end t d) (ne-same_end (far_end x.object x.far) d (good.apart d near))) in
      record {
        fits = ((x.index, at), (fit, next.fits));
        no_cycle = (tt, (clear, next.no_cycle));
        ends = (λ d. next.ends d ∙ ap (put_all_last (flat_map (again_at d) xs)) (is d) ∙ last-more (same_end (far_end x.object x.far) d) (node_value x.near.node) (flat_map (again_at d) xs) (end t d));
      }))

  pub all_put_again : (xs : List Again) (t : Links) → IsLegalSet t → AreOfKind m t → HasNoCycle t → ((d : End) → Near d → end t d ≡ N d) → AllByRecursion (IsGoodAgain m Near N) xs → ArePutAgain m t xs (all_again m xs)
  all_put_again [] t legal kinds free same all = record { fits = tt; no_cycle = tt; ends = λ d. refl }
  all_put_again (x ∷ xs) t legal kinds free same all =
      again-more t legal kinds free x xs all.0 (ap (λ (vs : List Value). slice_get vs x.index) (same x.near all.0.stays) ∙ all.0.at)
      (λ u legal_u kinds_u free_u keeps. all_put_again xs u legal_u kinds_u free_u (λ d near. keeps d near ∙ same d near) all.1) (m.opposite x.near.feature) (m.container x.near.feature) all.0.pair all.0.plain
