-- The ends that are found are those that hold something that goes.
use Rattle.std.proofs.Common.{◌≡◌, ℕ, ◌+◌, ◌<◌, length, slice_index_or, take, eq-eqb, Bool, true, false, not, ◌&&◌, ◌||◌, List, [], ◌∷◌, ◌++◌, Some, refl, sym, ap, ◌∙◌}
use Rattle.std.specs.BTreeSet.{BTreeSet}
use Rattle.std.specs.List.{list_any}
use Rattle.std.specs.List.Sorted.{IsStrictlySortedBy}
use Rattle.std.specs.Ordering.{eq_by_cmp, is_eq}
use Rattle.std.specs.declared.cmp.Ordering.TheVariants.{Equal}
use Rattle.std.proofs.lemmas.Bool.{false≢true}
use Rattle.std.proofs.lemmas.Cmp.{eq_by_cmp_equiv}
use Rattle.std.proofs.lemmas.List.Folds.{list_any_more}
use Rattle.std.proofs.lemmas.Map.Lookups.{btree_set_from_contains}
use Rattle.mm_types.proofs.SameLemmas.{same_end-true}
use Rattle.mm_types.specs.Ends.{has_value}
use Rattle.mm_types.specs.Same.{same_object, same_value}
use Rattle.mm_types.specs.SameValues.{same_value-true}
use Rattle.mm_types.specs.Shapes.{shape}
use Rattle.mm_types.specs.declared.end.End.{End}
use Rattle.mm_types.specs.declared.numbers.Node.{Node}
use Rattle.mm_types.specs.declared.numbers.ObjectNo.{ObjectNo}
use Rattle.mm_types.specs.declared.value.Value.{Value}
use Rattle.mm_types.specs.declared.value.Value.TheVariants as value
use Rattle.links.specs.Laws.{goes}
use Rattle.links.specs.Links.{Links, end}
use Rattle.links.specs.Plans.{AreIncoming, AreInOrder, has_end}
use Rattle.links.specs.Ranks.{rank_cmp}
use Rattle.models.specs.Legal.{IsLegal}
use Rattle.models.specs.Model.{Model, reading}
use Rattle.models.specs.Reading.{is_live}
use Rattle.containment.proofs.PartLemmas.{legal-at, legal-reference, values-linked}
use Rattle.containment.specs.Forest.{is_node_among, subtree}
use Rattle.links.proofs.OrderLemmas.{strict-of_order}
use Rattle.links.proofs.RankLemmas.{rank_cmp-total, same-tests, ties-same}
use Rattle.removal.proofs.ListLemmas.{any-at, passes-at}
use Rattle.removal.proofs.OuterLemmas.{has_end-append, has_end-filter, touched-all, touched-in_order}
use Rattle.removal.specs.Outer.{holds_some, is_in_subtree, touched_ends}
use Rattle.removal.specs.Ranks.{HasGone, holds, is_in, staying_ends}
use Rattle.removal.specs.declared.numbers.Numbers.{Numbers}
use Rattle.mm_meta.proofs.OwnerLemmas.{nat_eq-turned}

---------------------------------------------------------------- one object

same-self : (x : ObjectNo) → same_value (value.Object x) (value.Object x) ≡ true
same-self x = eq-eqb x.0 x.0 refl

-- the ends that `incoming` gives for an object are those that have it
incoming-hold : (s : Links) (x : ObjectNo) (ds : List End) → AreIncoming s x ds → (e : End) → has_end ds e ≡ holds s e x
incoming-hold s x ds are e =
    same-tests (has_end ds e) (holds s e x)
    (λ h. let at = (are e).0 h in any-at (same_value (value.Object x)) (end s e) at.0 (value.Object x) at.1 (same-self x))
    (λ h.
    let at = passes-at (same_value (value.Object x)) (end s e) h in
    (are e).1 (at.0, at.2 ∙ ap Some (sym (same_value-true (value.Object x) at.1 at.3))))

-- the ends that one object adds
pub holding-step : (s : Links) (x : ObjectNo) (ds : List End) (numbers : Numbers) (old new : List End) → AreIncoming s x ds → new ≡ old ++ staying_ends numbers ds
    → (e : End) → has_end new e ≡ (has_end old e || (not (is_in numbers e.node) && holds s e x))
holding-step s x ds numbers old new are made e =
    ap (λ (es : List End). has_end es e) made
    ∙ has_end-append old (staying_ends numbers ds) e
    ∙ ap (λ (b : Bool). has_end old e || b) (has_end-filter (λ (d : End). not (is_in numbers d.node)) ds e ∙ ap (λ (b : Bool). not (is_in numbers e.node) && b) (incoming-hold s x ds are e))

-- one object further
pub objects-step : (stays : Bool) (p : ObjectNo → Bool) (os : List ObjectNo) (i : ℕ) (d : ObjectNo) (old new : Bool) → i < length os → new ≡ (old || (stays && p (slice_index_or os i d))) → old ≡ (stays && list_any p (take i os))
    → new ≡ (stays && list_any p (take (i + 1) os))
objects-step stays p os i d old new low made was =
    made ∙ ap (λ (b : Bool). b || (stays && p (slice_index_or os i d))) was ∙ turn stays (list_any p (take i os)) (p (slice_index_or os i d)) ∙ ap (λ (b : Bool). stays && b) (sym (list_any_more p os i d low))
  where
    turn : (a b c : Bool) → ((a && b) || (a && c)) ≡ (a && (b || c))
    turn true b c = refl
    turn false b c = refl

---------------------------------------------------------------- what goes

any-or : (p q : ObjectNo → Bool) (os : List ObjectNo) → list_any (λ x. p x || q x) os ≡ (list_any p os || list_any q os)
any-or p q [] = refl
any-or p q (o ∷ os) = ap (λ (b : Bool). (p o || q o) || b) (any-or p q os) ∙ turn (p o) (q o) (list_any p os) (list_any q os)
  where
    turn : (a b c d : Bool) → ((a || b) || (c || d)) ≡ ((a || c) || (b || d))
    turn true b c d = refl
    turn false true true d = refl
    turn false true false d = refl
    turn false false c d = refl

any-none : (os : List ObjectNo) → list_any (λ (x : ObjectNo). false) os ≡ false
any-none [] = refl
any-none (o ∷ os) = any-none os

among-turn : (y : ObjectNo) (os : List ObjectNo) → list_any (same_object y) os ≡ list_any (λ x. same_object x y) os
among-turn y [] = refl
among-turn y (o ∷ os) = λ i. nat_eq-turned y.0 o.0 i || among-turn y os i

-- a value is destroyed if it is one of the objects
goes-among : (os : List ObjectNo) (v : Value) → goes (is_node_among os) v ≡ list_any (λ x. same_value (value.Object x) v) os
goes-among os (value.Object y) = among-turn y os
goes-among os _ = sym (any-none os)

-- some value is destroyed if one of the objects is among the values
any-turn : (os : List ObjectNo) (vs : List Value) → list_any (goes (is_node_among os)) vs ≡ list_any (λ x. has_value vs (value.Object x)) os
any-turn os [] = sym (any-none os)
any-turn os (v ∷ vs) =
    (λ i. goes-among os v i || any-turn os vs i)
    ∙ sym (any-or (λ x. same_value (value.Object x) v) (λ x. has_value vs (value.Object x)) os)

module _ (s : Model) (legal : IsLegal s) (g : Node → Bool) (e : End) where
  -- only a reference has an object
  linked-goes : (shape s.metamodel e.feature).is_reference ≡ false → list_any (goes g) (end s.links e) ≡ false
  linked-goes other =
      elim (list_any (goes g) (end s.links e)) as (λ b. list_any (goes g) (end s.links e) ≡ b → b ≡ false) [
        | true ↦ λ h.
            let at = passes-at (goes g) (end s.links e) h in
            let known = legal-at (reading s) e (end s.links e) at.0 at.1 (legal.links.ends e) at.2 in
            absurd (false≢true (sym other ∙ legal-reference (reading s) e.feature at.1 known.1))
        | false ↦ λ _. refl
      ] refl

  linked-some : holds_some (reading s) g e ≡ list_any (goes g) (end s.links e)
  linked-some =
      elim (shape s.metamodel e.feature).is_reference as (λ b. (shape s.metamodel e.feature).is_reference ≡ b → (b && list_any (goes g) ((reading s).values e)) ≡ list_any (goes g) (end s.links e)) [
        | true ↦ λ is. ap (list_any (goes g)) (values-linked s e is)
        | false ↦ λ other. sym (linked-goes other)
      ] refl

---------------------------------------------------------------- the ends that are found

any-end : (es : List End) (q : End) → list_any (λ (k : End). eq_by_cmp rank_cmp q k) es ≡ has_end es q
any-end [] q = refl
any-end (e ∷ es) q = λ i. ((eq_by_cmp_equiv rank_cmp-total).symm q e ∙ ties-same e q) i || any-end es q i

link_end-same : (d e : End) → rank_cmp d e ≡ Equal → d ≡ e
link_end-same d e h = same_end-true d e (sym (ties-same d e) ∙ ap is_eq h)

-- a list of ends in order is determined by its members
same-ends : (xs ys : List End) → IsStrictlySortedBy rank_cmp xs → IsStrictlySortedBy rank_cmp ys → ((e : End) → has_end xs e ≡ has_end ys e) → xs ≡ ys
same-ends xs ys a b same =
    let s : BTreeSet End = record { keys = xs } in
    let t : BTreeSet End = record { keys = ys } in
    btree_set_from_contains rank_cmp-total s t a b (λ q. any-end xs q ∙ same q ∙ sym (any-end ys q)) link_end-same

-- the ends that are found, in order, are the touched ones
pub touched-found : (s : Model) → IsLegal s → (o : ObjectNo) → is_live (reading s) o ≡ true → (os : List ObjectNo) (numbers : Numbers) (found es : List End)
    → os ≡ subtree (reading s) o → HasGone (reading s) o numbers
    → ((e : End) → has_end found e ≡ (not (is_in numbers e.node) && list_any (holds s.links e) os))
    → AreInOrder es → ((e : End) → has_end es e ≡ has_end found e) → es ≡ touched_ends (reading s) o
touched-found s legal o live os numbers found es all has held sorted same =
    let r = reading s in
    let g = is_in_subtree r o in
    same-ends es (touched_ends r o) (strict-of_order es sorted) (strict-of_order (touched_ends r o) (touched-in_order s o)) (λ e.
    let some : list_any (holds s.links e) os ≡ holds_some r g e = ap (list_any (holds s.links e)) all ∙ sym (any-turn (subtree r o) (end s.links e)) ∙ sym (linked-some s legal g e) in
    same e ∙ held e ∙ (λ i. not (has e.node i) && some i) ∙ sym (touched-all s legal o live e))
