-- The notifications of a change of a reference, replayed, give each end after the change.
use Rattle.std.proofs.Common.{slice_get, ◌≡◌, ℕ, suc, ◌≤◌, nat_lt, length, unwrap_or, arith, inl, inr, Bool, true, false, ◌&&◌, ◌||◌, List, [], ◌∷◌, ◌++◌, flat_map, Option, Some, None, option_map, option_to_list, if◌then◌else◌, refl, sym, ap, ◌∙◌, subst}
use Rattle.std.specs.Prelude.{◌⊎◌}
use Rattle.std.specs.List.{AllByRecursion, insert}
use Rattle.std.specs.Option.{option_map_or}
use Rattle.std.proofs.lemmas.Bool.{true≢false}
use Rattle.std.proofs.lemmas.Bool.Decides.{nat_tests}
use Rattle.std.proofs.lemmas.List.Edits.{insert_end}
use Rattle.mm_meta.proofs.ShapeLemmas.{opposites_are_pairs}
use Rattle.mm_types.proofs.SameLemmas.{same_end-self, same_end-true}
use Rattle.mm_types.specs.Ends.{Held, shown_values, value_in}
use Rattle.mm_types.specs.Same.{node_value, same_end}
use Rattle.mm_types.specs.Shapes.{Shape, shape}
use Rattle.mm_types.specs.declared.end.End.{End}
use Rattle.mm_types.specs.declared.numbers.FeatureNo.{FeatureNo}
use Rattle.mm_types.specs.declared.numbers.ObjectNo.{ObjectNo}
use Rattle.mm_types.specs.declared.value.Value.{Value}
use Rattle.mm_types.specs.declared.value.Value.TheVariants as value
use Rattle.links.proofs.CutNamedLemmas.{without_all_legal}
use Rattle.mm_types.specs.SameValues.{same_value-true}
use Rattle.links.proofs.PutEndLemmas.{end-put}
use Rattle.links.specs.Laws.{AreThere, is_far, put_end, without_all}
use Rattle.links.specs.Links.{Links, end, far_end, put}
use Rattle.links.specs.Plans.{Has}
use Rattle.models.proofs.EndLemmas.{values-single}
use Rattle.models.specs.Legal.{IsLegal}
use Rattle.models.specs.Model.{Model, kept_flag, reading}
use Rattle.models.specs.Reading.{Reading, held_at, value_at}
use Rattle.handshake.specs.Displaced.{displaced_link_ends, has_already}
use Rattle.proxies.specs.Resolving.{opposite_end}
use Rattle.handshake.specs.Laws.{AreDifferent}
use Rattle.handshake.specs.FeatureChange.{feature_change}
use Rattle.handshake.specs.FeatureChanges.{far_gain, far_loss, far_losses, gain_at, is_replaced, losses, other_losses}
use Rattle.handshake.specs.declared.change_kind.ChangeKind.{ChangeKind}
use Rattle.handshake.specs.declared.change_kind.ChangeKind.TheVariants.{Gains}
use Rattle.handshake.specs.declared.change_kind.FeatureChange.{FeatureChange}
use Rattle.removal.specs.declared.link_end.LinkEnd.{LinkEnd}
use Rattle.handshake.proofs.AttributeLemmas.{Replays}
use Rattle.handshake.proofs.ApartLemmas.{far_losses-away}
use Rattle.handshake.proofs.CutEndLemmas.{held-one, reference-flag, reference-plain, same-held}
use Rattle.handshake.proofs.CutHeldLemmas.{held_in, losses-cut}
use Rattle.handshake.proofs.CutLinkEndLemmas.{HasLinkEnd, displaced_link_ends-different, displaced_link_ends-stand, far-emptied, same_end-symmetric}
use Rattle.removal.specs.Laws.{names_of}
use Rattle.removal.proofs.ListLemmas.{all-map}
use Rattle.handshake.proofs.HappenedLemmas.{at-others, at-own, done, done-here, done-other, done_at, happened_at, happened_at-append}
use Rattle.handshake.proofs.KnownLemmas.{far-reference}
use Rattle.handshake.proofs.LossLemmas.{gained, gained-single, happened_at-far_loss, happened_at-other_losses}
use Rattle.handshake.proofs.LinkLemmas.{IsNewLink, near-empty, new-fits, without_displaced}

-- a property of e and of each other end holds for each end
pub at-each : (P : End → Type 0) (e d : End) → P e → (same_end e d ≡ false → P d) → P d
at-each P e d here other = elim (same_end e d) as (λ b. same_end e d ≡ b → P d) [ true ↦ λ same. subst P (same_end-true e d same) here | false ↦ other ] refl

stand-there : (s : Links) (ts : List LinkEnd) → AllByRecursion (HasLinkEnd s) ts → AreThere s (names_of ts)
stand-there s ts stand = all-map (λ (x : End × Value). Has s x.0 x.1) (λ (t : LinkEnd). (t.end, t.value)) ts stand

---------------------------------------------------------------- the value that is there

one-shown_values : (o : Option Value) → shown_values true (option_to_list o) ≡ value_in (shown_values true (option_to_list o)) 0 ∷ []
one-shown_values None = refl
one-shown_values (Some v) = refl

module _ (s : Model) (e : End) (legal : IsLegal s) (reference : (shape s.metamodel e.feature).is_reference ≡ true) (single : (shape s.metamodel e.feature).is_single ≡ true) where
  -- a single end holds its value
  held-value : gained (shape s.metamodel e.feature) (value_at (reading s) e) ≡ held_at (reading s) e
  held-value =
      let a = shape s.metamodel e.feature in
      let o = slice_get ((reading s).values e) 0 in
      let one = subst (λ (b : Bool). shown_values b ((reading s).values e) ≡ value_in (shown_values b ((reading s).values e)) 0 ∷ []) (sym single)
      (subst (λ (vs : List Value). shown_values true vs ≡ value_in (shown_values true vs) 0 ∷ []) (sym (values-single s e legal reference single)) (one-shown_values o)) in
      let off = (reference-plain s.metamodel e.feature reference).0 ∙ sym (reference-flag s e.node e.feature legal reference) in
      λ i. record { values = sym one i; flag = off i }

  -- setting a single end to its value again changes nothing
  pub kept-replays : (v : Value) → has_already (reading s) e v ≡ true → Replays s (feature_change e (Gains v) ∷ []) s
  kept-replays v already d =
      let m = s.metamodel in
      let t = feature_change e (Gains v) in
      at-each (λ x. done_at m x t (held_at (reading s) x) ≡ held_at (reading s) x) e d
      (done-here m e t (held_at (reading s) e) (same_end-self e)
      ∙ gained-single (shape m e.feature) v (held_at (reading s) e) single
      ∙ ap (gained (shape m e.feature)) (same_value-true v (value_at (reading s) e) already)
      ∙ held-value)
      (λ other. done-other m d t (held_at (reading s) d) other)

---------------------------------------------------------------- links of one end are cut

-- the far losses of links of e are all their losses, at another end
far_losses-all : (r : Reading) (e : End) (ts : List LinkEnd) (d : End) (h : Held) → AllByRecursion (λ (t : LinkEnd). t.end ≡ e) ts → same_end e d ≡ false → happened_at r.metamodel (far_losses r ts) d h ≡ happened_at r.metamodel (flat_map (losses r) ts) d h
far_losses-all r e [] d h here other = refl
far_losses-all r e (t ∷ ts) d h here other =
    let m = r.metamodel in
    happened_at-append m (far_loss r t) (far_losses r ts) d h
    ∙ far_losses-all r e ts d (happened_at m (far_loss r t) d h) here.1 other
    ∙ ap (happened_at m (flat_map (losses r) ts) d) (happened_at-far_loss r t d h (ap (λ (x : End). same_end x d) here.0 ∙ other))
    ∙ sym (happened_at-append m (losses r t) (flat_map (losses r) ts) d h)

module _ (s : Model) (legal : IsLegal s) (e : End) (ts : List LinkEnd) (here : AllByRecursion (λ (t : LinkEnd). t.end ≡ e) ts) (different : AreDifferent (reading s) ts) (stand : AllByRecursion (HasLinkEnd s.links) ts) where
  -- the losses of the far ends, and then the feature changes of the end itself, if these have the same effect on it as the cuts
  pub cut-replays : (own : List FeatureChange) → AllByRecursion (λ (t : FeatureChange). t.at ≡ e) own → happened_at s.metamodel own e (held_at (reading s) e) ≡ held_in s (without_all s.links (names_of ts)) e
      → Replays s (far_losses (reading s) ts ++ own) (record s { links = without_all s.links (names_of ts) })
  cut-replays own own_here makes d =
      let m = s.metamodel in
      let r = reading s in
      let xs = far_losses r ts in
      at-each (λ y. happened_at m (xs ++ own) y (held_at r y) ≡ held_in s (without_all s.links (names_of ts)) y) e d
      (happened_at-append m xs own e (held_at r e) ∙ ap (happened_at m own e) (at-others m e xs (held_at r e) (far_losses-away s legal e ts here)) ∙ makes)
      (λ other.
      happened_at-append m xs own d (held_at r d)
      ∙ at-own m e d own (happened_at m xs d (held_at r d)) own_here other
      ∙ far_losses-all r e ts d (held_at r d) here other
      ∙ losses-cut s legal ts (stand-there s.links ts stand) different d)

---------------------------------------------------------------- a reference is given another object

not-replaced : (b x y : Bool) → x ≡ false → y ≡ false → (b && (x || y)) ≡ false
not-replaced true x y near far = rw (near, far) refl
not-replaced false x y near far = refl

list-kept : (b x : Bool) → b ≡ false → (b && x) ≡ false
list-kept b x h = ap (λ (y : Bool). y && x) h

far-turned : (o : ObjectNo) (d : End) (q : Option FeatureNo) → option_map_or (same_end d) (option_map (far_end o) q) false ≡ is_far o q d
far-turned o d None = refl
far-turned o d (Some g) = same_end-symmetric d (far_end o g)

other-kept : (r : Reading) (e : End) (o : ObjectNo) (d : End) → same_end e d ≡ false → is_far o (shape r.metamodel e.feature).opposite d ≡ false → is_replaced r e o d ≡ false
other-kept r e o d near far =
    not-replaced (shape r.metamodel d.feature).is_single (same_end e d) (option_map_or (same_end d) (opposite_end r e o) false) near
    (far-turned o d (shape r.metamodel e.feature).opposite ∙ far)

far_gain-other : (r : Reading) (e : End) (o : ObjectNo) (d : End) (k : Held) (q : Option FeatureNo) → is_far o q d ≡ false
    → happened_at r.metamodel (option_map_or (λ y. feature_change y (Gains (node_value e.node)) ∷ []) (option_map (far_end o) q) []) d k ≡ k
far_gain-other r e o d k None far = refl
far_gain-other r e o d k (Some g) far = done-other r.metamodel d (feature_change (far_end o g) (Gains (node_value e.node))) k far

module _ (s : Model) (legal : IsLegal s) (e : End) (o : ObjectNo) (new : IsNewLink s e o) (i : ℕ) (placed : i ≤ length (end (without_displaced s e o) e)) where
  abbrev left : Links
  left = without_displaced s e o

  abbrev joined : Links
  joined = put left e i o (shape s.metamodel e.feature).opposite (shape s.metamodel e.feature).containing

  end-joined : (d : End) → end joined d ≡ put_end left e i o (shape s.metamodel e.feature).opposite d
  end-joined d =
      end-put left e i o (shape s.metamodel e.feature).opposite (shape s.metamodel e.feature).containing
      (without_all_legal s.links (names_of (displaced_link_ends (reading s) e o)) legal.links.set) (new-fits s legal e o new i placed) d

  -- the values of `put_end`, by the results of its tests
  abbrev end_if : Bool → Bool → End → List Value
  end_if near far d = if near then insert (end left d) i (value.Object o) else if far then end left d ++ node_value e.node ∷ [] else end left d

  end-joined_if : (d : End) (near far : Bool) → same_end e d ≡ near → is_far o (shape s.metamodel e.feature).opposite d ≡ far → end joined d ≡ end_if near far d
  end-joined_if d near far is_near is_far = end-joined d ∙ (λ j. end_if (is_near j) (is_far j) d)

  near-joined : end joined e ≡ insert (end left e) i (value.Object o)
  near-joined = end-joined_if e true _ (same_end-self e) refl

  far-joined : (g : FeatureNo) → (shape s.metamodel e.feature).opposite ≡ Some g → same_end e (far_end o g) ≡ false → end joined (far_end o g) ≡ end left (far_end o g) ++ node_value e.node ∷ []
  far-joined g is other = end-joined_if (far_end o g) false true other (ap (λ (q : Option FeatureNo). is_far o q (far_end o g)) is ∙ same_end-self (far_end o g))

  there : AreThere s.links (names_of (displaced_link_ends (reading s) e o))
  there = stand-there s.links (displaced_link_ends (reading s) e o) (displaced_link_ends-stand s e o legal new.reference)

  -- the feature changes of the displaced links, which come before the end itself gains
  abbrev kept : List FeatureChange
  kept = flat_map (other_losses (reading s) e o) (displaced_link_ends (reading s) e o)

  abbrev before : List FeatureChange
  before = kept ++ far_gain (reading s) e o

  -- at an end that the new link does not replace
  kept-left : (d : End) → is_replaced (reading s) e o d ≡ false → happened_at s.metamodel kept d (held_at (reading s) d) ≡ held_in s left d
  kept-left d stays =
      happened_at-other_losses (reading s) e o (displaced_link_ends (reading s) e o) d (held_at (reading s) d) stays
      ∙ losses-cut s legal (displaced_link_ends (reading s) e o) there (displaced_link_ends-different (reading s) e o) d

  module _ (gain : ChangeKind) where
    abbrev At : End → Type 0
    At d = happened_at s.metamodel (before ++ feature_change e gain ∷ []) d (held_at (reading s) d) ≡ held_in s joined d

    -- at another end, the far gain after the losses
    at-another : (d : End) → same_end e d ≡ false
        → happened_at s.metamodel (before ++ feature_change e gain ∷ []) d (held_at (reading s) d) ≡ happened_at s.metamodel (far_gain (reading s) e o) d (happened_at s.metamodel kept d (held_at (reading s) d))
    at-another d other =
        let m = s.metamodel in
        let r = reading s in
        happened_at-append m before (feature_change e gain ∷ []) d (held_at r d)
        ∙ done-other m d (feature_change e gain) (happened_at m before d (held_at r d)) other
        ∙ happened_at-append m kept (far_gain r e o) d (held_at r d)

    -- the far end has only the node, or has it after its other values
    far-gained : (g : FeatureNo) (is : (shape s.metamodel e.feature).opposite ≡ Some g) → same_end e (far_end o g) ≡ false → done (shape s.metamodel g) (Gains (node_value e.node)) (happened_at s.metamodel kept (far_end o g) (held_at (reading s) (far_end o g))) ≡ held_in s joined (far_end o g)
    far-gained g is other =
        let a = shape s.metamodel g in
        let y = far_end o g in
        let v = node_value e.node in
        let reference = far-reference s.metamodel legal.metamodel e.feature g is in
        elim a.is_single as (λ b. a.is_single ≡ b → done a (Gains v) (happened_at s.metamodel kept y (held_at (reading s) y)) ≡ held_in s joined y) [
          | true ↦ λ single. gained-single a v _ single ∙ held-one s joined y legal reference single v (far-joined g is other ∙ ap (λ (vs : List Value). vs ++ v ∷ []) (far-emptied s e o g legal is single))
          | false ↦ λ many. ap (done a (Gains v)) (kept-left y (list-kept a.is_single _ many)) ∙ grown y v reference many (far-joined g is other)
        ] refl
      where
        grown : (y : End) (v : Value) → (shape s.metamodel y.feature).is_reference ≡ true → (shape s.metamodel y.feature).is_single ≡ false → end joined y ≡ end left y ++ v ∷ [] → done (shape s.metamodel y.feature) (Gains v) (held_in s left y) ≡ held_in s joined y
        grown y v reference many is = rw (many, reference, is) refl

    at-far : (g : FeatureNo) → (shape s.metamodel e.feature).opposite ≡ Some g → same_end e (far_end o g) ≡ false → At (far_end o g)
    at-far g is other =
        let m = s.metamodel in
        let y = far_end o g in
        let v = node_value e.node in
        let k = happened_at m kept y (held_at (reading s) y) in
        at-another y other
        ∙ ap (λ (q : Option FeatureNo). happened_at m (option_map_or (λ z. feature_change z (Gains v) ∷ []) (option_map (far_end o) q) []) y k) is
        ∙ done-here m y (feature_change y (Gains v)) k (same_end-self y)
        ∙ far-gained g is other

    at-rest : (d : End) → same_end e d ≡ false → is_far o (shape s.metamodel e.feature).opposite d ≡ false → At d
    at-rest d other far =
        let m = s.metamodel in
        let r = reading s in
        at-another d other
        ∙ far_gain-other r e o d (happened_at m kept d (held_at r d)) (shape m e.feature).opposite far
        ∙ kept-left d (other-kept r e o d other far)
        ∙ same-held s left joined d (sym (end-joined_if d false false other far))

    at-other : (d : End) (q : Option FeatureNo) → (shape s.metamodel e.feature).opposite ≡ q → same_end e d ≡ false → At d
    at-other d None is other = at-rest d other (ap (λ (q : Option FeatureNo). is_far o q d) is)
    at-other d (Some g) is other =
        elim (same_end (far_end o g) d) as (λ b. same_end (far_end o g) d ≡ b → At d) [
          | true ↦ λ far.
              let same = same_end-true (far_end o g) d far in
              subst At same (at-far g is (subst (λ (x : End). same_end e x ≡ false) (sym same) other))
          | false ↦ λ far. at-rest d other (ap (λ (q : Option FeatureNo). is_far o q d) is ∙ far)
        ] refl

    -- the losses of the displaced links, the gain of the far end, and then the gain of the near end, which has the same effect as the put
    linked-replays : ((k : Held) → (k ≡ held_in s left e) ⊎ ((shape s.metamodel e.feature).is_single ≡ true) → done (shape s.metamodel e.feature) gain k ≡ held_in s joined e) → Replays s (before ++ feature_change e gain ∷ []) (record s { links = joined })
    linked-replays makes d =
        let m = s.metamodel in
        let h = held_at (reading s) e in
        at-each At e d
        (happened_at-append m before (feature_change e gain ∷ []) e h ∙ done-here m e (feature_change e gain) (happened_at m before e h) (same_end-self e) ∙ makes (happened_at m before e h) near-before)
        (at-other d (shape m e.feature).opposite refl)
      where
        near-before : (happened_at s.metamodel before e (held_at (reading s) e) ≡ held_in s left e) ⊎ ((shape s.metamodel e.feature).is_single ≡ true)
        near-before =
            elim (shape s.metamodel e.feature).is_single as (λ b. (shape s.metamodel e.feature).is_single ≡ b → (happened_at s.metamodel before e (held_at (reading s) e) ≡ held_in s left e) ⊎ (b ≡ true)) [
              | true ↦ λ _. inr refl
              | false ↦ λ many. inl (
                  happened_at-append s.metamodel kept (far_gain (reading s) e o) e (held_at (reading s) e)
                  ∙ ap (happened_at s.metamodel (far_gain (reading s) e o) e) (kept-left e (list-kept (shape s.metamodel e.feature).is_single _ many))
                  ∙ far_gain-other (reading s) e o e (held_in s left e) (shape s.metamodel e.feature).opposite (near-not_far (shape s.metamodel e.feature).opposite refl))
            ] refl
          where
            near-not_far : (q : Option FeatureNo) → (shape s.metamodel e.feature).opposite ≡ q → is_far o q e ≡ false
            near-not_far None is = refl
            near-not_far (Some g) is = elim (same_end (far_end o g) e) as (λ b. same_end (far_end o g) e ≡ b → b ≡ false) [
              | true ↦ λ same. absurd ((opposites_are_pairs s.metamodel legal.metamodel e.feature g is).apart (ap (λ (x : End). x.feature.0) (same_end-true (far_end o g) e same)))
              | false ↦ λ _. refl
            ] refl

-- a single end has only the object
pub set-replays : (s : Model) (legal : IsLegal s) (e : End) (o : ObjectNo) (new : IsNewLink s e o) → (shape s.metamodel e.feature).is_single ≡ true
    → Replays s ((flat_map (other_losses (reading s) e o) (displaced_link_ends (reading s) e o) ++ far_gain (reading s) e o) ++ feature_change e (Gains (value.Object o)) ∷ [])
    (record s { links = put (without_displaced s e o) e 0 o (shape s.metamodel e.feature).opposite (shape s.metamodel e.feature).containing })
set-replays s legal e o new single =
    let a = shape s.metamodel e.feature in
    let v = value.Object o in
    let zero : 0 ≤ length (end (without_displaced s e o) e) = omega arith in
    let t = put (without_displaced s e o) e 0 o a.opposite a.containing in
    linked-replays s legal e o new 0 zero (Gains v) (λ k _.
    gained-single a v k single ∙ held-one s t e legal new.reference single v (near-joined s legal e o new 0 zero ∙ ap (λ (vs : List Value). insert vs 0 v) (near-empty s legal e o new single)))

-- a list has the object at its position
pub gained-list : (a : Shape) (j : Option ℕ) (v : Value) (vs : List Value) (i : ℕ) (b : Bool) → a.is_single ≡ false → i ≡ unwrap_or j (length vs) → i ≤ length vs → done a (gain_at j v) (record { values = vs; flag = b }) ≡ record { values = insert vs i v; flag = b }
gained-list a None v vs i b many is low = rw (many, is) (ap (λ (ws : List Value). record { values = ws; flag = b }) (sym (insert_end vs v)))
gained-list a (Some k) v vs i b many is low =
    let below : nat_lt k (suc (length vs)) ≡ true = grind (arith, nat_tests) in
    ap (λ (ws : List Value). record { values = ws; flag = b }) (ap (λ (x : Bool). if x then insert vs k v else vs) below ∙ ap (λ (x : ℕ). insert vs x v) (sym is))

-- the values of a list of a reference
pub list-held : (s : Model) (l : Links) (y : End) → (shape s.metamodel y.feature).is_reference ≡ true → (shape s.metamodel y.feature).is_single ≡ false → held_in s l y ≡ record { values = end l y; flag = kept_flag s.values y.node y.feature }
list-held s l y reference many = rw (many, reference) refl

pub add-replays : (s : Model) (legal : IsLegal s) (e : End) (o : ObjectNo) (new : IsNewLink s e o) (j : Option ℕ) (i : ℕ) → (shape s.metamodel e.feature).is_single ≡ false → i ≤ length (end (without_displaced s e o) e) → i ≡ unwrap_or j (length (end (without_displaced s e o) e))
    → Replays s ((flat_map (other_losses (reading s) e o) (displaced_link_ends (reading s) e o) ++ far_gain (reading s) e o) ++ feature_change e (gain_at j (value.Object o)) ∷ [])
    (record s { links = put (without_displaced s e o) e i o (shape s.metamodel e.feature).opposite (shape s.metamodel e.feature).containing })
add-replays s legal e o new j i many placed is =
    let a = shape s.metamodel e.feature in
    let v = value.Object o in
    let t = put (without_displaced s e o) e i o a.opposite a.containing in
    let vs = end (without_displaced s e o) e in
    let b = kept_flag s.values e.node e.feature in
    let here = list-held s (without_displaced s e o) e new.reference many in
    let there : record { values = insert vs i v; flag = b } ≡ held_in s t e = sym (list-held s t e new.reference many ∙ ap (λ (ws : List Value). record { values = ws; flag = b }) (near-joined s legal e o new i placed)) in
    linked-replays s legal e o new i placed (gain_at j v) (λ k near. by a (gain_at j v) k (held_in s (without_displaced s e o) e) (held_in s t e) (ap (done a (gain_at j v)) here ∙ gained-list a j v vs i b many is placed ∙ there) many near)
  where
    by : (a : Shape) (g : ChangeKind) (k l x : Held) → done a g l ≡ x → a.is_single ≡ false → (k ≡ l) ⊎ (a.is_single ≡ true) → done a g k ≡ x
    by a g k l x made many (inl same) = ap (done a g) same ∙ made
    by a g k l x made many (inr single) = absurd (true≢false (sym single ∙ many))
