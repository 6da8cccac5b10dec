-- The notifications of a change of an attribute, replayed, give the attribute after the change.
use Rattle.std.proofs.Common.{◌≡◌, ℕ, zero, suc, ◌<◌, ◌≤◌, nat_lt, pos, insert, remove, length, slice_get, slice_set, unwrap_or, option_map, arith, Bool, true, false, ◌&&◌, not, IsTrue, List, [], ◌∷◌, Option, Some, None, is_some, if◌then◌else◌, refl, sym, ap, ◌∙◌, subst}
use Rattle.std.specs.List.{AllByRecursion}
use Rattle.std.specs.Option.{option_map_or}
use Rattle.std.proofs.lemmas.Bool.{false≢true}
use Rattle.std.proofs.lemmas.Bool.Decides.{nat_tests}
use Rattle.std.proofs.Math.Bool.{and-false}
use Rattle.mm_types.proofs.SameLemmas.{same_end-self}
use Rattle.mm_types.specs.Ends.{Held, shown_values}
use Rattle.mm_types.specs.Lookups as lookups
use Rattle.mm_types.specs.Resolved.{Metamodel}
use Rattle.mm_types.specs.Same.{is_nil}
use Rattle.mm_types.specs.Shapes.{Shape, shape}
use Rattle.mm_types.specs.declared.end.End.{End}
use Rattle.mm_types.specs.declared.numbers.ClassNo.{ClassNo}
use Rattle.mm_types.specs.declared.numbers.FeatureNo.{FeatureNo}
use Rattle.mm_types.specs.declared.numbers.Node.{Node}
use Rattle.mm_types.specs.declared.numbers.Node.TheVariants as node
use Rattle.mm_types.specs.declared.numbers.ObjectNo.{ObjectNo}
use Rattle.mm_types.specs.declared.value.Value.{Value}
use Rattle.mm_types.specs.Lists.{put_back, values_after_move}
use Rattle.mm_values.specs.Stored.{Stored, list_changed, nothing_stored}
use Rattle.mm_values.specs.Values.{ObjectState, Objects, change_list, object_at, put_stored, stored_under, values_after_edits, with_changed, with_list}
use Rattle.models.specs.Legal.{IsLegal}
use Rattle.models.specs.Model.{Model, reading}
use Rattle.models.specs.Reading.{at_end, has_feature, held_at}
use Rattle.notice_chain.specs.Replay as replay
use Rattle.notice_chain.specs.Replay.{list_after_position_move}
use Rattle.handshake.specs.Effects.{put_values}
use Rattle.handshake.specs.FeatureChange.{feature_change}
use Rattle.handshake.specs.FeatureChanges.{all_lost, gain_at}
use Rattle.handshake.specs.declared.change_kind.ChangeKind.{ChangeKind}
use Rattle.handshake.specs.declared.change_kind.ChangeKind.TheVariants.{Gains, LosesAt, Moves, Unsets}
use Rattle.handshake.specs.declared.change_kind.FeatureChange.{FeatureChange}
use Rattle.handshake.proofs.AttributeLemmas.{Replays, held_of, put-replays}
use Rattle.handshake.proofs.HappenedLemmas.{done, done-here, happened_at}
use Rattle.handshake.proofs.LegalLemmas.{kept-values, stored-legal, stored-list}
use Rattle.handshake.proofs.RelinkLemmas.{gained-list}

---------------------------------------------------------------- lists

-- a list without one of its values has one fewer
removed-length : (vs : List Value) (k : ℕ) → k < length vs → suc (length (remove vs k)) ≡ length vs
removed-length [] k low = absurd (omega (arith, low))
removed-length (w ∷ ws) zero low = refl
removed-length (w ∷ ws) (suc k) low = ap suc (removed-length ws k (omega (arith, low)))

one-fewer : (vs : List Value) (n k : ℕ) → n < length vs → length vs ≡ k → k ≡ suc n → length (remove vs n) ≡ n
one-fewer vs n k low is same = let less = removed-length vs n low in omega (arith, less, is, same)

-- a list loses its last values, one by one
pub lost-done : (m : Metamodel) (e : End) (n : ℕ) (vs : List Value) (b : Bool) → (shape m e.feature).is_single ≡ false → length vs ≡ n → happened_at m (all_lost e n) e (record { values = vs; flag = b }) ≡ record { values = []; flag = b }
lost-done m e zero [] b many is = refl
lost-done m e zero (v ∷ vs) b many is = absurd (omega (arith, is))
lost-done m e (suc n) vs b many is =
    let long : n < length vs = omega (arith, is) in
    let below : nat_lt n (length vs) ≡ true = grind (arith, nat_tests) in
    ap (happened_at m (all_lost e n) e) (done-here m e (feature_change e (LosesAt n)) (record { values = vs; flag = b }) (same_end-self e) ∙ ap (λ (x : Bool). record { values = if x then remove vs n else vs; flag = b }) below)
    ∙ lost-done m e n (remove vs n) b many (one-fewer vs n (suc n) long is refl)

pub all_lost-own : (e : End) (n : ℕ) → AllByRecursion (λ (t : FeatureChange). t.at ≡ e) (all_lost e n)
all_lost-own e zero = tt
all_lost-own e (suc n) = (refl, all_lost-own e n)

-- a move that fits is a shift
pub list_after_position_move-values_after_move : (vs : List Value) (to from : ℕ) → nat_lt to (length vs) ≡ true → nat_lt from (length vs) ≡ true → list_after_position_move vs (pos from) (pos to) ≡ values_after_move vs to from
list_after_position_move-values_after_move vs to from low_to low_from =
    ap (λ (b : Bool). if b then (if nat_lt to (length vs) then replay.list_after_index_move vs to from else vs) else vs) low_from
    ∙ ap (λ (b : Bool). if b then replay.list_after_index_move vs to from else vs) low_to
    ∙ elim (slice_get vs from) as (λ q. option_map_or (λ x. insert (remove vs from) to x) q vs ≡ put_back q vs to from) [ None ↦ refl | Some v ↦ refl ]

---------------------------------------------------------------- attributes

live-of : (m : Metamodel) (f : FeatureNo) (c : Option ClassNo) → option_map_or (λ k. lookups.has_feature m k f) c false ≡ true → IsTrue (is_some c)
live-of m f None has = absurd (false≢true has)
live-of m f (Some k) has = refl

-- the list that is put if an attribute gains a value, and if it is unset
abbrev value_stored : Shape → Value → Stored
value_stored a v = record { list = v ∷ []; flag = a.is_unsettable }

gain-stored : (a : Shape) (v : Value) (vs : List Value) (k : Held) → a.is_single ≡ true → a.is_reference ≡ false → done a (Gains v) k ≡ held_of a vs (value_stored a v)
gain-stored a v vs k single attribute = rw (single, attribute) refl

unset-stored : (a : Shape) (vs : List Value) (k : Held) → a.is_single ≡ true → a.is_reference ≡ false → done a Unsets k ≡ held_of a vs nothing_stored
unset-stored a vs k single attribute = rw (single, attribute) refl

-- the model after values are put under a feature
abbrev with_values : Model → Node → FeatureNo → List Value → Bool → Model
with_values s n f vs flag = record s { values = values_after_edits s.values (put_values (at_end n f) vs flag) }

pub own-one : (e : End) (h : ChangeKind) → AllByRecursion (λ (t : FeatureChange). t.at ≡ e) (feature_change e h ∷ [])
own-one e h = (refl, tt)

pub one-done : (m : Metamodel) (e : End) (x : ChangeKind) (h : Held) → happened_at m (feature_change e x ∷ []) e h ≡ done (shape m e.feature) x h
one-done m e x h = done-here m e (feature_change e x) h (same_end-self e)

module _ (s : Model) (legal : IsLegal s) (o : ObjectNo) (f : FeatureNo) (has : has_feature (reading s) (node.Object o) f ≡ true) (attribute : (shape s.metamodel f).is_reference ≡ false) where
  abbrev e : End
  e = at_end (node.Object o) f

  abbrev a : Shape
  a = shape s.metamodel f

  live : IsTrue (is_some ((reading s).class o))
  live = live-of s.metamodel f ((reading s).class o) has

  pub single-set : (v : Value) → a.is_single ≡ true → Replays s (feature_change e (Gains v) ∷ []) (with_values s (node.Object o) f (v ∷ []) a.is_unsettable)
  single-set v single = put-replays s o f (feature_change e (Gains v) ∷ []) (value_stored a v) live (own-one e (Gains v)) (λ vs. one-done s.metamodel e (Gains v) (held_at (reading s) e) ∙ gain-stored a v vs (held_at (reading s) e) single attribute)

  pub single-unset : a.is_single ≡ true → Replays s (feature_change e Unsets ∷ []) (with_values s (node.Object o) f [] false)
  single-unset single = put-replays s o f (feature_change e Unsets ∷ []) nothing_stored live (own-one e Unsets) (λ vs. one-done s.metamodel e Unsets (held_at (reading s) e) ∙ unset-stored a vs (held_at (reading s) e) single attribute)

  module _ (many : a.is_single ≡ false) where
    -- the object, and the list that it stores under the attribute
    at-object : (x : ObjectState) × (object_at s.values.objects o ≡ Some x)
    at-object = by (object_at s.values.objects o) live
      where
        by : (q : Option ObjectState) → IsTrue (is_some (option_map (λ (t : ObjectState). t.class) q)) → (x : ObjectState) × (q ≡ Some x)
        by None h = cc
        by (Some x) h = (x, refl)

    abbrev stored : Stored
    stored = stored_under at-object.0 f

    values-stored : (reading s).values e ≡ stored.list
    values-stored = stored-list s legal o f many has attribute at-object.0 at-object.1

    flag-stored : (reading s).flag e ≡ stored.flag
    flag-stored = ap (λ (q : Option ObjectState). unwrap_or (option_map (λ t. (stored_under t f).flag) q) false) at-object.1

    held-stored : held_at (reading s) e ≡ record { values = stored.list; flag = stored.flag }
    held-stored = λ i. record { values = (ap (λ (b : Bool). shown_values b ((reading s).values e)) many ∙ values-stored) i; flag = flag-stored i }

    of-list : (vs ws : List Value) (b : Bool) → record { values = ws; flag = b } ≡ held_of a vs (record { list = ws; flag = b })
    of-list vs ws b = rw (many, attribute, kept-values s legal o f many has attribute ws) refl

    -- a list that is changed as its feature changes say
    list-replays : (own : List FeatureChange) (g : List Value → List Value) → AllByRecursion (λ (t : FeatureChange). t.at ≡ e) own
        → happened_at s.metamodel own e (record { values = stored.list; flag = stored.flag }) ≡ record { values = g stored.list; flag = stored.flag }
        → Replays s own (record s { values = record s.values { objects = with_changed s.values.objects o f g } })
    list-replays own g here makes =
        let h = list_changed g stored in
        subst (λ (os : Objects). Replays s own (record s { values = record s.values { objects = os } })) (put-changed at-object.0 at-object.1)
        (put-replays s o f own h live here (λ vs. ap (happened_at s.metamodel own e) held-stored ∙ makes ∙ of-list vs (g stored.list) stored.flag))
      where
        put-changed : (x : ObjectState) → object_at s.values.objects o ≡ Some x → with_list s.values.objects o f (list_changed g (stored_under x f)) ≡ with_changed s.values.objects o f g
        put-changed x is =
            ap (λ (q : Option ObjectState). slice_set s.values.objects o.0 (option_map (put_stored f (list_changed g (stored_under x f))) q)) is
            ∙ ap (λ (q : Option ObjectState). slice_set s.values.objects o.0 (option_map (change_list f g) q)) (sym is)

    abbrev before : Held
    before = record { values = stored.list; flag = stored.flag }

    pub list-added : (v : Value) (j : Option ℕ) (i : ℕ) → i ≡ unwrap_or j (length ((reading s).values e)) → i ≤ length ((reading s).values e) → Replays s (feature_change e (gain_at j v) ∷ []) (record s { values = record s.values { objects = with_changed s.values.objects o f (λ vs. insert vs i v) } })
    list-added v j i is low =
        list-replays (feature_change e (gain_at j v) ∷ []) (λ vs. insert vs i v) (own-one e (gain_at j v))
        (one-done s.metamodel e (gain_at j v) before ∙ gained-list a j v stored.list i stored.flag many (is ∙ ap (λ (vs : List Value). unwrap_or j (length vs)) values-stored) (subst (λ (vs : List Value). i ≤ length vs) values-stored low))

    pub list-taken : (i : ℕ) → nat_lt i (length ((reading s).values e)) ≡ true → Replays s (feature_change e (LosesAt i) ∷ []) (record s { values = record s.values { objects = with_changed s.values.objects o f (λ vs. remove vs i) } })
    list-taken i low =
        let below = subst (λ (vs : List Value). nat_lt i (length vs) ≡ true) values-stored low in
        list-replays (feature_change e (LosesAt i) ∷ []) (λ vs. remove vs i) (own-one e (LosesAt i))
        (one-done s.metamodel e (LosesAt i) before ∙ ap (λ (b : Bool). record { values = if b then remove stored.list i else stored.list; flag = stored.flag }) below)

    pub list-moved : (to from : ℕ) → nat_lt to (length ((reading s).values e)) ≡ true → nat_lt from (length ((reading s).values e)) ≡ true
        → Replays s (feature_change e (Moves to from) ∷ []) (record s { values = record s.values { objects = with_changed s.values.objects o f (λ vs. values_after_move vs to from) } })
    list-moved to from low_to low_from =
        let below_to = subst (λ (vs : List Value). nat_lt to (length vs) ≡ true) values-stored low_to in
        let below_from = subst (λ (vs : List Value). nat_lt from (length vs) ≡ true) values-stored low_from in
        list-replays (feature_change e (Moves to from) ∷ []) (λ vs. values_after_move vs to from) (own-one e (Moves to from))
        (one-done s.metamodel e (Moves to from) before ∙ ap (λ (vs : List Value). record { values = vs; flag = stored.flag }) (list_after_position_move-values_after_move stored.list to from below_to below_from))

    pub list-unset : Replays s (all_lost e (length ((reading s).values e))) (with_values s (node.Object o) f [] false)
    list-unset =
        let n = length ((reading s).values e) in
        put-replays s o f (all_lost e n) nothing_stored live (all_lost-own e n)
        (λ vs. ap (happened_at s.metamodel (all_lost e n) e) held-stored
        ∙ lost-done s.metamodel e n stored.list stored.flag many (sym (ap (λ (ws : List Value). length ws) values-stored))
        ∙ ap (λ (b : Bool). record { values = []; flag = b }) (stored-off at-object.0 at-object.1)
        ∙ of-list vs [] false)
      where
        stored-off : (x : ObjectState) → object_at s.values.objects o ≡ Some x → (stored_under x f).flag ≡ false
        stored-off x is = (stored-legal s legal o f many has attribute x is).flag ∙ ap (λ (b : Bool). a.is_unsettable && (b && not (is_nil (stored_under x f).list))) many ∙ and-false a.is_unsettable
