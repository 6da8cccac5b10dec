-- Replaying the notifications of feature changes makes these changes.
use Rattle.std.proofs.Common.{◌≡◌, ℕ, zero, suc, nat_lt, pos, Bool, true, false, List, [], ◌∷◌, ◌++◌, length, remove, if◌then◌else◌, refl, ap, ◌∙◌, arith}
use Rattle.std.proofs.lemmas.Bool.{lt-ltb}
use Rattle.std.proofs.lemmas.Bool.Decides.{nat_tests}
use Rattle.std.proofs.lemmas.List.Edits.{insert_end}
use Rattle.mm_types.specs.Ends.{Ends, index_in, value_in, with_held}
use Rattle.mm_types.specs.Resolved.{Metamodel}
use Rattle.mm_types.specs.Same.{same_value}
use Rattle.mm_types.specs.Shapes.{shape}
use Rattle.mm_types.specs.declared.end.End.{End}
use Rattle.mm_types.specs.declared.value.Value.{Value}
use Rattle.mm_types.specs.declared.value.Value.TheVariants as value
use Rattle.notice_chain.specs.Kinds.{no_index}
use Rattle.notice_chain.specs.Replay.{ends_after_notice, ends_after_notices, list_after_add, list_after_remove, list_after_resolve}
use Rattle.notice_chain.specs.declared.kind.NoticeKind.TheVariants as kind
use Rattle.handshake.specs.FeatureChange.{ends_after_change, ends_after_changes, has_flag, notice, notice_of, feature_change, change_notices, list_without_value}
use Rattle.handshake.specs.declared.change_kind.ChangeKind.{ChangeKind}
use Rattle.handshake.specs.declared.change_kind.ChangeKind.TheVariants.{Gains, GainsAt, Loses, LosesAt, Unsets, Moves, Resolves}
use Rattle.handshake.specs.declared.change_kind.FeatureChange.{FeatureChange}

---------------------------------------------------------------- notifications replay their feature changes

-- a value that is added after the last one is at the end
list_after_add-length : (vs : List Value) (v : Value) → list_after_add vs (pos (length vs)) v ≡ vs ++ v ∷ []
list_after_add-length vs v = rw (lt-ltb (length vs) (suc (length vs)) (omega arith)) (insert_end vs v)

pub ends_after_notice-gain : (m : Metamodel) (e : Ends) (x : End) (v : Value) → ends_after_notice (has_flag m) e (notice_of (shape m x.feature) x (Gains v) (e x)) ≡ ends_after_change m e (feature_change x (Gains v))
ends_after_notice-gain m e x v =
    let a = shape m x.feature in
    let h = e x in
    elim a.is_single as (λ b. ends_after_notice (has_flag m) e (if b then notice a x h kind.Set (value_in h.values 0) v no_index else notice a x h kind.Add value.Null v (pos (length h.values))) ≡ with_held e x (record { values = if b then v ∷ [] else h.values ++ v ∷ []; flag = if b then a.is_unsettable else h.flag })) [
      | true ↦ refl
      | false ↦ ap (λ (vs : List Value). with_held e x (record { values = vs; flag = h.flag })) (list_after_add-length h.values v)
    ]

cons-if : (b : Bool) (v : Value) (xs ys : List Value) → (if b then v ∷ xs else v ∷ ys) ≡ v ∷ (if b then xs else ys)
cons-if true v xs ys = refl
cons-if false v xs ys = refl

-- removing at the position of a value gives the list without it
pub list_after_remove-index : (vs : List Value) (v : Value) → list_after_remove vs (pos (index_in vs v)) ≡ list_without_value vs v
list_after_remove-index [] v = refl
list_after_remove-index (w ∷ ws) v =
    elim (same_value v w) as (λ b. (let k = (if b then 0 else suc (index_in ws v)) in if nat_lt k (suc (length ws)) then remove (w ∷ ws) k else w ∷ ws) ≡ (if b then ws else w ∷ list_without_value ws v)) [
      | true ↦ ap (λ b. if b then ws else w ∷ ws) (lt-ltb zero (suc (length ws)) (omega arith))
      | false ↦
          let same : nat_lt (suc (index_in ws v)) (suc (length ws)) ≡ nat_lt (index_in ws v) (length ws) = grind (arith, nat_tests) in
          rw (same, ← list_after_remove-index ws v) (cons-if (nat_lt (index_in ws v) (length ws)) w (remove ws (index_in ws v)) ws)
    ]

ends_after_notice-loss : (m : Metamodel) (e : Ends) (x : End) (v : Value) → ends_after_notice (has_flag m) e (notice_of (shape m x.feature) x (Loses v) (e x)) ≡ ends_after_change m e (feature_change x (Loses v))
ends_after_notice-loss m e x v =
    let a = shape m x.feature in
    let h = e x in
    elim a.is_single as (λ b. ends_after_notice (has_flag m) e (if b then notice a x h kind.Set v value.Null no_index else notice a x h kind.Remove v value.Null (pos (index_in h.values v))) ≡ with_held e x (record { values = if b then value.Null ∷ [] else list_without_value h.values v; flag = if b then a.is_unsettable else h.flag })) [
      | true ↦ refl
      | false ↦ ap (λ (vs : List Value). with_held e x (record { values = vs; flag = h.flag })) (list_after_remove-index h.values v)
    ]

ends_after_notice-resolved : (m : Metamodel) (e : Ends) (x : End) (i : ℕ) (v : Value) → ends_after_notice (has_flag m) e (notice_of (shape m x.feature) x (Resolves i v) (e x)) ≡ ends_after_change m e (feature_change x (Resolves i v))
ends_after_notice-resolved m e x i v =
    let a = shape m x.feature in
    let h = e x in
    elim a.is_single as (λ b. ends_after_notice (has_flag m) e (notice a x h kind.Resolve (value_in h.values i) v (if b then no_index else pos i)) ≡ with_held e x (record { values = if b then v ∷ [] else list_after_resolve h.values (pos i) v; flag = h.flag })) [
      | true ↦ refl
      | false ↦ refl
    ]

ends_after_notice-notice_of : (m : Metamodel) (e : Ends) (x : End) (h : ChangeKind) → ends_after_notice (has_flag m) e (notice_of (shape m x.feature) x h (e x)) ≡ ends_after_change m e (feature_change x h)
ends_after_notice-notice_of m e x (Gains v) = ends_after_notice-gain m e x v
ends_after_notice-notice_of m e x (Loses v) = ends_after_notice-loss m e x v
ends_after_notice-notice_of m e x (GainsAt i v) = refl
ends_after_notice-notice_of m e x (LosesAt i) = refl
ends_after_notice-notice_of m e x Unsets = refl
ends_after_notice-notice_of m e x (Moves to from) = refl
ends_after_notice-notice_of m e x (Resolves i v) = ends_after_notice-resolved m e x i v

pub ends_after_notices-change_notices : (m : Metamodel) (e : Ends) (ts : List FeatureChange) → ends_after_notices (has_flag m) e (change_notices m e ts) ≡ ends_after_changes m e ts
ends_after_notices-change_notices m e [] = refl
ends_after_notices-change_notices m e (t ∷ ts) =
    ends_after_notices-change_notices m (ends_after_notice (has_flag m) e (notice_of (shape m t.at.feature) t.at t.does (e t.at))) ts
    ∙ ap (λ (d : Ends). ends_after_changes m d ts) (ends_after_notice-notice_of m e t.at t.does)

pub ruleset replaying = (ends_after_notices-change_notices)
