-- That each adapter has a target, and how many have none once some targets have gone.
use Rattle.std.proofs.Common.{◌≡◌, ◌≤◌, ◌<◌, ◌+◌, ℕ, zero, suc, true, false, not, cond, List, [], ◌∷◌, ◌++◌, filter, length, set, if◌then◌else◌, refl, ap, ◌∙◌, arith, length-append}
use Rattle.std.specs.List.{All, AllByRecursion}
use Rattle.std.proofs.lemmas.Bool.{le-leb, ltb-true}
use Rattle.std.proofs.lemmas.List.{length-map}
use Rattle.std.proofs.lemmas.List.Elements.{All-cons, All-from_recursion, All-head, All-nil, All-push, All-set, All-tail, recursion_from_All}
use Rattle.mm_types.specs.declared.numbers.AdapterNo.{AdapterNo}
use Rattle.mm_types.specs.declared.numbers.Node.{Node}
use Rattle.notice_chain.specs.View.{View}
use Rattle.notice_chain.specs.Listed.{HaveTargets, Listed, has_no, is_target, with_changed, with_target}
use Rattle.notice_chain.specs.Released.{Spot, adapter_after_loss, adapters_without_target, adapters_without_targets, has_targets, last_notice, leaving_adapters, released_adapters, staying_adapters, told_of_leaving}
use Rattle.notice_chain.specs.declared.notice.Notice.{Notice}
use Rattle.notice_chain.specs.declared.target.Target.{Target}
use Rattle.adapter_list.specs.Rounds.{tell_at}
use Rattle.adapter_list.proofs.SplitLemmas.{fewer}

abbrev Has : Listed → Type 0
Has r = 0 < length r.targets

---------------------------------------------------------------- an adapter more, a target more, a notification more

pub some-push : (rs : List Listed) (r : Listed) (t : Target) → r.targets ≡ t ∷ [] → HaveTargets rs → HaveTargets (rs ++ r ∷ [])
some-push rs r t only h = let one = ap (λ (ts : List Target). length ts) only in All-push Has rs r h (omega (arith, one))

pub some-set : (rs : List Listed) (i : ℕ) (r : Listed) (q : Target) → HaveTargets rs → HaveTargets (set rs i (with_target q r))
some-set rs i r q h = let long = length-append r.targets (q ∷ []) in All-set Has rs i (with_target q r) (omega (arith, long)) h

has_at : (rs : List Listed) (i : ℕ) (n : Notice) → AllByRecursion Has rs → AllByRecursion Has (tell_at rs i n)
has_at [] i n h = tt
has_at (r ∷ rs) zero n h = h
has_at (r ∷ rs) (suc i) n h = (h.0, has_at rs i n h.1)

pub some-tell_at : (rs : List Listed) (i : ℕ) (n : Notice) → HaveTargets rs → HaveTargets (tell_at rs i n)
some-tell_at rs i n h = All-from_recursion Has (tell_at rs i n) (has_at rs i n (recursion_from_All Has rs h))

---------------------------------------------------------------- each has a target

pub some-staying_adapters : (rs : List Listed) → HaveTargets (staying_adapters rs)
some-staying_adapters [] = All-nil (λ (r : Listed). 0 < length r.targets)
some-staying_adapters (r ∷ rs) =
    let P : Listed → Type 0 = λ q. 0 < length q.targets in
    elim (has_targets r) as (λ b. has_targets r ≡ b → All P (cond b (r ∷ staying_adapters rs) (staying_adapters rs))) [
      | true ↦ λ some. All-cons P r (staying_adapters rs) (ltb-true 0 (length r.targets) some) (some-staying_adapters rs)
      | false ↦ λ _. some-staying_adapters rs
    ] refl

pub others-some : (ss : List Spot) (rs : List Listed) → HaveTargets rs → HaveTargets (released_adapters ss rs).others
others-some [] rs some = some
others-some (s ∷ ss) rs some = some-staying_adapters (adapters_without_targets (s ∷ ss) rs)

---------------------------------------------------------------- how many leave

abbrev bare : List Listed → List Listed
bare rs = filter (λ r. not (has_targets r)) rs

bare-first : (r : Listed) (rs : List Listed) → length (bare (r ∷ rs)) ≤ suc (length (bare rs))
bare-first r rs = elim (has_targets r) as (λ b. length (cond (not b) (r ∷ bare rs) (bare rs)) ≤ suc (length (bare rs))) [ true ↦ omega arith | false ↦ omega arith ]

bare-behind : (r : Listed) (rs : List Listed) → length (bare rs) ≤ length (bare (r ∷ rs))
bare-behind r rs = elim (has_targets r) as (λ b. length (bare rs) ≤ length (cond (not b) (r ∷ bare rs) (bare rs))) [ true ↦ omega arith | false ↦ omega arith ]

bare-same : (r : Listed) (xs ys : List Listed) → length (bare xs) ≤ suc (length (bare ys)) → length (bare (r ∷ xs)) ≤ suc (length (bare (r ∷ ys)))
bare-same r xs ys h = elim (has_targets r) as (λ b. length (cond (not b) (r ∷ bare xs) (bare xs)) ≤ suc (length (cond (not b) (r ∷ bare ys) (bare ys)))) [ true ↦ omega (arith, h) | false ↦ omega (arith, h) ]

bare-changed : (k : AdapterNo) (x : Node) (n : Notice) (rs : List Listed) → length (bare (with_changed k (adapter_after_loss x n) rs)) ≤ suc (length (bare rs))
bare-changed k x n [] = omega arith
bare-changed k x n (r ∷ rs) =
    elim (has_no k r) as (λ b. length (bare (if b then (adapter_after_loss x n r ∷ rs) else r ∷ with_changed k (adapter_after_loss x n) rs)) ≤ suc (length (bare (r ∷ rs)))) [
      | true ↦ omega (arith, bare-first (adapter_after_loss x n r) rs, bare-behind r rs)
      | false ↦ bare-same r (with_changed k (adapter_after_loss x n) rs) rs (bare-changed k x n rs)
    ]

bare-adapters_without_target : (s : Spot) (rs : List Listed) → length (bare (adapters_without_target s rs)) ≤ suc (length (bare rs))
bare-adapters_without_target s rs =
    elim (is_target s.0 s.1 rs) as (λ b. length (bare (if b then with_changed s.0 (adapter_after_loss s.1 (last_notice s rs)) rs else rs)) ≤ suc (length (bare rs))) [
      | true ↦ bare-changed s.0 s.1 (last_notice s rs) rs
      | false ↦ omega arith
    ]

bare-all : (ss : List Spot) (rs : List Listed) → length (bare (adapters_without_targets ss rs)) ≤ length (bare rs) + length ss
bare-all [] rs = omega arith
bare-all (s ∷ ss) rs = omega (arith, bare-all ss (adapters_without_target s rs), bare-adapters_without_target s rs)

none-bare : (rs : List Listed) → HaveTargets rs → length (bare rs) ≡ 0
none-bare [] some = refl
none-bare (r ∷ rs) some =
    let P : Listed → Type 0 = λ q. 0 < length q.targets in
    let has : has_targets r ≡ true = le-leb _ _ (All-head P r rs some) in
    ap (λ b. length (cond (not b) (r ∷ bare rs) (bare rs))) has ∙ none-bare rs (All-tail P r rs some)

-- at most as many adapters are released as targets are removed
pub few-leave : (ss : List Spot) (rs : List Listed) → HaveTargets rs → length (leaving_adapters (adapters_without_targets ss rs)) ≤ length ss
few-leave ss rs some = omega (arith, length-map (bare (adapters_without_targets ss rs)) (λ (r : Listed). let p : AdapterNo × View = (r.no, r.view) in p), bare-all ss rs, none-bare rs some)

---------------------------------------------------------------- how many there are

changed-len : (k : AdapterNo) (x : Node) (n : Notice) (rs : List Listed) → length (with_changed k (adapter_after_loss x n) rs) ≡ length rs
changed-len k x n [] = refl
changed-len k x n (r ∷ rs) =
    elim (has_no k r) as (λ b. length (if b then (adapter_after_loss x n r ∷ rs) else r ∷ with_changed k (adapter_after_loss x n) rs) ≡ suc (length rs)) [
      | true ↦ refl
      | false ↦ ap suc (changed-len k x n rs)
    ]

adapters_without_target-len : (s : Spot) (rs : List Listed) → length (adapters_without_target s rs) ≡ length rs
adapters_without_target-len s rs =
    elim (is_target s.0 s.1 rs) as (λ b. length (if b then with_changed s.0 (adapter_after_loss s.1 (last_notice s rs)) rs else rs) ≡ length rs) [
      | true ↦ changed-len s.0 s.1 (last_notice s rs) rs
      | false ↦ refl
    ]

adapters_without_targets-len : (ss : List Spot) (rs : List Listed) → length (adapters_without_targets ss rs) ≡ length rs
adapters_without_targets-len [] rs = refl
adapters_without_targets-len (s ∷ ss) rs = adapters_without_targets-len ss (adapters_without_target s rs) ∙ adapters_without_target-len s rs

-- releasing targets adds no adapter
pub others-fewer : (ss : List Spot) (rs : List Listed) → length (staying_adapters (adapters_without_targets ss rs)) ≤ length rs
others-fewer ss rs = omega (arith, fewer has_targets (adapters_without_targets ss rs), adapters_without_targets-len ss rs)

-- an adapter that is notified is in the list
pub some-there : (s : Spot) (p : AdapterNo × Notice) (rs : List Listed) → p ∷ [] ≡ told_of_leaving s rs → 1 ≤ length rs
some-there s p [] told = absurd (cons-nil told)
  where
    cons-nil : p ∷ [] ≡ [] → ⊥
    cons-nil e = cc
some-there s p (r ∷ rs) told = omega arith
