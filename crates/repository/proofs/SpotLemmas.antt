-- What holds of the adapters once targets of theirs have gone.
use Rattle.std.proofs.Common.{◌≡◌, ◌≤◌, ◌&&◌, ◌||◌, ℕ, suc, Bool, true, false, not, cond, nat_eq, List, [], ◌∷◌, map, filter, length, if◌then◌else◌, refl, sym, ap, subst, ◌∙◌, arith, eqb-true, eq-eqb}
use Rattle.std.specs.List.{All, AllByRecursion, IsDistinct, list_any, sum_by}
use Rattle.std.proofs.lemmas.Bool.{false≢true, or_parts}
use Rattle.std.proofs.lemmas.List.Elements.{All-cons, All-filter, All-head, All-nil, All-tail, All-weaker}
use Rattle.std.proofs.lemmas.List.Sums.{sum_by-cons}
use Rattle.std.proofs.lemmas.Map.Keys.{IsDistinct-head, IsDistinct-tail}
use Rattle.std.proofs.Math.Bool.{and-false}
use Rattle.mm_types.proofs.SameLemmas.{same_node-true}
use Rattle.mm_types.specs.Same.{same_node}
use Rattle.mm_types.specs.declared.numbers.AdapterNo.{AdapterNo}
use Rattle.mm_types.specs.declared.numbers.Node.{Node}
use Rattle.notice_chain.specs.Listed.{HasDistinctNumbers, Listed, has_no, has_target, is_at, is_target, same_no, targets_len, with_changed}
use Rattle.notice_chain.specs.Released.{Spot, adapter_after_loss, adapters_without_target, adapters_without_targets, has_targets, last_notice, released_adapters, spots, spots_of}
use Rattle.notice_chain.specs.declared.notice.Notice.{Notice}
use Rattle.notice_chain.specs.declared.target.Target.{Target}
use Rattle.adapter_list.proofs.MoveLemmas.{none-later, only}
use Rattle.adapter_list.proofs.NumberLemmas.{distinct-filter}
use Rattle.adapter_list.proofs.SplitLemmas.{targets_len-staying_adapters}
use Rattle.removal.proofs.ListLemmas.{any-left, any-right}

abbrev numbers : List Listed → List AdapterNo
numbers rs = map (λ r. r.no) rs

---------------------------------------------------------------- their numbers

numbers-changed : (k : AdapterNo) (x : Node) (n : Notice) (rs : List Listed) → numbers (with_changed k (adapter_after_loss x n) rs) ≡ numbers rs
numbers-changed k x n [] = refl
numbers-changed k x n (r ∷ rs) =
    elim (has_no k r) as (λ b. numbers (if b then (adapter_after_loss x n r ∷ rs) else r ∷ with_changed k (adapter_after_loss x n) rs) ≡ r.no ∷ numbers rs) [
      | true ↦ refl
      | false ↦ ap (λ (ks : List AdapterNo). r.no ∷ ks) (numbers-changed k x n rs)
    ]

numbers-adapters_without_target : (s : Spot) (rs : List Listed) → numbers (adapters_without_target s rs) ≡ numbers rs
numbers-adapters_without_target s rs =
    elim (is_target s.0 s.1 rs) as (λ b. numbers (if b then with_changed s.0 (adapter_after_loss s.1 (last_notice s rs)) rs else rs) ≡ numbers rs) [
      | true ↦ numbers-changed s.0 s.1 (last_notice s rs) rs
      | false ↦ refl
    ]

distinct-adapters_without_target : (s : Spot) (rs : List Listed) → HasDistinctNumbers rs → HasDistinctNumbers (adapters_without_target s rs)
distinct-adapters_without_target s rs distinct = subst (IsDistinct same_no) (sym (numbers-adapters_without_target s rs)) distinct

pub distinct-all : (ss : List Spot) (rs : List Listed) → HasDistinctNumbers rs → HasDistinctNumbers (adapters_without_targets ss rs)
distinct-all [] rs distinct = distinct
distinct-all (s ∷ ss) rs distinct = distinct-all ss (adapters_without_target s rs) (distinct-adapters_without_target s rs distinct)

pub others-distinct : (ss : List Spot) (rs : List Listed) → HasDistinctNumbers rs → HasDistinctNumbers (released_adapters ss rs).others
others-distinct [] rs distinct = distinct
others-distinct (s ∷ ss) rs distinct = distinct-filter same_no (λ (r : Listed). r.no) has_targets (adapters_without_targets (s ∷ ss) rs) (distinct-all (s ∷ ss) rs distinct)

---------------------------------------------------------------- what holds on

-- a property that stays true when an adapter loses a target that it has
abbrev pub HoldsOn : (Listed → Type 0) → Type 0
HoldsOn P = (x : Node) (n : Notice) (r : Listed) → has_target x r ≡ true → P r → P (adapter_after_loss x n r)

changed-all : (P : Listed → Type 0) → HoldsOn P → (k : AdapterNo) (x : Node) (n : Notice) (rs : List Listed) → HasDistinctNumbers rs → is_target k x rs ≡ true → All P rs → All P (with_changed k (adapter_after_loss x n) rs)
changed-all P on k x n [] distinct there all = all
changed-all P on k x n (r ∷ rs) distinct there all =
    elim (has_no k r) as (λ b. has_no k r ≡ b → All P (if b then (adapter_after_loss x n r ∷ rs) else r ∷ with_changed k (adapter_after_loss x n) rs)) [
      | true ↦ λ mine.
          let none = none-later k x r rs mine (IsDistinct-head same_no r.no (numbers rs) distinct) in
          let has : has_target x r ≡ true = only (has_target x r) (is_target k x rs) none (sym (ap (λ b. (b && has_target x r) || is_target k x rs) mine) ∙ there) in
          All-cons P (adapter_after_loss x n r) rs (on x n r has (All-head P r rs all)) (All-tail P r rs all)
      | false ↦ λ other.
          let later : is_target k x rs ≡ true = sym (ap (λ b. (b && has_target x r) || is_target k x rs) other) ∙ there in
          All-cons P r (with_changed k (adapter_after_loss x n) rs) (All-head P r rs all) (changed-all P on k x n rs (IsDistinct-tail same_no r.no (numbers rs) distinct) later (All-tail P r rs all))
    ] refl

adapters_without_target-each : (P : Listed → Type 0) → HoldsOn P → (s : Spot) (rs : List Listed) → HasDistinctNumbers rs → All P rs → All P (adapters_without_target s rs)
adapters_without_target-each P on s rs distinct all =
    elim (is_target s.0 s.1 rs) as (λ b. is_target s.0 s.1 rs ≡ b → All P (if b then with_changed s.0 (adapter_after_loss s.1 (last_notice s rs)) rs else rs)) [
      | true ↦ λ there. changed-all P on s.0 s.1 (last_notice s rs) rs distinct there all
      | false ↦ λ _. all
    ] refl

all-each : (P : Listed → Type 0) → HoldsOn P → (ss : List Spot) (rs : List Listed) → HasDistinctNumbers rs → All P rs → All P (adapters_without_targets ss rs)
all-each P on [] rs distinct all = all
all-each P on (s ∷ ss) rs distinct all = all-each P on ss (adapters_without_target s rs) (distinct-adapters_without_target s rs distinct) (adapters_without_target-each P on s rs distinct all)

pub others-each : (P : Listed → Type 0) → HoldsOn P → (ss : List Spot) (rs : List Listed) → HasDistinctNumbers rs → All P rs → All P (released_adapters ss rs).others
others-each P on [] rs distinct all = all
others-each P on (s ∷ ss) rs distinct all = All-filter has_targets P (adapters_without_targets (s ∷ ss) rs) (all-each P on (s ∷ ss) rs distinct all)

---------------------------------------------------------------- how many targets

few-losing : (x : Node) (ts : List Target) → length (filter (λ t. not (is_at x t)) ts) ≤ length ts
few-losing x [] = omega arith
few-losing x (t ∷ ts) =
    elim (is_at x t) as (λ b. length (cond (not b) (t ∷ filter (λ q. not (is_at x q)) ts) (filter (λ q. not (is_at x q)) ts)) ≤ suc (length ts)) [
      | true ↦ omega (arith, few-losing x ts)
      | false ↦ omega (arith, few-losing x ts)
    ]

abbrev many : Listed → ℕ
many r = length r.targets

len-changed : (k : AdapterNo) (x : Node) (n : Notice) (rs : List Listed) → targets_len (with_changed k (adapter_after_loss x n) rs) ≤ targets_len rs
len-changed k x n [] = omega arith
len-changed k x n (r ∷ rs) =
    elim (has_no k r) as (λ b. sum_by many (if b then (adapter_after_loss x n r ∷ rs) else r ∷ with_changed k (adapter_after_loss x n) rs) ≤ sum_by many (r ∷ rs)) [
      | true ↦ omega (arith, sum_by-cons many (adapter_after_loss x n r) rs, sum_by-cons many r rs, few-losing x r.targets)
      | false ↦ omega (arith, sum_by-cons many r (with_changed k (adapter_after_loss x n) rs), sum_by-cons many r rs, len-changed k x n rs)
    ]

len-adapters_without_target : (s : Spot) (rs : List Listed) → targets_len (adapters_without_target s rs) ≤ targets_len rs
len-adapters_without_target s rs =
    elim (is_target s.0 s.1 rs) as (λ b. targets_len (if b then with_changed s.0 (adapter_after_loss s.1 (last_notice s rs)) rs else rs) ≤ targets_len rs) [
      | true ↦ len-changed s.0 s.1 (last_notice s rs) rs
      | false ↦ omega arith
    ]

len-all : (ss : List Spot) (rs : List Listed) → targets_len (adapters_without_targets ss rs) ≤ targets_len rs
len-all [] rs = omega arith
len-all (s ∷ ss) rs = omega (arith, len-all ss (adapters_without_target s rs), len-adapters_without_target s rs)

pub others-len : (ss : List Spot) (rs : List Listed) → targets_len (released_adapters ss rs).others ≤ targets_len rs
others-len [] rs = omega arith
others-len (s ∷ ss) rs = omega (arith, targets_len-staying_adapters (adapters_without_targets (s ∷ ss) rs), len-all (s ∷ ss) rs)

---------------------------------------------------------------- which targets are left

-- a target is one of the targets that are removed
abbrev is_among : List Spot → AdapterNo → Node → Bool
is_among ss k x = list_any (λ (s : Spot). same_no s.0 k && same_node x s.1) ss

-- the removed targets of an adapter are among these
abbrev Stand : (AdapterNo → Node → Bool) → List Spot → Listed → Type 0
Stand goes ss r = (x : Node) → has_target x r ≡ true → goes r.no x ≡ true → is_among ss r.no x ≡ true

own-by : (goes : AdapterNo → Node → Bool) (k : AdapterNo) (x : Node) (ts : List Target) → list_any (is_at x) ts ≡ true → goes k x ≡ true → is_among (map (λ t. (k, t.node)) (filter (λ t. goes k t.node) ts)) k x ≡ true
own-by goes k x [] has g = absurd (false≢true has)
own-by goes k x (t ∷ ts) has g =
    let rest : List Target = filter (λ q. goes k q.node) ts in
    elim (is_at x t) as (λ b. is_at x t ≡ b → (b || list_any (is_at x) ts) ≡ true → is_among (map (λ q. (k, q.node)) (cond (goes k t.node) (t ∷ rest) rest)) k x ≡ true) [
      | true ↦ λ here _.
          let is : t.node ≡ x = same_node-true t.node x here in
          let passes : goes k t.node ≡ true = ap (goes k) is ∙ g in
          let first : (same_no k k && same_node x t.node) ≡ true = ap (λ b. b && same_node x t.node) (eq-eqb k.0 k.0 refl) ∙ ap (same_node x) is ∙ sym (ap (λ y. same_node y x) is) ∙ here in
          ap (λ b. is_among (map (λ q. (k, q.node)) (cond b (t ∷ rest) rest)) k x) passes ∙ ap (λ b. b || is_among (map (λ q. (k, q.node)) rest) k x) first
      | false ↦ λ _ later.
          let found = own-by goes k x ts later g in
          elim (goes k t.node) as (λ b. is_among (map (λ q. (k, q.node)) (cond b (t ∷ rest) rest)) k x ≡ true) [
            | true ↦ any-right (λ (s : Spot). same_no s.0 k && same_node x s.1) ((k, t.node) ∷ []) (map (λ q. (k, q.node)) rest) found
            | false ↦ found
          ]
    ] refl has

-- at first all of them are
stand-first : (goes : AdapterNo → Node → Bool) (rs : List Listed) → All (Stand goes (spots goes rs)) rs
stand-first goes [] = All-nil (Stand goes [])
stand-first goes (r ∷ rs) =
    let all = spots goes (r ∷ rs) in
    All-cons (Stand goes all) r rs
    (λ x has g. any-left (λ (s : Spot). same_no s.0 r.no && same_node x s.1) (spots_of goes r) (spots goes rs) (own-by goes r.no x r.targets has g))
    (All-weaker (Stand goes (spots goes rs)) (Stand goes all) (λ q h x has g. any-right (λ (s : Spot). same_no s.0 q.no && same_node x s.1) (spots_of goes r) (spots goes rs) (h x has g)) rs (stand-first goes rs))

-- a remaining target was not removed, and was a target before
pub left-of : (x y : Node) (ts : List Target) → list_any (is_at y) (filter (λ t. not (is_at x t)) ts) ≡ true → (same_node y x ≡ false) × (list_any (is_at y) ts ≡ true)
left-of x y [] h = absurd (false≢true h)
left-of x y (t ∷ ts) h =
    let rest : List Target = filter (λ q. not (is_at x q)) ts in
    elim (is_at x t) as (λ b. is_at x t ≡ b → list_any (is_at y) (cond (not b) (t ∷ rest) rest) ≡ true → (same_node y x ≡ false) × ((is_at y t || list_any (is_at y) ts) ≡ true)) [
      | true ↦ λ _ k. let more = left-of x y ts k in (more.0, any-right (is_at y) (t ∷ []) ts more.1)
      | false ↦ λ other k. elim (is_at y t) as (λ c. is_at y t ≡ c → (c || list_any (is_at y) rest) ≡ true → (same_node y x ≡ false) × ((c || list_any (is_at y) ts) ≡ true)) [
        | true ↦ λ here _. (sym (ap (λ z. same_node z x) (same_node-true t.node y here)) ∙ other, refl)
        | false ↦ λ _ later. left-of x y ts later
      ] refl k
    ] refl h

stand-adapter_after_loss : (goes : AdapterNo → Node → Bool) (s : Spot) (ss : List Spot) (n : Notice) (r : Listed) → Stand goes (s ∷ ss) r → Stand goes ss (adapter_after_loss s.1 n r)
stand-adapter_after_loss goes s ss n r stand x has g =
    let left = left-of s.1 x r.targets has in
    sym (ap (λ b. (same_no s.0 r.no && b) || is_among ss r.no x) left.0 ∙ ap (λ b. b || is_among ss r.no x) (and-false (same_no s.0 r.no))) ∙ stand x left.1 g

stand-other : (goes : AdapterNo → Node → Bool) (s : Spot) (ss : List Spot) (r : Listed) → has_no s.0 r ≡ false → Stand goes (s ∷ ss) r → Stand goes ss r
stand-other goes s ss r other stand x has g = sym (ap (λ b. (b && same_node x s.1) || is_among ss r.no x) other) ∙ stand x has g

stand-passed : (goes : AdapterNo → Node → Bool) (s : Spot) (ss : List Spot) (r : Listed) → has_target s.1 r ≡ false → Stand goes (s ∷ ss) r → Stand goes ss r
stand-passed goes s ss r none stand x has g =
    elim (same_node x s.1) as (λ b. same_node x s.1 ≡ b → is_among ss r.no x ≡ true) [
      | true ↦ λ same. absurd (false≢true (sym none ∙ ap (λ y. has_target y r) (sym (same_node-true x s.1 same)) ∙ has))
      | false ↦ λ other. sym (ap (λ b. (same_no s.0 r.no && b) || is_among ss r.no x) other ∙ ap (λ b. b || is_among ss r.no x) (and-false (same_no s.0 r.no))) ∙ stand x has g
    ] refl

behind-other : (k : AdapterNo) (r : Listed) (rs : List Listed) → has_no k r ≡ true → AllByRecursion (λ j. same_no r.no j ≡ false) (numbers rs) → All (λ q. has_no k q ≡ false) rs
behind-other k r [] same apart = All-nil (λ q. has_no k q ≡ false)
behind-other k r (q ∷ rs) same apart =
    All-cons (λ p. has_no k p ≡ false) q rs (ap (λ (m : ℕ). nat_eq m q.no.0) (eqb-true k.0 r.no.0 same) ∙ apart.0) (behind-other k r rs same apart.1)

pub both-each : (P Q R : Listed → Type 0) → ((r : Listed) → P r → Q r → R r) → (rs : List Listed) → All P rs → All Q rs → All R rs
both-each P Q R f [] p q = All-nil R
both-each P Q R f (r ∷ rs) p q = All-cons R r rs (f r (All-head P r rs p) (All-head Q r rs q)) (both-each P Q R f rs (All-tail P r rs p) (All-tail Q r rs q))

stand-changed : (goes : AdapterNo → Node → Bool) (s : Spot) (ss : List Spot) (n : Notice) (rs : List Listed) → HasDistinctNumbers rs → All (Stand goes (s ∷ ss)) rs → All (Stand goes ss) (with_changed s.0 (adapter_after_loss s.1 n) rs)
stand-changed goes s ss n [] distinct all = All-nil (Stand goes ss)
stand-changed goes s ss n (r ∷ rs) distinct all =
    let P = Stand goes (s ∷ ss) in
    let Q = Stand goes ss in
    let first = All-head P r rs all in
    let rest = All-tail P r rs all in
    elim (has_no s.0 r) as (λ b. has_no s.0 r ≡ b → All Q (if b then (adapter_after_loss s.1 n r ∷ rs) else r ∷ with_changed s.0 (adapter_after_loss s.1 n) rs)) [
      | true ↦ λ mine. All-cons Q (adapter_after_loss s.1 n r) rs (stand-adapter_after_loss goes s ss n r first) (both-each (λ q. has_no s.0 q ≡ false) P Q (stand-other goes s ss) rs (behind-other s.0 r rs mine (IsDistinct-head same_no r.no (numbers rs) distinct)) rest)
      | false ↦ λ other. All-cons Q r (with_changed s.0 (adapter_after_loss s.1 n) rs) (stand-other goes s ss r other first) (stand-changed goes s ss n rs (IsDistinct-tail same_no r.no (numbers rs) distinct) rest)
    ] refl

stand-none : (goes : AdapterNo → Node → Bool) (s : Spot) (ss : List Spot) (rs : List Listed) → is_target s.0 s.1 rs ≡ false → All (Stand goes (s ∷ ss)) rs → All (Stand goes ss) rs
stand-none goes s ss [] none all = All-nil (Stand goes ss)
stand-none goes s ss (r ∷ rs) none all =
    let P = Stand goes (s ∷ ss) in
    let Q = Stand goes ss in
    let parts = or_parts (has_no s.0 r && has_target s.1 r) (is_target s.0 s.1 rs) none in
    let first = All-head P r rs all in
    All-cons Q r rs
    (elim (has_no s.0 r) as (λ b. has_no s.0 r ≡ b → (b && has_target s.1 r) ≡ false → Stand goes ss r) [
      | true ↦ λ _ passed. stand-passed goes s ss r passed first
      | false ↦ λ other _. stand-other goes s ss r other first
    ] refl parts.0)
    (stand-none goes s ss rs parts.1 (All-tail P r rs all))

stand-adapters_without_target : (goes : AdapterNo → Node → Bool) (s : Spot) (ss : List Spot) (rs : List Listed) → HasDistinctNumbers rs → All (Stand goes (s ∷ ss)) rs → All (Stand goes ss) (adapters_without_target s rs)
stand-adapters_without_target goes s ss rs distinct all =
    elim (is_target s.0 s.1 rs) as (λ b. is_target s.0 s.1 rs ≡ b → All (Stand goes ss) (if b then with_changed s.0 (adapter_after_loss s.1 (last_notice s rs)) rs else rs)) [
      | true ↦ λ _. stand-changed goes s ss (last_notice s rs) rs distinct all
      | false ↦ λ none. stand-none goes s ss rs none all
    ] refl

stand-all : (goes : AdapterNo → Node → Bool) (ss : List Spot) (rs : List Listed) → HasDistinctNumbers rs → All (Stand goes ss) rs → All (Stand goes []) (adapters_without_targets ss rs)
stand-all goes [] rs distinct all = all
stand-all goes (s ∷ ss) rs distinct all = stand-all goes ss (adapters_without_target s rs) (distinct-adapters_without_target s rs distinct) (stand-adapters_without_target goes s ss rs distinct all)

-- no target of an adapter is removed
abbrev pub NoneGoes : (AdapterNo → Node → Bool) → Listed → Type 0
NoneGoes goes r = (x : Node) → has_target x r ≡ true → goes r.no x ≡ false

none-goes : (goes : AdapterNo → Node → Bool) (r : Listed) → Stand goes [] r → NoneGoes goes r
none-goes goes r stand x has = elim (goes r.no x) as (λ b. goes r.no x ≡ b → b ≡ false) [ true ↦ λ g. absurd (false≢true (stand x has g)) | false ↦ λ _. refl ] refl

all-stay : (goes : AdapterNo → Node → Bool) (rs : List Listed) → All (NoneGoes goes) (adapters_without_targets (spots goes rs) rs) → All (NoneGoes goes) (released_adapters (spots goes rs) rs).others
all-stay goes rs all = by (spots goes rs) all
  where
    by : (ss : List Spot) → All (NoneGoes goes) (adapters_without_targets ss rs) → All (NoneGoes goes) (released_adapters ss rs).others
    by [] h = h
    by (s ∷ ss) h = All-filter has_targets (NoneGoes goes) (adapters_without_targets (s ∷ ss) rs) h

-- the adapters that stay have none of the removed targets
pub others-free : (goes : AdapterNo → Node → Bool) (rs : List Listed) → HasDistinctNumbers rs → All (NoneGoes goes) (released_adapters (spots goes rs) rs).others
others-free goes rs distinct =
    all-stay goes rs (All-weaker (Stand goes []) (NoneGoes goes) (none-goes goes) (adapters_without_targets (spots goes rs) rs) (stand-all goes (spots goes rs) rs distinct (stand-first goes rs)))
