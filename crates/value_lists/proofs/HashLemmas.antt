-- How many values of a list have a hash, as the list changes.
use Rattle.std.proofs.Common.{◌≡◌, ℕ, zero, suc, ◌+◌, ◌-◌, ◌<◌, ◌≤◌, Bool, true, false, cond, eqb, nat_lt, not, ◌||◌, List, [], ◌∷◌, length, get_or, take, Option, Some, None, unwrap_or, refl, sym, ap, ◌∙◌, arith, eq-eqb}
use Rattle.std.specs.Option.{option_map, is_some, IfSome}
use Rattle.std.specs.List.{insert, remove, slice_get, list_any, position, position_or_len, sum_by, count_by}
use Rattle.std.proofs.lemmas.List.Sums.{sum_by-cons, sum_by-insert, sum_by-remove, sum_by_more, count_by-le-length}
use Rattle.std.proofs.lemmas.Bool.Decides.{nat_tests}
use Rattle.std.proofs.Math.Bool.{or-true}
use Rattle.slot_lists.specs.Moved.{list_after_move}
use Rattle.mm_types.specs.Same.{same_value}
use Rattle.mm_types.specs.SameValues.{same_value-true}
use Rattle.mm_types.specs.declared.value.Value.{Value}
use Rattle.mm_types.specs.declared.value.Value.TheVariants as value
use Rattle.value_lists.specs.Hashes.{count_in, has_hash, hash_of, is_at, Counts}
use Rattle.value_lists.specs.declared.hash_counts.HashCounts.{HashCounts}

abbrev pub one_of : ℕ → Value → ℕ
one_of h v = cond (has_hash h v) 1 0

get_or-slice_get : (vs : List Value) (i : ℕ) (v : Value) → Some v ≡ slice_get vs i → get_or vs i v ≡ v
get_or-slice_get [] i v is = cc
get_or-slice_get (x ∷ vs) zero v is = cc
get_or-slice_get (x ∷ vs) (suc i) v is = get_or-slice_get vs i v is

pub counts-remove : (t t' : HashCounts) (vs : List Value) (i k : ℕ) (v : Value) → Counts t vs → i < length vs → Some v ≡ slice_get vs i → k ≡ hash_of v → ((h : ℕ) → count_in t' h ≡ count_in t h - cond (eqb k h) 1 0) → Counts t' (remove vs i)
counts-remove t t' vs i k v counts lt at is taken h =
    let new = taken h in
    let old = counts h in
    let same : cond (eqb k h) 1 0 ≡ one_of h v = ap (λ n. cond (eqb n h) 1 0) is in
    let here : one_of h (get_or vs i v) ≡ one_of h v = ap (one_of h) (get_or-slice_get vs i v at) in
    omega (arith, new, old, same, here, sum_by-remove (one_of h) vs i v lt)

moved_sum : (f : Value → ℕ) (vs : List Value) (to from : ℕ) (o : Option Value) → from < length vs → o ≡ slice_get vs from → sum_by f (unwrap_or (option_map (insert (remove vs from) to) o) vs) ≡ sum_by f vs
moved_sum f vs to from None lt is = refl
moved_sum f vs to from (Some v) lt is =
    let here : f (get_or vs from v) ≡ f v = ap f (get_or-slice_get vs from v is) in
    omega (arith, here, sum_by-insert f (remove vs from) to v, sum_by-remove f vs from v lt)

pub counts-list_after_move : (t : HashCounts) (vs : List Value) (to from : ℕ) → Counts t vs → from < length vs → Counts t (list_after_move vs to from)
counts-list_after_move t vs to from counts lt h = counts h ∙ sym (moved_sum (one_of h) vs to from (slice_get vs from) lt refl)

-- if no value has a hash, no value with this hash is in the list
none_same : (w x : Value) (b : Bool) → same_value w x ≡ b → one_of (hash_of w) x ≡ 0 → b ≡ false
none_same w x true same none =
    let has : one_of (hash_of w) x ≡ 1 = ap (λ (z : Value). one_of (hash_of w) z) (sym (same_value-true w x same)) ∙ ap (λ b. cond b 1 0) (eq-eqb (hash_of w) (hash_of w) refl) in
    absurd (omega (arith, has, none))
none_same w x false same none = refl

pub no_hash : (w : Value) (vs : List Value) → count_by (has_hash (hash_of w)) vs ≡ 0 → list_any (same_value w) vs ≡ false
no_hash w [] none = refl
no_hash w (x ∷ vs) none =
    let sum = sum_by-cons (one_of (hash_of w)) x vs in
    let here : one_of (hash_of w) x ≡ 0 = omega (arith, sum, none) in
    let rest : count_by (has_hash (hash_of w)) vs ≡ 0 = omega (arith, sum, none) in
    rw (none_same w x (same_value w x) refl here) (no_hash w vs rest)

-- the hash of the value at an index is counted
pub hash_here : (vs : List Value) (i k : ℕ) (d : Value) → i < length vs → IfSome (slice_get vs i) (λ v. k ≡ hash_of v) → k ≡ hash_of (get_or vs i d)
hash_here [] i k d lt is = absurd (omega arith)
hash_here (x ∷ vs) zero k d lt is = is
hash_here (x ∷ vs) (suc i) k d lt is = hash_here vs i k d (omega arith) is

pub counts_more : (t t' : HashCounts) (vs : List Value) (i k : ℕ) → i < length vs → IfSome (slice_get vs i) (λ v. k ≡ hash_of v) → ((h : ℕ) → count_in t h ≡ count_by (has_hash h) (take i vs)) → ((h : ℕ) → count_in t' h ≡ count_in t h + cond (eqb k h) 1 0) → (h : ℕ) → count_in t' h ≡ count_by (has_hash h) (take (i + 1) vs)
counts_more t t' vs i k lt is counts added h =
    let d = value.Null in
    let new = added h in
    let old = counts h in
    let same : cond (eqb k h) 1 0 ≡ one_of h (get_or vs i d) = ap (λ n. cond (eqb n h) 1 0) (hash_here vs i k d lt is) in
    omega (arith, new, old, same, sum_by_more (one_of h) vs i d lt)

-- if a hash is not counted, no value with this hash is in the list
pub not_counted : (t : HashCounts) (vs : List Value) (w : Value) (k : ℕ) → Counts t vs → k ≡ hash_of w → 0 ≡ count_in t k → list_any (same_value w) vs ≡ false
not_counted t vs w k counts is none =
    let here : count_by (has_hash (hash_of w)) vs ≡ 0 = sym (counts (hash_of w)) ∙ ap (count_in t) (sym is) ∙ sym none in
    no_hash w vs here

-- what is at an index is there
any_at : (w : Value) (vs : List Value) (i : ℕ) → is_at w i vs ≡ true → list_any (same_value w) vs ≡ true
any_at w [] i at = cc
any_at w (x ∷ vs) zero at = ap (λ b. b || list_any (same_value w) vs) at
any_at w (x ∷ vs) (suc i) at = ap (λ b. same_value w x || b) (any_at w vs i at) ∙ or-true (same_value w x)

pub any_found : (w : Value) (vs : List Value) (o : Option ℕ) → IfSome o (λ i. is_at w i vs ≡ true) → is_some o ≡ true → list_any (same_value w) vs ≡ true
any_found w vs None at some = cc
any_found w vs (Some i) at some = any_at w vs i at

-- the hash of what is at an index is counted
counted_at : (w : Value) (vs : List Value) (i : ℕ) → is_at w i vs ≡ true → 1 ≤ count_by (has_hash (hash_of w)) vs
counted_at w [] i at = cc
counted_at w (x ∷ vs) zero at =
    let has : one_of (hash_of w) x ≡ 1 = ap (λ (z : Value). one_of (hash_of w) z) (sym (same_value-true w x at)) ∙ ap (λ b. cond b 1 0) (eq-eqb (hash_of w) (hash_of w) refl) in
    omega (arith, has, sum_by-cons (one_of (hash_of w)) x vs)
counted_at w (x ∷ vs) (suc i) at = omega (arith, sum_by-cons (one_of (hash_of w)) x vs, counted_at w vs i at)

-- if one value has a hash, no value before it is the same
first_at : (w : Value) (vs : List Value) (i : ℕ) → count_by (has_hash (hash_of w)) vs ≤ 1 → is_at w i vs ≡ true → position_or_len (same_value w) vs ≡ i
first_at w [] i one at = cc
first_at w (x ∷ vs) zero one at = ap (λ b. cond (not b) (1 + position_or_len (same_value w) vs) 0) at
first_at w (x ∷ vs) (suc i) one at =
    let sum = sum_by-cons (one_of (hash_of w)) x vs in
    let later = counted_at w vs i at in
    let here : one_of (hash_of w) x ≡ 0 = omega (arith, sum, later, one) in
    let rest : count_by (has_hash (hash_of w)) vs ≤ 1 = omega (arith, sum, one) in
    let next : position_or_len (same_value w) (x ∷ vs) ≡ 1 + i = ap (λ b. cond (not b) (1 + position_or_len (same_value w) vs) 0) (none_same w x (same_value w x) refl here) ∙ ap (λ n. 1 + n) (first_at w vs i rest at) in
    omega (arith, next)

within_at : (w : Value) (vs : List Value) (i : ℕ) → is_at w i vs ≡ true → nat_lt i (length vs) ≡ true
within_at w [] i at = cc
within_at w (x ∷ vs) zero at = grind (arith, nat_tests)
within_at w (x ∷ vs) (suc i) at = grind (arith, nat_tests, within_at w vs i at)

pub only_position : (t : HashCounts) (vs : List Value) (w : Value) (k i : ℕ) → Counts t vs → k ≡ hash_of w → 1 ≡ count_in t k → is_at w i vs ≡ true → Some i ≡ position (same_value w) vs
only_position t vs w k i counts is one at =
    let few : count_by (has_hash (hash_of w)) vs ≤ 1 = omega (arith, counts (hash_of w), ap (count_in t) is, one) in
    let first = first_at w vs i few at in
    sym (ap (λ n. cond (nat_lt n (length vs)) (Some n) None) first ∙ ap (λ b. cond b (Some i) None) (within_at w vs i at))

pub count_fits : (t : HashCounts) (vs : List Value) (k n : ℕ) → Counts t vs → length vs + 1 ≤ n → count_in t k + 1 ≤ n
count_fits t vs k n counts le = omega (arith, counts k, count_by-le-length (has_hash k) vs)

-- a value in the list has an index
position_before : (p : Value → Bool) (vs : List Value) → nat_lt (position_or_len p vs) (length vs) ≡ list_any p vs
position_before p [] = refl
position_before p (x ∷ vs) = elim (p x) as (λ b. nat_lt (cond (not b) (1 + position_or_len p vs) 0) (length (x ∷ vs)) ≡ (b || list_any p vs)) [
  | true ↦ grind (arith, nat_tests)
  | false ↦ grind (arith, nat_tests, position_before p vs)
]

some_where : (n : ℕ) (b : Bool) → is_some (cond b (Some n) None) ≡ b
some_where n true = refl
some_where n false = refl

pub is_some-position : (p : Value → Bool) (vs : List Value) → is_some (position p vs) ≡ list_any p vs
is_some-position p vs = some_where (position_or_len p vs) (nat_lt (position_or_len p vs) (length vs)) ∙ position_before p vs

-- a value that is not in the list has no index
no_some : (o : Option ℕ) → is_some o ≡ false → None ≡ o
no_some None none = refl
no_some (Some n) none = cc

pub no_position : (p : Value → Bool) (vs : List Value) → list_any p vs ≡ false → None ≡ position p vs
no_position p vs none = no_some (position p vs) (is_some-position p vs ∙ none)
