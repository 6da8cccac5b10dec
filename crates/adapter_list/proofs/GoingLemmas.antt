-- The adapters after one has lost a target, by its index.
use Rattle.std.proofs.Common.{◌≡◌, ◌<◌, ◌≤◌, ◌+◌, ℕ, zero, suc, Bool, true, false, cond, not, ◌&&◌, ◌||◌, nat_eq, List, [], ◌∷◌, ◌++◌, map, filter, length, set, get_or, slice_get, remove, drop, nat_lt, position, Option, Some, None, option_map, if◌then◌else◌, refl, sym, ap, subst, ◌∙◌, arith, eqb-true}
use Rattle.std.specs.List.{AllByRecursion, IsDistinct, fold, list_any, position_or_len}
use Rattle.std.proofs.lemmas.Bool.{false≢true, ltb-false}
use Rattle.std.proofs.lemmas.List.{append-nil, drop_all, length-map, take_all}
use Rattle.std.proofs.lemmas.List.Elements.{All-head, All-tail, recursion_from_All}
use Rattle.std.specs.Option.{IfSome}
use Rattle.std.proofs.lemmas.Option.{slice_get-map, slice_get_read}
use Rattle.std.proofs.lemmas.Map.Keys.{IsDistinct-head, IsDistinct-tail}
use Rattle.std.proofs.Math.Bool.{and-false}
use Rattle.mm_types.proofs.SameLemmas.{same_node-true}
use Rattle.mm_types.specs.Same.{same_node}
use Rattle.mm_types.specs.declared.numbers.AdapterNo.{AdapterNo}
use Rattle.mm_types.specs.declared.numbers.Node.{Node}
use Rattle.notice_chain.specs.View.{View, hear}
use Rattle.notice_chain.specs.Listed.{HasDistinctNumbers, HasDistinctTargets, Listed, has_no, has_target, is_at, is_target, same_no, targets_len, with_changed}
use Rattle.notice_chain.specs.Released.{adapter_after_loss, adapters_without_target, index_at, last_notice, removing_notice}
use Rattle.notice_chain.specs.declared.notice.Notice.{Notice}
use Rattle.notice_chain.specs.declared.target.Target.{Target}
use Rattle.adapter_list.specs.Attached.{IsSound, listed_adapters, listed_one}
use Rattle.adapter_list.specs.Targets.{IsOnce, entries, entries_in, has_number_at}
use Rattle.adapter_list.specs.declared.attached.Attached.{Attached}
use Rattle.adapter_list.specs.declared.target_lists.TargetLists.{TargetLists}
use Rattle.adapter_list.proofs.MoveLemmas.{entries-gone, entries-others, index-behind, index-here, index-other, none-later, only, at-number, position-entries, spot-at}
use Rattle.adapter_list.proofs.NumberLemmas.{distinct-filter, distinct-numbers}
use Rattle.adapter_list.proofs.PlaceLemmas.{flipped, no-some, number-absent, number-at, once-there, passes-at}

----------------------------------------------------------------- no such target

absent-from : (x : Node) (number : AdapterNo) (rs : List Listed) → ((k : ℕ) → has_number_at rs number k ≡ false) → is_target number x rs ≡ false
absent-from x number [] h = refl
absent-from x number (r ∷ rs) h = ap (λ b. (b && has_target x r) || is_target number x rs) (h 0) ∙ absent-from x number rs (λ k. h (suc k))

pub absent : (x : Node) (number : AdapterNo) (rs : List Listed) → None ≡ position (has_no number) rs → is_target number x rs ≡ false
absent x number rs h = absent-from x number rs (λ k. number-absent rs number k h)

pub not-there : (b : Bool) (i : ℕ) → None ≡ spot-at b i → b ≡ false
not-there true i h = absurd (no-some i h)
not-there false i h = refl

pub is-there : (b : Bool) (i j : ℕ) → Some j ≡ spot-at b i → (b ≡ true) × (j ≡ i)
is-there true i j h = (refl, cc)
is-there false i j h = absurd (no-some j (sym h))

pub adapters_without_target-none : (x : Node) (number : AdapterNo) (rs : List Listed) → is_target number x rs ≡ false → rs ≡ adapters_without_target (number, x) rs
adapters_without_target-none x number rs other = sym (ap (λ b. if b then with_changed number (adapter_after_loss x (last_notice (number, x) rs)) rs else rs) other)

pub adapters_without_target-one : (x : Node) (number : AdapterNo) (rs : List Listed) → is_target number x rs ≡ true → with_changed number (adapter_after_loss x (last_notice (number, x) rs)) rs ≡ adapters_without_target (number, x) rs
adapters_without_target-one x number rs same = sym (ap (λ b. if b then with_changed number (adapter_after_loss x (last_notice (number, x) rs)) rs else rs) same)

pub told-none : {T : Type 0} (ts : List T) (b : Bool) (t : T) → b ≡ false → ts ≡ ts ++ (if b then t ∷ [] else [])
told-none ts b t other = sym (append-nil ts) ∙ ap (λ c. ts ++ (if c then t ∷ [] else [])) (sym other)

pub told-one : {T : Type 0} (ts : List T) (b : Bool) (t : T) → b ≡ true → ts ++ t ∷ [] ≡ ts ++ (if b then t ∷ [] else [])
told-one ts b t same = ap (λ c. ts ++ (if c then t ∷ [] else [])) (sym same)

----------------------------------------------------------------- by index

pub changed-set : (number : AdapterNo) (f : Listed → Listed) (rs : List Listed) (i : ℕ) (q : Listed) → HasDistinctNumbers rs → slice_get rs i ≡ Some q → has_no number q ≡ true → with_changed number f rs ≡ set rs i (f q)
changed-set number f [] i q distinct at has = absurd (no-some q at)
changed-set number f (r ∷ rs) zero q distinct at has =
    let first : q ≡ r = cc in
    ap (λ b. if b then (f r ∷ rs) else r ∷ with_changed number f rs) (ap (has_no number) (sym first) ∙ has) ∙ ap (λ (p : Listed). f p ∷ rs) (sym first)
changed-set number f (r ∷ rs) (suc i) q distinct at has =
    let apart : same_no r.no q.no ≡ false = number-at (λ (p : Listed). p.no) (λ n. same_no r.no n ≡ false) rs i q (IsDistinct-head same_no r.no (map (λ p. p.no) rs) distinct) at in
    let other : has_no number r ≡ false = ap (λ k. nat_eq k r.no.0) (eqb-true number.0 q.no.0 has) ∙ flipped r.no q.no apart in
    ap (λ b. if b then (f r ∷ rs) else r ∷ with_changed number f rs) other ∙ ap (λ (xs : List Listed). r ∷ xs) (changed-set number f rs i q (IsDistinct-tail same_no r.no (map (λ p. p.no) rs) distinct) at has)

pub listed_adapters-put : {A : Type 0} (heard : A → View) (xs : List (Attached A)) (i : ℕ) (y : Attached A) → listed_adapters heard (set xs i y) ≡ set (listed_adapters heard xs) i (listed_one heard y)
listed_adapters-put heard [] i y = refl
listed_adapters-put heard (x ∷ xs) zero y = refl
listed_adapters-put heard (x ∷ xs) (suc i) y = ap (λ rs. listed_one heard x ∷ rs) (listed_adapters-put heard xs i y)

----------------------------------------------------------------- how many

no-target : (x : Node) (t : Target) (ts : List Target) → same_node t.node x ≡ true → AllByRecursion (λ y. same_node t.node y ≡ false) (map (λ q. q.node) ts) → list_any (is_at x) ts ≡ false
no-target x t [] same apart = refl
no-target x t (q ∷ ts) same apart =
    elim (same_node q.node x) as (λ b. same_node q.node x ≡ b → (b || list_any (is_at x) ts) ≡ false) [
      | true ↦ λ too. absurd (false≢true (sym apart.0 ∙ ap (same_node t.node) (same_node-true q.node x too) ∙ same))
      | false ↦ λ _. no-target x t ts same apart.1
    ] refl

none-fewer : (x : Node) (ts : List Target) → list_any (is_at x) ts ≡ false → length (filter (λ t. not (is_at x t)) ts) ≡ length ts
none-fewer x [] h = refl
none-fewer x (t ∷ ts) h =
    elim (is_at x t) as (λ b. (b || list_any (is_at x) ts) ≡ false → length (cond (not b) (t ∷ filter (λ q. not (is_at x q)) ts) (filter (λ q. not (is_at x q)) ts)) ≡ suc (length ts)) [
      | true ↦ λ k. absurd (false≢true (sym k))
      | false ↦ λ k. ap suc (none-fewer x ts k)
    ] h

pub one-fewer : (x : Node) (ts : List Target) → IsDistinct same_node (map (λ t. t.node) ts) → list_any (is_at x) ts ≡ true → suc (length (filter (λ t. not (is_at x t)) ts)) ≡ length ts
one-fewer x [] once h = absurd (false≢true h)
one-fewer x (t ∷ ts) once h =
    elim (is_at x t) as (λ b. is_at x t ≡ b → (b || list_any (is_at x) ts) ≡ true → suc (length (cond (not b) (t ∷ filter (λ q. not (is_at x q)) ts) (filter (λ q. not (is_at x q)) ts))) ≡ suc (length ts)) [
      | true ↦ λ same _. ap suc (none-fewer x ts (no-target x t ts same (IsDistinct-head same_node t.node (map (λ q. q.node) ts) once)))
      | false ↦ λ _ k. ap suc (one-fewer x ts (IsDistinct-tail same_node t.node (map (λ q. q.node) ts) once) k)
    ] refl h

pub total-from : (m k : ℕ) (rs : List Listed) → fold (λ a (r : Listed). a + length r.targets) (m + k) rs ≡ fold (λ a (r : Listed). a + length r.targets) m rs + k
total-from m k [] = refl
total-from m k (r ∷ rs) =
    let moved : m + k + length r.targets ≡ m + length r.targets + k = omega arith in
    ap (λ (a : ℕ). fold (λ b (q : Listed). b + length q.targets) a rs) moved ∙ total-from (m + length r.targets) k rs

total-set : (m : ℕ) (rs : List Listed) (i : ℕ) (q p : Listed) → slice_get rs i ≡ Some q → suc (length p.targets) ≡ length q.targets → fold (λ a (r : Listed). a + length r.targets) m (set rs i p) + 1 ≡ fold (λ a (r : Listed). a + length r.targets) m rs
total-set m [] i q p at fewer = absurd (no-some q at)
total-set m (r ∷ rs) zero q p at fewer =
    let first : q ≡ r = cc in
    let many : m + length p.targets + 1 ≡ m + length r.targets = omega (arith, fewer, ap (λ (s : Listed). length s.targets) first) in
    sym (total-from (m + length p.targets) 1 rs) ∙ ap (λ (a : ℕ). fold (λ b (s : Listed). b + length s.targets) a rs) many
total-set m (r ∷ rs) (suc i) q p at fewer = total-set (m + length r.targets) rs i q p at fewer

pub targets_len-set : (rs : List Listed) (i : ℕ) (q p : Listed) → slice_get rs i ≡ Some q → suc (length p.targets) ≡ length q.targets → targets_len (set rs i p) + 1 ≡ targets_len rs
targets_len-set rs i q p at fewer = total-set 0 rs i q p at fewer

pub once-filter : (x : Node) (ts : List Target) → IsDistinct same_node (map (λ t. t.node) ts) → IsDistinct same_node (map (λ t. t.node) (filter (λ t. not (is_at x t)) ts))
once-filter x ts once = distinct-filter same_node (λ t. t.node) (λ t. not (is_at x t)) ts once

-- the adapter at the index has the target, if the adapter with its number has it
pub target-at : (x : Node) (number : AdapterNo) (rs : List Listed) (i : ℕ) (q : Listed) → HasDistinctNumbers rs → slice_get rs i ≡ Some q → has_no number q ≡ true → is_target number x rs ≡ true → has_target x q ≡ true
target-at x number [] i q distinct at has there = absurd (no-some q at)
target-at x number (r ∷ rs) zero q distinct at has there =
    let first : q ≡ r = cc in
    let mine : has_no number r ≡ true = ap (has_no number) (sym first) ∙ has in
    ap (has_target x) first ∙ only (has_target x r) (is_target number x rs) (none-later number x r rs mine (IsDistinct-head same_no r.no (map (λ p. p.no) rs) distinct)) (sym (ap (λ b. (b && has_target x r) || is_target number x rs) mine) ∙ there)
target-at x number (r ∷ rs) (suc i) q distinct at has there =
    let apart : same_no r.no q.no ≡ false = number-at (λ (p : Listed). p.no) (λ n. same_no r.no n ≡ false) rs i q (IsDistinct-head same_no r.no (map (λ p. p.no) rs) distinct) at in
    let other : has_no number r ≡ false = ap (λ k. nat_eq k r.no.0) (eqb-true number.0 q.no.0 has) ∙ flipped r.no q.no apart in
    target-at x number rs i q (IsDistinct-tail same_no r.no (map (λ p. p.no) rs) distinct) at has (sym (ap (λ b. (b && has_target x r) || is_target number x rs) other) ∙ there)

----------------------------------------------------------------- where it stood

none-filtered : (x : Node) (ts : List Target) → list_any (is_at x) ts ≡ false → filter (λ t. not (is_at x t)) ts ≡ ts
none-filtered x [] h = refl
none-filtered x (t ∷ ts) h =
    elim (is_at x t) as (λ b. (b || list_any (is_at x) ts) ≡ false → cond (not b) (t ∷ filter (λ q. not (is_at x q)) ts) (filter (λ q. not (is_at x q)) ts) ≡ t ∷ ts) [
      | true ↦ λ k. absurd (false≢true (sym k))
      | false ↦ λ k. ap (λ (us : List Target). t ∷ us) (none-filtered x ts k)
    ] h

first-gone : (x : Node) (ts : List Target) → IsDistinct same_node (map (λ t. t.node) ts) → remove ts (position_or_len (is_at x) ts) ≡ filter (λ t. not (is_at x t)) ts
first-gone x [] once = refl
first-gone x (t ∷ ts) once =
    elim (is_at x t) as (λ b. is_at x t ≡ b → remove (t ∷ ts) (if not b then 1 + position_or_len (is_at x) ts else 0) ≡ cond (not b) (t ∷ filter (λ q. not (is_at x q)) ts) (filter (λ q. not (is_at x q)) ts)) [
      | true ↦ λ same. sym (none-filtered x ts (no-target x t ts same (IsDistinct-head same_node t.node (map (λ q. q.node) ts) once)))
      | false ↦ λ _. ap (remove (t ∷ ts)) (let e : 1 + position_or_len (is_at x) ts ≡ suc (position_or_len (is_at x) ts) = omega arith in e) ∙ ap (λ (us : List Target). t ∷ us) (first-gone x ts (IsDistinct-tail same_node t.node (map (λ q. q.node) ts) once))
    ] refl

some-position : (k n i : ℕ) → Some i ≡ cond (nat_lt k n) (Some k) None → i ≡ k
some-position k n i h = elim (nat_lt k n) as (λ b. Some i ≡ cond b (Some k) None → i ≡ k) [ true ↦ λ e. cc | false ↦ λ e. absurd (no-some i (sym e)) ] h

none-position : (k n : ℕ) → None ≡ cond (nat_lt k n) (Some k) None → n ≤ k
none-position k n h = elim (nat_lt k n) as (λ b. nat_lt k n ≡ b → None ≡ cond b (Some k) None → n ≤ k) [ true ↦ λ _ e. absurd (no-some k e) | false ↦ λ low _. ltb-false k n low ] refl h

-- the target that is found first is the one that is removed
pub gone-at : (x : Node) (ts : List Target) (i : ℕ) → IsDistinct same_node (map (λ t. t.node) ts) → Some i ≡ position (is_at x) ts → remove ts i ≡ filter (λ t. not (is_at x t)) ts
gone-at x ts i once found = ap (remove ts) (some-position (position_or_len (is_at x) ts) (length ts) i found) ∙ first-gone x ts once

-- if no target is found, none is removed
pub none-gone : (x : Node) (ts : List Target) → IsDistinct same_node (map (λ t. t.node) ts) → None ≡ position (is_at x) ts → ts ≡ filter (λ t. not (is_at x t)) ts
none-gone x ts once found =
    let k = position_or_len (is_at x) ts in
    let past : length ts ≤ k = none-position k (length ts) found in
    sym (ap (λ (us : List Target). us ++ drop (suc k) ts) (take_all k ts past) ∙ ap (λ (us : List Target). ts ++ us) (drop_all (suc k) ts (omega (arith, past))) ∙ append-nil ts) ∙ first-gone x ts once

-- the adapter at an index has no target twice
pub once-of : {A : Type 0} (heard : A → View) (xs : List (Attached A)) (i : ℕ) (one : Attached A) → HasDistinctTargets (listed_adapters heard xs) → i < length xs → one ≡ get_or xs i one → IsDistinct same_node (map (λ t. t.node) one.targets.items)
once-of heard [] i one all low is = absurd (omega (arith, low))
once-of heard (x ∷ xs) zero one all low is = subst (λ (a : Attached _). IsDistinct same_node (map (λ t. t.node) a.targets.items)) (sym is) (All-head IsOnce (listed_one heard x) (listed_adapters heard xs) all)
once-of heard (x ∷ xs) (suc i) one all low is = once-of heard xs i one (All-tail IsOnce (listed_one heard x) (listed_adapters heard xs) all) (omega (arith, low)) is

-- facts about a target that is removed: the index of its adapter, its index among the adapters that have the target, and the adapters
-- afterwards
pub record Goes {A : Type 0} (heard : A → View) (xs : List (Attached A)) (x : Node) (number : AdapterNo) (ordinal index : ℕ) (one after : Attached A) : Type 0 where
  pub there : is_target number x (listed_adapters heard xs) ≡ true
  pub index_is : index ≡ index_at (number, x) (listed_adapters heard xs)
  pub fewer : suc (length after.targets.items) ≡ length one.targets.items
  pub once : IsDistinct same_node (map (λ t. t.node) after.targets.items)
  pub others : listed_adapters heard (set xs ordinal after) ≡ adapters_without_target (number, x) (listed_adapters heard xs)
  pub tied : (y : Node) → (if same_node x y then remove (entries y (listed_adapters heard xs)) index else entries y (listed_adapters heard xs)) ≡ entries y (listed_adapters heard (set xs ordinal after))
  pub counted : targets_len (listed_adapters heard (set xs ordinal after)) + 1 ≡ targets_len (listed_adapters heard xs)

module _ {A : Type 0} (heard : A → View) (xs : List (Attached A)) (x : Node) (number : AdapterNo) (ordinal index : ℕ) (one after : Attached A) where
  goes : HasDistinctNumbers (listed_adapters heard xs) → AllByRecursion IsOnce (listed_adapters heard xs) → Some ordinal ≡ position (has_no number) (listed_adapters heard xs) → ordinal < length xs → one ≡ get_or xs ordinal one
      → Some index ≡ spot-at (is_target number x (listed_adapters heard xs)) (index_at (number, x) (listed_adapters heard xs))
      → after.no ≡ one.no → after.targets.items ≡ filter (λ t. not (is_at x t)) one.targets.items → heard after.adapter ≡ hear (heard one.adapter) (removing_notice number x index)
      → Goes heard xs x number ordinal index one after
  goes distinct all at within is found same_number targets view =
      let rs = listed_adapters heard xs in
      let q = listed_one heard one in
      let stands : slice_get rs ordinal ≡ Some q = slice_get-map (listed_one heard) xs ordinal ∙ ap (option_map (listed_one heard)) (slice_get_read xs (length xs) ordinal one refl within is) in
      let has : has_no number q ≡ true = passes-at (has_no number) rs ordinal q at stands in
      let spot = is-there (is_target number x rs) (index_at (number, x) rs) index found in
      let target : has_target x q ≡ true = target-at x number rs ordinal q distinct stands has spot.0 in
      let mine : IsOnce q = subst (λ (o : Option Listed). IfSome o IsOnce) stands (once-there rs ordinal all) in
      let n : Notice = last_notice (number, x) rs in
      let heard_it : heard after.adapter ≡ hear q.view n = view ∙ ap (λ (i : ℕ). hear q.view (removing_notice number x i)) spot.1 in
      let now : listed_one heard after ≡ adapter_after_loss x n q = λ i. record { no = same_number i; targets = targets i; view = heard_it i } in
      let fewer : suc (length after.targets.items) ≡ length one.targets.items = ap (λ (ts : List Target). suc (length ts)) targets ∙ one-fewer x one.targets.items mine target in
      let put : listed_adapters heard (set xs ordinal after) ≡ set rs ordinal (adapter_after_loss x n q) = listed_adapters-put heard xs ordinal after ∙ ap (set rs ordinal) now in
      let changed : listed_adapters heard (set xs ordinal after) ≡ with_changed number (adapter_after_loss x n) rs = put ∙ sym (changed-set number (adapter_after_loss x n) rs ordinal q distinct stands has) in
      record {
        there = spot.0;
        index_is = spot.1;
        fewer = fewer;
        once = subst (λ (ts : List Target). IsDistinct same_node (map (λ t. t.node) ts)) (sym targets) (once-filter x one.targets.items mine);
        others = changed ∙ adapters_without_target-one x number rs spot.0;
        tied = λ y. elim (same_node x y) as (λ b. same_node x y ≡ b → (if b then remove (entries y rs) index else entries y rs) ≡ entries y (listed_adapters heard (set xs ordinal after))) [
          | true ↦ λ same. subst (λ (z : Node). remove (entries z rs) index ≡ entries z (listed_adapters heard (set xs ordinal after))) (same_node-true x y same) (ap (remove (entries x rs)) spot.1 ∙ sym (entries-gone x number n rs spot.0 distinct) ∙ ap (entries x) (sym changed))
          | false ↦ λ other. sym (ap (entries y) changed ∙ entries-others x y number n rs other)
        ] refl;
        counted = ap (λ (ss : List Listed). targets_len ss + 1) put ∙ targets_len-set rs ordinal q (adapter_after_loss x n q) stands (ap (λ (ts : List Target). suc (length ts)) (sym targets) ∙ fewer);
      }

  -- the adapter has some target
  some-by : HasDistinctNumbers (listed_adapters heard xs) → Some ordinal ≡ position (has_no number) (listed_adapters heard xs) → ordinal < length xs → one ≡ get_or xs ordinal one → Some index ≡ spot-at (is_target number x (listed_adapters heard xs)) (index_at (number, x) (listed_adapters heard xs)) → 0 < length one.targets.items
  some-by distinct at within is found =
      let rs = listed_adapters heard xs in
      let q = listed_one heard one in
      let stands : slice_get rs ordinal ≡ Some q = slice_get-map (listed_one heard) xs ordinal ∙ ap (option_map (listed_one heard)) (slice_get_read xs (length xs) ordinal one refl within is) in
      let has : has_no number q ≡ true = passes-at (has_no number) rs ordinal q at stands in
      let spot = is-there (is_target number x rs) (index_at (number, x) rs) index found in
      any-some one.targets.items (target-at x number rs ordinal q distinct stands has spot.0)
    where
      any-some : (ts : List Target) → list_any (is_at x) ts ≡ true → 0 < length ts
      any-some [] h = absurd (false≢true h)
      any-some (t ∷ ts) h = omega arith

-- the index of an adapter that has a target is below the number of all targets
total-more : (m : ℕ) (rs : List Listed) → m ≤ fold (λ a (r : Listed). a + length r.targets) m rs
total-more m [] = omega arith
total-more m (r ∷ rs) = omega (arith, total-more (m + length r.targets) rs)

target-some : (x : Node) (ts : List Target) → list_any (is_at x) ts ≡ true → 0 < length ts
target-some x [] h = absurd (false≢true h)
target-some x (t ∷ ts) h = omega arith

low-by : (x : Node) (number : AdapterNo) (m : ℕ) (r : Listed) (rs : List Listed) → is_target number x (r ∷ rs) ≡ true → (is_target number x rs ≡ true → m + length r.targets + index_at (number, x) rs < fold (λ a (q : Listed). a + length q.targets) (m + length r.targets) rs)
    → (b : Bool) → has_target x r ≡ b → (d : Bool) → has_no number r ≡ d → m + index_at (number, x) (r ∷ rs) < fold (λ a (q : Listed). a + length q.targets) (m + length r.targets) rs
low-by x number m r rs there later true target true same = let here = index-here x number r rs same target in let some = target-some x r.targets target in let more = total-more (m + length r.targets) rs in omega (arith, here, some, more)
low-by x number m r rs there later true target false apart = let behind = index-behind x number r rs apart target in let some = target-some x r.targets target in let low = later (sym (ap (λ b. (b && has_target x r) || is_target number x rs) apart) ∙ there) in omega (arith, behind, some, low)
low-by x number m r rs there later false target d is = let other = index-other x number r rs target in let low = later (sym (ap (λ b. (has_no number r && b) || is_target number x rs) target ∙ ap (λ b. b || is_target number x rs) (and-false (has_no number r))) ∙ there) in omega (arith, other, low)

low-from : (x : Node) (number : AdapterNo) (m : ℕ) (rs : List Listed) → is_target number x rs ≡ true → m + index_at (number, x) rs < fold (λ a (r : Listed). a + length r.targets) m rs
low-from x number m [] there = absurd (false≢true there)
low-from x number m (r ∷ rs) there = low-by x number m r rs there (low-from x number (m + length r.targets) rs) (has_target x r) refl (has_no number r) refl

pub index-low : (x : Node) (number : AdapterNo) (rs : List Listed) → is_target number x rs ≡ true → index_at (number, x) rs < targets_len rs
index-low x number rs there = let low = low-from x number 0 rs there in omega (arith, low)

----------------------------------------------------------------- by the words of the list

-- facts about a target: the index of its adapter, and its index among the adapters that have the target
pub record IsTargetAt {A : Type 0} (heard : A → View) (xs : List (Attached A)) (x : Node) (number : AdapterNo) (ordinal index : ℕ) : Type 0 where
  pub within : ordinal < length xs
  pub at : Some ordinal ≡ position (has_no number) (listed_adapters heard xs)
  pub found : Some index ≡ spot-at (is_target number x (listed_adapters heard xs)) (index_at (number, x) (listed_adapters heard xs))
  pub there : is_target number x (listed_adapters heard xs) ≡ true
  pub index_is : index ≡ index_at (number, x) (listed_adapters heard xs)
  pub low : index < targets_len (listed_adapters heard xs)

module _ {A : Type 0} {heard : A → View} {places : A → ℕ} {xs : List (Attached A)} {keys : List AdapterNo} {t : TargetLists} {bs : List Bool} {count used room : ℕ} (sound : IsSound heard places xs keys t bs count used room) (now : List Listed) (seen : listed_adapters heard xs ≡ now) (x : Node) (number : AdapterNo) where
  pub position-found : position (at-number number) (entries_in t x) ≡ spot-at (is_target number x now) (index_at (number, x) now)
  position-found = ap (position (at-number number)) (sound.tied x) ∙ position-entries x number (listed_adapters heard xs) ∙ ap (λ (rs : List Listed). spot-at (is_target number x rs) (index_at (number, x) rs)) seen

  -- a number without an entry has no such target
  pub no-spot : None ≡ position (at-number number) (entries_in t x) → is_target number x now ≡ false
  no-spot none = not-there (is_target number x now) (index_at (number, x) now) (none ∙ position-found)

  module _ (ordinal index : ℕ) where
    pub standing : Some ordinal ≡ position (has_no number) now → ordinal < length now → Some index ≡ position (at-number number) (entries_in t x) → IsTargetAt heard xs x number ordinal index
    standing at low found =
        let rs = listed_adapters heard xs in
        let many : length xs ≡ length now = sym (length-map xs (listed_one heard)) ∙ ap (λ (ys : List Listed). length ys) seen in
        let spotted : Some index ≡ spot-at (is_target number x rs) (index_at (number, x) rs) = found ∙ position-found ∙ ap (λ (qs : List Listed). spot-at (is_target number x qs) (index_at (number, x) qs)) (sym seen) in
        let spot = is-there (is_target number x rs) (index_at (number, x) rs) index spotted in
        let less = index-low x number rs spot.0 in
        record {
          within = omega (arith, low, many);
          at = at ∙ ap (position (has_no number)) (sym seen);
          found = spotted;
          there = spot.0;
          index_is = spot.1;
          low = omega (arith, spot.1, less);
        }

    module _ (stands : IsTargetAt heard xs x number ordinal index) (one : Attached A) (is : one ≡ get_or xs ordinal one) where
      -- the adapter has some target
      pub some-target : 0 < length one.targets.items
      some-target = some-by heard xs x number ordinal index one one (distinct-numbers heard xs keys sound.numbered sound.distinct) stands.at stands.within is stands.found

      -- facts after the target is removed
      pub going : (after : Attached A) → after.no ≡ one.no → after.targets.items ≡ filter (λ q. not (is_at x q)) one.targets.items → heard after.adapter ≡ hear (heard one.adapter) (removing_notice number x index) → Goes heard xs x number ordinal index one after
      going after same_number targets view =
          goes heard xs x number ordinal index one after (distinct-numbers heard xs keys sound.numbered sound.distinct) (recursion_from_All IsOnce (listed_adapters heard xs) sound.once) stands.at stands.within is stands.found same_number targets view
