-- The indexes of adapters that are found through the nodes to which they are attached: of the adapters that get the notifications of a
-- node, and of those that have objects as targets.
use Rattle.std.proofs.Common.{◌≡◌, ℕ, ◌+◌, ◌≤◌, ◌<◌, zero, suc, Bool, true, false, not, cond, ◌&&◌, ◌||◌, nat_eq, List, [], ◌∷◌, map, length, drop, get_or, slice_get, Option, Some, None, Result, Ok, Err, option_map, option_and_then, position, refl, sym, ap, subst, ◌∙◌, arith, eqb-true, eq-eqb}
use Rattle.std.specs.BTreeSet as tree
use Rattle.std.specs.BTreeSet.{BTreeSet}
use Rattle.std.specs.List.{AllByRecursion, IsDistinct, cons_option, find, list_any}
use Rattle.std.specs.List.Sorted.{IsStrictlySortedBy}
use Rattle.std.specs.Option.{IfSome, option_map_or}
use Rattle.std.specs.Result.{OnOk}
use Rattle.std.specs.Ordering.{is_eq, nat_cmp}
use Rattle.std.specs.declared.cmp.Ordering.TheVariants.{Less}
use Rattle.std.proofs.lemmas.Bool.{eqb-false, false≢true, ne_eqb}
use Rattle.std.proofs.lemmas.Bool.Decides.{nat_tests}
use Rattle.std.proofs.lemmas.Cmp.{nat_cmp_total}
use Rattle.std.proofs.lemmas.List.{drop_all, drop_more}
use Rattle.std.proofs.lemmas.Map.Keys.{IsDistinct-head, IsDistinct-tail}
use Rattle.std.proofs.lemmas.Map.Lookups.{btree_set_from_contains, exact_unsigned}
use Rattle.std.proofs.lemmas.Option.{same_Some}
use Rattle.std.proofs.Math.Bool.{or_assoc}
use Rattle.mm_types.proofs.SameLemmas.{same_node-true}
use Rattle.mm_types.specs.Same.{same_node}
use Rattle.mm_types.specs.declared.numbers.AdapterNo.{AdapterNo}
use Rattle.mm_types.specs.declared.numbers.Node.{Node}
use Rattle.mm_types.specs.declared.numbers.Node.TheVariants as node
use Rattle.mm_types.specs.declared.numbers.ObjectNo.{ObjectNo}
use Rattle.notice_chain.specs.Listed.{Above, HasDistinctNumbers, Listed, brings_in, has_no, has_target, is_at, same_no}
use Rattle.adapter_list.specs.Hearing.{hearers, hears_node, is_touched, ordinals_from, touched_indexes}
use Rattle.adapter_list.specs.Targets.{IsOnce, entries, finds, has_number_at, is_attached, is_attached_at}
use Rattle.adapter_list.specs.declared.target_lists.Entry.{Entry}
use Rattle.notice_chain.specs.declared.target.Target.{Target}
use Rattle.adapter_list.proofs.NumberLemmas.{find-position}
use Rattle.links.proofs.RankLemmas.{is_eq-nat_cmp}

pub flipped : (j k : AdapterNo) → same_no j k ≡ false → same_no k j ≡ false
flipped j k other = ne_eqb k.0 j.0 (λ (e : k.0 ≡ j.0). eqb-false j.0 k.0 other (sym e))

----------------------------------------------------------------- the index of a number

pub no-some : {X : Type 0} (x : X) → None ≡ Some x → ⊥
no-some x e = cc

none-behind : (p : Listed → Bool) (r : Listed) (rs : List Listed) (k : ℕ) → p r ≡ false → ((j : ℕ) → option_map_or p (slice_get rs j) false ≡ false) → option_map_or p (slice_get (r ∷ rs) k) false ≡ false
none-behind p r rs zero other h = other
none-behind p r rs (suc k) other h = h k

find-none : (p : Listed → Bool) (rs : List Listed) (k : ℕ) → find p rs ≡ None → option_map_or p (slice_get rs k) false ≡ false
find-none p [] k h = refl
find-none p (r ∷ rs) k h =
    elim (p r) as (λ b. p r ≡ b → cond b (Some r) (find p rs) ≡ None → option_map_or p (slice_get (r ∷ rs) k) false ≡ false) [
      | true ↦ λ _ e. absurd (no-some r (sym e))
      | false ↦ λ other e. none-behind p r rs k other (λ j. find-none p rs j e)
    ] refl h

find-passes : (p : Listed → Bool) (rs : List Listed) (q : Listed) → find p rs ≡ Some q → p q ≡ true
find-passes p [] q h = absurd (no-some q h)
find-passes p (r ∷ rs) q h =
    elim (p r) as (λ b. p r ≡ b → cond b (Some r) (find p rs) ≡ Some q → p q ≡ true) [
      | true ↦ λ yes e. let first : r ≡ q = cc in sym (ap p first) ∙ yes
      | false ↦ λ _ e. find-passes p rs q e
    ] refl h

-- the adapter at the position that a test finds passes the test
pub passes-at : (p : Listed → Bool) (rs : List Listed) (i : ℕ) (q : Listed) → Some i ≡ position p rs → slice_get rs i ≡ Some q → p q ≡ true
passes-at p rs i q at there = find-passes p rs q (find-position p rs ∙ ap (option_and_then (slice_get rs)) (sym at) ∙ there)

-- a number that no adapter has is at no index
pub number-absent : (rs : List Listed) (number : AdapterNo) (k : ℕ) → None ≡ position (has_no number) rs → has_number_at rs number k ≡ false
number-absent rs number k absent = find-none (has_no number) rs k (find-position (has_no number) rs ∙ ap (option_and_then (slice_get rs)) (sym absent))

module _ {X : Type 0} (f : X → AdapterNo) where
  pub number-at : (P : AdapterNo → Type 0) (xs : List X) (k : ℕ) (r : X) → AllByRecursion P (map f xs) → slice_get xs k ≡ Some r → P (f r)
  number-at P [] k r h e = absurd (no-some r e)
  number-at P (q ∷ xs) zero r h e = let first : q ≡ r = cc in subst (λ (x : X). P (f x)) first h.0
  number-at P (q ∷ xs) (suc k) r h e = number-at P xs k r h.1 e

  -- if numbers are distinct, each is at one index
  pub one-ordinal : (xs : List X) (i k : ℕ) (q r : X) → IsDistinct same_no (map f xs) → slice_get xs i ≡ Some q → slice_get xs k ≡ Some r → same_no (f q) (f r) ≡ true → k ≡ i
  one-ordinal [] i k q r distinct at there same = absurd (no-some q at)
  one-ordinal (x ∷ xs) zero zero q r distinct at there same = refl
  one-ordinal (x ∷ xs) zero (suc k) q r distinct at there same =
      let first : x ≡ q = cc in
      let apart : same_no (f x) (f r) ≡ false = number-at (λ n. same_no (f x) n ≡ false) xs k r (IsDistinct-head same_no (f x) (map f xs) distinct) there in
      absurd (false≢true (sym apart ∙ ap (λ (y : X). same_no (f y) (f r)) first ∙ same))
  one-ordinal (x ∷ xs) (suc i) zero q r distinct at there same =
      let first : x ≡ r = cc in
      let apart : same_no (f x) (f q) ≡ false = number-at (λ n. same_no (f x) n ≡ false) xs i q (IsDistinct-head same_no (f x) (map f xs) distinct) at in
      absurd (false≢true (sym (flipped (f x) (f q) apart) ∙ ap (λ (y : X). same_no (f q) (f y)) first ∙ same))
  one-ordinal (x ∷ xs) (suc i) (suc k) q r distinct at there same = ap suc (one-ordinal xs i k q r (IsDistinct-tail same_no (f x) (map f xs) distinct) at there same)

-- the adapter of a number is at one index
number-here : (rs : List Listed) (number : AdapterNo) (i : ℕ) (q : Listed) → HasDistinctNumbers rs → slice_get rs i ≡ Some q → has_no number q ≡ true → (k : ℕ) → has_number_at rs number k ≡ nat_eq k i
number-here rs number i q distinct at has k = by (slice_get rs k) refl
  where
    at_i : k ≡ i → slice_get rs k ≡ Some q
    at_i e = ap (slice_get rs) e ∙ at

    by : (o : Option Listed) → slice_get rs k ≡ o → option_map_or (has_no number) o false ≡ nat_eq k i
    by None e = sym (ne_eqb k i (λ (h : k ≡ i). no-some q (sym e ∙ at_i h)))
    by (Some r) e =
        elim (has_no number r) as (λ b. has_no number r ≡ b → b ≡ nat_eq k i) [
          | true ↦ λ yes. sym (eq-eqb k i (one-ordinal (λ (y : Listed). y.no) rs i k q r distinct at e (let same : q.no.0 ≡ r.no.0 = sym (eqb-true number.0 q.no.0 has) ∙ eqb-true number.0 r.no.0 yes in eq-eqb q.no.0 r.no.0 same)))
          | false ↦ λ other. sym (ne_eqb k i (λ (h : k ≡ i). let same : q ≡ r = same_Some q r (sym (at_i h) ∙ e) in false≢true (sym other ∙ ap (has_no number) (sym same) ∙ has)))
        ] refl

or-false : (b : Bool) → b ≡ (b || false)
or-false true = refl
or-false false = refl

or-true : (b : Bool) → true ≡ (b || true)
or-true true = refl
or-true false = refl

-- a number that no adapter has adds no index
pub none-added : (b h : Bool) → h ≡ false → b ≡ (b || h)
none-added b h none = or-false b ∙ ap (λ c. b || c) (sym none)

-- the index of the adapter of a number is added
pub is-added : (rs : List Listed) (number : AdapterNo) (i : ℕ) (q : Listed) → HasDistinctNumbers rs → slice_get rs i ≡ Some q → has_no number q ≡ true → (b new : Bool) (k : ℕ) → new ≡ cond (is_eq (nat_cmp i k)) true b → new ≡ (b || has_number_at rs number k)
is-added rs number i q distinct at has b new k now =
    now ∙ ap (λ c. cond c true b) (is_eq-nat_cmp i k ∙ turned)
    ∙ elim (nat_eq k i) as (λ c. cond c true b ≡ (b || c)) [ true ↦ or-true b | false ↦ or-false b ]
    ∙ ap (λ c. b || c) (sym (number-here rs number i q distinct at has k))
  where
    turned : nat_eq i k ≡ nat_eq k i
    turned = grind (arith, nat_tests)

----------------------------------------------------------------- all of one node

module _ (number : AdapterNo) (only_deep : Bool) where
  abbrev named : Entry → Bool
  named e = (not only_deep || e.deep) && same_no e.no number

  no-name : (b c : Bool) → c ≡ false → (b && c) ≡ false
  no-name false c h = refl
  no-name true c h = h

  apart-by : (k : AdapterNo) (es : List Entry) (o : Option Target) → same_no k number ≡ false → list_any named es ≡ false → list_any named (cons_option (option_map (λ t. let e : Entry = record { no = k; deep = t.deep } in e) o) es) ≡ false
  apart-by k es None apart later = later
  apart-by k es (Some t) apart later = ap (λ b. b || list_any named es) (no-name (not only_deep || t.deep) (same_no k number) apart) ∙ later

  none-apart : (x : Node) (rs : List Listed) → AllByRecursion (λ n. same_no number n ≡ false) (map (λ r. r.no) rs) → list_any named (entries x rs) ≡ false
  none-apart x [] h = refl
  none-apart x (r ∷ rs) h = apart-by r.no (entries x rs) (find (is_at x) r.targets) (flipped number r.no h.0) (none-apart x rs h.1)

  yes-name : (b c : Bool) → c ≡ false → ((b && same_no number number) || c) ≡ b
  yes-name b c none = ap (λ d. (b && d) || c) (eq-eqb number.0 number.0 refl) ∙ ap (λ d. (b && true) || d) none ∙ both b
    where
      both : (d : Bool) → ((d && true) || false) ≡ d
      both true = refl
      both false = refl

  named-by : (es : List Entry) (o : Option Target) → list_any named es ≡ false → list_any named (cons_option (option_map (λ t. let e : Entry = record { no = number; deep = t.deep } in e) o) es) ≡ option_map_or (λ t. not only_deep || t.deep) o false
  named-by es None later = later
  named-by es (Some t) later = yes-name (not only_deep || t.deep) (list_any named es) later

  other-by : (k : AdapterNo) (es : List Entry) (b : Bool) (o : Option Target) → same_no k number ≡ false → list_any named es ≡ b → list_any named (cons_option (option_map (λ t. let e : Entry = record { no = k; deep = t.deep } in e) o) es) ≡ b
  other-by k es b None apart later = later
  other-by k es b (Some t) apart later = ap (λ c. c || list_any named es) (no-name (not only_deep || t.deep) (same_no k number) apart) ∙ later

-- the entries of a node find the adapter at index k if it has the node as a target
entries-name : (x : Node) (only_deep : Bool) (rs : List Listed) (k : ℕ) (r : Listed) → HasDistinctNumbers rs → slice_get rs k ≡ Some r → list_any (named r.no only_deep) (entries x rs) ≡ is_attached x only_deep r
entries-name x only_deep [] k r distinct at = absurd (no-some r at)
entries-name x only_deep (q ∷ rs) zero r distinct at =
    let first : q ≡ r = cc in
    subst (λ (p : Listed). list_any (named p.no only_deep) (entries x (q ∷ rs)) ≡ is_attached x only_deep p) first
    (named-by q.no only_deep (entries x rs) (find (is_at x) q.targets) (none-apart q.no only_deep x rs (IsDistinct-head same_no q.no (map (λ p. p.no) rs) distinct)))
entries-name x only_deep (q ∷ rs) (suc k) r distinct at =
    let apart : same_no q.no r.no ≡ false = number-at (λ (p : Listed). p.no) (λ n. same_no q.no n ≡ false) rs k r (IsDistinct-head same_no q.no (map (λ p. p.no) rs) distinct) at in
    other-by r.no only_deep q.no (entries x rs) (is_attached x only_deep r) (find (is_at x) q.targets) apart (entries-name x only_deep rs k r (IsDistinct-tail same_no q.no (map (λ p. p.no) rs) distinct) at)

list_any-none : (es : List Entry) (p : Entry → Bool) → ((e : Entry) → p e ≡ false) → list_any p es ≡ false
list_any-none [] p h = refl
list_any-none (e ∷ es) p h = ap (λ b. b || list_any p es) (h e) ∙ list_any-none es p h

pub entries-find : (x : Node) (only_deep : Bool) (rs : List Listed) (k : ℕ) → HasDistinctNumbers rs → list_any (finds rs only_deep k) (entries x rs) ≡ is_attached_at rs x only_deep k
entries-find x only_deep rs k distinct = by (slice_get rs k) refl
  where
    none : (b : Bool) → (b && false) ≡ false
    none true = refl
    none false = refl

    by : (o : Option Listed) → slice_get rs k ≡ o → list_any (λ e. (not only_deep || e.deep) && option_map_or (has_no e.no) o false) (entries x rs) ≡ option_map_or (is_attached x only_deep) o false
    by None e = list_any-none (entries x rs) (λ e. (not only_deep || e.deep) && false) (λ e. none (not only_deep || e.deep))
    by (Some r) e = entries-name x only_deep rs k r distinct e

-- if a node has no adapters, no adapter is found
pub none-found : (x : Node) (only_deep : Bool) (rs : List Listed) (k : ℕ) → HasDistinctNumbers rs → entries x rs ≡ [] → (b : Bool) → b ≡ (b || is_attached_at rs x only_deep k)
none-found x only_deep rs k distinct none b = none-added b (is_attached_at rs x only_deep k) (sym (entries-find x only_deep rs k distinct) ∙ ap (list_any (finds rs only_deep k)) none)

-- one entry more
pub added-more : (p : Entry → Bool) (b new all : Bool) (es : List Entry) (i : ℕ) (d : Entry) → i < length es → new ≡ (b || p (get_or es i d)) → (b || list_any p (drop i es)) ≡ all → (new || list_any p (drop (i + 1) es)) ≡ all
added-more p b new all es i d low made whole =
    ap (λ c. c || list_any p (drop (i + 1) es)) made
    ∙ or_assoc b (p (get_or es i d)) (list_any p (drop (i + 1) es))
    ∙ ap (λ (ds : List Entry). b || list_any p ds) (sym (drop_more es i d low))
    ∙ whole

-- all entries
pub added-all : (p : Entry → Bool) (b all : Bool) (es : List Entry) (i : ℕ) → length es ≤ i → (b || list_any p (drop i es)) ≡ all → b ≡ all
added-all p b all es i past whole = or-false b ∙ ap (λ (ds : List Entry). b || list_any p ds) (sym (drop_all i es past)) ∙ whole

----------------------------------------------------------------- on the way up

-- one node further up
pub above-more : (p : Node → Bool) (b new all : Bool) (y : Node) (ys zs : List Node) → zs ≡ y ∷ ys → new ≡ (b || p y) → (b || list_any p zs) ≡ all → (new || list_any p ys) ≡ all
above-more p b new all y ys zs next made whole = ap (λ c. c || list_any p ys) made ∙ or_assoc b (p y) (list_any p ys) ∙ ap (λ (ws : List Node). b || list_any p ws) (sym next) ∙ whole

-- the topmost node
pub above-all : (p : Node → Bool) (b all : Bool) (zs : List Node) → zs ≡ [] → (b || list_any p zs) ≡ all → b ≡ all
above-all p b all zs none whole = or-false b ∙ ap (λ (ws : List Node). b || list_any p ws) (sym none) ∙ whole

----------------------------------------------------------------- the adapters that are notified at a node

pub none-any : (xs : List Node) → list_any (λ (_ : Node). false) xs ≡ false
none-any [] = refl
none-any (x ∷ xs) = none-any xs

-- an adapter of some targets has a deep one at a node
deep-at : List Target → Node → Bool
deep-at ts a = option_map_or (λ t. t.deep) (find (is_at a) ts) false

pub shuffled : (s p r d : Bool) → ((s || p) || (r || d)) ≡ ((s || r) || (p || d))
shuffled true p r d = refl
shuffled false true true d = refl
shuffled false true false d = refl
shuffled false false r d = refl

find-apart : (x a : Node) (ts : List Target) → AllByRecursion (λ y. same_node x y ≡ false) (map (λ t. t.node) ts) → same_node x a ≡ true → find (is_at a) ts ≡ None
find-apart x a [] apart same = refl
find-apart x a (t ∷ ts) apart same =
    let is : x ≡ a = same_node-true x a same in
    elim (same_node t.node a) as (λ b. same_node t.node a ≡ b → cond b (Some t) (find (is_at a) ts) ≡ None) [
      | true ↦ λ yes. absurd (false≢true (sym apart.0 ∙ ap (same_node x) (same_node-true t.node a yes) ∙ same))
      | false ↦ λ _. find-apart x a ts apart.1 same
    ] refl

deep-one : (t : Target) (ts : List Target) (a : Node) → AllByRecursion (λ y. same_node t.node y ≡ false) (map (λ q. q.node) ts) → deep-at (t ∷ ts) a ≡ ((t.deep && same_node t.node a) || deep-at ts a)
unfolding deep-at
deep-one t ts a apart =
    elim (same_node t.node a) as (λ b. same_node t.node a ≡ b → option_map_or (λ (q : Target). q.deep) (cond b (Some t) (find (is_at a) ts)) false ≡ ((t.deep && b) || option_map_or (λ (q : Target). q.deep) (find (is_at a) ts) false)) [
      | true ↦ λ yes. with-none t.deep ∙ ap (λ (o : Option Target). (t.deep && true) || option_map_or (λ q. q.deep) o false) (sym (find-apart t.node a ts apart yes))
      | false ↦ λ _. without-deep t.deep (option_map_or (λ (q : Target). q.deep) (find (is_at a) ts) false)
    ] refl
  where
    with-none : (d : Bool) → d ≡ ((d && true) || false)
    with-none true = refl
    with-none false = refl

    without-deep : (d c : Bool) → c ≡ ((d && false) || c)
    without-deep true c = refl
    without-deep false c = refl

deep-first : (t : Target) (ts : List Target) → AllByRecursion (λ y. same_node t.node y ≡ false) (map (λ q. q.node) ts) → (xs : List Node) → list_any (deep-at (t ∷ ts)) xs ≡ ((t.deep && list_any (same_node t.node) xs) || list_any (deep-at ts) xs)
deep-first t ts apart [] = both t.deep
  where
    both : (d : Bool) → false ≡ ((d && false) || false)
    both true = refl
    both false = refl
deep-first t ts apart (a ∷ xs) =
    ap (λ b. b || list_any (deep-at (t ∷ ts)) xs) (deep-one t ts a apart) ∙ ap (λ b. ((t.deep && same_node t.node a) || deep-at ts a) || b) (deep-first t ts apart xs) ∙ joined t.deep (same_node t.node a) (deep-at ts a) (list_any (same_node t.node) xs) (list_any (deep-at ts) xs)
  where
    joined : (d s e m n : Bool) → (((d && s) || e) || ((d && m) || n)) ≡ ((d && (s || m)) || (e || n))
    joined true true e m n = refl
    joined true false true true n = refl
    joined true false true false n = refl
    joined true false false m n = refl
    joined false s e m n = refl

-- the indexes of the adapters that pass a test
module _ (p : Listed → Bool) where
  none-before : (k j : ℕ) (rs : List Listed) → k < j → list_any (λ y. is_eq (nat_cmp k y)) (ordinals_from p j rs) ≡ false
  none-before k j [] h = refl
  none-before k j (r ∷ rs) h =
      let later = none-before k (suc j) rs (omega (arith, h)) in
      elim (p r) as (λ b. list_any (λ y. is_eq (nat_cmp k y)) (cond b (j ∷ ordinals_from p (suc j) rs) (ordinals_from p (suc j) rs)) ≡ false) [
        | true ↦ ap (λ c. c || list_any (λ y. is_eq (nat_cmp k y)) (ordinals_from p (suc j) rs)) (is_eq-nat_cmp k j ∙ ne_eqb k j (λ (e : k ≡ j). omega (arith, h, e))) ∙ later
        | false ↦ later
      ]

  has-ordinal : (i j : ℕ) (rs : List Listed) → list_any (λ y. is_eq (nat_cmp (j + i) y)) (ordinals_from p j rs) ≡ option_map_or p (slice_get rs i) false
  has-ordinal i j [] = refl
  has-ordinal zero j (r ∷ rs) =
      elim (p r) as (λ b. list_any (λ y. is_eq (nat_cmp (j + 0) y)) (cond b (j ∷ ordinals_from p (suc j) rs) (ordinals_from p (suc j) rs)) ≡ b) [
        | true ↦ ap (λ c. c || list_any (λ y. is_eq (nat_cmp (j + 0) y)) (ordinals_from p (suc j) rs)) (is_eq-nat_cmp (j + 0) j ∙ eq-eqb (j + 0) j (omega arith))
        | false ↦ none-before (j + 0) (suc j) rs (omega arith)
      ]
  has-ordinal (suc i) j (r ∷ rs) =
      let moved : suc j + i ≡ j + suc i = omega arith in
      let later : list_any (λ y. is_eq (nat_cmp (j + suc i) y)) (ordinals_from p (suc j) rs) ≡ option_map_or p (slice_get rs i) false =
      subst (λ (k : ℕ). list_any (λ y. is_eq (nat_cmp k y)) (ordinals_from p (suc j) rs) ≡ option_map_or p (slice_get rs i) false) moved (has-ordinal i (suc j) rs) in
      elim (p r) as (λ b. list_any (λ y. is_eq (nat_cmp (j + suc i) y)) (cond b (j ∷ ordinals_from p (suc j) rs) (ordinals_from p (suc j) rs)) ≡ option_map_or p (slice_get rs i) false) [
        | true ↦ ap (λ c. c || list_any (λ y. is_eq (nat_cmp (j + suc i) y)) (ordinals_from p (suc j) rs)) (is_eq-nat_cmp (j + suc i) j ∙ ne_eqb (j + suc i) j (λ (e : j + suc i ≡ j). omega (arith, e))) ∙ later
        | false ↦ later
      ]

  less : (k j : ℕ) → k < j → nat_cmp k j ≡ Less
  less k j h = grind (arith, nat_tests)

  all-behind : (k j : ℕ) (rs : List Listed) → k < j → AllByRecursion (λ y. nat_cmp k y ≡ Less) (ordinals_from p j rs)
  all-behind k j [] h = tt
  all-behind k j (r ∷ rs) h =
      let later = all-behind k (suc j) rs (omega (arith, h)) in
      elim (p r) as (λ b. AllByRecursion (λ y. nat_cmp k y ≡ Less) (cond b (j ∷ ordinals_from p (suc j) rs) (ordinals_from p (suc j) rs))) [ true ↦ (less k j h, later) | false ↦ later ]

  in-order : (j : ℕ) (rs : List Listed) → IsStrictlySortedBy nat_cmp (ordinals_from p j rs)
  unfolding IsStrictlySortedBy
  in-order j [] = tt
  in-order j (r ∷ rs) =
      elim (p r) as (λ b. IsStrictlySortedBy nat_cmp (cond b (j ∷ ordinals_from p (suc j) rs) (ordinals_from p (suc j) rs))) [
        | true ↦ (all-behind j (suc j) rs (omega arith), in-order (suc j) rs)
        | false ↦ in-order (suc j) rs
      ]

  -- a set with exactly these indexes
  pub places-are : (rs : List Listed) (s : BTreeSet ℕ) → tree.IsOrdered nat_cmp s → ((k : ℕ) → tree.contains nat_cmp s k ≡ option_map_or p (slice_get rs k) false) → s.keys ≡ ordinals_from p 0 rs
  places-are rs s order has =
      let all : BTreeSet ℕ = record { keys = ordinals_from p 0 rs } in
      let same : (k : ℕ) → tree.contains nat_cmp s k ≡ tree.contains nat_cmp all k =
      λ k. let plain : 0 + k ≡ k = omega arith in
      has k ∙ sym (subst (λ (j : ℕ). list_any (λ y. is_eq (nat_cmp j y)) (ordinals_from p 0 rs) ≡ option_map_or p (slice_get rs k) false) plain (has-ordinal k 0 rs)) in
      btree_set_from_contains nat_cmp_total s all order (in-order 0 rs) same exact_unsigned

module _ (up : Above) (x : Node) where
  -- if an adapter has no target twice, it gets the notifications of a node exactly if the node is a target, or a deep target is above it
  heard-at : (ts : List Target) → IsDistinct same_node (map (λ t. t.node) ts) → list_any (brings_in up x) ts ≡ (option_map_or (λ t. true) (find (is_at x) ts) false || list_any (deep-at ts) (up x))
  unfolding deep-at
  heard-at [] once = sym (none-any (up x))
  heard-at (t ∷ ts) once =
      let apart = IsDistinct-head same_node t.node (map (λ q. q.node) ts) once in
      ap (λ b. brings_in up x t || b) (heard-at ts (IsDistinct-tail same_node t.node (map (λ q. q.node) ts) once))
      ∙ shuffled (same_node t.node x) (t.deep && list_any (same_node t.node) (up x)) (option_map_or (λ q. true) (find (is_at x) ts) false) (list_any (deep-at ts) (up x))
      ∙ ap (λ b. b || ((t.deep && list_any (same_node t.node) (up x)) || list_any (deep-at ts) (up x))) (sym (first (same_node t.node x)))
      ∙ ap (λ b. option_map_or (λ (q : Target). true) (find (is_at x) (t ∷ ts)) false || b) (sym (deep-first t ts apart (up x)))
    where
      first : (b : Bool) → option_map_or (λ (q : Target). true) (cond b (Some t) (find (is_at x) ts)) false ≡ (b || option_map_or (λ (q : Target). true) (find (is_at x) ts) false)
      first true = refl
      first false = refl

  pub heard-is : (o : Option Listed) → IfSome o IsOnce → option_map_or (hears_node up x) o false ≡ (option_map_or (is_attached x false) o false || list_any (λ a. option_map_or (is_attached a true) o false) (up x))
  unfolding deep-at
  heard-is None once = sym (none-any (up x))
  heard-is (Some r) once = heard-at r.targets once

  -- a set with the indexes of the adapters that are attached to the node, and of the deep adapters above, has exactly the adapters that are
  -- notified
  pub places-hearers : (rs : List Listed) (s : BTreeSet ℕ) → tree.IsOrdered nat_cmp s → ((k : ℕ) → IfSome (slice_get rs k) IsOnce) → ((k : ℕ) → tree.contains nat_cmp s k ≡ (is_attached_at rs x false k || list_any (λ a. is_attached_at rs a true k) (up x))) → s.keys ≡ hearers up x rs
  places-hearers rs s order once has = places-are (hears_node up x) rs s order (λ k. has k ∙ sym (heard-is (slice_get rs k) (once k)))

-- an adapter at an index has no target twice
pub once-there : (rs : List Listed) (k : ℕ) → AllByRecursion IsOnce rs → IfSome (slice_get rs k) IsOnce
once-there [] k h = tt
once-there (r ∷ rs) zero h = h.0
once-there (r ∷ rs) (suc k) h = once-there rs k h.1

-- an adapter at an index has an object as a target
touched-one : (o : ObjectNo) (q : Option Listed) → option_map_or (is_attached (node.Object o) false) q false ≡ option_map_or (has_target (node.Object o)) q false
touched-one o None = refl
touched-one o (Some r) = by r.targets
  where
    by : (ts : List Target) → option_map_or (λ (t : Target). true) (find (is_at (node.Object o)) ts) false ≡ list_any (is_at (node.Object o)) ts
    by [] = refl
    by (t ∷ ts) = elim (is_at (node.Object o) t) as (λ b. option_map_or (λ (q : Target). true) (cond b (Some t) (find (is_at (node.Object o)) ts)) false ≡ (b || list_any (is_at (node.Object o)) ts)) [
      | true ↦ refl
      | false ↦ by ts
    ]

touched-some : (q : Option Listed) (os : List ObjectNo) → list_any (λ o. option_map_or (is_attached (node.Object o) false) q false) os ≡ option_map_or (is_touched os) q false
touched-some None [] = refl
touched-some (Some r) [] = refl
touched-some None (o ∷ os) = touched-some None os
touched-some (Some r) (o ∷ os) = ap (λ b. b || list_any (λ p. is_attached (node.Object p) false r) os) (touched-one o (Some r)) ∙ ap (λ b. has_target (node.Object o) r || b) (touched-some (Some r) os)

-- a set with the indexes of the adapters that are attached to one of some objects
pub places-touched_indexes : (os : List ObjectNo) (rs : List Listed) (s : BTreeSet ℕ) → tree.IsOrdered nat_cmp s → ((k : ℕ) → tree.contains nat_cmp s k ≡ list_any (λ o. is_attached_at rs (node.Object o) false k) os) → s.keys ≡ touched_indexes os rs
places-touched_indexes os rs s order has = places-are (is_touched os) rs s order (λ k. has k ∙ touched-some (slice_get rs k) os)

-- one more object
pub touched-more : (p : ObjectNo → Bool) (b new all : Bool) (os : List ObjectNo) (i : ℕ) (d : ObjectNo) → i < length os → new ≡ (b || p (get_or os i d)) → (b || list_any p (drop i os)) ≡ all → (new || list_any p (drop (i + 1) os)) ≡ all
touched-more p b new all os i d low made whole =
    ap (λ c. c || list_any p (drop (i + 1) os)) made
    ∙ or_assoc b (p (get_or os i d)) (list_any p (drop (i + 1) os))
    ∙ ap (λ (ds : List ObjectNo). b || list_any p ds) (sym (drop_more os i d low))
    ∙ whole

pub touched-all : (p : ObjectNo → Bool) (b all : Bool) (os : List ObjectNo) (i : ℕ) → length os ≤ i → (b || list_any p (drop i os)) ≡ all → b ≡ all
touched-all p b all os i past whole = or-false b ∙ ap (λ (ds : List ObjectNo). b || list_any p ds) (sym (drop_all i os past)) ∙ whole

-- an entry that counts adds the index of its adapter
pub asked-for : (rs : List Listed) (only_deep : Bool) (k : ℕ) (e : Entry) (b new : Bool) → (not only_deep || e.deep) ≡ true → new ≡ (b || has_number_at rs e.no k) → new ≡ (b || finds rs only_deep k e)
asked-for rs only_deep k e b new asked now = now ∙ ap (λ d. b || (d && has_number_at rs e.no k)) (sym asked)

-- a property of a successful result, made of another one
pub on_ok-map : {X E : Type 0} {P Q : Type 0} (r : Result X E) → OnOk r P → (P → Q) → OnOk r Q
on_ok-map (Ok x) h f = f h
on_ok-map (Err e) h f = tt

-- the adapters that were found last are those of this node
pub known-same : (up : Above) (rs : List Listed) (o : Option Node) (last x : Node) (ks : List ℕ) → IfSome o (λ y. ks ≡ hearers up y rs) → o ≡ Some last → last ≡ x → ks ≡ hearers up x rs
known-same up rs o last x ks known is same = subst (λ (y : Node). ks ≡ hearers up y rs) same (subst (λ (q : Option Node). IfSome q (λ y. ks ≡ hearers up y rs)) is known)
