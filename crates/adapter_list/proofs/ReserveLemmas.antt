-- The number of copies for each index, and whether its adapter is ready for them.
use Rattle.std.proofs.Common.{◌≡◌, ℕ, ◌+◌, ◌≤◌, ◌<◌, ◌^◌, zero, suc, Bool, true, false, cond, ◌&&◌, ◌||◌, nat_eq, nat_lt, nat_le, List, [], ◌∷◌, map, filter, length, drop, get_or, slice_get, slice_index, Some, None, Option, unwrap_or, refl, sym, ap, subst, inl, inr, ◌∙◌, arith, le-leb, leb-true, eqb-true, eq-eqb, if◌then◌else◌}
use Rattle.std.specs.List.{AllByRecursion, list_any}
use Rattle.std.specs.List.Sorted.{IsStrictlySortedBy}
use Rattle.std.specs.Ordering.{is_eq, nat_cmp}
use Rattle.std.specs.declared.cmp.Ordering.TheVariants.{Less}
use Rattle.std.proofs.lemmas.Bool.Decides.{nat_tests}
use Rattle.std.specs.Option.{option_map_or}
use Rattle.std.proofs.lemmas.Bool.{and_parts, eqb-false, false≢true, ne_eqb}
use Rattle.std.proofs.lemmas.List.{drop_all, drop_more}
use Rattle.adapters.specs.declared.adapter.NoRoom.{NoRoom}
use Rattle.adapters.specs.declared.adapter.NoRoom.TheVariants as room
use Rattle.mm_types.specs.declared.refused.Refused.TheVariants as refused
use Rattle.notice_chain.specs.View.{View}
use Rattle.notice_chain.specs.Listed.{Above, Listed, heard_of, is_full, is_chain_full}
use Rattle.notice_chain.specs.declared.notice.Notice.{Notice}
use Rattle.adapter_list.specs.Attached.{HasReserve}
use Rattle.adapter_list.specs.Counts.{IsCounted, IsFirstFull, IsFullFor, IsReadyFor, ascends, copies_len, is_after, is_ordinal_of, ordinals, told_at_ordinal}
use Rattle.adapter_list.specs.Refusals.{IsChainRefusal, refusal_of}
use Rattle.adapter_list.specs.Rounds.{round_copies}
use Rattle.adapter_list.specs.Targets.{targets_at}
use Rattle.adapter_list.proofs.DeliveryLemmas.{copies_for-here, copies_for-other}
use Rattle.adapter_list.proofs.RoundLemmas.{copies_for-round_copies}

----------------------------------------------------------------- counting

-- the first of some copies counts only for its own index
module _ (cs : List (ℕ × Notice)) (i : ℕ) (x : ℕ × Notice) (low : i < length cs) (is : x ≡ get_or cs i x) where
  first : drop i cs ≡ x ∷ drop (i + 1) cs
  first = drop_more cs i x low ∙ ap (λ (c : ℕ × Notice). c ∷ drop (i + 1) cs) (sym is)

  pub copies_len-here : (k : ℕ) → nat_eq x.0 k ≡ true → copies_len (drop i cs) k ≡ suc (copies_len (drop (i + 1) cs) k)
  copies_len-here k same = ap (λ (ds : List (ℕ × Notice)). copies_len ds k) first ∙ ap length (copies_for-here x.0 k x.1 (drop (i + 1) cs) (eqb-true x.0 k same))

pub copies_len-le : (cs : List (ℕ × Notice)) (k : ℕ) → copies_len cs k ≤ length cs
copies_len-le [] k = omega arith
copies_len-le (c ∷ cs) k =
    let fewer = copies_len-le cs k in
    elim (nat_eq c.0 k) as (λ b. length (map (λ (d : ℕ × Notice). d.1) (if b then (c ∷ filter (λ d. nat_eq d.0 k) cs) else filter (λ d. nat_eq d.0 k) cs)) ≤ suc (length cs)) [
      | true ↦ omega (arith, fewer)
      | false ↦ omega (arith, fewer)
    ]

counted-below : (o : Option ℕ) (rest all : ℕ) → IsCounted o (suc rest) all → unwrap_or o 0 + 1 ≤ all
counted-below None rest all h = omega (arith, h)
counted-below (Some n) rest all h = omega (arith, h.1)

module _ (cs : List (ℕ × Notice)) (i : ℕ) (x : ℕ × Notice) (low : i < length cs) (is : x ≡ get_or cs i x) (counts : ℕ → Option ℕ) (counted : (k : ℕ) → IsCounted (counts k) (copies_len (drop i cs) k) (copies_len cs k)) where
  here : IsCounted (counts x.0) (suc (copies_len (drop (i + 1) cs) x.0)) (copies_len cs x.0)
  here = let same : nat_eq x.0 x.0 ≡ true = grind arith in subst (λ (rest : ℕ). IsCounted (counts x.0) rest (copies_len cs x.0)) (copies_len-here cs i x low is x.0 same) (counted x.0)

  pub count-below : unwrap_or (counts x.0) 0 + 1 ≤ length cs
  count-below = omega (arith, counted-below (counts x.0) _ _ here, copies_len-le cs x.0)

----------------------------------------------------------------- the indexes that get copies

set-is : (ks : List ℕ) (k : ℕ) → list_any (nat_eq k) ks ≡ list_any (λ y. is_eq (nat_cmp k y)) ks
set-is [] k = refl
set-is (y ∷ ks) k = ap (λ b. b || list_any (nat_eq k) ks) (sym (eq-is k y)) ∙ ap (λ b. is_eq (nat_cmp k y) || b) (set-is ks k)
  where
    eq-is : (i j : ℕ) → is_eq (nat_cmp i j) ≡ nat_eq i j
    eq-is i j = grind (arith, nat_tests)

pub ordinal-more : (cs : List (ℕ × Notice)) (i k : ℕ) (x : ℕ × Notice) (b new all : Bool) → i < length cs → x ≡ get_or cs i x → new ≡ cond (is_eq (nat_cmp x.0 k)) true b → (b || is_ordinal_of (drop i cs) k) ≡ all → (new || is_ordinal_of (drop (i + 1) cs) k) ≡ all
ordinal-more cs i k x b new all low is now whole =
    ap (λ c. c || is_ordinal_of (drop (i + 1) cs) k) (now ∙ ap (λ c. cond c true b) (eq-is x.0 k))
    ∙ step b (nat_eq x.0 k) (is_ordinal_of (drop (i + 1) cs) k)
    ∙ ap (λ (ds : List (ℕ × Notice)). b || is_ordinal_of ds k) (sym (first cs i x low is))
    ∙ whole
  where
    eq-is : (m n : ℕ) → is_eq (nat_cmp m n) ≡ nat_eq m n
    eq-is m n = grind (arith, nat_tests)

    step : (c p r : Bool) → (cond p true c || r) ≡ (c || (p || r))
    step true true r = refl
    step true false r = refl
    step false true r = refl
    step false false r = refl

pub places-all : (cs : List (ℕ × Notice)) (i k : ℕ) (ks found : List ℕ) (all : Bool) → length cs ≤ i → found ≡ ks → (list_any (λ y. is_eq (nat_cmp k y)) ks || is_ordinal_of (drop i cs) k) ≡ all → list_any (nat_eq k) found ≡ all
places-all cs i k ks found all past is whole =
    ap (list_any (nat_eq k)) is ∙ set-is ks k ∙ or-false (list_any (λ y. is_eq (nat_cmp k y)) ks) ∙ ap (λ (ds : List (ℕ × Notice)). list_any (λ y. is_eq (nat_cmp k y)) ks || is_ordinal_of ds k) (sym (drop_all i cs past)) ∙ whole
  where
    or-false : (b : Bool) → b ≡ (b || false)
    or-false true = refl
    or-false false = refl

----------------------------------------------------------------- asking each adapter

counted-nothing : (o : Option ℕ) (all : ℕ) → IsCounted o 0 all → unwrap_or o 0 ≡ all
counted-nothing None all h = h
counted-nothing (Some n) all h = omega (arith, h.1)

-- the count is the number of all copies
pub count-is : (cs : List (ℕ × Notice)) (k : ℕ) (o : Option ℕ) → IsCounted o 0 (copies_len cs k) → unwrap_or o 0 ≡ copies_len cs k
count-is cs k o h = counted-nothing o (copies_len cs k) h

is_place-more : (cs : List (ℕ × Notice)) (k : ℕ) → is_ordinal_of cs k ≡ true → 0 < copies_len cs k
is_place-more [] k h = absurd (false≢true h)
is_place-more (c ∷ cs) k h =
    elim (nat_eq c.0 k) as (λ b. (b || is_ordinal_of cs k) ≡ true → 0 < length (map (λ (d : ℕ × Notice). d.1) (cond b (c ∷ filter (λ d. nat_eq d.0 k) cs) (filter (λ d. nat_eq d.0 k) cs)))) [
      | true ↦ λ _. omega arith
      | false ↦ λ later. is_place-more cs k later
    ] h

is_place-none : (cs : List (ℕ × Notice)) (k : ℕ) → is_ordinal_of cs k ≡ false → copies_len cs k ≡ 0
is_place-none [] k h = refl
is_place-none (c ∷ cs) k h =
    elim (nat_eq c.0 k) as (λ b. (b || is_ordinal_of cs k) ≡ false → length (map (λ (d : ℕ × Notice). d.1) (cond b (c ∷ filter (λ d. nat_eq d.0 k) cs) (filter (λ d. nat_eq d.0 k) cs))) ≡ 0) [
      | true ↦ λ other. absurd (false≢true (sym other))
      | false ↦ λ later. is_place-none cs k later
    ] h

is_place-within : (n : ℕ) (cs : List (ℕ × Notice)) (k : ℕ) → AllByRecursion (λ c. c.0 < n) cs → is_ordinal_of cs k ≡ true → k < n
is_place-within n [] k h e = absurd (false≢true e)
is_place-within n (c ∷ cs) k h e =
    elim (nat_eq c.0 k) as (λ b. nat_eq c.0 k ≡ b → (b || is_ordinal_of cs k) ≡ true → k < n) [
      | true ↦ λ same _. subst (λ (j : ℕ). j < n) (eqb-true c.0 k same) h.0
      | false ↦ λ _ later. is_place-within n cs k h.1 later
    ] refl e

-- more capacity does no harm
ready-more : (rs : List Listed) (ps qs : List ℕ) (k n : ℕ) → length qs ≡ length ps → slice_index ps k ≤ slice_index qs k → IsReadyFor rs ps k n → IsReadyFor rs qs k n
ready-more rs ps qs k n same more h = record { places = λ low. let few = h.places (omega (arith, low, same)) in omega (arith, few, more); countable = h.countable }

-- the adapters that were asked, or that get no copies, are ready
abbrev pub AreAsked : List Listed → List ℕ → List (ℕ × Notice) → List ℕ → Type 0
AreAsked rs ps cs rest = (k : ℕ) → list_any (nat_eq k) rest ≡ false → IsReadyFor rs ps k (copies_len cs k)

pub asked-none : (rs : List Listed) (ps : List ℕ) (cs : List (ℕ × Notice)) (all : List ℕ) → HasReserve rs ps → ((k : ℕ) → list_any (nat_eq k) all ≡ is_ordinal_of cs k) → AreAsked rs ps cs all
asked-none rs ps cs all reserve places = λ k other.
    let none : copies_len cs k ≡ 0 = is_place-none cs k (sym (places k) ∙ other) in
    let room = reserve k in
    record { places = λ low. omega (arith, none, room); countable = λ some. absurd (omega (arith, none, some)) }

in-at : (all : List ℕ) (i : ℕ) → i < length all → list_any (nat_eq (get_or all i 0)) all ≡ true
in-at [] i low = absurd (omega (arith, low))
in-at (x ∷ all) zero low = let same : nat_eq x x ≡ true = eq-eqb x x refl in ap (λ b. b || list_any (nat_eq x) all) same
in-at (x ∷ all) (suc i) low = elim (nat_eq (get_or all i 0) x) as (λ b. (b || list_any (nat_eq (get_or all i 0)) all) ≡ true) [ true ↦ refl | false ↦ in-at all i (omega (arith, low)) ]

module _ (cs : List (ℕ × Notice)) (all : List ℕ) (places : (k : ℕ) → list_any (nat_eq k) all ≡ is_ordinal_of cs k) (i : ℕ) (low : i < length all) where
  -- the adapter that is asked next gets copies
  pub asked-some : 0 < copies_len cs (get_or all i 0)
  asked-some = is_place-more cs (get_or all i 0) (sym (places (get_or all i 0)) ∙ in-at all i low)

  pub asked-within : (n : ℕ) → AllByRecursion (λ c. c.0 < n) cs → get_or all i 0 < n
  asked-within n within = is_place-within n cs (get_or all i 0) within (sym (places (get_or all i 0)) ∙ in-at all i low)

-- after one more adapter is asked, one more is ready
pub asked-more : (rs : List Listed) (ps qs : List ℕ) (cs : List (ℕ × Notice)) (all : List ℕ) (i : ℕ) → i < length all → length qs ≡ length ps → ((k : ℕ) → slice_index ps k ≤ slice_index qs k) → IsReadyFor rs qs (get_or all i 0) (copies_len cs (get_or all i 0)) → AreAsked rs ps cs (drop i all) → AreAsked rs qs cs (drop (i + 1) all)
asked-more rs ps qs cs all i low same more ready asked = λ k other.
    elim (nat_eq k (get_or all i 0)) as (λ b. nat_eq k (get_or all i 0) ≡ b → IsReadyFor rs qs k (copies_len cs k)) [
      | true ↦ λ yes. subst (λ (j : ℕ). IsReadyFor rs qs j (copies_len cs j)) (sym (eqb-true k (get_or all i 0) yes)) ready
      | false ↦ λ no. ready-more rs ps qs k (copies_len cs k) same (more k) (asked k (ap (list_any (nat_eq k)) (drop_more all i 0 low) ∙ ap (λ b. b || list_any (nat_eq k) (drop (i + 1) all)) no ∙ other))
    ] refl

pub asked-all : (rs : List Listed) (ps : List ℕ) (cs : List (ℕ × Notice)) (all : List ℕ) (i k : ℕ) → length all ≤ i → AreAsked rs ps cs (drop i all) → IsReadyFor rs ps k (copies_len cs k)
asked-all rs ps cs all i k past asked = asked k (ap (list_any (nat_eq k)) (drop_all i all past))

less-than : (j x : ℕ) → nat_cmp j x ≡ Less → j < x
less-than j x h = grind (arith, nat_tests, h)

none-less : (j x : ℕ) (xs : List ℕ) → j < x → AllByRecursion (λ y. nat_cmp x y ≡ Less) xs → list_any (nat_eq j) xs ≡ false
none-less j x [] h all = refl
none-less j x (y ∷ xs) h all =
    let above : x < y = less-than x y all.0 in
    ap (λ b. b || list_any (nat_eq j) xs) (ne_eqb j y (λ (e : j ≡ y). omega (arith, h, above, e))) ∙ none-less j x xs h all.1

-- no index before the next one in order is among the indexes that are still to be asked
none-before : (j : ℕ) (xs : List ℕ) (i : ℕ) → IsStrictlySortedBy nat_cmp xs → i < length xs → j < get_or xs i 0 → list_any (nat_eq j) (drop i xs) ≡ false
unfolding IsStrictlySortedBy
none-before j [] i sorted low h = absurd (omega (arith, low))
none-before j (x ∷ xs) zero sorted low h = ap (λ b. b || list_any (nat_eq j) xs) (ne_eqb j x (λ (e : j ≡ x). omega (arith, h, e))) ∙ none-less j x xs h sorted.0
none-before j (x ∷ xs) (suc i) sorted low h = none-before j xs i sorted.1 (omega (arith, low)) h

-- the adapter that is asked next and refuses is the first in attach order that does
pub first-full : (rs : List Listed) (ps qs : List ℕ) (cs : List (ℕ × Notice)) (all : List ℕ) (i : ℕ) → IsStrictlySortedBy nat_cmp all → i < length all → length qs ≡ length ps → ((k : ℕ) → slice_index ps k ≤ slice_index qs k) → AreAsked rs ps cs (drop i all) → IsFullFor rs cs (get_or all i 0) → IsFirstFull rs qs cs (get_or all i 0)
first-full rs ps qs cs all i sorted low same more asked full =
    record { full = full; earlier = λ j less. ready-more rs ps qs j (copies_len cs j) same (more j) (asked j (none-before j all i sorted low less)) }

----------------------------------------------------------------- one copy each

-- copies whose indexes are ascending
behind : (n : ℕ) (before : Option ℕ) (ks : List ℕ) → ascends before ks ≡ true → before ≡ Some n → AllByRecursion (λ y. nat_cmp n y ≡ Less) ks
behind n before [] h is = tt
behind n before (k ∷ ks) h is =
    let both = and_parts (is_after before k) (ascends (Some k) ks) h in
    let low : n < k = lt-from n k (sym (ap (λ o. is_after o k) is) ∙ both.0) in
    (less-is n k low, further n k ks low (behind k (Some k) ks both.1 refl))
  where
    lt-from : (i j : ℕ) → nat_lt i j ≡ true → i < j
    lt-from i j h = grind (arith, nat_tests, h)

    less-is : (i j : ℕ) → i < j → nat_cmp i j ≡ Less
    less-is i j h = grind (arith, nat_tests)

    further : (i j : ℕ) (xs : List ℕ) → i < j → AllByRecursion (λ y. nat_cmp j y ≡ Less) xs → AllByRecursion (λ y. nat_cmp i y ≡ Less) xs
    further i j [] low all = tt
    further i j (x ∷ xs) low all = (let next : j < x = less-than j x all.0 in less-is i x (omega (arith, low, next)), further i j xs low all.1)

pub ascending-sorted : (before : Option ℕ) (ks : List ℕ) → ascends before ks ≡ true → IsStrictlySortedBy nat_cmp ks
unfolding IsStrictlySortedBy
ascending-sorted before [] h = tt
ascending-sorted before (k ∷ ks) h =
    let both = and_parts (is_after before k) (ascends (Some k) ks) h in
    (behind k (Some k) ks both.1 refl, ascending-sorted (Some k) ks both.1)

-- whether an index is among those of the copies
pub ordinals-are : (cs : List (ℕ × Notice)) (k : ℕ) → list_any (nat_eq k) (ordinals cs) ≡ is_ordinal_of cs k
ordinals-are [] k = refl
ordinals-are (c ∷ cs) k = ap (λ b. b || list_any (nat_eq k) (ordinals cs)) (flip k c.0) ∙ ap (λ b. nat_eq c.0 k || b) (ordinals-are cs k)
  where
    flip : (i j : ℕ) → nat_eq i j ≡ nat_eq j i
    flip i j = grind (arith, nat_tests)

none-equal : (x : ℕ) (ys : List ℕ) → AllByRecursion (λ y. nat_cmp x y ≡ Less) ys → list_any (nat_eq x) ys ≡ false
none-equal x [] all = refl
none-equal x (y ∷ ys) all = let less : x < y = less-than x y all.0 in ap (λ b. b || list_any (nat_eq x) ys) (ne_eqb x y (λ (e : x ≡ y). omega (arith, less, e))) ∙ none-equal x ys all.1

none-same : (x : ℕ) (ys : List ℕ) (j : ℕ) → AllByRecursion (λ y. nat_cmp x y ≡ Less) ys → j < length ys → nat_eq x (get_or ys j 0) ≡ false
none-same x [] j all low = absurd (omega (arith, low))
none-same x (y ∷ ys) zero all low = let less : x < y = less-than x y all.0 in ne_eqb x y (λ (e : x ≡ y). omega (arith, less, e))
none-same x (y ∷ ys) (suc j) all low = none-same x ys j all.1 (omega (arith, low))

-- if the indexes of copies are ascending, each adapter gets at most one
pub one-each : (before : Option ℕ) (cs : List (ℕ × Notice)) (i : ℕ) → ascends before (ordinals cs) ≡ true → i < length (ordinals cs) → copies_len cs (get_or (ordinals cs) i 0) ≡ 1
one-each before [] i h low = absurd (omega (arith, low))
one-each before (c ∷ cs) i h low = by i low (λ j within. one-each (Some c.0) cs j (and_parts (is_after before c.0) (ascends (Some c.0) (ordinals cs)) h).1 within)
  where
    both : (is_after before c.0 ≡ true) × (ascends (Some c.0) (ordinals cs) ≡ true)
    both = and_parts (is_after before c.0) (ascends (Some c.0) (ordinals cs)) h

    later : AllByRecursion (λ y. nat_cmp c.0 y ≡ Less) (ordinals cs)
    later = behind c.0 (Some c.0) (ordinals cs) both.1 refl

    by : (j : ℕ) → j < suc (length (ordinals cs)) → ((k : ℕ) → k < length (ordinals cs) → copies_len cs (get_or (ordinals cs) k 0) ≡ 1) → copies_len (c ∷ cs) (get_or (c.0 ∷ ordinals cs) j 0) ≡ 1
    by zero low rest =
        ap length (copies_for-here c.0 c.0 c.1 cs refl)
        ∙ ap suc (is_place-none cs c.0 (sym (ordinals-are cs c.0) ∙ none-equal c.0 (ordinals cs) later))
    by (suc j) low rest =
        ap length (copies_for-other c.0 (get_or (ordinals cs) j 0) c.1 cs (eqb-false c.0 (get_or (ordinals cs) j 0) (none-same c.0 (ordinals cs) j later (omega (arith, low)))))
        ∙ rest j (omega (arith, low))

-- the adapter's index of a copy, by the index of the copy
pub ordinals-len : (cs : List (ℕ × Notice)) → length (ordinals cs) ≡ length cs
ordinals-len [] = refl
ordinals-len (c ∷ cs) = ap suc (ordinals-len cs)

pub ordinal-at : (cs : List (ℕ × Notice)) (i : ℕ) (x : ℕ × Notice) → i < length cs → x ≡ get_or cs i x → get_or (ordinals cs) i 0 ≡ x.0
ordinal-at [] i x low is = absurd (omega (arith, low))
ordinal-at (c ∷ cs) zero x low is = ap (λ (y : ℕ × Notice). y.0) (sym is)
ordinal-at (c ∷ cs) (suc i) x low is = ordinal-at cs i x (omega (arith, low)) is

----------------------------------------------------------------- full

-- a test that no adapter passes
any-none : (p : Listed → Bool) (rs : List Listed) → ((k : ℕ) (r : Listed) → slice_get rs k ≡ Some r → p r ≡ false) → list_any p rs ≡ false
any-none p [] h = refl
any-none p (r ∷ rs) h = ap (λ b. b || list_any p rs) (h 0 r refl) ∙ any-none p rs (λ k q e. h (suc k) q e)

any-some : (p : Listed → Bool) (rs : List Listed) (k : ℕ) (r : Listed) → slice_get rs k ≡ Some r → p r ≡ true → list_any p rs ≡ true
any-some p [] k r e h = absurd (some-of-none e)
  where
    some-of-none : None ≡ Some r → ⊥
    some-of-none q = cc
any-some p (q ∷ rs) zero r e h = let first : q ≡ r = cc in ap (λ b. b || list_any p rs) (ap p first ∙ h)
any-some p (q ∷ rs) (suc k) r e h = elim (p q) as (λ b. (b || list_any p rs) ≡ true) [ true ↦ refl | false ↦ any-some p rs k r e h ]

pub there : (rs : List Listed) (k : ℕ) → k < length rs → (r : Listed) × (slice_get rs k ≡ Some r)
there [] k h = absurd (omega (arith, h))
there (r ∷ rs) zero h = (r, refl)
there (r ∷ rs) (suc k) h = there rs k (omega (arith, h))

pub told-there : (rs : List Listed) (k : ℕ) (r : Listed) → slice_get rs k ≡ Some r → told_at_ordinal rs k ≡ r.view.told
told-there [] k r e = absurd (none-of e)
  where
    none-of : None ≡ Some r → ⊥
    none-of q = cc
told-there (q ∷ rs) zero r e = let first : q ≡ r = cc in ap (λ (x : Listed). x.view.told) first
told-there (q ∷ rs) (suc k) r e = told-there rs k r e

pub targets-there : (rs : List Listed) (k : ℕ) (r : Listed) → slice_get rs k ≡ Some r → targets_at rs k ≡ length r.targets
targets-there [] k r e = absurd (none-of e)
  where
    none-of : None ≡ Some r → ⊥
    none-of q = cc
targets-there (q ∷ rs) zero r e = let first : q ≡ r = cc in ap (λ (x : Listed). length x.targets) first
targets-there (q ∷ rs) (suc k) r e = targets-there rs k r e

not-full : (n t : ℕ) (v : View) → (0 < n → v.told + (n + t) < 2 ^ 64) → is_full n t v ≡ false
not-full n t v h = both (nat_lt 0 n) (nat_le (2 ^ 64) (v.told + (n + t))) refl refl
  where
    both : (a b : Bool) → nat_lt 0 n ≡ a → nat_le (2 ^ 64) (v.told + (n + t)) ≡ b → (nat_lt 0 n && nat_le (2 ^ 64) (v.told + (n + t))) ≡ false
    both false b p q = ap (λ c. c && nat_le (2 ^ 64) (v.told + (n + t))) p
    both true false p q = ap (λ c. c && nat_le (2 ^ 64) (v.told + (n + t))) p ∙ q
    both true true p q = absurd (let some : 0 < n = grind (arith, p) in let room = h some in let past = leb-true _ _ q in omega (arith, room, past))

module _ (up : Above) (ns : List Notice) (rs : List Listed) where
  copies_len-heard : (k : ℕ) (r : Listed) → slice_get rs k ≡ Some r → copies_len (round_copies up ns rs) k ≡ length (heard_of up ns r)
  copies_len-heard k r e = ap length (copies_for-round_copies up ns rs k ∙ ap (λ (o : Option Listed). option_map_or (λ q. heard_of up ns q) o []) e)

  -- if each adapter is ready for its copies, none is full
  pub chain-counted : (ps : List ℕ) → ((k : ℕ) → IsReadyFor rs ps k (copies_len (round_copies up ns rs) k)) → is_chain_full up ns rs ≡ false
  chain-counted ps ready =
      any-none (λ r. is_full (length (heard_of up ns r)) (length r.targets) r.view) rs (λ k r e.
      not-full (length (heard_of up ns r)) (length r.targets) r.view (λ some.
      let room = (ready k).countable in
      let many = copies_len-heard k r e in
      let told = told-there rs k r e in
      let targets = targets-there rs k r e in
      let few = room (omega (arith, some, many)) in
      omega (arith, few, many, told, targets)))

  pub chain-full : (k : ℕ) → IsFullFor rs (round_copies up ns rs) k → is_chain_full up ns rs ≡ true
  chain-full k f =
      let r = (there rs k f.within).0 in
      let e : slice_get rs k ≡ Some r = (there rs k f.within).1 in
      let many = copies_len-heard k r e in
      let told = told-there rs k r e in
      let targets = targets-there rs k r e in
      let some : 0 < length (heard_of up ns r) = omega (arith, f.some, many) in
      let past : 2 ^ 64 ≤ r.view.told + (length (heard_of up ns r) + length r.targets) = omega (arith, f.full, many, told, targets) in
      any-some (λ q. is_full (length (heard_of up ns q)) (length q.targets) q.view) rs k r e (rw (le-leb _ _ some, le-leb _ _ past) refl)

-- why a chain is refused
pub refusal-is : (full : Bool) (e : NoRoom) → (e ≡ room.Full → full ≡ true) → IsChainRefusal full (refusal_of e)
refusal-is full room.Memory h = inl refl
refusal-is full room.Full h = inr (refl, h refl)

-- only a full adapter gives AdapterFull
pub full-from : (e : NoRoom) → refusal_of e ≡ refused.AdapterFull → e ≡ room.Full
full-from room.Memory h = cc
full-from room.Full h = refl
