-- The list and the flag that are found under an attribute in a row of entries, before and after an edit of the row.
use Rattle.std.proofs.Common.{◌≡◌, ℕ, zero, suc, ◌<◌, eqb, ◌≢◌, Bool, true, false, cond, List, [], ◌∷◌, length, get_or, set, if◌then◌else◌, Option, Some, None, unwrap_or, refl, sym, ap, ◌∙◌, arith}
use Rattle.std.specs.List.{insert}
use Rattle.std.specs.Ordering.{nat_cmp, eq_by_cmp}
use Rattle.std.specs.Cmp.{nat_cmp_total}
use Rattle.std.specs.FinMap as map
use Rattle.std.proofs.lemmas.Bool.Decides.{nat_tests}
use Rattle.mm_values.specs.Stored.{Stored, StoredMap, nothing_stored, is_nothing, with_stored}
use Rattle.mm_values.specs.Attributes.{stored_in, stored_of, place_for, feature_at, IsAt}
use Rattle.mm_values.specs.declared.attribute_lists.Entry.{Entry}

-- the result of a look-up if h is stored
abbrev pub kept : Stored → Option Stored
kept h = if is_nothing h then None else Some h

-- the list and the flag in the first entry of the attribute
abbrev pub found : List Entry → ℕ → Option Stored
found [] q = None
found (e ∷ l) q = if eqb q e.feature.0 then kept (stored_of e) else found l q

-- only equal numbers compare as equal
tied : (q k : ℕ) → eq_by_cmp nat_cmp q k ≡ eqb q k
tied q k = grind (arith, nat_tests)

with_stored_cases : (m : StoredMap) (k : ℕ) (h : Stored) (q : ℕ) (b : Bool) → map.get (cond b (map.remove m k) (map.insert m k h)) q ≡ cond (eqb q k) (cond b None (Some h)) (map.get m q)
with_stored_cases m k h q true = map.get-remove nat_cmp_total m k q ∙ ap (λ b. cond b None (map.get m q)) (tied q k)
with_stored_cases m k h q false = map.get-insert nat_cmp_total m k h q ∙ ap (λ b. cond b (Some h) (map.get m q)) (tied q k)

-- a look-up after `with_stored`
pub get-with_stored : (m : StoredMap) (k : ℕ) (h : Stored) (q : ℕ) → map.get (with_stored m k h) q ≡ (if eqb q k then kept h else map.get m q)
get-with_stored m k h q = with_stored_cases m k h q (is_nothing h)

pub get-stored_in : (l : List Entry) (q : ℕ) → map.get (stored_in l) q ≡ found l q
get-stored_in [] q = map.get-empty nat_cmp q
get-stored_in (e ∷ l) q = get-with_stored (stored_in l) e.feature.0 (stored_of e) q ∙ ap (λ r. cond (eqb q e.feature.0) (kept (stored_of e)) r) (get-stored_in l q)

-- maps that give the same answers are equal
pub same_stored : (m n : StoredMap) → ((q : ℕ) → map.get m q ≡ map.get n q) → m ≡ n
same_stored m n same = map.same_map nat_cmp_total map.nat_cmp-IsAntisymmetric m n same

-- no entry before index i is the attribute's
abbrev pub NoneBefore : List Entry → ℕ → ℕ → Type 0
NoneBefore l f i = (j : ℕ) → j < i → feature_at l j ≢ f

none_before_tail : (x : Entry) (l : List Entry) (f i : ℕ) → NoneBefore (x ∷ l) f (suc i) → NoneBefore l f i
none_before_tail x l f i none j lt = none (suc j) (omega arith)

is_at_tail : (x : Entry) (l : List Entry) (f i : ℕ) → IsAt (x ∷ l) f (suc i) → IsAt l f i
is_at_tail x l f i at = record { in_range = omega (arith, at.in_range); has_feature = at.has_feature }

pub found_absent : (l : List Entry) (f : ℕ) → NoneBefore l f (length l) → found l f ≡ None
found_absent [] f none = refl
found_absent (x ∷ l) f none = grind (arith, nat_tests, none 0 (omega arith), found_absent l f (none_before_tail x l f _ none))

pub found_present : (l : List Entry) (f i : ℕ) → IsAt l f i → NoneBefore l f i → found l f ≡ kept (stored_of (get_or l i (place_for 0)))
found_present [] f i at none = absurd (omega (arith, at.in_range))
found_present (x ∷ l) f zero at none = grind (arith, nat_tests, at.has_feature)
found_present (x ∷ l) f (suc i) at none = grind (arith, nat_tests, none 0 (omega arith), found_present l f i (is_at_tail x l f i at) (none_before_tail x l f i none))

-- if an entry is written over the entry of its attribute, a look-up finds the new entry
pub found-set : (l : List Entry) (f i : ℕ) (e : Entry) → e.feature.0 ≡ f → IsAt l f i → NoneBefore l f i → (q : ℕ) → found (set l i e) q ≡ (if eqb q f then kept (stored_of e) else found l q)
found-set [] f i e is at none q = absurd (omega (arith, at.in_range))
found-set (x ∷ l) f zero e is at none q = grind (arith, nat_tests, at.has_feature, is)
found-set (x ∷ l) f (suc i) e is at none q = grind (arith, nat_tests, none 0 (omega arith), found-set l f i e is (is_at_tail x l f i at) (none_before_tail x l f i none) q)

-- if an entry is put before all entries of its attribute, a look-up finds it
pub found-insert : (l : List Entry) (f i : ℕ) (e : Entry) → e.feature.0 ≡ f → NoneBefore l f i → (q : ℕ) → found (insert l i e) q ≡ (if eqb q f then kept (stored_of e) else found l q)
found-insert l f zero e is none q = ap (λ k. cond (eqb q k) (kept (stored_of e)) (found l q)) is
found-insert [] f (suc i) e is none q = ap (λ k. cond (eqb q k) (kept (stored_of e)) (found [] q)) is
found-insert (x ∷ l) f (suc i) e is none q = grind (arith, nat_tests, none 0 (omega arith), found-insert l f i e is (none_before_tail x l f i none) q)

nothing_kept : (list : List _) (flag : Bool) → unwrap_or (kept (record { list = list; flag = flag })) nothing_stored ≡ record { list = list; flag = flag }
nothing_kept [] false = refl
nothing_kept [] true = refl
nothing_kept (v ∷ vs) false = refl
nothing_kept (v ∷ vs) true = refl

-- a look-up returns the stored list and flag; if there is no entry, these are empty
pub unwrap_or-kept : (h : Stored) → unwrap_or (kept h) nothing_stored ≡ h
unwrap_or-kept h = nothing_kept h.list h.flag

-- the list and the flag that are found are stored
found-kept : (l : List Entry) (q : ℕ) → kept (unwrap_or (found l q) nothing_stored) ≡ found l q
found-kept [] q = refl
found-kept (e ∷ l) q = elim (eqb q e.feature.0) as (λ b. kept (unwrap_or (cond b (kept (stored_of e)) (found l q)) nothing_stored) ≡ cond b (kept (stored_of e)) (found l q)) [
  | true ↦ ap kept (unwrap_or-kept (stored_of e))
  | false ↦ found-kept l q
]

found_again : (l : List Entry) (f q : ℕ) → cond (eqb q f) (kept (unwrap_or (found l f) nothing_stored)) (found l q) ≡ found l q
found_again l f q = grind (arith, nat_tests, found-kept l f)

-- storing the stored list and flag again changes nothing
pub with_stored_same : (l : List Entry) (f : ℕ) → with_stored (stored_in l) f (unwrap_or (map.get (stored_in l) f) nothing_stored) ≡ stored_in l
with_stored_same l f = same_stored _ _ (λ q. get-with_stored (stored_in l) f _ q ∙ ap (λ o. cond (eqb q f) (kept (unwrap_or o nothing_stored)) (map.get (stored_in l) q)) (get-stored_in l f) ∙ ap (λ o. cond (eqb q f) (kept (unwrap_or (found l f) nothing_stored)) o) (get-stored_in l q) ∙ found_again l f q ∙ sym (get-stored_in l q))
