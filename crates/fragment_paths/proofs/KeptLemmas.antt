-- The remembered fragments as a map: its entries, and the map after an insert.
use Rattle.std.proofs.Common.{◌≡◌, ◌∙◌, ℕ, ◌+◌, ◌≤◌, Bool, true, false, ◌&&◌, not, cond, List, [], ◌∷◌, Option, Some, Result, Ok, Err, length, nat_eq, refl, sym, ap, inl, inr, arith}
use Rattle.std.specs.Prelude.{◌⊎◌, OnOk, OnErr, IfOk, is_some, nat_le, if◌then◌else◌}
use Rattle.std.specs.FinMap as map
use Rattle.std.specs.FinMap.{nat_cmp-IsAntisymmetric}
use Rattle.std.specs.Map.{lookup}
use Rattle.std.specs.Ordering.{eq_by_cmp, nat_cmp}
use Rattle.std.proofs.lemmas.Bool.Decides.{nat_tests}
use Rattle.std.proofs.lemmas.Cmp.{nat_cmp_total}
use Rattle.mm_types.specs.declared.numbers.ObjectNo.{ObjectNo}
use Rattle.fragment_paths.specs.Kept.{Kept, is_full_for, kept_map, with_room}
use Rattle.mm_meta.proofs.OwnerLemmas.{nat_eq-turned}

tied : (x y : ℕ) → eq_by_cmp nat_cmp x y ≡ nat_eq x y
tied x y = grind (arith, nat_tests)

find-lookup : (es : List (ℕ × List ℕ)) (q : ℕ) → map.find nat_cmp q es ≡ lookup (nat_eq q) es
find-lookup [] q = refl
find-lookup (e ∷ es) q = λ i. cond (tied q e.0 i) (Some e.1) (find-lookup es q i)

-- the text of an object is the text of its entry
pub get-kept : (es : List (ℕ × List ℕ)) (q : ℕ) → map.get (kept_map es) q ≡ lookup (nat_eq q) es
get-kept es q = map.get-from_entries nat_cmp_total es q ∙ find-lookup es q

-- entries that have one text more are the map with that text
pub kept-insert : (es ds : List (ℕ × List ℕ)) (k : ℕ) (v : List ℕ) → ((q : ℕ) → lookup (nat_eq q) ds ≡ cond (nat_eq k q) (Some v) (lookup (nat_eq q) es)) → kept_map ds ≡ map.insert (kept_map es) k v
kept-insert es ds k v has =
    map.same_map nat_cmp_total nat_cmp-IsAntisymmetric (kept_map ds) (map.insert (kept_map es) k v)
    (λ q. get-kept ds q ∙ has q ∙ (λ i. cond ((nat_eq-turned k q ∙ sym (tied q k)) i) (Some v) (sym (get-kept es q) i)) ∙ sym (map.get-insert nat_cmp_total (kept_map es) k v q))

-- each object has at most one entry, and there are no more entries than the limit
abbrev pub AreKept : List (ℕ × List ℕ) → Type 0
AreKept es = (map.len (kept_map es) ≡ length es) × (length es ≤ 1024)

pub insert-kept : (es ds : List (ℕ × List ℕ)) (k : ℕ) (v : List ℕ) → ((q : ℕ) → lookup (nat_eq q) ds ≡ cond (nat_eq k q) (Some v) (lookup (nat_eq q) es))
    → length ds ≡ length es + cond (is_some (lookup (nat_eq k) es)) 0 1 → AreKept es → (nat_le 1024 (map.len (kept_map es)) && not (map.contains_key (kept_map es) k)) ≡ false → AreKept ds
insert-kept es ds k v has longer old free =
    by (is_some (lookup (nat_eq k) es)) (ap is_some (get-kept es k)) (ap map.len (kept-insert es ds k v has) ∙ map.len-insert nat_cmp_total (kept_map es) k v) longer
  where
    by : (b : Bool) → map.contains_key (kept_map es) k ≡ b → map.len (kept_map ds) ≡ cond (map.contains_key (kept_map es) k) (map.len (kept_map es)) (map.len (kept_map es) + 1) → length ds ≡ length es + cond b 0 1 → AreKept ds
    by true has_key len more = (len ∙ ap (λ b. cond b (map.len (kept_map es)) (map.len (kept_map es) + 1)) has_key ∙ omega (arith, more, old.0), omega (arith, more, old.1))
    by false has_key len more =
        let few : nat_le 1024 (map.len (kept_map es)) ≡ false = not-full (nat_le 1024 (map.len (kept_map es))) (ap (λ b. nat_le 1024 (map.len (kept_map es)) && not b) (sym has_key) ∙ free) in
        (len ∙ ap (λ b. cond b (map.len (kept_map es)) (map.len (kept_map es) + 1)) has_key ∙ omega (arith, more, old.0), below (map.len (kept_map es)) (length es) (length ds) few old.0 more)
      where
        not-full : (b : Bool) → (b && true) ≡ false → b ≡ false
        not-full true h = h
        not-full false h = refl

        below : (n e d : ℕ) → nat_le 1024 n ≡ false → n ≡ e → d ≡ e + 1 → d ≤ 1024
        below n e d few same more = grind (arith, nat_tests)

-- of two facts, one for each outcome, the one of the actual outcome
pub either : {A B P Q : Type 0} (r : Result A B) → OnOk r P → OnErr r Q → P ⊎ Q
either (Ok a) p q = inl p
either (Err b) p q = inr q

-- how many entries are added, by whether there was one before
pub longer-by : {A B : Type 0} (r : Result (Option A) B) (was : Option A) (n m : ℕ) → IfOk r (λ old. old ≡ was) → IfOk r (λ old. n ≡ m + cond (is_some old) 0 1) → OnOk r (n ≡ m + cond (is_some was) 0 1)
longer-by (Ok old) was n m same more = more ∙ ap (λ o. m + cond (is_some o) 0 1) same
longer-by (Err b) was n m same more = tt

-- a fact that is the same in both outcomes
pub both-ok : {A B : Type 0} (P Q : Type 0) (r : Result A B) → OnOk r P → OnOk r Q → OnOk r (P × Q)
both-ok P Q (Ok a) p q = (p, q)
both-ok P Q (Err b) p q = tt

-- there is capacity for an object after it was made
pub room-made : (m : Kept) (o : ObjectNo) → is_full_for (with_room m o) o ≡ false
room-made m o =
    elim (is_full_for m o) as (λ b. is_full_for m o ≡ b → is_full_for (if b then map.empty else m) o ≡ false) [
      | true ↦ λ h. ap (λ (n : ℕ). nat_le 1024 n && not (map.contains_key {R = nat_cmp} (map.empty {X = List ℕ}) o.0)) (map.len-empty nat_cmp (List ℕ))
      | false ↦ λ h. h
    ] refl
