-- Adapters that are put into the pool, and taken out.
use Rattle.std.proofs.Common.{◌≡◌, ◌∙◌, ℕ, zero, suc, List, [], ◌∷◌, map, slice_get, slice_set, Option, Some, None, option_map, option_and_then, Ok, refl, sym, ap}
use Rattle.std.specs.Option.{option_map_or}
use Rattle.std.specs.Result.{result_ok}
use Rattle.std.proofs.lemmas.Option.{none-some}
use Rattle.mm_types.specs.declared.numbers.AdapterNo.{AdapterNo}
use Rattle.notice_chain.specs.View.{View}
use Rattle.script_program.specs.Pool.{Pool, box_in, box_of, index, pool_without, with_box, with_entry}

-- putting an element where it is, or past the end, changes nothing
set-there : {X : Type 0} (xs : List X) (i : ℕ) (x : X) → slice_get xs i ≡ Some x → slice_set xs i x ≡ xs
set-there [] i x h = refl
set-there {X = X} (y ∷ xs) zero x h = ap (λ (o : Option X). option_map_or (λ z. z ∷ xs) o (y ∷ xs)) (sym h)
set-there {X = X} (y ∷ xs) (suc i) x h = ap (λ (zs : List X). y ∷ zs) (set-there xs i x h)

set-past : {X : Type 0} (xs : List X) (i : ℕ) (x : X) → slice_get xs i ≡ None → slice_set xs i x ≡ xs
set-past [] i x h = refl
set-past (y ∷ xs) zero x h = absurd (none-some _ (sym h))
set-past {X = X} (y ∷ xs) (suc i) x h = ap (λ (zs : List X). y ∷ zs) (set-past xs i x h)

set-twice : {X : Type 0} (xs : List X) (i : ℕ) (x y : X) → slice_set (slice_set xs i x) i y ≡ slice_set xs i y
set-twice [] i x y = refl
set-twice (z ∷ xs) zero x y = refl
set-twice {X = X} (z ∷ xs) (suc i) x y = ap (λ (zs : List X). z ∷ zs) (set-twice xs i x y)

map-entry : {A : Type 0} (heard : A → View) (xs : List (Option A)) (i : ℕ) (o : Option A) → map (λ o. option_map heard o) (slice_set xs i o) ≡ slice_set (map (λ o. option_map heard o) xs) i (option_map heard o)
map-entry heard [] i o = refl
map-entry heard (x ∷ xs) zero o = refl
map-entry heard (x ∷ xs) (suc i) o = ap (λ (zs : Pool). option_map heard x ∷ zs) (map-entry heard xs i o)

pub with_entry-set : {A : Type 0} (heard : A → View) (xs : List (Option A)) (number : AdapterNo) (i : ℕ) (o : Option A) → index number ≡ Some i → map (λ o. option_map heard o) (slice_set xs i o) ≡ with_entry (option_map heard o) (map (λ o. option_map heard o) xs) number
with_entry-set heard xs number i o e = map-entry heard xs i o ∙ ap (λ (p : Option ℕ). option_map_or (λ k. slice_set (map (λ o. option_map heard o) xs) k (option_map heard o)) p (map (λ o. option_map heard o) xs)) (sym e)

pub nothing-taken : (pool : Pool) (number : AdapterNo) → option_and_then (slice_get pool) (index number) ≡ Some None → with_entry None pool number ≡ pool
nothing-taken pool number = at (index number)
  where
    at : (p : Option ℕ) → option_and_then (slice_get pool) p ≡ Some None → option_map_or (λ i. slice_set pool i None) p pool ≡ pool
    at None h = refl
    at (Some i) h = set-there pool i None h

pub nowhere-to-put : (o : Option View) (pool : Pool) (number : AdapterNo) → option_and_then (slice_get pool) (index number) ≡ None → with_entry o pool number ≡ pool
nowhere-to-put o pool number = at (index number)
  where
    at : (p : Option ℕ) → option_and_then (slice_get pool) p ≡ None → option_map_or (λ i. slice_set pool i o) p pool ≡ pool
    at None h = refl
    at (Some i) h = set-past pool i o h

-- after an adapter is taken out and put back, the pool is as it was
pub put-back : (pool : Pool) (number : AdapterNo) (v : View) → box_of pool number ≡ Ok v → with_box (pool_without pool number) (number, v) ≡ pool
put-back pool number v = at (index number)
  where
    boxed : (o : Option (Option View)) → box_in o ≡ Ok v → o ≡ Some (Some v)
    boxed None h = cc
    boxed (Some None) h = cc
    boxed (Some (Some w)) h = ap (λ r. Some (result_ok r)) h

    at : (p : Option ℕ) → box_in (option_and_then (slice_get pool) p) ≡ Ok v → option_map_or (λ i. slice_set (option_map_or (λ k. slice_set pool k None) p pool) i (Some v)) p (option_map_or (λ k. slice_set pool k None) p pool) ≡ pool
    at None h = refl
    at (Some i) h = set-twice pool i None (Some v) ∙ set-there pool i (Some v) (boxed _ h)
