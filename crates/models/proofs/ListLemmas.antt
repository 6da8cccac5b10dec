-- Copying a list, one value after another.
use Rattle.std.proofs.Common.{◌≡◌, ◌<◌, ◌≤◌, ◌+◌, ◌∙◌, ℕ, zero, suc, List, [], ◌∷◌, ◌++◌, drop, length, slice_get, slice_index_or, unwrap_or, append_assoc, arith, refl, sym, ap}
use Rattle.std.proofs.lemmas.List.{append-nil, drop_all, drop_more}
use Rattle.mm_types.specs.declared.value.Value.{Value}
use Rattle.mm_types.specs.declared.value.Value.TheVariants.{Null}

get-within : (vs : List Value) (k : ℕ) → k < length vs → unwrap_or (slice_get vs k) Null ≡ slice_index_or vs k Null
get-within [] k h = absurd (omega (arith, h))
get-within (w ∷ ws) zero h = refl
get-within (w ∷ ws) (suc k) h = get-within ws k (omega (arith, h))

-- one value further
pub one-further : (vs out new all : List Value) (k : ℕ) (v : Value) → k < length vs → new ≡ out ++ v ∷ [] → v ≡ unwrap_or (slice_get vs k) Null → out ++ drop k vs ≡ all → new ++ drop (k + 1) vs ≡ all
one-further vs out new all k v low made is whole =
    ap (λ os. os ++ drop (k + 1) vs) made
    ∙ append_assoc out (v ∷ []) (drop (k + 1) vs)
    ∙ ap (λ (w : Value). out ++ w ∷ drop (k + 1) vs) (is ∙ get-within vs k low)
    ∙ ap (λ ws. out ++ ws) (sym (drop_more vs k Null low))
    ∙ whole

pub all-read : (vs out all : List Value) (k : ℕ) → length vs ≤ k → out ++ drop k vs ≡ all → out ≡ all
all-read vs out all k past whole = sym (ap (λ ws. out ++ ws) (drop_all k vs past) ∙ append-nil out) ∙ whole
