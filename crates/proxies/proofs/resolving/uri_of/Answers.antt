use Rattle.std.proofs.Common.{◌≡◌, ◌≤◌, ◌+◌, ℕ, suc, Bool, false, cond, not, List, [], ◌∷◌, length, sym, subst, arith}
use Rattle.std.specs.List.{list_any, position_or_len}
use Rattle.std.proofs.lemmas.Bool.{or_parts}
use Rattle.std.proofs.lemmas.List.{take_all}
use Rattle.web_uris.specs.Joined.{is_mark}
use Rattle.proxies.proofs.resolving.uri_of.Goals as goal

-- if no byte passes, the first position is past the list
past-none : (p : ℕ → Bool) (xs : List ℕ) → list_any p xs ≡ false → length xs ≤ position_or_len p xs
past-none p [] none = omega arith
past-none p (x ∷ xs) none =
    let neither = or_parts (p x) (list_any p xs) none in
    let rest = past-none p xs neither.1 in
    subst (λ (b : Bool). suc (length xs) ≤ cond (not b) (1 + position_or_len p xs) 0) (sym neither.0) (omega (arith, rest))

pub returns-in-None : goal.returns-in-None
returns-in-None c = sym (take_all (position_or_len is_mark c.args.text.now) c.args.text.now (past-none is_mark c.args.text.now c.in-None.ensures))
