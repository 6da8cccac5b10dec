-- The name before the first space of a text.
use Rattle.std.proofs.Common.{◌∙◌, ◌≡◌, ◌≢◌, ◌+◌, ◌<◌, ◌≤◌, ℕ, zero, suc, Bool, true, false, List, [], ◌∷◌, None, Some, ap, arith, cond, drop, get_or, length, nat_lt, not, refl, slice_index, sym, take, true≢false}
use Rattle.std.specs.Char.{is_ascii_digit}
use Rattle.std.specs.List.{after_first, before_first, list_all, position_or_len, prefix_len}
use Rattle.std.proofs.lemmas.Bool.Decides.{nat_tests}
use Rattle.std.proofs.lemmas.Bool.{and_parts}
use Rattle.std.proofs.lemmas.List.Sums.{passes_at_first, prefix_len-le-length}
use Rattle.mm_types.specs.Names.{is_name, is_name_byte}
use Rattle.script_lines.specs.Values.{name_in}
use Rattle.script_lines.specs.Words.{is_space}
use Rattle.script_lines.proofs.NumberLemmas.{all_in_front, front_first}
use Rattle.script_lines.proofs.WordLemmas.{first_space}

-- all bytes before the first one that fails a test pass it
pub first_failing : (p : ℕ → Bool) (xs : List ℕ) → position_or_len (λ x. not (p x)) xs ≡ prefix_len p xs
first_failing p [] = refl
first_failing p (x ∷ xs) = at (p x) (first_failing p xs)
  where
    at : (b : Bool) → position_or_len (λ x. not (p x)) xs ≡ prefix_len p xs
        → cond (not (not b)) (1 + position_or_len (λ x. not (p x)) xs) 0 ≡ cond b (1 + prefix_len p xs) 0
    at true h = ap (λ n. 1 + n) h
    at false h = refl

pub name_byte_no_space : (c : ℕ) → is_name_byte c ≡ true → is_space c ≡ false
name_byte_no_space c h = grind (arith, nat_tests)

name_from : (w : List ℕ) → 0 < length w → list_all is_name_byte w ≡ true → is_ascii_digit (slice_index w 0) ≡ false → name_in w ≡ Some w
name_from w some all first = let l : nat_lt 0 (length w) ≡ true = grind (arith, nat_tests) in rw (l, all, first) refl

some_taken : (text : List ℕ) (len : ℕ) → 0 < len → len ≤ length text → 0 < length (take len text)
some_taken [] len some within = absurd (omega arith)
some_taken (c ∷ cs) zero some within = absurd (omega arith)
some_taken (c ∷ cs) (suc k) some within = omega arith

-- the bytes of a name, and then a space or the end
pub name_before : (text : List ℕ) (len : ℕ) → len ≡ prefix_len is_name_byte text → 0 < len → is_ascii_digit (get_or text 0 0) ≡ false
    → (len < length text → get_or text len 0 ≡ 32) → (name_in (before_first is_space text) ≡ Some (take len text)) × (drop (len + 1) text ≡ after_first is_space text)
name_before text len is some first space =
    let within : len ≤ length text = let h = prefix_len-le-length is_name_byte text in omega arith in
    let all : list_all is_name_byte (take len text) ≡ true = rw is (all_in_front is_name_byte text) in
    let at : position_or_len is_space text ≡ len = first_space is_name_byte name_byte_no_space text len all within space in
    let other : is_ascii_digit (get_or (take len text) 0 0) ≡ false = rw (front_first text len some) first in
    (rw at (name_from (take len text) (some_taken text len some within) all other), ap (λ k. drop (k + 1) text) (sym at))

-- ---- no name

-- if all bytes before the first space are name bytes, the first byte that is none is that space
name_len : (text : List ℕ) → list_all is_name_byte (before_first is_space text) ≡ true → prefix_len is_name_byte text ≡ position_or_len is_space text
name_len [] h = refl
name_len (c ∷ cs) h = at (is_space c) (is_name_byte c) refl refl h (name_len cs)
  where
    at : (b d : Bool) → is_space c ≡ b → is_name_byte c ≡ d → list_all is_name_byte (take (cond (not b) (1 + position_or_len is_space cs) 0) (c ∷ cs)) ≡ true
        → (list_all is_name_byte (before_first is_space cs) ≡ true → prefix_len is_name_byte cs ≡ position_or_len is_space cs)
        → cond d (1 + prefix_len is_name_byte cs) 0 ≡ cond (not b) (1 + position_or_len is_space cs) 0
    at true true e f h more = absurd (true≢false (sym e ∙ name_byte_no_space c f))
    at true false e f h more = refl
    at false true e f h more =
        let n : 1 + position_or_len is_space cs ≡ suc (position_or_len is_space cs) = omega arith in
        let all = rw (n, f) at h in
        ap (λ k. 1 + k) (more all)
    at false false e f h more =
        let n : 1 + position_or_len is_space cs ≡ suc (position_or_len is_space cs) = omega arith in
        absurd (true≢false (sym (rw (n, f) at h)))

no_name : (w : List ℕ) → (is_name w ≡ true → ⊥) → None ≡ name_in w
no_name w h = at (is_name w) h
  where
    at : (b : Bool) → (b ≡ true → ⊥) → None ≡ cond b (Some w) None
    at true h = absurd (h refl)
    at false h = refl

named_len : (text : List ℕ) (len : ℕ) → len ≡ prefix_len is_name_byte text → is_name (before_first is_space text) ≡ true → len ≡ position_or_len is_space text
named_len text len is h =
    let parts = and_parts (nat_lt 0 (length (before_first is_space text))) _ h in
    is ∙ name_len text (and_parts _ _ parts.1).0

-- only a space ends a name
pub other_no_name : (text : List ℕ) (len : ℕ) → len ≡ prefix_len is_name_byte text → len < length text → get_or text len 0 ≢ 32
    → None ≡ name_in (before_first is_space text)
other_no_name text len is within other = no_name (before_first is_space text) (λ h.
    let at : position_or_len is_space text ≡ len = sym (named_len text len is h) in
    let space : is_space (get_or text (position_or_len is_space text) 0) ≡ true = passes_at_first is_space text 0 (omega arith) in
    let found = rw at at space in
    other (grind (arith, nat_tests)))
