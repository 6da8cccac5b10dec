-- The first line of some bytes, and the lines of all of them.
use Rattle.std.proofs.Common.{◌++◌, ◌⊎◌, inl, inr, ◌∙◌, ◌==◌, ◌≡◌, ◌+◌, ◌-◌, ◌<◌, ℕ, suc, Bool, true, false, List, [], ◌∷◌, ap, ap₂, arith, cond, drop, length, not, refl, sym, take}
use Rattle.std.specs.List.{after_first, before_first, list_all, position_or_len}
use Rattle.std.proofs.lemmas.Bool.Decides.{nat_tests}
use Rattle.std.proofs.lemmas.List.{length-drop}
use Rattle.std.proofs.lemmas.List.Sums.{position_or_len_is}
use Rattle.std.proofs.lemmas.Bool.{false_from_ne_true}
use Rattle.memchr.specs.Find.{NoneBefore, Nowhere, Passes, is_byte}
use Rattle.script_lines.specs.Lines.{IsCut, has_no_newline, is_newline, lines, with_byte, with_newlines}

pub newline_at : (bs : List ℕ) (n : ℕ) → NoneBefore (Passes (is_byte 10) bs) 0 (length bs) n → Passes (is_byte 10) bs n → n ≡ position_or_len is_newline bs
newline_at bs n before here =
    sym (position_or_len_is is_newline bs n 0 (let h = before.high in omega arith) (λ k low. false_from_ne_true _ (before.before k (omega arith) low)) (λ low. here))

pub no_newline : (bs : List ℕ) → Nowhere (Passes (is_byte 10) bs) 0 (length bs) → length bs ≡ position_or_len is_newline bs
no_newline bs nowhere =
    sym (position_or_len_is is_newline bs (length bs) 0 (omega arith) (λ k low. false_from_ne_true _ (nowhere k (omega arith) low)) (λ low. absurd (omega arith)))

-- the lines of some bytes are the first line and the lines of the bytes after it
first_at : (b : Bool) (c : ℕ) (cs : List ℕ) (n : ℕ) → lines cs ≡ take n cs ∷ lines (drop (n + 1) cs)
    → cond b ([] ∷ lines cs) (with_byte c (lines cs)) ≡ take (cond (not b) (1 + n) 0) (c ∷ cs) ∷ lines (drop (cond (not b) (1 + n) 0 + 1) (c ∷ cs))
first_at true c cs n h = refl
first_at false c cs n h = let e : 1 + n + 1 ≡ suc (n + 1) = omega arith in let f : 1 + n ≡ suc n = omega arith in rw (e, f) (ap (with_byte c) h)

first_only : (b : Bool) (c : ℕ) → cond b ([] ∷ []) ((c ∷ []) ∷ []) ≡ take (cond (not b) (1 + 0) 0) (c ∷ []) ∷ lines (drop (cond (not b) (1 + 0) 0 + 1) (c ∷ []))
first_only true c = refl
first_only false c = refl

pub first_line : (bs : List ℕ) → 0 < length bs → lines bs ≡ before_first is_newline bs ∷ lines (after_first is_newline bs)
first_line [] some = absurd (omega arith)
first_line (c ∷ []) some = first_only (is_newline c) c
first_line (c ∷ d ∷ ds) some = first_at (is_newline c) c (d ∷ ds) (position_or_len is_newline (d ∷ ds)) (first_line (d ∷ ds) (omega arith))

-- some bytes are cut after their first line
pub cut_first : (bytes line rest : List ℕ) → 0 < length bytes → line ≡ before_first is_newline bytes → rest ≡ after_first is_newline bytes → IsCut bytes line rest
cut_first bytes line rest some line_is rest_is =
    let len : length rest ≡ length bytes - (position_or_len is_newline bytes + 1) = ap length rest_is ∙ length-drop _ bytes in
    record {
      line_is = line_is;
      rest_is = rest_is;
      shorter = omega (arith, len, some);
      lines_are = first_line bytes some ∙ sym (ap₂ (λ l ls. l ∷ lines ls) line_is rest_is);
    }

-- ---- a script is its lines

whole_at : (b : Bool) (c : ℕ) (cs : List ℕ) (ls : List (List ℕ)) → (c == 10) ≡ b → (with_newlines ls ≡ cs) ⊎ (with_newlines ls ≡ cs ++ 10 ∷ [])
    → (with_newlines (cond b ([] ∷ ls) (with_byte c ls)) ≡ c ∷ cs) ⊎ (with_newlines (cond b ([] ∷ ls) (with_byte c ls)) ≡ c ∷ cs ++ 10 ∷ [])
whole_at true c cs ls is (inl h) = let e : 10 ≡ c = grind (arith, nat_tests) in inl (ap₂ (λ d x. d ∷ x) e h)
whole_at true c cs ls is (inr h) = let e : 10 ≡ c = grind (arith, nat_tests) in inr (ap₂ (λ d x. d ∷ x) e h)
whole_at false c cs [] is (inl h) = inr (ap (λ x. c ∷ x ++ 10 ∷ []) h)
whole_at false c [] [] is (inr h) = absurd (let e : 0 ≡ 1 = ap length h in omega arith)
whole_at false c (d ∷ cs) [] is (inr h) = absurd (let e : 0 ≡ suc (length (cs ++ 10 ∷ [])) = ap length h in omega arith)
whole_at false c cs (l ∷ ls) is (inl h) = inl (ap (λ x. c ∷ x) h)
whole_at false c cs (l ∷ ls) is (inr h) = inr (ap (λ x. c ∷ x) h)

pub whole : (bytes : List ℕ) → (with_newlines (lines bytes) ≡ bytes) ⊎ (with_newlines (lines bytes) ≡ bytes ++ 10 ∷ [])
whole [] = inl refl
whole (c ∷ cs) = whole_at (c == 10) c cs (lines cs) refl (whole cs)

cut_at : (b : Bool) (c : ℕ) (ls : List (List ℕ)) → (c == 10) ≡ b → list_all has_no_newline ls ≡ true
    → list_all has_no_newline (cond b ([] ∷ ls) (with_byte c ls)) ≡ true
cut_at true c ls is h = h
cut_at false c [] is h = rw is refl
cut_at false c (l ∷ ls) is h = rw is h

pub cut : (bytes : List ℕ) → list_all has_no_newline (lines bytes) ≡ true
cut [] = refl
cut (c ∷ cs) = cut_at (c == 10) c (lines cs) refl (cut cs)
