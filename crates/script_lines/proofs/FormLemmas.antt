-- Forms of a line, by cases.
use Rattle.std.proofs.Common.{◌≡◌, ◌∙◌, ◌≤◌, ◌&&◌, ◌+◌, ℕ, suc, nat_eq, not, Bool, true, false, List, [], ◌∷◌, None, IsUtf8, ap, arith, codes, cond, if◌then◌else◌, length, refl, take}
use Rattle.std.specs.List.{before_first, position_or_len}
use Rattle.std.specs.Str.{bytes_eq, is_utf8}
use Rattle.std.proofs.lemmas.Bool.{or_parts}
use Rattle.std.proofs.lemmas.Str.{IsUtf8-from_is_utf8, is_utf8-from_IsUtf8}
use Rattle.script_lines.specs.Words.{after_spaces, is_space, words}
use Rattle.script_lines.specs.Forms.{form, form_of, is_load, line_of, may_load, text_line}
use Rattle.script_lines.specs.declared.line.Line.TheVariants.{Bad}

-- ---- numbers of words

pub many_words : (ws : List (List ℕ)) → 6 ≤ length ws → None ≡ form_of ws
many_words [] many = absurd (omega arith)
many_words (v ∷ []) many = absurd (omega arith)
many_words (v ∷ a ∷ []) many = absurd (omega arith)
many_words (v ∷ a ∷ b ∷ []) many = absurd (omega arith)
many_words (v ∷ a ∷ b ∷ c ∷ []) many = absurd (omega arith)
many_words (v ∷ a ∷ b ∷ c ∷ d ∷ []) many = absurd (omega arith)
many_words (v ∷ a ∷ b ∷ c ∷ d ∷ e ∷ ws) many = refl

-- the first words determine the form
pub first_words : (ws : List (List ℕ)) → line_of (take 6 ws) ≡ line_of ws
first_words [] = refl
first_words (v ∷ []) = refl
first_words (v ∷ a ∷ []) = refl
first_words (v ∷ a ∷ b ∷ []) = refl
first_words (v ∷ a ∷ b ∷ c ∷ []) = refl
first_words (v ∷ a ∷ b ∷ c ∷ d ∷ []) = refl
first_words (v ∷ a ∷ b ∷ c ∷ d ∷ e ∷ ws) = refl

-- ---- texts and other bytes

at_false : {X : Type 0} (b : Bool) (x y : X) → (b ≡ true → y ≡ x) → y ≡ cond b x y
at_false true x y h = h refl
at_false false x y h = refl

-- bytes that are no text have no form
pub not_text : (bytes : List ℕ) → ¬ (IsUtf8 bytes) → Bad ≡ form bytes
unfolding form
not_text bytes h = at_false (is_utf8 bytes) _ Bad (λ e. absurd (h (IsUtf8-from_is_utf8 bytes e)))

pub text_form : (bytes : List ℕ) → IsUtf8 bytes → form bytes ≡ text_line bytes
unfolding form
text_form bytes h = let e = is_utf8-from_IsUtf8 bytes h in rw e refl

-- a line that begins with another letter has another verb
pub no_load_begins : (bytes : List ℕ) → may_load bytes ≡ false → is_load bytes ≡ false
no_load_begins [] h = refl
no_load_begins (c ∷ cs) h =
    let both = or_parts (is_space c) (nat_eq c 108) h in
    let more : 1 + position_or_len is_space cs ≡ suc (position_or_len is_space cs) = omega arith in
    ap (λ (b : Bool). bytes_eq (before_first is_space (if b then after_spaces cs else c ∷ cs)) (codes "load")) both.0
    ∙ ap (λ (b : Bool). bytes_eq (take (cond (not b) (1 + position_or_len is_space cs) 0) (c ∷ cs)) (codes "load")) both.0
    ∙ ap (λ (n : ℕ). bytes_eq (take n (c ∷ cs)) (codes "load")) more
    ∙ ap (λ (b : Bool). b && bytes_eq (take (position_or_len is_space cs) cs) (codes "oad")) both.1

-- a line with another verb is cut into words
pub other_line : (bytes : List ℕ) → is_load bytes ≡ false → text_line bytes ≡ line_of (words bytes)
other_line bytes h = rw h refl
