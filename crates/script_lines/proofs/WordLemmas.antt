-- One step through the words of a line.
use Rattle.std.proofs.Common.{ap, ◌∙◌, ◌&&◌, ◌==◌, sub-one, ◌≡◌, ◌≢◌, ◌+◌, ◌-◌, ◌<◌, ◌≤◌, ◌++◌, ℕ, zero, suc, Bool, true, false, List, [], ◌∷◌, None, Some, nat_lt, add-one, append_assoc, arith, cond, drop, drop-cons, get_or, length, not, position, refl, sym, take, true≢false}
use Rattle.std.proofs.lemmas.Bool.{and_parts, or_parts}
use Rattle.std.proofs.lemmas.Bool.Decides.{nat_tests}
use Rattle.std.proofs.lemmas.List.{drop_all}
use Rattle.std.proofs.lemmas.List.Quantifiers.{position-Some}
use Rattle.std.proofs.lemmas.List.Sums.{passes_at_first, prefix_len-le-length}
use Rattle.std.proofs.Math.Seq.{drop-length, take-length}
use Rattle.std.specs.List.{after_first, before_first, list_all, position_or_len}
use Rattle.script_lines.specs.Words.{begins_word, is_mark, is_one_word, is_space, quoted_len, word_len, words_after}

-- ---- the length of a word

some_at : (b : Bool) (k n : ℕ) → cond b (Some k) None ≡ Some n → n ≡ k
some_at true k n h = cc
some_at false k n h = cc

none_at : (b : Bool) (k l : ℕ) → nat_lt k l ≡ b → k ≤ l → cond b (Some k) None ≡ None → l ≡ k
none_at true k l is low h = cc
none_at false k l is low h = grind (arith, nat_tests)

pub first_at : (p : ℕ → Bool) (bs : List ℕ) (n : ℕ) → position p bs ≡ Some n → n ≡ position_or_len p bs
first_at p bs n h = some_at _ _ n h

pub none_in : (p : ℕ → Bool) (bs : List ℕ) → position p bs ≡ None → length bs ≡ position_or_len p bs
none_in p bs h = none_at _ _ (length bs) refl (prefix_len-le-length _ bs) h

pub space_is : (bs : List ℕ) (n : ℕ) → position is_space bs ≡ Some n → get_or bs n 0 ≡ 32
space_is bs n h = let e = position-Some is_space bs n 0 h in grind (arith, nat_tests)

head_at : (e : Bool) (bs : List ℕ) (i : ℕ) → i < length bs → quoted_len e (drop i bs) ≡ quoted_len e (get_or bs i 0 ∷ drop (i + 1) bs)
head_at e bs i within = rw (add-one, drop-cons bs i 0) refl

pub quoted_escaped : (bs : List ℕ) (i n : ℕ) → i < length bs → i + quoted_len true (drop i bs) ≡ n
    → i + 1 + quoted_len false (drop (i + 1) bs) ≡ n
quoted_escaped bs i n within h = let e = head_at true bs i within in omega arith

pub quoted_backslash : (bs : List ℕ) (i n : ℕ) → i < length bs → get_or bs i 0 ≡ 92 → i + quoted_len false (drop i bs) ≡ n
    → i + 1 + quoted_len true (drop (i + 1) bs) ≡ n
quoted_backslash bs i n within is h = let e = head_at false bs i within in grind arith

pub quoted_other : (bs : List ℕ) (i n : ℕ) → i < length bs → get_or bs i 0 ≢ 34 → get_or bs i 0 ≢ 92
    → i + quoted_len false (drop i bs) ≡ n → i + 1 + quoted_len false (drop (i + 1) bs) ≡ n
quoted_other bs i n within quote slash h = let e = head_at false bs i within in grind arith

-- the first mark ends the quoted part, if it is a quotation mark
pub quoted_unescaped : (bs : List ℕ) (i : ℕ) → i < length bs → ((k : ℕ) → k < i → is_mark (get_or bs k 0) ≡ false) → get_or bs i 0 ≡ 34
    → quoted_len false bs ≡ i + 1 + position_or_len is_space (drop (i + 1) bs)
quoted_unescaped [] i within none is = absurd (omega arith)
quoted_unescaped (c ∷ cs) zero within none is = let e : (c == 34) ≡ true = grind (arith, nat_tests) in rw e (omega arith)
quoted_unescaped (c ∷ cs) (suc i) within none is =
    let first = or_parts (c == 34) (c == 92) (none 0 (omega arith)) in
    let rest = quoted_unescaped cs i (omega arith) (λ k low. none (suc k) (omega arith)) is in
    let e : suc i + 1 ≡ suc (i + 1) = omega arith in
    rw (first.0, first.1, e, rest) (omega arith)

words_after-drop : (k : ℕ) (bs : List ℕ) → words_after k bs ≡ words_after 0 (drop k bs)
words_after-drop zero bs = refl
words_after-drop (suc k) [] = refl
words_after-drop (suc k) (c ∷ cs) = words_after-drop k cs

behind_first : (c : ℕ) (cs : List ℕ) (n : ℕ) → 0 < n → words_after (n - 1) cs ≡ words_after 0 (drop n (c ∷ cs))
behind_first c cs zero some = absurd (omega arith)
behind_first c cs (suc k) some = rw sub-one (words_after-drop k cs)

either_some : (b : Bool) (m n : ℕ) → 0 < cond b (suc m) (suc n)
either_some true m n = omega arith
either_some false m n = omega arith

first_word : (bs : List ℕ) → 0 < length bs → get_or bs 0 0 ≢ 32 → words_after 0 bs ≡ take (word_len bs) bs ∷ words_after 0 (drop (word_len bs) bs)
first_word [] some space = absurd (omega arith)
first_word (c ∷ cs) some space =
    let other : (c == 32) ≡ false = grind (arith, nat_tests) in
    rw other (ap (λ x. take (word_len (c ∷ cs)) (c ∷ cs) ∷ x) (behind_first c cs (word_len (c ∷ cs)) (either_some (c == 34) _ _)))

-- one more word is cut off
pub word_taken : (ws : List (List ℕ)) (rest : List ℕ) (all : List (List ℕ)) → 0 < length rest → get_or rest 0 0 ≢ 32
    → ws ++ words_after 0 rest ≡ all → (ws ++ take (word_len rest) rest ∷ []) ++ words_after 0 (drop (word_len rest) rest) ≡ all
word_taken ws rest all some space h = rw (append_assoc, ← first_word rest some space) h

found_at : (n : ℕ) (ws more : List (List ℕ)) → length ws ≤ n → (length ws < n → more ≡ []) → ws ≡ take n (ws ++ more)
found_at zero [] more few none = refl
found_at (suc n) [] more few none = let e : more ≡ [] = none (omega arith) in rw e refl
found_at zero (w ∷ ws) more few none = absurd (omega arith)
found_at (suc n) (w ∷ ws) more few none = ap (λ x. w ∷ x) (found_at n ws more (omega arith) (λ low. none (omega arith)))

none_after : (rest : List ℕ) → length rest ≡ 0 → words_after 0 rest ≡ []
none_after [] none = refl
none_after (c ∷ cs) none = absurd (omega arith)

-- the words found are the first six, if nothing is left or six are found
pub first_found : (ws : List (List ℕ)) (rest : List ℕ) (all : List (List ℕ)) → ws ++ words_after 0 rest ≡ all → length ws ≤ 6
    → (length ws < 6 → length rest ≡ 0) → ws ≡ take 6 all
first_found ws rest all is few none = found_at 6 ws (words_after 0 rest) few (λ low. none_after rest (none low)) ∙ ap (take 6) is

-- ---- a word without a quotation mark in front ends at the first space

skipped_at : (b : Bool) (c : ℕ) (cs : List ℕ) → is_space c ≡ b
    → words_after 0 (drop (position_or_len is_space cs) cs) ≡ words_after 0 (drop (position_or_len is_space cs + 1) cs)
    → words_after 0 (drop (cond (not b) (1 + position_or_len is_space cs) 0) (c ∷ cs))
    ≡ words_after 0 (drop (cond (not b) (1 + position_or_len is_space cs) 0 + 1) (c ∷ cs))
skipped_at true c cs is h = rw is refl
skipped_at false c cs is h =
    let n : ℕ = position_or_len is_space cs in
    let e : 1 + n + 1 ≡ suc (n + 1) = omega arith in
    let f : 1 + n ≡ suc n = omega arith in
    rw (e, f) h

-- the space after a word is skipped
space_skipped : (bs : List ℕ) → words_after 0 (drop (position_or_len is_space bs) bs) ≡ words_after 0 (drop (position_or_len is_space bs + 1) bs)
space_skipped [] = refl
space_skipped (c ∷ cs) = skipped_at (is_space c) c cs refl (space_skipped cs)

-- a text does not begin with a space or a quotation mark
abbrev pub begins_plain : List ℕ → Bool
begins_plain [] = false
begins_plain (c ∷ cs) = not (is_space c) && not (c == 34)

plain_at : (b q : Bool) (c : ℕ) (cs : List ℕ) → is_space c ≡ b → (c == 34) ≡ q → (not b && not q) ≡ true
    → words_after 0 (c ∷ cs) ≡ take (cond (not b) (1 + position_or_len is_space cs) 0) (c ∷ cs)
    ∷ words_after 0 (drop (cond (not b) (1 + position_or_len is_space cs) 0 + 1) (c ∷ cs))
plain_at true q c cs space quote h = absurd (true≢false (sym h))
plain_at false true c cs space quote h = absurd (true≢false (sym h))
plain_at false false c cs space quote h =
    let n : ℕ = position_or_len is_space cs in
    let e : 1 + n + 1 ≡ suc (n + 1) = omega arith in
    let f : 1 + n ≡ suc n = omega arith in
    rw (space, quote, sub-one, e, f) (ap (λ x. (c ∷ take n cs) ∷ x) (words_after-drop n cs ∙ space_skipped cs))

plain_cut_at : (bs : List ℕ) → begins_plain bs ≡ true → words_after 0 bs ≡ before_first is_space bs ∷ words_after 0 (after_first is_space bs)
plain_cut_at [] h = absurd (true≢false (sym h))
plain_cut_at (c ∷ cs) h = plain_at (is_space c) (c == 34) c cs refl refl h

cut_begins_at : (b : Bool) (c : ℕ) (cs : List ℕ) (n : ℕ) → is_space c ≡ b → begins_plain (take (cond (not b) (1 + n) 0) (c ∷ cs)) ≡ true
    → (not (is_space c) && not (c == 34)) ≡ true
cut_begins_at true c cs n is h = absurd (true≢false (sym h))
cut_begins_at false c cs n is h = let f : 1 + n ≡ suc n = omega arith in rw f at h

pub cut_begins : (bs : List ℕ) → begins_plain (before_first is_space bs) ≡ true → begins_plain bs ≡ true
cut_begins [] h = h
cut_begins (c ∷ cs) h = cut_begins_at (is_space c) c cs (position_or_len is_space cs) refl h

-- the bytes before the first space are the first word
pub plain_cut : (bs : List ℕ) → begins_plain (before_first is_space bs) ≡ true
    → words_after 0 bs ≡ before_first is_space bs ∷ words_after 0 (after_first is_space bs)
plain_cut bs h = plain_cut_at bs (cut_begins bs h)

-- a text that is as long as its first word is that word
pub whole_word : (bs : List ℕ) → 0 < length bs → get_or bs 0 0 ≢ 32 → word_len bs ≡ length bs → words_after 0 bs ≡ bs ∷ []
whole_word bs some space h = first_word bs some space ∙ (rw (h, take-length bs, drop-length bs) refl)

pub one_word : (bs : List ℕ) → is_one_word bs ≡ true → words_after 0 bs ≡ bs ∷ []
one_word [] h = absurd (true≢false (sym h))
one_word (c ∷ cs) h =
    let parts = and_parts (not (is_space c)) _ h in
    let other : c ≢ 32 = grind (arith, nat_tests) in
    let len : word_len (c ∷ cs) ≡ length (c ∷ cs) = grind (arith, nat_tests) in
    whole_word (c ∷ cs) (omega arith) other len

-- a text without a space that begins with no quotation mark is one word
pub unspaced_word : (bs : List ℕ) → begins_plain bs ≡ true → position_or_len is_space bs ≡ length bs → words_after 0 bs ≡ bs ∷ []
unspaced_word bs begins none =
    let before : before_first is_space bs ≡ bs = ap (λ k. take k bs) none ∙ take-length bs in
    let after : after_first is_space bs ≡ [] = ap (λ k. drop (k + 1) bs) none ∙ drop_all (length bs + 1) bs (omega arith) in
    let cut = plain_cut_at bs begins in
    rw (before, after) at cut

-- ---- a space follows a word

plain_end : (bs : List ℕ) → position_or_len is_space bs < length bs → get_or bs (position_or_len is_space bs) 0 ≡ 32
plain_end bs within = let space = passes_at_first is_space bs 0 within in grind (arith, nat_tests)

quoted_end : (e : Bool) (bs : List ℕ) → quoted_len e bs < length bs → get_or bs (quoted_len e bs) 0 ≡ 32
quoted_end e [] within = absurd (omega arith)
quoted_end true (c ∷ cs) within = quoted_end false cs (omega arith)
quoted_end false (c ∷ cs) within = at (c == 34) (c == 92) (quoted_end true cs) (quoted_end false cs) within
  where
    at : (q b : Bool) → (quoted_len true cs < length cs → get_or cs (quoted_len true cs) 0 ≡ 32)
        → (quoted_len false cs < length cs → get_or cs (quoted_len false cs) 0 ≡ 32)
        → cond q (suc (position_or_len is_space cs)) (cond b (suc (quoted_len true cs)) (suc (quoted_len false cs))) < suc (length cs)
        → get_or (c ∷ cs) (cond q (suc (position_or_len is_space cs)) (cond b (suc (quoted_len true cs)) (suc (quoted_len false cs)))) 0 ≡ 32
    at true b escaped other within = plain_end cs (omega arith)
    at false true escaped other within = escaped (omega arith)
    at false false escaped other within = other (omega arith)

word_end : (bs : List ℕ) → word_len bs < length bs → get_or bs (word_len bs) 0 ≡ 32
word_end [] within = absurd (omega arith)
word_end (c ∷ cs) within = at (c == 34) within
  where
    at : (q : Bool) → cond q (suc (quoted_len false cs)) (suc (position_or_len is_space cs)) < suc (length cs)
        → get_or (c ∷ cs) (cond q (suc (quoted_len false cs)) (suc (position_or_len is_space cs))) 0 ≡ 32
    at true within = quoted_end false cs (omega arith)
    at false within = plain_end cs (omega arith)

behind_space : (k : ℕ) (bs : List ℕ) → (k < length bs → get_or bs k 0 ≡ 32) → words_after 0 (drop k bs) ≡ words_after 0 (drop (k + 1) bs)
behind_space zero [] space = refl
behind_space zero (c ∷ cs) space = let is : c ≡ 32 = space (omega arith) in rw is refl
behind_space (suc k) [] space = let e : suc k + 1 ≡ suc (k + 1) = omega arith in rw e refl
behind_space (suc k) (c ∷ cs) space = let e : suc k + 1 ≡ suc (k + 1) = omega arith in rw e (behind_space k cs (λ l. space (omega arith)))

-- the first word of a text, and the words after the space that follows it
pub word_cut : (bs : List ℕ) → begins_word bs ≡ true → words_after 0 bs ≡ take (word_len bs) bs ∷ words_after 0 (drop (word_len bs + 1) bs)
word_cut [] h = absurd (true≢false (sym h))
word_cut (c ∷ cs) h =
    let other : c ≢ 32 = grind (arith, nat_tests) in
    let w : List ℕ = c ∷ cs in
    first_word w (omega arith) other ∙ ap (λ x. take (word_len w) w ∷ x) (behind_space (word_len w) w (word_end w))

-- ---- bytes that are no spaces, up to the first space

-- a text without a space has none up to its end
pub no_space_in : (p : ℕ → Bool) → ((c : ℕ) → p c ≡ true → is_space c ≡ false) → (bs : List ℕ) → list_all p bs ≡ true → position_or_len is_space bs ≡ length bs
no_space_in p other [] h = refl
no_space_in p other (c ∷ cs) h =
    let parts = and_parts (p c) _ h in
    let e = other c parts.0 in
    let f = no_space_in p other cs parts.1 in
    rw (e, f) (omega arith)

-- a space, or the end, follows bytes that pass a test which no space passes
pub first_space : (p : ℕ → Bool) → ((c : ℕ) → p c ≡ true → is_space c ≡ false) → (bs : List ℕ) (k : ℕ) → list_all p (take k bs) ≡ true → k ≤ length bs
    → (k < length bs → get_or bs k 0 ≡ 32) → position_or_len is_space bs ≡ k
first_space p other [] k all within space = omega arith
first_space p other (c ∷ cs) zero all within space =
    let h : c ≡ 32 = space (omega arith) in
    let e : is_space c ≡ true = grind (arith, nat_tests) in
    rw e refl
first_space p other (c ∷ cs) (suc k) all within space =
    let parts = and_parts (p c) _ all in
    let e = other c parts.0 in
    let f = first_space p other cs k parts.1 (omega arith) (λ l. space (omega arith)) in
    rw (e, f) (omega arith)
