-- The words of a line are separated by spaces. Only a word that begins with a quotation mark may have spaces in it. This word goes on to
-- the next quotation mark that no backslash escapes, and from there to the next space. If that quotation mark or that space is missing, the
-- word goes on to the end of the line.
use Rattle.std.specs.Prelude.{ℕ, zero, suc, ◌==◌, ◌||◌, ◌-◌, ◌&&◌, Bool, true, false, not, List, [], ◌∷◌, length, take, if◌then◌else◌}
use Rattle.std.specs.List.{position_or_len}
use Rattle.script_lines.specs.declared.grammar.TheConstants.{BACKSLASH, QUOTE, SPACE}

abbrev pub is_space : ℕ → Bool
is_space c = c == SPACE

-- whether a byte is a quotation mark or a backslash
abbrev pub is_mark : ℕ → Bool
is_mark c = c == QUOTE || c == BACKSLASH

-- the bytes without their leading spaces
abbrev pub after_spaces : List ℕ → List ℕ
after_spaces [] = []
after_spaces (c ∷ cs) = if is_space c then after_spaces cs else c ∷ cs

-- how many bytes are before the first space; the number of all bytes, if there is no space
abbrev pub plain_len : List ℕ → ℕ
plain_len = position_or_len is_space

-- how many bytes of a word follow the quotation mark with which the word begins: up to the next quotation mark that no backslash escapes,
-- and from there to the next space, or to the end of the line if that quotation mark or that space is missing; the second argument has all
-- bytes of the line after the first mark, and `escaped` says whether a backslash escapes the first of these bytes
abbrev pub quoted_len : Bool → List ℕ → ℕ
quoted_len escaped [] = 0
quoted_len true (c ∷ cs) = suc (quoted_len false cs)
quoted_len false (c ∷ cs) = if c == QUOTE then suc (plain_len cs)
    else if c == BACKSLASH then suc (quoted_len true cs) else suc (quoted_len false cs)

-- the length of the word with which the bytes begin
abbrev pub word_len : List ℕ → ℕ
word_len [] = 0
word_len (c ∷ cs) = if c == QUOTE then suc (quoted_len false cs) else suc (plain_len cs)

-- whether bytes begin with a word: there is a first byte, and it is no space
abbrev pub begins_word : List ℕ → Bool
begins_word [] = false
begins_word (c ∷ cs) = not (is_space c)

-- whether bytes are one word
abbrev pub is_one_word : List ℕ → Bool
is_one_word bytes = begins_word bytes && word_len bytes == length bytes

-- the words of the bytes that follow the first k bytes
abbrev pub words_after : ℕ → List ℕ → List (List ℕ)
words_after k [] = []
words_after (suc k) (c ∷ cs) = words_after k cs
words_after zero (c ∷ cs) = if is_space c then words_after 0 cs
    else take (word_len (c ∷ cs)) (c ∷ cs) ∷ words_after (word_len (c ∷ cs) - 1) cs

abbrev pub words : List ℕ → List (List ℕ)
words = words_after 0
