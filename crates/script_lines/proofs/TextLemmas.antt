-- A JSON string of bytes that need no escape is read as the bytes between its quotation marks.
use Rattle.std.proofs.Common.{◌∙◌, ◌≡◌, ◌≤◌, ◌-◌, ◌&&◌, ◌==◌, ℕ, true, List, [], ◌∷◌, ◌++◌, Some, ap, append-nil, arith, drop, get_or, length, nat_le, not, refl, sub-one, sym, take}
use Rattle.std.specs.List.{list_all}
use Rattle.std.proofs.lemmas.Bool.{and_parts}
use Rattle.std.proofs.lemmas.Bool.Decides.{nat_tests}
use Rattle.std.specs.Prelude.{option_and_then}
use Rattle.json.specs.Json.{if_last, value}
use Rattle.json.specs.Lex.{tokens}
use Rattle.json.specs.Token as token
use Rattle.json.specs.Print.{ArePrintable, escape, escape_byte, print_from, quoted}
use Rattle.json.proofs.Printed.Strings.{escape_byte_plain}
use Rattle.json.proofs.Printed.Tokens.{tokens-print}
use Rattle.serde_json.specs.Data.{string}
use Rattle.serde_json.specs.Read.{max_depth, of_json, read}
use Rattle.script_lines.specs.Values.{is_plain}

-- one string token is printed as the text between quotation marks
tokens-quoted : (t : List ℕ) → tokens (quoted t) ≡ token.string t ∷ []
unfolding print_from ArePrintable
tokens-quoted t = ap tokens (sym (append-nil (quoted t))) ∙ tokens-print (token.string t ∷ []) (tt, tt)

read-quoted : (t : List ℕ) → read (quoted t) ≡ Some (string t)
unfolding value
read-quoted t = ap (λ ts. option_and_then of_json (option_and_then (λ p. if_last p.0 p.1) (value max_depth ts))) (tokens-quoted t)

escape_plain_byte : (c : ℕ) → is_plain c ≡ true → escape_byte c ≡ c ∷ []
escape_plain_byte c h =
    let other : (not (c == 34) && not (c == 92)) ≡ true = (and_parts (nat_le 32 c) _ h).1 in
    let quote : not (c == 34) ≡ true = (and_parts (not (c == 34)) _ other).0 in
    let slash : not (c == 92) ≡ true = (and_parts (not (c == 34)) _ other).1 in
    let low : nat_le 32 c ≡ true = (and_parts (nat_le 32 c) _ h).0 in
    escape_byte_plain c (λ e. grind (arith, nat_tests)) (λ e. grind (arith, nat_tests)) (grind (arith, nat_tests))

escape-plain : (t : List ℕ) → list_all is_plain t ≡ true → escape t ≡ t
escape-plain [] h = refl
escape-plain (c ∷ cs) h =
    let one = escape_plain_byte c (and_parts (is_plain c) _ h).0 in
    let more = escape-plain cs (and_parts (is_plain c) _ h).1 in
    rw (one, more) refl

-- ---- a word between quotation marks

before_last : (c : ℕ) (cs : List ℕ) → c ∷ cs ≡ take (length cs) (c ∷ cs) ++ get_or (c ∷ cs) (length cs) 0 ∷ []
before_last c [] = refl
before_last c (d ∷ ds) = ap (λ x. c ∷ x) (before_last d ds)

in_quotes : (w : List ℕ) → 2 ≤ length w → get_or w 0 0 ≡ 34 → get_or w (length w - 1) 0 ≡ 34
    → w ≡ 34 ∷ (take (length w - 1 - 1) (drop 1 w) ++ 34 ∷ [])
in_quotes [] long first last = absurd (omega arith)
in_quotes (c ∷ []) long first last = absurd (omega arith)
in_quotes (c ∷ d ∷ ds) long first last =
    let end : get_or (d ∷ ds) (length ds) 0 ≡ 34 = rw sub-one at last in
    rw (first, sub-one, sub-one) (ap (λ x. 34 ∷ x) (before_last d ds ∙ ap (λ x. take (length ds) (d ∷ ds) ++ x ∷ []) end))

pub read-plain : (w : List ℕ) → 2 ≤ length w → get_or w 0 0 ≡ 34 → get_or w (length w - 1) 0 ≡ 34
    → list_all is_plain (take (length w - 1 - 1) (drop 1 w)) ≡ true → read w ≡ Some (string (take (length w - 1 - 1) (drop 1 w)))
read-plain w long first last plain =
    let t : List ℕ = take (length w - 1 - 1) (drop 1 w) in
    let same : w ≡ quoted t = in_quotes w long first last ∙ ap (λ x. 34 ∷ (x ++ 34 ∷ [])) (sym (escape-plain t plain)) in
    ap read same ∙ read-quoted t
