-- The text of a path has no `#` in it.
use Rattle.std.proofs.Common.{◌≡◌, ◌∙◌, ℕ, ◌<◌, Bool, true, false, not, ◌&&◌, List, [], ◌∷◌, ◌++◌, Option, Some, None, refl, arith, length, nat_lt, slice_index}
use Rattle.std.specs.Prelude.{IfSome, flat_map, decimal}
use Rattle.std.specs.List.{list_all}
use Rattle.std.specs.Char.{is_ascii_digit}
use Rattle.std.proofs.lemmas.Bool.{and_parts, or_from}
use Rattle.std.proofs.lemmas.Bool.Decides.{nat_tests}
use Rattle.std.proofs.lemmas.Fmt.{digits_decimal}
use Rattle.std.proofs.lemmas.List.Folds.{list_any-append}
use Rattle.mm_types.specs.Names.{is_name, is_name_byte}
use Rattle.mm_types.proofs.IntegerLemmas.{digits_model}
use Rattle.web_uris.specs.Addresses.{has_mark}
use Rattle.web_uris.specs.Joined.{is_mark}
use Rattle.web_uris.specs.Paths.{AreWritten, IsWritable, IsWritten, index_text, path_text, step_text}
use Rattle.web_uris.specs.declared.path.Path.{Path}
use Rattle.web_uris.specs.declared.path.Step.{Step}

---------------------------------------------------------------- words

-- no byte that passes a test is `#`, so a word of such bytes has none
unmarked-word : (q : ℕ → Bool) → ((c : ℕ) → q c ≡ true → is_mark c ≡ false) → (w : List ℕ) → list_all q w ≡ true → has_mark w ≡ false
unmarked-word q apart [] all = refl
unmarked-word q apart (c ∷ cs) all =
    let (this, others) = and_parts (q c) (list_all q cs) all in
    or_from (is_mark c) (has_mark cs) (apart c this) (unmarked-word q apart cs others)

unmarked-both : (v w : List ℕ) → has_mark v ≡ false → has_mark w ≡ false → has_mark (v ++ w) ≡ false
unmarked-both v w left right = list_any-append is_mark v w ∙ or_from (has_mark v) (has_mark w) left right

digit-unmarked : (c : ℕ) → is_ascii_digit c ≡ true → is_mark c ≡ false
digit-unmarked c h = grind (arith, nat_tests)

name-byte-unmarked : (c : ℕ) → is_name_byte c ≡ true → is_mark c ≡ false
name-byte-unmarked c h = grind (arith, nat_tests)

number-unmarked : (n : ℕ) → n < 10000000 → has_mark (decimal n) ≡ false
number-unmarked n small = unmarked-word is_ascii_digit digit-unmarked (decimal n) (digits_decimal digits_model n (omega (arith, small)))

name-unmarked : (w : List ℕ) → is_name w ≡ true → has_mark w ≡ false
name-unmarked w name =
    let (some, rest) = and_parts (nat_lt 0 (length w)) (list_all is_name_byte w && not (is_ascii_digit (slice_index w 0))) name in
    let (bytes, first) = and_parts (list_all is_name_byte w) (not (is_ascii_digit (slice_index w 0))) rest in
    unmarked-word is_name_byte name-byte-unmarked w bytes

---------------------------------------------------------------- steps and paths

index-unmarked : (index : Option ℕ) → IfSome index (λ i. i < 10000000) → has_mark (index_text index) ≡ false
index-unmarked None small = refl
index-unmarked (Some i) small = number-unmarked i small

step-unmarked : (s : Step) → IsWritten s → has_mark (step_text s) ≡ false
step-unmarked s (name, small) = unmarked-both s.name (index_text s.index) (name-unmarked s.name name) (index-unmarked s.index small)

steps-unmarked : (ss : List Step) → AreWritten ss → has_mark (flat_map step_text ss) ≡ false
steps-unmarked [] all = refl
steps-unmarked (s ∷ ss) (this, others) = unmarked-both (step_text s) (flat_map step_text ss) (step-unmarked s this) (steps-unmarked ss others)

pub path-unmarked : (empty : Bool) (p : Path) → IsWritable p → has_mark (path_text empty p) ≡ false
path-unmarked true p can = steps-unmarked p.steps can.steps
path-unmarked false p can = unmarked-both (decimal p.root) (flat_map step_text p.steps) (number-unmarked p.root can.root) (steps-unmarked p.steps can.steps)
