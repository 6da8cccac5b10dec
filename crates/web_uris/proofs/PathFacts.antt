-- A text that writes a path is split into its segments: the first step to reading it back.
use Rattle.std.proofs.Common.{◌≡◌, ℕ, zero, suc, ◌<◌, ◌≤◌, inl, inr, Bool, true, false, not, ◌&&◌, ◌||◌, ◌==◌, List, [], ◌∷◌, ◌++◌, Option, Some, None, map, refl, ap, sym, ◌∙◌, arith, length, nat_lt, nat_le, slice_index}
use Rattle.std.specs.Prelude.{IfSome, option_and_then, option_map, flat_map, if◌then◌else◌, decimal}
use Rattle.std.specs.List.{list_all, onto_first, slice_split}
use Rattle.std.specs.Char.{is_ascii_digit}
use Rattle.std.specs.Str.Parse.{digits_value}
use Rattle.std.proofs.lemmas.Bool.{and_parts, cond-true, cond-false}
use Rattle.std.proofs.lemmas.Bool.Decides.{nat_tests}
use Rattle.std.proofs.lemmas.Fmt.{decimal_digit, decimal_nonempty, digits_decimal, digits_value-decimal, first_decimal, length-decimal-le}
use Rattle.std.proofs.lemmas.List.{append-nil}
use Rattle.mm_types.specs.Names.{is_name, is_name_byte}
use Rattle.mm_types.proofs.IntegerLemmas.{digits_model}
use Rattle.web_uris.specs.Paths.{AreWritten, IsWritten, Writes, is_dot, is_slash, index_of, index_text, new_path, new_step, parse, path_of_segments, path_text, root_of, step_of, step_of_parts, step_text, steps_of}
use Rattle.web_uris.specs.declared.path.Path.{Path}
use Rattle.web_uris.specs.declared.path.Step.{Step}

-- no byte of a word passes the test
abbrev pub Lacks : (ℕ → Bool) → List ℕ → Type 0
Lacks p [] = Unit {0}
Lacks p (c ∷ cs) = (p c ≡ false) × Lacks p cs

pub split_alone : (p : ℕ → Bool) (w : List ℕ) → Lacks p w → slice_split p w ≡ w ∷ []
split_alone p [] none = refl
split_alone p (c ∷ cs) (this, others) = cond-false _ _ _ this ∙ ap (onto_first c) (split_alone p cs others)

pub split_first : (p : ℕ → Bool) (w : List ℕ) (x : ℕ) (rest : List ℕ) → Lacks p w → p x ≡ true → slice_split p (w ++ x ∷ rest) ≡ w ∷ slice_split p rest
split_first p [] x rest none passes = cond-true _ _ _ passes
split_first p (c ∷ cs) x rest (this, others) passes = cond-false _ _ _ this ∙ ap (onto_first c) (split_first p cs x rest others passes)

-- a step after its `/`
abbrev pub segment : Step → List ℕ
segment s = 64 ∷ (s.name ++ index_text s.index)

abbrev pub AreSegments : List Step → Type 0
AreSegments [] = Unit {0}
AreSegments (s ∷ ss) = Lacks is_slash (segment s) × AreSegments ss

pub split_steps : (w : List ℕ) (ss : List Step) → Lacks is_slash w → AreSegments ss → slice_split is_slash (w ++ flat_map step_text ss) ≡ w ∷ map segment ss
split_steps w [] none all = ap (slice_split is_slash) (append-nil w) ∙ split_alone is_slash w none
split_steps w (s ∷ ss) none (this, others) =
    split_first is_slash w 47 (segment s ++ flat_map step_text ss) none refl ∙ ap (λ ws. w ∷ ws) (split_steps (segment s) ss this others)

-- the segments of a path's text: an empty one, the segment of the root, and the segments of the steps
pub split_path : (empty : Bool) (p : Path) → Lacks is_slash (if empty then [] else decimal p.root) → AreSegments p.steps
    → slice_split is_slash (path_text empty p) ≡ [] ∷ (if empty then [] else decimal p.root) ∷ map segment p.steps
split_path empty p root steps =
    split_first is_slash [] 47 ((if empty then [] else decimal p.root) ++ flat_map step_text p.steps) tt refl ∙ ap (λ ws. [] ∷ ws) (split_steps (if empty then [] else decimal p.root) p.steps root steps)

---------------------------------------------------------------- indices

is_index : (digits : Bool) (n first : ℕ) → digits ≡ true → 0 < n → n ≤ 7 → 48 < first → ((digits && (n == 1 || (nat_lt 1 n && not (first == 48)))) && nat_le n 7) ≡ true
is_index digits n first all some few above = grind (arith, nat_tests)

index_of_digits : (ds : List ℕ) (n : ℕ) → list_all is_ascii_digit ds ≡ true → 0 < length ds → length ds ≤ 7 → 48 < slice_index ds 0 → digits_value 10 ds ≡ n → index_of ds ≡ Some n
index_of_digits ds n all some few above v =
    cond-true _ _ _ (is_index (list_all is_ascii_digit ds) (length ds) (slice_index ds 0) all some few above) ∙ ap Some v

pub index_of-decimal : (n : ℕ) → n < 10000000 → index_of (decimal n) ≡ Some n
index_of-decimal zero small = ap index_of (decimal_digit 0 (omega arith))
index_of-decimal (suc m) small =
    index_of_digits (decimal (suc m)) (suc m) (digits_decimal digits_model (suc m) (omega (arith, small))) (decimal_nonempty (suc m) (omega (arith, small)))
    (length-decimal-le 7 (suc m) (omega arith) small (omega (arith, small))) (first_decimal (suc m) (omega arith) (omega (arith, small)))
    (digits_value-decimal digits_model (suc m) (omega (arith, small)))

---------------------------------------------------------------- which bytes words lack

second_true : (a b : Bool) → (a && b) ≡ true → b ≡ true
second_true true b h = h
second_true false b h = cc

lacks_other : (q p : ℕ → Bool) → ((c : ℕ) → q c ≡ true → p c ≡ false) → (w : List ℕ) → list_all q w ≡ true → Lacks p w
lacks_other q p apart [] all = tt
lacks_other q p apart (c ∷ cs) all = (apart c (and_parts (q c) (list_all q cs) all).0, lacks_other q p apart cs (second_true (q c) (list_all q cs) all))

lacks_append : (p : ℕ → Bool) (v w : List ℕ) → Lacks p v → Lacks p w → Lacks p (v ++ w)
lacks_append p [] w left right = right
lacks_append p (c ∷ cs) w (this, others) right = (this, lacks_append p cs w others right)

digit_no_slash : (c : ℕ) → is_ascii_digit c ≡ true → is_slash c ≡ false
digit_no_slash c h = grind (arith, nat_tests)

digit_no_dot : (c : ℕ) → is_ascii_digit c ≡ true → is_dot c ≡ false
digit_no_dot c h = grind (arith, nat_tests)

name_no_slash : (c : ℕ) → is_name_byte c ≡ true → is_slash c ≡ false
name_no_slash c h = grind (arith, nat_tests)

name_no_dot : (c : ℕ) → is_name_byte c ≡ true → is_dot c ≡ false
name_no_dot c h = grind (arith, nat_tests)

digits_of : (n : ℕ) → n < 10000000 → list_all is_ascii_digit (decimal n) ≡ true
digits_of n small = digits_decimal digits_model n (omega (arith, small))

name_bytes : (w : List ℕ) → is_name w ≡ true → list_all is_name_byte w ≡ true
name_bytes w name = (and_parts (list_all is_name_byte w) (not (is_ascii_digit (slice_index w 0))) (second_true (nat_lt 0 (length w)) (list_all is_name_byte w && not (is_ascii_digit (slice_index w 0))) name)).0

---------------------------------------------------------------- steps

index_lacks : (p : ℕ → Bool) → p 46 ≡ false → ((c : ℕ) → is_ascii_digit c ≡ true → p c ≡ false) → (index : Option ℕ) → IfSome index (λ i. i < 10000000) → Lacks p (index_text index)
index_lacks p dot apart None small = tt
index_lacks p dot apart (Some i) small = (dot, lacks_other is_ascii_digit p apart (decimal i) (digits_of i small))

pub segment_lacks : (s : Step) → IsWritten s → Lacks is_slash (segment s)
segment_lacks s (name, small) =
    (refl, lacks_append is_slash s.name (index_text s.index) (lacks_other is_name_byte is_slash name_no_slash s.name (name_bytes s.name name)) (index_lacks is_slash refl digit_no_slash s.index small))

pub segments_lack : (ss : List Step) → AreWritten ss → AreSegments ss
segments_lack [] all = tt
segments_lack (s ∷ ss) (this, others) = (segment_lacks s this, segments_lack ss others)

parts_of_index : (name : List ℕ) (index : Option ℕ) → is_name name ≡ true → IfSome index (λ i. i < 10000000)
    → step_of_parts (slice_split is_dot (name ++ index_text index)) ≡ Some (new_step name index)
parts_of_index name None ok small =
    ap (λ w. step_of_parts (slice_split is_dot w)) (append-nil name)
    ∙ ap step_of_parts (split_alone is_dot name (lacks_other is_name_byte is_dot name_no_dot name (name_bytes name ok)))
    ∙ cond-true _ _ _ ok
parts_of_index name (Some i) ok small =
    ap step_of_parts (split_first is_dot name 46 (decimal i) (lacks_other is_name_byte is_dot name_no_dot name (name_bytes name ok)) refl)
    ∙ ap (λ ws. step_of_parts (name ∷ ws)) (split_alone is_dot (decimal i) (lacks_other is_ascii_digit is_dot digit_no_dot (decimal i) (digits_of i small)))
    ∙ cond-true _ _ _ ok
    ∙ ap (option_map (λ j. new_step name (Some j))) (index_of-decimal i small)

pub step_of-segment : (s : Step) → IsWritten s → step_of (segment s) ≡ Some s
step_of-segment s (name, small) = parts_of_index s.name s.index name small

pub steps_of-segments : (ss : List Step) → AreWritten ss → steps_of (map segment ss) ≡ Some ss
steps_of-segments [] all = refl
steps_of-segments (s ∷ ss) (this, others) =
    ap (λ o. option_and_then (λ t. option_map (λ ts. t ∷ ts) (steps_of (map segment ss))) o) (step_of-segment s this)
    ∙ ap (option_map (λ ts. s ∷ ts)) (steps_of-segments ss others)

---------------------------------------------------------------- paths

root_of_word : (w : List ℕ) → 0 < length w → root_of w ≡ index_of w
root_of_word [] some = absurd (omega (arith, some))
root_of_word (c ∷ cs) some = refl

-- the text of a path with the index of its root is read as that path
pub parse-path_text : (p : Path) → p.root < 10000000 → AreWritten p.steps → parse (path_text false p) ≡ Some p
parse-path_text p small steps =
    ap path_of_segments (split_path false p (lacks_other is_ascii_digit is_slash digit_no_slash (decimal p.root) (digits_of p.root small)) (segments_lack p.steps steps))
    ∙ ap (λ o. option_and_then (λ i. option_map (new_path i) (steps_of (map segment p.steps))) o)
    (root_of_word (decimal p.root) (decimal_nonempty p.root (omega (arith, small))) ∙ index_of-decimal p.root small)
    ∙ ap (option_map (new_path p.root)) (steps_of-segments p.steps steps)

-- a text with an empty segment for the root is read as the path from root 0
pub parse-path_text_alone : (p : Path) → p.root ≡ 0 → AreWritten p.steps → parse (path_text true p) ≡ Some p
parse-path_text_alone p zero_root steps =
    ap path_of_segments (split_path true p tt (segments_lack p.steps steps))
    ∙ ap (option_map (new_path 0)) (steps_of-segments p.steps steps)
    ∙ ap (λ n. Some (new_path n p.steps)) (sym zero_root)

-- so parsing gives the path for which a text was written
pub parse-Writes : (t : List ℕ) (p : Path) → Writes t p → parse t ≡ Some p
parse-Writes t p (can, inl e) = ap parse e ∙ parse-path_text p can.root can.steps
parse-Writes t p (can, inr (e, zero_root)) = ap parse e ∙ parse-path_text_alone p zero_root can.steps
