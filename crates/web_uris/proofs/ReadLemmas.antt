-- How fragments are read: an index, a step after its `@`, and steps one after the other.
use Rattle.std.proofs.Common.{◌≡◌, ◌∙◌, ◌≤◌, ◌<◌, ◌&&◌, Bool, true, false, List, [], ◌∷◌, ◌++◌, Option, Some, None, ℕ, append_assoc, ap, arith, cond, length, nat_le, nat_lt, option_map, refl, sym, ◌||◌, inl, inr}
use Rattle.std.specs.Prelude.{◌⊎◌, ◌==◌, not, option_and_then, ◌^◌}
use Rattle.std.specs.Char.{is_ascii_digit}
use Rattle.std.specs.List.{after_first, before_first, list_all, list_any, onto_first, position_or_len, slice_split}
use Rattle.std.specs.Str.Parse.{digits_value}
use Rattle.std.proofs.lemmas.Bool.{and_parts, false_from_ne_true}
use Rattle.std.proofs.lemmas.Bool.Decides.{Decides-eqb, nat_tests}
use Rattle.std.proofs.lemmas.List.Splits.{length-slice_split, slice_split_first}
use Rattle.std.proofs.lemmas.List.Sums.{prefix_len-le-length}
use Rattle.std.proofs.Math.Nat.{eq-or-lt_of_le}
use Rattle.std.proofs.lemmas.Str.Parse.{digits_value_short}
use Rattle.mm_types.specs.Integers.{is_decimal, natural_number}
use Rattle.mm_types.specs.Names.{is_name}
use Rattle.mm_types.proofs.IntegerLemmas.{digits_model}
use Rattle.web_uris.specs.Paths.{index_of, is_dot, is_slash, parse, path_of_segments, segments, step_of, step_of_parts, steps_of}
use Rattle.web_uris.specs.declared.path.Step.{Step}
use Rattle.web_uris.proofs.CutLemmas.{one_passes, split_whole}

---------------------------------------------------------------- an index

both_tests : (d s l : Bool) (n : ℕ) → s ≡ true → (d ≡ true → l ≡ true) → cond (d && l) (Some n) None ≡ cond (d && s) (Some n) None
both_tests true s l n short below = rw (short, below refl) refl
both_tests false s l n short below = refl

small_value : (w : List ℕ) → length w ≤ 7 → is_decimal w ≡ true → nat_lt (digits_value 10 w) (2 ^ 32) ≡ true
small_value w short h =
    let v = digits_value_short digits_model w 7 (and_parts (list_all is_ascii_digit w) _ h).0 short in
    grind (arith, nat_tests, v)

-- a number of at most seven digits fits in 32 bits
pub natural_number-short : (w : List ℕ) → length w ≤ 7 → natural_number w ≡ index_of w
natural_number-short w short = both_tests (is_decimal w) (nat_le (length w) 7) (nat_lt (digits_value 10 w) (2 ^ 32)) (digits_value 10 w) (grind (arith, nat_tests)) (small_value w short)

---------------------------------------------------------------- a step

neither : (x y p q : Bool) → (x ≡ true → p ≡ false) → (y ≡ true → q ≡ false) → x || y ≡ true → p && q ≡ false
neither true y p q first second h = rw (first refl) refl
neither false true true q first second h = second refl
neither false true false q first second h = refl
neither false false p q first second h = cc

dot_no_digit : (c : ℕ) → is_dot c ≡ true → is_ascii_digit c ≡ false
dot_no_digit c h = grind (arith, nat_tests)

no_digits : (cs : List ℕ) → list_any is_dot cs ≡ true → list_all is_ascii_digit cs ≡ false
no_digits [] h = cc
no_digits (c ∷ cs) h = neither (is_dot c) (list_any is_dot cs) (is_ascii_digit c) (list_all is_ascii_digit cs) (dot_no_digit c) (no_digits cs) h

no_index : (w : List ℕ) → list_any is_dot w ≡ true → index_of w ≡ None
no_index w dot = let e = no_digits w dot in rw e refl

no_third : (name a : List ℕ) (ws : List (List ℕ)) → 0 < length ws → step_of_parts (name ∷ a ∷ ws) ≡ None
no_third name a [] some = absurd (omega (arith, some))
no_third name a (w ∷ ws) some = refl

abbrev no_step_yet : Option Step
no_step_yet = None

either_none : (b : Bool) → cond b no_step_yet None ≡ None
either_none true = refl
either_none false = refl

unread : (name w : List ℕ) → index_of w ≡ None → step_of_parts (name ∷ w ∷ []) ≡ None
unread name w none = rw none (either_none (is_name name))

some_parts : (w : List ℕ) → 0 < length (slice_split is_dot w)
some_parts w = let e = length-slice_split is_dot w in omega (arith, e)

by_first_dot : (name w : List ℕ) → (position_or_len is_dot w ≡ length w) ⊎ (position_or_len is_dot w < length w)
    → step_of_parts (name ∷ slice_split is_dot w) ≡ step_of_parts (name ∷ w ∷ [])
by_first_dot name w (inl last) = ap (λ ws. step_of_parts (name ∷ ws)) (split_whole is_dot w last)
by_first_dot name w (inr below) =
    ap (λ ws. step_of_parts (name ∷ ws)) (slice_split_first is_dot w 0 below)
    ∙ no_third name (before_first is_dot w) (slice_split is_dot (after_first is_dot w)) (some_parts (after_first is_dot w))
    ∙ sym (unread name w (no_index w (one_passes is_dot w below)))

-- digits with a dot among them are no index, so all that is after the first dot is one word
pub one_dot : (name w : List ℕ) → step_of_parts (name ∷ slice_split is_dot w) ≡ step_of_parts (name ∷ w ∷ [])
one_dot name w = by_first_dot name w (eq-or-lt_of_le (prefix_len-le-length (λ c. not (is_dot c)) w))

not_byte : (x c : ℕ) (cs : List ℕ) → ((rest : List ℕ) → c ∷ cs ≡ x ∷ rest → ⊥) → c == x ≡ false
not_byte x c cs h = false_from_ne_true (c == x) (λ same. h cs (ap (λ b. b ∷ cs) ((Decides-eqb c x).0 same)))

-- a text that does not begin with `@` is no step
pub no_step : (t : List ℕ) → ((rest : List ℕ) → t ≡ 64 ∷ rest → ⊥) → step_of t ≡ None
no_step [] h = refl
no_step (c ∷ cs) h = let e = not_byte 64 c cs h in rw e refl

no_root : (c : ℕ) (ws : List (List ℕ)) → path_of_segments (onto_first c ws) ≡ None
no_root c [] = refl
no_root c (w ∷ ws) = refl

-- a text that does not begin with `/` is no fragment
pub no_path : (t : List ℕ) → ((rest : List ℕ) → t ≡ 47 ∷ rest → ⊥) → parse t ≡ None
no_path [] h = refl
no_path (c ∷ cs) h = let e = not_byte 47 c cs h in rw e (no_root c (slice_split is_slash cs))

---------------------------------------------------------------- steps

-- the steps that were read, and after them the steps that are still to be read
abbrev pub with_front : List Step → Option (List Step) → Option (List Step)
with_front front rest = option_map (λ ss. front ++ ss) rest

front_more : (front : List Step) (s : Step) (o : Option (List Step)) → with_front (front ++ s ∷ []) o ≡ with_front front (option_map (λ ss. s ∷ ss) o)
front_more front s None = refl
front_more front s (Some ss) = ap Some (append_assoc front (s ∷ []) ss)

pub one_more : (front : List Step) (w : List ℕ) (ws : List (List ℕ)) (s : Step) → step_of w ≡ Some s → with_front (front ++ s ∷ []) (steps_of ws) ≡ with_front front (steps_of (w ∷ ws))
one_more front w ws s is = front_more front s (steps_of ws) ∙ ap (λ o. with_front front (option_and_then (λ t. option_map (λ ss. t ∷ ss) (steps_of ws)) o)) (sym is)

pub none_more : (front : List Step) (w : List ℕ) (ws : List (List ℕ)) → step_of w ≡ None → with_front front (steps_of (w ∷ ws)) ≡ None
none_more front w ws is = ap (λ o. with_front front (option_and_then (λ t. option_map (λ ss. t ∷ ss) (steps_of ws)) o)) is

-- one more step is read, from the first segment
pub next_step : (front new : List Step) (rest behind : Option (List ℕ)) (t w : List ℕ) (s : Step) (all : Option (List Step)) → rest ≡ Some t → slice_split is_slash t ≡ w ∷ segments behind
    → step_of w ≡ Some s → new ≡ front ++ s ∷ [] → with_front front (steps_of (segments rest)) ≡ all → with_front new (steps_of (segments behind)) ≡ all
next_step front new rest behind t w s all is cut read more before =
    ap (λ ss. with_front ss (steps_of (segments behind))) more
    ∙ one_more front w (segments behind) s read
    ∙ ap (λ ws. with_front front (steps_of ws)) (sym cut)
    ∙ ap (λ o. with_front front (steps_of (segments o))) (sym is)
    ∙ before
