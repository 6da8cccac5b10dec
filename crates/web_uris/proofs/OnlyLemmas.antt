-- A text that is read as a path is one of the texts that are written for this path.
use Rattle.std.proofs.Common.{◌≡◌, ◌∙◌, ◌≤◌, ◌<◌, ◌&&◌, ◌||◌, Bool, true, false, List, [], ◌∷◌, ◌++◌, Option, Some, None, ℕ, ap, arith, cond, inl, inr, length, nat_le, nat_lt, option_map, refl, sym}
use Rattle.std.specs.Prelude.{◌==◌, decimal, flat_map, not, option_and_then, slice_index}
use Rattle.std.specs.Char.{is_ascii_digit}
use Rattle.std.specs.List.{join_with_byte, list_all, slice_split}
use Rattle.std.specs.Str.Parse.{digits_value}
use Rattle.std.proofs.lemmas.Bool.{and_parts}
use Rattle.std.proofs.lemmas.Bool.Decides.{Decides-eqb, nat_tests}
use Rattle.std.proofs.lemmas.Fmt.{decimal-digits_value}
use Rattle.std.proofs.lemmas.List.Splits.{join_with_byte-slice_split}
use Rattle.std.proofs.lemmas.Option.{same_Some}
use Rattle.std.proofs.lemmas.Str.Parse.{digits_value_short}
use Rattle.std.proofs.lemmas.List.{append-nil}
use Rattle.mm_types.specs.Integers.{is_decimal}
use Rattle.mm_types.specs.Names.{is_name}
use Rattle.mm_types.proofs.IntegerLemmas.{digits_model}
use Rattle.web_uris.specs.Paths.{AreWritten, IsWritten, Writes, index_of, index_text, is_dot, is_slash, new_path, new_step, parse, path_of_segments, step_of, step_of_parts, step_text, steps_of}
use Rattle.web_uris.specs.declared.path.Path.{Path}
use Rattle.web_uris.specs.declared.path.Step.{Step}
use Rattle.web_uris.proofs.PathFacts.{segment}

---------------------------------------------------------------- what an answer came from

chosen_from : {X : Type 0} (b : Bool) (x y : X) → cond b (Some x) None ≡ Some y → (b ≡ true) × (x ≡ y)
chosen_from true x y h = (refl, same_Some x y h)
chosen_from false x y h = cc

kept_from : {X : Type 0} (b : Bool) (o : Option X) (y : X) → cond b o None ≡ Some y → (b ≡ true) × (o ≡ Some y)
kept_from true o y h = (refl, h)
kept_from false o y h = cc

mapped_from : {X Y : Type 0} (f : X → Y) (o : Option X) (y : Y) → option_map f o ≡ Some y → (x : X) × (o ≡ Some x) × (f x ≡ y)
mapped_from f None y h = cc
mapped_from f (Some x) y h = (x, refl, same_Some (f x) y h)

led_from : {X Y : Type 0} (f : X → Option Y) (o : Option X) (y : Y) → option_and_then f o ≡ Some y → (x : X) × (o ≡ Some x) × (f x ≡ Some y)
led_from f None y h = cc
led_from f (Some x) y h = (x, refl, h)

---------------------------------------------------------------- indices

one_digit : (n c : ℕ) → (n == 1 || (nat_lt 1 n && not (c == 48))) ≡ true → (0 < n) × (c ≡ 48 → n ≡ 1)
one_digit n c h = (grind (arith, nat_tests), λ e. grind (arith, nat_tests))

-- an index is the number of its digits, which are at most seven
pub index_only : (w : List ℕ) (i : ℕ) → index_of w ≡ Some i → (w ≡ decimal i) × (i < 10000000)
index_only w i h =
    let (tests, value) = chosen_from (is_decimal w && nat_le (length w) 7) (digits_value 10 w) i h in
    let (is, short) = and_parts (is_decimal w) (nat_le (length w) 7) tests in
    let (digits, begins) = and_parts (list_all is_ascii_digit w) (length w == 1 || (nat_lt 1 (length w) && not (slice_index w 0 == 48))) is in
    let (some, zero_alone) = one_digit (length w) (slice_index w 0) begins in
    let few : length w ≤ 7 = grind (arith, nat_tests) in
    let small = digits_value_short digits_model w 7 digits few in
    (sym (decimal-digits_value digits_model w digits some zero_alone (omega (arith, small))) ∙ ap decimal value, omega (arith, small, value))

---------------------------------------------------------------- steps

abbrev IsStepOf : List ℕ → Step → Type 0
IsStepOf w s = (w ≡ s.name ++ index_text s.index) × IsWritten s

parts_only : (ws : List (List ℕ)) (s : Step) → step_of_parts ws ≡ Some s → IsStepOf (join_with_byte 46 ws) s
parts_only [] s h = cc
parts_only (name ∷ []) s h =
    let (named, is) = chosen_from (is_name name) (new_step name None) s h in
    rw (← is) (sym (append-nil name), (named, tt))
parts_only (name ∷ digits ∷ []) s h =
    let (named, rest) = kept_from (is_name name) (option_map (λ i. new_step name (Some i)) (index_of digits)) s h in
    let (i, found, is) = mapped_from (λ i. new_step name (Some i)) (index_of digits) s rest in
    let (same, small) = index_only digits i found in
    rw (← is) (ap (λ ds. name ++ 46 ∷ ds) same, (named, small))
parts_only (name ∷ digits ∷ w ∷ ws) s h = cc

pub step_only : (w : List ℕ) (s : Step) → step_of w ≡ Some s → (w ≡ segment s) × IsWritten s
step_only [] s h = cc
step_only (c ∷ cs) s h =
    let (at, rest) = kept_from (c == 64) (step_of_parts (slice_split is_dot cs)) s h in
    let (same, can) = parts_only (slice_split is_dot cs) s rest in
    (ap (λ x. x ∷ cs) ((Decides-eqb c 64).0 at) ∙ ap (λ xs. 64 ∷ xs) (sym (join_with_byte-slice_split 46 cs) ∙ same), can)

pub steps_only : (w : List ℕ) (ws : List (List ℕ)) (ss : List Step) → steps_of ws ≡ Some ss → (join_with_byte 47 (w ∷ ws) ≡ w ++ flat_map step_text ss) × AreWritten ss
steps_only w [] ss h = let e = same_Some [] ss h in rw (← e) (sym (append-nil w), tt)
steps_only w (x ∷ xs) ss h =
    let (s, read, rest) = led_from (λ s. option_map (λ ts. s ∷ ts) (steps_of xs)) (step_of x) ss h in
    let (ts, others, is) = mapped_from (λ ts. s ∷ ts) (steps_of xs) ss rest in
    let (same, can) = step_only x s read in
    let (joins, can_all) = steps_only x xs ts others in
    rw (← is) (ap (λ v. w ++ 47 ∷ v) (joins ∙ ap (λ v. v ++ flat_map step_text ts) same), (can, can_all))

---------------------------------------------------------------- paths

path_only : (ws : List (List ℕ)) (p : Path) → path_of_segments ws ≡ Some p → Writes (join_with_byte 47 ws) p
path_only [] p h = cc
path_only ([] ∷ []) p h = cc
path_only ((c ∷ cs) ∷ ws) p h = cc
path_only ([] ∷ [] ∷ ws) p h =
    let (ss, others, is) = mapped_from (new_path 0) (steps_of ws) p h in
    let (joins, can) = steps_only [] ws ss others in
    rw (← is) (record { root = omega arith; steps = can }, inr (ap (λ v. 47 ∷ v) joins, refl))
path_only ([] ∷ (c ∷ cs) ∷ ws) p h =
    let (i, root, rest) = led_from (λ i. option_map (new_path i) (steps_of ws)) (index_of (c ∷ cs)) p h in
    let (ss, others, is) = mapped_from (new_path i) (steps_of ws) p rest in
    let (same, small) = index_only (c ∷ cs) i root in
    let (joins, can) = steps_only (c ∷ cs) ws ss others in
    rw (← is) (record { root = small; steps = can }, inl (ap (λ v. 47 ∷ v) (joins ∙ ap (λ v. v ++ flat_map step_text ss) same)))

pub Writes-parse : (t : List ℕ) (p : Path) → parse t ≡ Some p → Writes t p
Writes-parse t p h = let e = join_with_byte-slice_split 47 t in rw (← e) (path_only (slice_split is_slash t) p h)
