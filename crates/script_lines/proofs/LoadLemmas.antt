-- The spaces and the cuts of a line `load RES REST`.
use Rattle.std.proofs.Common.{◌∙◌, ◌≡◌, ◌≢◌, ◌==◌, ◌+◌, ◌++◌, ◌||◌, ℕ, suc, Bool, true, false, List, [], ◌∷◌, Option, None, Some, IfSome, ap, arith, codes, cond, drop, is_some, length, not, refl, sym, true≢false}
use Rattle.std.specs.List.{list_any, position_or_len}
use Rattle.std.specs.Str.{is_utf8}
use Rattle.std.specs.Str.Pattern.{CutsPrefixes, FindsCharPrefix, IsTrimStartMatches}
use Rattle.std.proofs.lemmas.Bool.Decides.{nat_tests}
use Rattle.std.proofs.lemmas.Str.Ascii.{encode_ascii}
use Rattle.std.proofs.lemmas.Str.Pattern.{drop_at_char}
use Rattle.std.proofs.lemmas.Bool.{or_parts}
use Rattle.std.proofs.Math.Seq.{take-append_seam}
use Rattle.script_lines.specs.Words.{after_spaces, is_space}
use Rattle.script_lines.specs.Values.{resource_in}
use Rattle.script_lines.specs.Forms.{form, line_with, load_form}
use Rattle.script_lines.specs.declared.form.Form.TheVariants.{Load}
use Rattle.script_lines.specs.declared.line.Line.TheVariants.{Form}
use Rattle.mm_types.specs.declared.numbers.ResourceNo.{ResourceNo}

-- ---- leading spaces

-- spaces were cut off the front of s, and r is left
cut_spaces : (ns s r : List ℕ) → CutsPrefixes (FindsCharPrefix 32) s ns r → after_spaces s ≡ after_spaces r
cut_spaces [] s r h = ap after_spaces (sym h)
cut_spaces (n ∷ ns) s r h =
    let space : h.0 ≡ 32 ∷ r = drop_at_char 32 h.0 0 n h.2 (omega arith) ∙ ap (λ x. 32 ∷ x) (sym h.3) in
    cut_spaces ns s h.0 h.1 ∙ ap after_spaces space

no_space : (c : ℕ) (cs : List ℕ) (o : Option ℕ) → FindsCharPrefix 32 (c ∷ cs) o → IfSome o (λ n. n ≡ 0) → c ≢ 32
no_space c cs None h zero = λ e. h cs (ap (λ d. d ∷ cs) e ∙ ap (λ x. x ++ cs) (sym (encode_ascii 32 (omega arith))))
no_space c cs (Some n) h zero = λ e. absurd (let ends : n ≡ 1 = h.ends in omega arith)

none_left : (r : List ℕ) (o : Option ℕ) → FindsCharPrefix 32 r o → IfSome o (λ n. n ≡ 0) → after_spaces r ≡ r
none_left [] o h zero = refl
none_left (c ∷ cs) o h zero =
    let differ = no_space c cs o h zero in
    let other : (c == 32) ≡ false = grind (arith, nat_tests) in
    rw other refl

pub spaces_trimmed : (s r : List ℕ) → IsTrimStartMatches (FindsCharPrefix 32) s r → r ≡ after_spaces s
spaces_trimmed s r h = sym (cut_spaces h.0.0 s r h.0.1 ∙ none_left r h.1.0 h.1.1 h.1.2)

-- ---- the space that ends a resource

none_found_at : (b : Bool) (cs : List ℕ) (k : ℕ) (more : Bool) → (k ≡ length cs → more ≡ false) → cond (not b) (1 + k) 0 ≡ suc (length cs) → (b || more) ≡ false
none_found_at true cs k more h e = absurd (omega (arith, e))
none_found_at false cs k more h e = h (omega (arith, e))

none_found : (bs : List ℕ) → position_or_len is_space bs ≡ length bs → list_any is_space bs ≡ false
none_found [] h = refl
none_found (c ∷ cs) h = none_found_at (is_space c) cs (position_or_len is_space cs) (list_any is_space cs) (none_found cs) h

pub no_load : (bs : List ℕ) → position_or_len is_space bs ≡ length bs → None ≡ load_form bs
no_load bs h = let e = none_found bs h in rw e refl

-- ---- a resource, a space and a text

or_true : (b more : Bool) → more ≡ true → (b || more) ≡ true
or_true true more h = refl
or_true false more h = h

cut_step : (b : Bool) (k n : ℕ) → b ≡ false → k ≡ n → cond (not b) (1 + k) 0 ≡ suc n
cut_step true k n h e = absurd (true≢false h)
cut_step false k n h e = omega arith

cut_at : (w text : List ℕ) → list_any is_space w ≡ false → position_or_len is_space (w ++ 32 ∷ text) ≡ length w
cut_at [] text h = refl
cut_at (c ∷ cs) text h =
    let parts = or_parts (is_space c) (list_any is_space cs) h in
    cut_step (is_space c) _ (length cs) parts.0 (cut_at cs text parts.1)

space_there : (w text : List ℕ) → list_any is_space (w ++ 32 ∷ text) ≡ true
space_there [] text = refl
space_there (c ∷ cs) text = or_true (is_space c) _ (space_there cs text)

behind : (w text : List ℕ) → drop (length w + 1) (w ++ 32 ∷ text) ≡ text
behind [] text = refl
behind (c ∷ cs) text = let e : suc (length cs) + 1 ≡ suc (length cs + 1) = omega arith in rw e (behind cs text)

no_space_leads : (w text : List ℕ) (r : ResourceNo) → resource_in w ≡ Some r → list_any is_space w ≡ false → after_spaces (w ++ 32 ∷ text) ≡ w ++ 32 ∷ text
no_space_leads [] text r h none = absurd (true≢false (ap is_some (sym h)))
no_space_leads (c ∷ cs) text r h none = let e : is_space c ≡ false = (or_parts (is_space c) (list_any is_space cs) none).0 in rw e refl

load_form_is : (w text : List ℕ) (r : ResourceNo) → resource_in w ≡ Some r → list_any is_space w ≡ false → load_form (w ++ 32 ∷ text) ≡ Some (Load r text)
load_form_is w text r h none = rw (space_there w text, cut_at w text none, take-append_seam w (32 ∷ text), behind w text, h) refl

-- every byte after the space that ends the resource is the text of the document
pub text_kept : (w text : List ℕ) (r : ResourceNo) → resource_in w ≡ Some r → list_any is_space w ≡ false
    → is_utf8 (codes "load " ++ (w ++ 32 ∷ text)) ≡ true → form (codes "load " ++ (w ++ 32 ∷ text)) ≡ Form (Load r text)
unfolding form
text_kept w text r h none utf8 = rw utf8 (ap (λ x. line_with (load_form x)) (no_space_leads w text r h none) ∙ ap line_with (load_form_is w text r h none))
