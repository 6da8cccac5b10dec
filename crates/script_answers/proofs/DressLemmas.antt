-- The output options, line by line.
use Rattle.std.proofs.Common.{◌≡◌, ◌∙◌, ◌+◌, ◌≤◌, ◌++◌, ◌&&◌, ◌||◌, ℕ, suc, Bool, true, false, List, [], ◌∷◌, ap, append-nil, append_assoc, arith, codes, cond, length, refl, sym}
use Rattle.std.specs.List.{flat_map, list_any}
use Rattle.std.specs.Fmt.{decimal}
use Rattle.std.proofs.lemmas.List.{nil_from_length}
use Rattle.std.proofs.lemmas.List.Folds.{list_any-append}
use Rattle.script_lines.specs.Lines.{lines}
use Rattle.script_lines.specs.declared.grammar.TheConstants.{NEWLINE}
use Rattle.script_answers.specs.Dressed.{dressed_line, dressed_output, dressed_output_from, each_behind, is_stopped, lines_until_end, numbered_lines, plain_dress, until_fault}
use Rattle.script_answers.specs.Turns.{Printed, is_fault, texts}
use Rattle.script_answers.specs.declared.dress.Dress.{Dress}

-- ---- numbers

behind : List ℕ → List (List ℕ) → List ℕ
behind front ls = flat_map (λ l. front ++ l ++ NEWLINE ∷ []) ls

next_behind : (f g rest line more : List ℕ) → lines rest ≡ line ∷ lines more
    → each_behind (f ++ g) rest ≡ (f ++ (g ++ (line ++ NEWLINE ∷ []))) ++ each_behind (f ++ g) more
unfolding behind
next_behind f g rest line more cut =
    let all : each_behind (f ++ g) rest ≡ ((f ++ g) ++ line ++ NEWLINE ∷ []) ++ each_behind (f ++ g) more = ap (behind (f ++ g)) cut in
    all ∙ ap (λ x. x ++ each_behind (f ++ g) more) (append_assoc (f ++ g) line (NEWLINE ∷ []) ∙ append_assoc f g (line ++ NEWLINE ∷ []))

-- a line of an answer, and then the others
pub next_numbered : (k : ℕ) (rest line more : List ℕ) → lines rest ≡ line ∷ lines more
    → numbered_lines k rest ≡ (decimal k ++ (codes ": " ++ (line ++ NEWLINE ∷ []))) ++ numbered_lines k more
next_numbered k rest line more cut = next_behind (decimal k) (codes ": ") rest line more cut

-- an answer is written when nothing of it is left
pub all_numbered : (k : ℕ) (answer front rest : List ℕ) → length rest ≡ 0 → numbered_lines k answer ≡ front ++ numbered_lines k rest → numbered_lines k answer ≡ front
all_numbered k answer front rest none is = is ∙ (ap (λ r. front ++ numbered_lines k r) (nil_from_length rest none) ∙ append-nil front)

-- ---- one more line

pub dressed_push : (d : Dress) (k n : ℕ) (ls : List (List ℕ)) (ps : List Printed) (l : List ℕ) (p : Printed) → length ls ≡ length ps → n ≡ k + length ls
    → dressed_output_from d k (ls ++ l ∷ []) (ps ++ p ∷ []) ≡ dressed_output_from d k ls ps ++ dressed_line d n l p
dressed_push d k n [] [] l p same at =
    let here : n ≡ k = omega (arith, at) in
    append-nil (dressed_line d k l p) ∙ ap (λ i. dressed_line d i l p) (sym here)
dressed_push d k n [] (q ∷ ps) l p same at = absurd (omega (arith, same))
dressed_push d k n (m ∷ ls) [] l p same at = absurd (omega (arith, same))
dressed_push d k n (m ∷ ls) (q ∷ ps) l p same at =
    let one = dressed_line d k m q in
    let more = dressed_push d (suc k) n ls ps l p (omega (arith, same)) (omega (arith, at)) in
    ap (λ x. one ++ x) more ∙ sym (append_assoc one (dressed_output_from d (suc k) ls ps) (dressed_line d n l p))

-- lines that print nothing add nothing
pub dressed_first : (d : Dress) (k : ℕ) (ls more : List (List ℕ)) (ps : List Printed) → length ls ≡ length ps → dressed_output_from d k (ls ++ more) ps ≡ dressed_output_from d k ls ps
dressed_first d k [] [] [] same = refl
dressed_first d k [] (m ∷ more) [] same = refl
dressed_first d k [] more (p ∷ ps) same = absurd (omega (arith, same))
dressed_first d k (l ∷ ls) more [] same = absurd (omega (arith, same))
dressed_first d k (l ∷ ls) more (p ∷ ps) same = ap (λ x. dressed_line d k l p ++ x) (dressed_first d (suc k) ls more ps (omega (arith, same)))

-- ---- where a run ends

until_none : (ps : List Printed) → list_any (λ p. is_fault p.turn) ps ≡ false → until_fault ps ≡ ps
until_none [] none = refl
until_none (p ∷ ps) none = go (is_fault p.turn) none (until_none ps)
  where
    go : (b : Bool) → (b || list_any (λ q. is_fault q.turn) ps) ≡ false → (list_any (λ q. is_fault q.turn) ps ≡ false → until_fault ps ≡ ps)
        → cond b (p ∷ []) (p ∷ until_fault ps) ≡ p ∷ ps
    go true h rest = cc
    go false h rest = ap (λ x. p ∷ x) (rest h)

kept_by : (b : Bool) (ps : List Printed) → (b && list_any (λ p. is_fault p.turn) ps) ≡ false → cond b (until_fault ps) ps ≡ ps
kept_by true ps none = until_none ps none
kept_by false ps none = refl

-- a run that has not ended keeps all its lines
pub kept_all : (d : Dress) (ps : List Printed) → is_stopped d ps ≡ false → lines_until_end d ps ≡ ps
kept_all d ps going = kept_by d.stop ps going

one : (b : Bool) (p : Printed) → cond b (p ∷ []) (p ∷ []) ≡ p ∷ []
one true p = refl
one false p = refl

until_last : (ps : List Printed) (p : Printed) → list_any (λ q. is_fault q.turn) ps ≡ false → until_fault (ps ++ p ∷ []) ≡ ps ++ p ∷ []
until_last [] p none = one (is_fault p.turn) p
until_last (q ∷ ps) p none = go (is_fault q.turn) none (until_last ps p)
  where
    go : (b : Bool) → (b || list_any (λ x. is_fault x.turn) ps) ≡ false
        → (list_any (λ x. is_fault x.turn) ps ≡ false → until_fault (ps ++ p ∷ []) ≡ ps ++ p ∷ [])
        → cond b (q ∷ []) (q ∷ until_fault (ps ++ p ∷ [])) ≡ q ∷ (ps ++ p ∷ [])
    go true h rest = cc
    go false h rest = ap (λ x. q ∷ x) (rest h)

kept_last_by : (b : Bool) (ps : List Printed) (p : Printed) → (b && list_any (λ q. is_fault q.turn) ps) ≡ false → cond b (until_fault (ps ++ p ∷ [])) (ps ++ p ∷ []) ≡ ps ++ p ∷ []
kept_last_by true ps p none = until_last ps p none
kept_last_by false ps p none = refl

-- such a run keeps one more line, whatever the line prints
pub kept_last : (d : Dress) (ps : List Printed) (p : Printed) → is_stopped d ps ≡ false → lines_until_end d (ps ++ p ∷ []) ≡ ps ++ p ∷ []
kept_last d ps p going = kept_last_by d.stop ps p going

stopped_by : (b c any : Bool) → (b && any) ≡ false → (b && (any || (c || false))) ≡ (b && c)
stopped_by true true true going = cc
stopped_by true false true going = cc
stopped_by true true false going = refl
stopped_by true false false going = refl
stopped_by false c any going = refl

-- it ends after this line if the line is refused or bad
pub stopped_last : (d : Dress) (ps : List Printed) (p : Printed) → is_stopped d ps ≡ false → is_stopped d (ps ++ p ∷ []) ≡ (d.stop && is_fault p.turn)
stopped_last d ps p going =
    ap (λ x. d.stop && x) (list_any-append (λ q. is_fault q.turn) ps (p ∷ []))
    ∙ stopped_by d.stop (is_fault p.turn) (list_any (λ q. is_fault q.turn) ps) going

until_append : (ps more : List Printed) → list_any (λ q. is_fault q.turn) ps ≡ true → until_fault (ps ++ more) ≡ until_fault ps
until_append [] more some = cc
until_append (p ∷ ps) more some = go (is_fault p.turn) some (until_append ps more)
  where
    go : (b : Bool) → (b || list_any (λ q. is_fault q.turn) ps) ≡ true
        → (list_any (λ q. is_fault q.turn) ps ≡ true → until_fault (ps ++ more) ≡ until_fault ps)
        → cond b (p ∷ []) (p ∷ until_fault (ps ++ more)) ≡ cond b (p ∷ []) (p ∷ until_fault ps)
    go true h rest = refl
    go false h rest = ap (λ x. p ∷ x) (rest h)

kept_append_by : (b : Bool) (ps more : List Printed) → (b && list_any (λ q. is_fault q.turn) ps) ≡ true → cond b (until_fault (ps ++ more)) (ps ++ more) ≡ cond b (until_fault ps) ps
kept_append_by true ps more ended = until_append ps more ended
kept_append_by false ps more ended = cc

-- lines after the end of a run are not kept
pub kept_append : (d : Dress) (ps more : List Printed) → is_stopped d ps ≡ true → lines_until_end d (ps ++ more) ≡ lines_until_end d ps
kept_append d ps more ended = kept_append_by d.stop ps more ended

-- ---- answers alone

texts_from : (stop : Bool) (k : ℕ) (ls : List (List ℕ)) (ps : List Printed) → length ps ≤ length ls → dressed_output_from (record plain_dress { stop = stop }) k ls ps ≡ texts ps
texts_from stop k [] [] within = refl
texts_from stop k [] (p ∷ ps) within = absurd (omega (arith, within))
texts_from stop k (l ∷ ls) [] within = refl
texts_from stop k (l ∷ ls) (p ∷ ps) within = ap (λ x. p.text ++ x) (texts_from stop (suc k) ls ps (omega (arith, within)))

shorter : (ps : List Printed) → length (until_fault ps) ≤ length ps
shorter [] = omega arith
shorter (p ∷ ps) = go (is_fault p.turn) (shorter ps)
  where
    go : (b : Bool) → length (until_fault ps) ≤ length ps → length (cond b (p ∷ []) (p ∷ until_fault ps)) ≤ suc (length ps)
    go true h = omega arith
    go false h = omega (arith, h)

pub plain_text : (ls : List (List ℕ)) (ps : List Printed) → length ls ≡ length ps → dressed_output plain_dress ls ps ≡ texts ps
plain_text ls ps same = texts_from false 1 ls ps (omega (arith, same))

pub stopped_text : (ls : List (List ℕ)) (ps : List Printed) → length ls ≡ length ps → dressed_output (record plain_dress { stop = true }) ls ps ≡ texts (until_fault ps)
stopped_text ls ps same = let short = shorter ps in texts_from true 1 ls (until_fault ps) (omega (arith, same, short))
