-- The lines that were read of an input.
use Rattle.std.proofs.Common.{◌≡◌, ◌≢◌, ◌∙◌, ◌+◌, ◌-◌, ◌^◌, ◌<◌, ◌≤◌, ◌++◌, ◌||◌, inl, inr, ℕ, Bool, true, List, [], ◌∷◌, Option, None, Some, ap, append-nil, append_assoc, arith, cond, length, lt-ltb, ne_eqb, refl, sym}
use Rattle.std.specs.List.{list_any}
use Rattle.std.specs.Prelude.{IfSome, OnSome, nat_lt}
use Rattle.std.specs.Io.KnownBytes.{IsAtEnd}
use Rattle.std.proofs.lemmas.List.{length-append, nil_from_length}
use Rattle.std.proofs.lemmas.List.Folds.{list_any-append}
use Rattle.std.proofs.lemmas.List.Elements.{All-head, All-tail}
use Rattle.std.proofs.Math.Bool.{or-true}
use Rattle.durable.specs.Answered.{IsTooLong}
use Rattle.mm_types.specs.declared.limits.TheConstants.{INPUT_BYTES}
use Rattle.script_lines.specs.Lines.{lines, with_byte}
use Rattle.script_streams.specs.Line.{BeginsTooLong, HasNoNewline, ReadsLine}
use Rattle.script_streams.specs.declared.line.LineEnd.{LineEnd}
use Rattle.script_streams.specs.declared.line.LineEnd.TheVariants.{Input, Newline}

-- ---- the lines of some bytes, by their first

lines-line : (line rest : List ℕ) → HasNoNewline line → lines (line ++ 10 ∷ rest) ≡ line ∷ lines rest
lines-line [] rest plain = refl
lines-line (c ∷ cs) rest plain =
    ap (λ b. cond b ([] ∷ lines (cs ++ 10 ∷ rest)) (with_byte c (lines (cs ++ 10 ∷ rest)))) (ne_eqb c 10 (All-head (λ y. y ≢ 10) c cs plain))
    ∙ ap (with_byte c) (lines-line cs rest (All-tail (λ y. y ≢ 10) c cs plain))

lines-last_line : (line : List ℕ) → HasNoNewline line → 0 < length line → lines line ≡ line ∷ []
lines-last_line [] plain some = absurd (omega (arith, some))
lines-last_line (c ∷ []) plain some = ap (λ b. cond b ([] ∷ []) ((c ∷ []) ∷ [])) (ne_eqb c 10 (All-head (λ y. y ≢ 10) c [] plain))
lines-last_line (c ∷ d ∷ ds) plain some =
    ap (λ b. cond b ([] ∷ lines (d ∷ ds)) (with_byte c (lines (d ∷ ds)))) (ne_eqb c 10 (All-head (λ y. y ≢ 10) c (d ∷ ds) plain))
    ∙ ap (with_byte c) (lines-last_line (d ∷ ds) (All-tail (λ y. y ≢ 10) c (d ∷ ds) plain) (omega arith))

lines-next : (bytes rest line : List ℕ) → HasNoNewline line → bytes ≡ (line ++ 10 ∷ []) ++ rest → lines bytes ≡ line ∷ lines rest
lines-next bytes rest line plain is = ap lines (is ∙ append_assoc line (10 ∷ []) rest) ∙ lines-line line rest plain

lines-last : (bytes rest line : List ℕ) → HasNoNewline line → 0 < length line → bytes ≡ line ++ rest → rest ≡ [] → lines bytes ≡ line ∷ lines rest
lines-last bytes rest line plain some is none =
    ap lines (is ∙ ap (λ r. line ++ r) none ∙ append-nil line) ∙ lines-last_line line plain some ∙ ap (λ r. line ∷ lines r) (sym none)

-- ---- the lines that were read

-- some lines were read from the known bytes
abbrev pub LinesRead : Option (List ℕ) → Option (List ℕ) → List (List ℕ) → Type 0
LinesRead None new ls = Unit {0}
LinesRead (Some xs) None ls = ⊥
LinesRead (Some xs) (Some ys) ls = lines xs ≡ ls ++ lines ys

pub none_read : (a : Option (List ℕ)) → LinesRead a a []
none_read None = tt
none_read (Some x) = refl

module _ (a b c : Option (List ℕ)) (done : List (List ℕ)) (line : List ℕ) where
  pub read_more : (end : LineEnd) → LinesRead a b done → ReadsLine b c line end → (end ≡ Input → 0 < length line) → LinesRead a c (done ++ line ∷ [])
  read_more end had read some = more a b c end had read some
    where
      behind : (x y z : List ℕ) → lines x ≡ done ++ lines y → lines y ≡ line ∷ lines z → lines x ≡ (done ++ line ∷ []) ++ lines z
      behind x y z had one = had ∙ ap (λ ls. done ++ ls) one ∙ sym (append_assoc done (line ∷ []) (lines z))

      more : (a b c : Option (List ℕ)) (end : LineEnd) → LinesRead a b done → ReadsLine b c line end → (end ≡ Input → 0 < length line) → LinesRead a c (done ++ line ∷ [])
      more None b c end had read some = tt
      more (Some x) None c end had read some = absurd had
      more (Some x) (Some y) None Newline had read some = absurd read.consumed
      more (Some x) (Some y) None Input had read some = absurd read.consumed.0
      more (Some x) (Some y) (Some z) Newline had read some = behind x y z had (lines-next y z line read.in_line read.consumed)
      more (Some x) (Some y) (Some z) Input had read some = behind x y z had (lines-last y z line read.in_line (some refl) read.consumed.0 read.consumed.1)

-- the end of the input was read
pub read_end : (a b c : Option (List ℕ)) (done : List (List ℕ)) (line : List ℕ) → LinesRead a b done → ReadsLine b c line Input → length line ≡ 0 → LinesRead a c done
read_end None b c done line had read none = tt
read_end (Some x) None c done line had read none = absurd had
read_end (Some x) (Some y) None done line had read none = absurd read.consumed.0
read_end (Some x) (Some y) (Some z) done line had read none =
    had ∙ ap (λ bytes. done ++ lines bytes) (read.consumed.0 ∙ ap (λ l. l ++ z) (nil_from_length line none))

pub at_end : (a b c : Option (List ℕ)) (done : List (List ℕ)) (line : List ℕ) → LinesRead a b done → ReadsLine b c line Input → OnSome a (IsAtEnd c)
at_end None b c done line had read = tt
at_end (Some x) None c done line had read = absurd had
at_end (Some x) (Some y) c done line had read = read.consumed.1

-- ---- a line that is too long

byte_front : (c : ℕ) (ls : List (List ℕ)) → (more : List ℕ) × (others : List (List ℕ)) × (with_byte c ls ≡ (c ∷ more) ∷ others)
byte_front c [] = ([], [], refl)
byte_front c (l ∷ ls) = (l, ls, refl)

lines-front : (line rest : List ℕ) → HasNoNewline line → 0 < length line → (more : List ℕ) × (others : List (List ℕ)) × (lines (line ++ rest) ≡ (line ++ more) ∷ others)
lines-front [] rest plain some = absurd (omega (arith, some))
lines-front (c ∷ []) rest plain some =
    let front = byte_front c (lines rest) in
    (front.0, front.1, ap (λ b. cond b ([] ∷ lines rest) (with_byte c (lines rest))) (ne_eqb c 10 (All-head (λ y. y ≢ 10) c [] plain)) ∙ front.2)
lines-front (c ∷ d ∷ ds) rest plain some =
    let front = lines-front (d ∷ ds) rest (All-tail (λ y. y ≢ 10) c (d ∷ ds) plain) (omega arith) in (
      front.0,
      front.1,
      ap (λ b. cond b ([] ∷ lines (d ∷ ds ++ rest)) (with_byte c (lines (d ∷ ds ++ rest)))) (ne_eqb c 10 (All-head (λ y. y ≢ 10) c (d ∷ ds) plain))
          ∙ ap (with_byte c) front.2,
    )

is_long : List ℕ → Bool
is_long l = nat_lt INPUT_BYTES (length l)

any_long : (bytes : List ℕ) → BeginsTooLong bytes → list_any is_long (lines bytes) ≡ true
unfolding is_long
any_long bytes h =
    let long = h.long in
    let front = lines-front h.line h.rest h.in_line (omega (arith, long)) in
    let whole : length (h.line ++ front.0) ≡ length h.line + length front.0 = length-append h.line front.0 in
    let over : is_long (h.line ++ front.0) ≡ true = lt-ltb _ _ (omega (arith, long, whole)) in
    ap (list_any is_long) (ap lines h.bytes_are ∙ front.2) ∙ ap (λ b. b || list_any is_long front.1) over

module _ (done : List (List ℕ)) where
  -- the next line is too long
  pub too_long : (a b : Option (List ℕ)) → LinesRead a b done → IfSome b BeginsTooLong → IfSome a (λ input. IsTooLong (lines input))
  unfolding is_long
  too_long None b read long = tt
  too_long (Some x) None read long = absurd read
  too_long (Some x) (Some y) read long =
      inl (ap (list_any is_long) read ∙ list_any-append is_long done (lines y) ∙ ap (λ t. list_any is_long done || t) (any_long y long) ∙ or-true (list_any is_long done))

  -- there are as many lines as can be counted
  pub too_many : (a b : Option (List ℕ)) → LinesRead a b done → 2 ^ 64 - 1 ≤ length done → IfSome a (λ input. IsTooLong (lines input))
  too_many None b read many = tt
  too_many (Some x) None read many = absurd read
  too_many (Some x) (Some y) read many =
      let all : length (lines x) ≡ length done + length (lines y) = ap length read ∙ length-append done (lines y) in
      inr (omega (arith, all, many))
