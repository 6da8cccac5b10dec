-- The verb with which a frequent line begins.
use Rattle.std.proofs.Common.{◌∙◌, ◌≡◌, ◌++◌, ◌+◌, ◌<◌, ◌≤◌, ◌⊎◌, ℕ, Bool, true, false, List, [], ◌∷◌, Option, None, Some, ap, append_assoc, arith, codes, cond, drop, get_or, inl, inr, is_some, length, nat_eq, nat_lt, not, option_map, refl, subst, sym, take, true≢false}
use Rattle.std.specs.List.{after_first, before_first, list_all, position_or_len, starts_with}
use Rattle.std.specs.Option.{option_zip}
use Rattle.std.specs.Str.{bytes_eq}
use Rattle.std.proofs.Math.Seq.{drop-append-add, take-append_seam}
use Rattle.std.proofs.lemmas.Bool.{and_parts}
use Rattle.std.proofs.lemmas.Bool.Decides.{Decides-eqb, nat_tests}
use Rattle.std.proofs.lemmas.List.{drop_all}
use Rattle.std.proofs.lemmas.List.Sums.{passes_at_first, split_at_first}
use Rattle.std.proofs.lemmas.Slice.Eq.{bytes_eq-Decides, starts_is}
use Rattle.mm_types.specs.declared.numbers.ObjectNo.{ObjectNo}
use Rattle.frequent_lines.specs.Frequent.{at_in, frequent_in, frequent_with, object_feature_in}
use Rattle.script_lines.specs.Values.{object_in}
use Rattle.frequent_lines.specs.Verbs.{long_verb, long_verb_in, short_verb, short_verb_in}
use Rattle.script_lines.specs.Words.{is_space}
use Rattle.frequent_lines.specs.declared.frequent.Frequent.TheVariants as frequent
use Rattle.frequent_lines.specs.declared.frequent_act.FrequentAct.{FrequentAct}
use Rattle.frequent_lines.specs.declared.verbs.LongVerb.{LongVerb}
use Rattle.frequent_lines.specs.declared.verbs.LongVerb.TheVariants as long
use Rattle.frequent_lines.specs.declared.verbs.ShortVerb.{ShortVerb}
use Rattle.frequent_lines.specs.declared.verbs.ShortVerb.TheVariants as short

-- ---- a text, a space, and the rest of a line

no_space_in : List ℕ → Bool
no_space_in w = list_all (λ c. not (is_space c)) w

text_len : (w rest : List ℕ) → no_space_in w ≡ true → position_or_len is_space (w ++ 32 ∷ rest) ≡ length w
unfolding no_space_in
text_len [] rest h = refl
text_len (c ∷ cs) rest h =
    let parts = and_parts (not (is_space c)) _ h in
    let more = text_len cs rest parts.1 in
    rw (parts.0, more) (omega arith)

-- a line is cut at its first space
cut_line : (line w rest : List ℕ) → no_space_in w ≡ true → line ≡ w ++ 32 ∷ rest → (before_first is_space line ≡ w) × (after_first is_space line ≡ rest)
cut_line line w rest plain is =
    let at : position_or_len is_space line ≡ length w = ap (position_or_len is_space) is ∙ text_len w rest plain in (
      ap (λ k. take k line) at ∙ (ap (take (length w)) is ∙ take-append_seam w (32 ∷ rest)),
      ap (λ k. drop (k + 1) line) at ∙ (ap (drop (length w + 1)) is ∙ drop-append-add w (32 ∷ rest) 1),
    )

frequent_at : (line w rest : List ℕ) → no_space_in w ≡ true → line ≡ w ++ 32 ∷ rest → frequent_in line ≡ frequent_with w rest
unfolding frequent_in
frequent_at line w rest plain is =
    let cut = cut_line line w rest plain is in
    ap (λ b. frequent_with b (after_first is_space line)) cut.0 ∙ ap (frequent_with w) cut.1

-- the space after a text
pub space_at : (line w rest : List ℕ) → line ≡ w ++ 32 ∷ rest → (length w < length line) × (get_or line (length w) 0 ≡ 32)
space_at line w rest is = rw is (at w)
  where
    at : (w : List ℕ) → (length w < length (w ++ 32 ∷ rest)) × (get_or (w ++ 32 ∷ rest) (length w) 0 ≡ 32)
    at [] = (omega arith, refl)
    at (c ∷ cs) = let more = at cs in (omega arith, more.1)

-- ---- verbs

-- a line begins with a text
begun : (line w : List ℕ) → starts_with nat_eq line w ≡ true → line ≡ w ++ drop (length w) line
begun line w h = (starts_is Decides-eqb line w (starts_with nat_eq line w) refl).0 h

first_or : {V : Type 0} (P : V → Type 0) (b : Bool) (x v : V) (r : Option V) → cond b (Some x) r ≡ Some v → (b ≡ true → P x) → (r ≡ Some v → P v) → P v
first_or P true x v r h is more = let e : x ≡ v = cc in subst P e (is refl)
first_or P false x v r h is more = more h

none_or : {V : Type 0} (b : Bool) (x : V) (r : Option V) → cond b (Some x) r ≡ None → (b ≡ false) × (r ≡ None)
none_or true x r h = absurd (true≢false (ap is_some h))
none_or false x r h = (refl, h)

abbrev BeginsShort : List ℕ → ShortVerb → Type 0
BeginsShort line v = line ≡ short_verb v ++ 32 ∷ drop 4 line

-- a verb of three letters and a space
short_is : (line : List ℕ) (v : ShortVerb) → short_verb_in line ≡ Some v → line ≡ short_verb v ++ 32 ∷ drop 4 line
short_is line v h =
    first_or (BeginsShort line) (starts_with nat_eq line (codes "new ")) short.New v _ h (begun line (codes "new "))
    (λ h. first_or (BeginsShort line) (starts_with nat_eq line (codes "get ")) short.Get v _ h (begun line (codes "get "))
    (λ h. first_or (BeginsShort line) (starts_with nat_eq line (codes "set ")) short.Set v _ h (begun line (codes "set "))
    (λ h. first_or (BeginsShort line) (starts_with nat_eq line (codes "add ")) short.Add v _ h (begun line (codes "add "))
    (λ h. absurd (true≢false (ap is_some (sym h)))))))

short_len : (v : ShortVerb) → length (short_verb v) ≡ 3
short_len short.New = refl
short_len short.Get = refl
short_len short.Set = refl
short_len short.Add = refl

pub short_space : (line : List ℕ) (v : ShortVerb) → short_verb_in line ≡ Some v → (3 < length line) × (get_or line 3 0 ≡ 32)
short_space line v h =
    let space = space_at line (short_verb v) (drop 4 line) (short_is line v h) in
    rw (short_len v) at space

abbrev BeginsLong : List ℕ → LongVerb → Type 0
BeginsLong line v = line ≡ long_verb v ++ 32 ∷ drop (length (long_verb v) + 1) line

-- a longer verb and a space
pub long_is : (line : List ℕ) (v : LongVerb) → long_verb_in line ≡ Some v → line ≡ long_verb v ++ 32 ∷ drop (length (long_verb v) + 1) line
long_is line v h =
    first_or (BeginsLong line) (starts_with nat_eq line (codes "isset ")) long.IsSet v _ h (begun line (codes "isset "))
    (λ h. first_or (BeginsLong line) (starts_with nat_eq line (codes "unset ")) long.Unset v _ h (begun line (codes "unset "))
    (λ h. first_or (BeginsLong line) (starts_with nat_eq line (codes "remove ")) long.Remove v _ h (begun line (codes "remove "))
    (λ h. first_or (BeginsLong line) (starts_with nat_eq line (codes "removevalue ")) long.RemoveValue v _ h (begun line (codes "removevalue "))
    (λ h. first_or (BeginsLong line) (starts_with nat_eq line (codes "move ")) long.Move v _ h (begun line (codes "move "))
    (λ h. first_or (BeginsLong line) (starts_with nat_eq line (codes "resolve ")) long.Resolve v _ h (begun line (codes "resolve "))
    (λ h. absurd (true≢false (ap is_some (sym h)))))))))

-- ---- a line is read from its verb and the text after the verb

short_plain : (v : ShortVerb) → no_space_in (short_verb v) ≡ true
unfolding no_space_in
short_plain short.New = refl
short_plain short.Get = refl
short_plain short.Set = refl
short_plain short.Add = refl

long_plain : (v : LongVerb) → no_space_in (long_verb v) ≡ true
unfolding no_space_in
long_plain long.IsSet = refl
long_plain long.Unset = refl
long_plain long.Remove = refl
long_plain long.RemoveValue = refl
long_plain long.Move = refl
long_plain long.Resolve = refl

pub short_read : (line : List ℕ) (v : ShortVerb) → short_verb_in line ≡ Some v → frequent_in line ≡ frequent_with (short_verb v) (drop 4 line)
short_read line v h = frequent_at line (short_verb v) (drop 4 line) (short_plain v) (short_is line v h)

-- a verb of three letters other than `new` is one of a line about a feature
pub short_at : (v : ShortVerb) (text : List ℕ) → (v ≡ short.New → ⊥) → frequent_with (short_verb v) text ≡ at_in (short_verb v) text
short_at short.New text h = absurd (h refl)
short_at short.Get text h = refl
short_at short.Set text h = refl
short_at short.Add text h = refl

long_at : (v : LongVerb) (text : List ℕ) → frequent_with (long_verb v) text ≡ at_in (long_verb v) text
long_at long.IsSet text = refl
long_at long.Unset text = refl
long_at long.Remove text = refl
long_at long.RemoveValue text = refl
long_at long.Move text = refl
long_at long.Resolve text = refl

pub long_read : (line : List ℕ) (v : LongVerb) → long_verb_in line ≡ Some v → frequent_in line ≡ at_in (long_verb v) (drop (length (long_verb v) + 1) line)
long_read line v h =
    frequent_at line (long_verb v) (drop (length (long_verb v) + 1) line) (long_plain v) (long_is line v h)
    ∙ long_at v (drop (length (long_verb v) + 1) line)

pub container_is : (line : List ℕ) → starts_with nat_eq line (codes "container ") ≡ true → line ≡ codes "container" ++ 32 ∷ drop 10 line
container_is line h = begun line (codes "container ") h

pub container_read : (line : List ℕ) → starts_with nat_eq line (codes "container ") ≡ true
    → frequent_in line ≡ option_map frequent.Container (object_in (drop 10 line))
unfolding no_space_in
container_read line h = frequent_at line (codes "container") (drop 10 line) refl (container_is line h)

pub fragment_is : (line : List ℕ) → starts_with nat_eq line (codes "fragment ") ≡ true → line ≡ codes "fragment" ++ 32 ∷ drop 9 line
fragment_is line h = begun line (codes "fragment ") h

pub fragment_read : (line : List ℕ) → starts_with nat_eq line (codes "fragment ") ≡ true
    → frequent_in line ≡ option_map frequent.Fragment (object_in (drop 9 line))
unfolding no_space_in
fragment_read line h = frequent_at line (codes "fragment") (drop 9 line) refl (fragment_is line h)

-- ---- any other line

-- a line with nothing after its first space is not frequent
nothing_after : (w : List ℕ) → None ≡ frequent_with w []
nothing_after w = at (bytes_eq w (codes "new")) (bytes_eq w (codes "container")) (bytes_eq w (codes "fragment"))
  where
    at : (a b c : Bool) → None ≡ cond a (option_map frequent.New None) (cond b (option_map frequent.Container None) (cond c (option_map frequent.Fragment None) None))
    at true b c = refl
    at false true c = refl
    at false false true = refl
    at false false false = refl

-- a line that does not begin with a text and a space has another text before its first space
differs : (line b rest w : List ℕ) → line ≡ b ++ 32 ∷ rest → starts_with nat_eq line (w ++ 32 ∷ []) ≡ false → bytes_eq b w ≡ false
differs line b rest w is h = at (bytes_eq b w) refl
  where
    at : (d : Bool) → bytes_eq b w ≡ d → d ≡ false
    at true e =
        let same : b ≡ w = (bytes_eq-Decides b w).0 e in
        let begins : line ≡ (w ++ 32 ∷ []) ++ rest = is ∙ (ap (λ x. x ++ 32 ∷ rest) same ∙ sym (append_assoc w (32 ∷ []) rest)) in
        sym ((starts_is Decides-eqb line (w ++ 32 ∷ []) (starts_with nat_eq line (w ++ 32 ∷ [])) refl).1 rest begins) ∙ h
    at false e = refl

no_act : (o : Option (ObjectNo × List ℕ)) → None ≡ option_map (λ (p : (ObjectNo × List ℕ) × FrequentAct). frequent.At p.0.0 p.0.1 p.1) (option_zip o None)
no_act None = refl
no_act (Some x) = refl

-- a line with another verb is not frequent
pub no_verb : (b rest : List ℕ) → bytes_eq b (codes "new") ≡ false → bytes_eq b (codes "container") ≡ false → bytes_eq b (codes "fragment") ≡ false
    → bytes_eq b (codes "get") ≡ false → bytes_eq b (codes "set") ≡ false → bytes_eq b (codes "add") ≡ false → bytes_eq b (codes "isset") ≡ false
    → bytes_eq b (codes "unset") ≡ false → bytes_eq b (codes "remove") ≡ false → bytes_eq b (codes "removevalue") ≡ false
    → bytes_eq b (codes "move") ≡ false → bytes_eq b (codes "resolve") ≡ false → None ≡ frequent_with b rest
no_verb b rest new container fragment get set add isset unset remove removevalue move resolve =
    rw (new, container, fragment, get, set, add, isset, unset, remove, removevalue, move, resolve) (no_act (object_feature_in rest))

other_verb : (line b rest : List ℕ) → line ≡ b ++ 32 ∷ rest → short_verb_in line ≡ None → long_verb_in line ≡ None
    → starts_with nat_eq line (codes "container ") ≡ false → starts_with nat_eq line (codes "fragment ") ≡ false → None ≡ frequent_with b rest
other_verb line b rest is no_short no_long no_container no_fragment =
    let new = none_or (starts_with nat_eq line (codes "new ")) short.New _ no_short in
    let get = none_or (starts_with nat_eq line (codes "get ")) short.Get _ new.1 in
    let set = none_or (starts_with nat_eq line (codes "set ")) short.Set _ get.1 in
    let add = none_or (starts_with nat_eq line (codes "add ")) short.Add _ set.1 in
    let isset = none_or (starts_with nat_eq line (codes "isset ")) long.IsSet _ no_long in
    let unset = none_or (starts_with nat_eq line (codes "unset ")) long.Unset _ isset.1 in
    let remove = none_or (starts_with nat_eq line (codes "remove ")) long.Remove _ unset.1 in
    let removevalue = none_or (starts_with nat_eq line (codes "removevalue ")) long.RemoveValue _ remove.1 in
    let move = none_or (starts_with nat_eq line (codes "move ")) long.Move _ removevalue.1 in
    let resolve = none_or (starts_with nat_eq line (codes "resolve ")) long.Resolve _ move.1 in
    let d = differs line b rest in
    no_verb b rest (d (codes "new") is new.0) (d (codes "container") is no_container) (d (codes "fragment") is no_fragment)
    (d (codes "get") is get.0) (d (codes "set") is set.0) (d (codes "add") is add.0) (d (codes "isset") is isset.0)
    (d (codes "unset") is unset.0) (d (codes "remove") is remove.0) (d (codes "removevalue") is removevalue.0)
    (d (codes "move") is move.0) (d (codes "resolve") is resolve.0)

-- the first space of a line, or the end
cut_at_first : (line : List ℕ) → (after_first is_space line ≡ []) ⊎ (line ≡ before_first is_space line ++ 32 ∷ after_first is_space line)
cut_at_first line = at (nat_lt (position_or_len is_space line) (length line)) refl
  where
    at : (b : Bool) → nat_lt (position_or_len is_space line) (length line) ≡ b
        → (after_first is_space line ≡ []) ⊎ (line ≡ before_first is_space line ++ 32 ∷ after_first is_space line)
    at true e =
        let within : position_or_len is_space line < length line = grind (arith, nat_tests) in
        let found = passes_at_first is_space line 0 within in
        let space : get_or line (position_or_len is_space line) 0 ≡ 32 = grind (arith, nat_tests) in
        inr (split_at_first is_space line 0 within ∙ ap (λ c. before_first is_space line ++ c ∷ after_first is_space line) space)
    at false e =
        let past : length line ≤ position_or_len is_space line = grind (arith, nat_tests) in
        inl (drop_all (position_or_len is_space line + 1) line (omega arith))

pub other_read : (line : List ℕ) → short_verb_in line ≡ None → long_verb_in line ≡ None
    → starts_with nat_eq line (codes "container ") ≡ false → starts_with nat_eq line (codes "fragment ") ≡ false → None ≡ frequent_in line
unfolding frequent_in
other_read line no_short no_long no_container no_fragment = elim (cut_at_first line) [
  | inl none ↦ rw none (nothing_after (before_first is_space line))
  | inr is ↦ other_verb line (before_first is_space line) (after_first is_space line) is no_short no_long no_container no_fragment
]
