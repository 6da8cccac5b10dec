-- One more content or object is read.
use Rattle.std.proofs.Common.{◌≡◌, ◌∙◌, ◌+◌, ◌<◌, ◌++◌, Bool, true, false, List, [], ◌∷◌, Option, Some, None, ℕ, ap, arith, cond, get_or, length, refl, sym, take}
use Rattle.std.specs.Prelude.{◌&&◌, ◌||◌, IfOk, Result, Ok, Err, is_some, option_to_list}
use Rattle.std.specs.List.{filter_map, list_any}
use Rattle.std.proofs.lemmas.Bool.{and_parts}
use Rattle.std.proofs.lemmas.List.{get_or-map, length-append, take_more}
use Rattle.serde_json.specs.Data.{Members, null}
use Rattle.mm_types.specs.Resolved.{Metamodel}
use Rattle.mm_types.specs.declared.numbers.FeatureNo.{FeatureNo}
use Rattle.web_uris.specs.Paths.{new_path}
use Rattle.doc_parts.specs.FoundParts.{Knows, Seen, has_other_member, part_seen, seen_part}
use Rattle.doc_parts.specs.Parts.{Entry, Part, entry_at}
use Rattle.doc_parts.specs.declared.found.FoundParts.{FoundParts}
use Rattle.doc_parts.specs.declared.found.FoundPart.{FoundPart}
use Rattle.doc_parts.proofs.KnowLemmas.{count_known}
use Rattle.resource_docs.proofs.ReadingLemmas.{any-push, filter_map-push}

pub if_ok : {X E : Type 0} (P Q : X → Type 0) (r : Result X E) → ((x : X) → P x → Q x) → IfOk r P → IfOk r Q
if_ok P Q (Ok x) more h = more x h
if_ok P Q (Err e) more h = tt

---------------------------------------------------------------- contents

pub entries_more : (m : Metamodel) (ms : Members) (fs : List FeatureNo) (i : ℕ) (d : FeatureNo) → i < length fs
    → filter_map (entry_at m ms) (take i fs) ++ option_to_list (entry_at m ms (get_or fs i d)) ≡ filter_map (entry_at m ms) (take (i + 1) fs)
entries_more m ms fs i d below = sym (ap (filter_map (entry_at m ms)) (take_more fs i d below) ∙ filter_map-push (entry_at m ms) (take i fs) (get_or fs i d))

count_of : (o : Option Entry) → length (option_to_list o) ≡ cond (is_some o) 1 0
count_of None = refl
count_of (Some e) = refl

pub count_more : (m : Metamodel) (ms : Members) (fs : List FeatureNo) (i : ℕ) (d : FeatureNo) (b : Bool) → i < length fs → b ≡ is_some (entry_at m ms (get_or fs i d))
    → length (filter_map (entry_at m ms) (take (i + 1) fs)) ≡ length (filter_map (entry_at m ms) (take i fs)) + cond b 1 0
count_more m ms fs i d b below is =
    let o = entry_at m ms (get_or fs i d) in
    ap length (sym (entries_more m ms fs i d below))
    ∙ length-append (filter_map (entry_at m ms) (take i fs)) (option_to_list o)
    ∙ ap (λ n. length (filter_map (entry_at m ms) (take i fs)) + n) (count_of o ∙ ap (λ x. cond x 1 0) (sym is))

---------------------------------------------------------------- objects

no_part : Part
no_part = record { path = new_path 0 []; json = null }

pub pair_is : {X : Type 0} (xs : List X) (a b : X) → length xs ≡ 2 → a ≡ get_or xs 0 a → b ≡ get_or xs 1 b → xs ≡ a ∷ b ∷ []
pair_is [] a b long one two = absurd (omega (arith, long))
pair_is (x ∷ []) a b long one two = absurd (omega (arith, long))
pair_is (x ∷ y ∷ []) a b long one two = ap (λ z. z ∷ y ∷ []) (sym one) ∙ ap (λ z. a ∷ z ∷ []) (sym two)
pair_is (x ∷ y ∷ z ∷ zs) a b long one two = absurd (omega (arith, long))

-- the part of a row
pub part_at : List Part → ℕ → Part
part_at ps i = get_or ps i no_part

pub parts_more : (m : Metamodel) (f : FoundParts) (ps : List Part) (i : ℕ) → Knows m f ps → i < length f.parts.items → take i ps ++ part_at ps i ∷ [] ≡ take (i + 1) ps
unfolding part_at
parts_more m f ps i known below = let e = count_known m ps f.parts.items known.parts in sym (take_more ps i no_part (omega (arith, below, e)))

pub row_of_part : (m : Metamodel) (f : FoundParts) (ps : List Part) (i : ℕ) (rs : List FoundPart) (d : FoundPart) → Knows m f ps → i < length f.parts.items → rs ≡ f.parts.items
    → part_seen (get_or rs i d) ≡ seen_part m ps (part_at ps i)
unfolding part_at
row_of_part m f ps i rs d known below same =
    ap (λ xs. part_seen (get_or xs i d)) same
    ∙ sym (get_or-map part_seen f.parts.items i d (part_seen d) below)
    ∙ ap (λ ss. get_or ss i (part_seen d)) known.parts
    ∙ (let e = count_known m ps f.parts.items known.parts in get_or-map (seen_part m ps) ps i no_part (part_seen d) (omega (arith, below, e)))

none-more : {X : Type 0} (p : X → Bool) (xs : List X) (i : ℕ) (d : X) (a b : Bool) → i < length xs → (a ≡ true → list_any p (take i xs) ≡ false) → (b ≡ true → p (get_or xs i d) ≡ false)
    → a && b ≡ true → list_any p (take (i + 1) xs) ≡ false
none-more p xs i d a b below before here both =
    let two = and_parts a b both in
    ap (list_any p) (take_more xs i d below) ∙ any-push p (take i xs) (get_or xs i d) ∙ ap (λ x. x || p (get_or xs i d)) (before two.0) ∙ here two.1

pub others-more : (m : Metamodel) (f : FoundParts) (ps : List Part) (i : ℕ) (a b : Bool) → Knows m f ps → i < length f.parts.items → (a ≡ true → list_any (λ p. has_other_member m (seen_part m ps p)) (take i ps) ≡ false)
    → (b ≡ true → has_other_member m (seen_part m ps (part_at ps i)) ≡ false) → a && b ≡ true → list_any (λ p. has_other_member m (seen_part m ps p)) (take (i + 1) ps) ≡ false
unfolding part_at
others-more m f ps i a b known below before here both =
    let e = count_known m ps f.parts.items known.parts in none-more (λ p. has_other_member m (seen_part m ps p)) ps i no_part a b (omega (arith, below, e)) before here both

pub other-as : (m : Metamodel) (s t : Seen) → has_other_member m s ≡ false → s ≡ t → has_other_member m t ≡ false
other-as m s t is same = sym (ap (has_other_member m) same) ∙ is
