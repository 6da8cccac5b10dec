-- The indexes that were noted, and the indexes that are left to note.
use Rattle.std.proofs.Common.{◌≡◌, ◌∙◌, ◌+◌, ◌<◌, ◌++◌, List, [], ◌∷◌, Option, Some, None, ℕ, ap, cond, drop, get_or, length, refl, sym}
use Rattle.std.specs.Prelude.{flat_map}
use Rattle.std.specs.List.{enumerate_from}
use Rattle.std.specs.Option.{option_or}
use Rattle.std.proofs.lemmas.List.{drop_more}
use Rattle.doc_loader.specs.ListIndexes.{last_index}
use Rattle.models.specs.ReferenceKeys.{same_reference_key}
use Rattle.models.specs.declared.reference_key.ReferenceKey.{ReferenceKey}

or_none : {T : Type 0} (o : Option T) → option_or o None ≡ o
or_none None = refl
or_none (Some x) = refl

or_or : {T : Type 0} (o p q : Option T) → option_or (option_or o p) q ≡ option_or o (option_or p q)
or_or None p q = refl
or_or (Some x) p q = refl

last_index-append : (xs ys : List (ReferenceKey × ℕ)) (k : ReferenceKey) → last_index (xs ++ ys) k ≡ option_or (last_index ys k) (last_index xs k)
last_index-append [] ys k = sym (or_none (last_index ys k))
last_index-append (x ∷ xs) ys k =
    let here = cond (same_reference_key x.0 k) (Some x.1) None in
    ap (λ o. option_or o here) (last_index-append xs ys k) ∙ or_or (last_index ys k) (last_index xs k) here

-- some of the indexes that are left are noted
noted : (all xs ys : List (ReferenceKey × ℕ)) (k : ReferenceKey) (old new whole : Option ℕ) → all ≡ xs ++ ys → new ≡ option_or (last_index xs k) old → option_or (last_index all k) old ≡ whole
    → option_or (last_index ys k) new ≡ whole
noted all xs ys k old new whole split more so_far =
    ap (option_or (last_index ys k)) more
    ∙ sym (or_or (last_index ys k) (last_index xs k) old)
    ∙ ap (λ o. option_or o old) (sym (last_index-append xs ys k) ∙ ap (λ zs. last_index zs k) (sym split))
    ∙ so_far

left : {X : Type 0} (xs : List X) (i : ℕ) (x : X) → i < length xs → x ≡ get_or xs i x → drop i xs ≡ x ∷ drop (i + 1) xs
left xs i x below is = drop_more xs i x below ∙ ap (λ y. y ∷ drop (i + 1) xs) (sym is)

pub noted-more : {X : Type 0} (f : X → List (ReferenceKey × ℕ)) (xs : List X) (i : ℕ) (x : X) (k : ReferenceKey) (old new whole : Option ℕ) → i < length xs → x ≡ get_or xs i x
    → new ≡ option_or (last_index (f x) k) old → option_or (last_index (flat_map f (drop i xs)) k) old ≡ whole → option_or (last_index (flat_map f (drop (i + 1) xs)) k) new ≡ whole
noted-more f xs i x k old new whole below is = noted (flat_map f (drop i xs)) (f x) (flat_map f (drop (i + 1) xs)) k old new whole (ap (flat_map f) (left xs i x below is))

pub noted_numbered-more : {X : Type 0} (f : ℕ × X → List (ReferenceKey × ℕ)) (xs : List X) (i : ℕ) (x : X) (k : ReferenceKey) (old new whole : Option ℕ) → i < length xs → x ≡ get_or xs i x
    → new ≡ option_or (last_index (f (i, x)) k) old → option_or (last_index (flat_map f (enumerate_from i (drop i xs))) k) old ≡ whole
    → option_or (last_index (flat_map f (enumerate_from (i + 1) (drop (i + 1) xs))) k) new ≡ whole
noted_numbered-more f xs i x k old new whole below is =
    noted (flat_map f (enumerate_from i (drop i xs))) (f (i, x)) (flat_map f (enumerate_from (i + 1) (drop (i + 1) xs))) k old new whole (ap (λ ys. flat_map f (enumerate_from i ys)) (left xs i x below is))
