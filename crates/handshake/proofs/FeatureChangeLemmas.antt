-- Feature changes that are collected, one after another.
use Rattle.std.proofs.Common.{◌≡◌, ◌<◌, ◌≤◌, ◌+◌, ◌-◌, subst, ℕ, zero, suc, length, drop, take, slice_get, slice_index_or, Option, Some, None, option_map, option_to_list, if◌then◌else◌, arith, Bool, true, false, cond, List, [], ◌∷◌, ◌++◌, filter, map, refl, append_assoc, ap, sym, ◌∙◌}
use Rattle.std.proofs.lemmas.Bool.{or_parts}
use Rattle.std.proofs.lemmas.List.{append-nil, drop_all, drop_more, map-append}
use Rattle.std.proofs.lemmas.Option.{none-some, slice_get-get_or}
use Rattle.mm_types.specs.Ends.{first_in, has_value, index_in}
use Rattle.mm_types.specs.Same.{same_value}
use Rattle.mm_types.specs.declared.end.End.{End}
use Rattle.mm_types.specs.declared.value.Value.{Value}
use Rattle.mm_types.specs.declared.value.Value.TheVariants as value
use Rattle.handshake.specs.Displaced.{link_ends_backwards}
use Rattle.removal.specs.TreeLinkEnds.{link_end}
use Rattle.handshake.specs.FeatureChange.{feature_change}
use Rattle.handshake.specs.FeatureChanges.{all_lost}
use Rattle.handshake.specs.declared.change_kind.ChangeKind.TheVariants.{LosesAt}
use Rattle.handshake.specs.declared.change_kind.FeatureChange.{FeatureChange}
use Rattle.removal.specs.declared.link_end.LinkEnd.{LinkEnd}

pub filter-two : {X : Type 0} (p : X → Bool) (x y : X) → filter p (x ∷ []) ++ filter p (y ∷ []) ≡ filter p (x ∷ y ∷ [])
filter-two p x y = elim (p x) as (λ b. cond b (x ∷ []) [] ++ filter p (y ∷ []) ≡ cond b (x ∷ filter p (y ∷ [])) (filter p (y ∷ []))) [ true ↦ refl | false ↦ refl ]

-- what is made of two lists, in two steps, is made of both lists together
pub both-added : {X Y : Type 0} (f : X → Y) (xs ys : List X) (old mid new : List Y) → mid ≡ old ++ map f xs → new ≡ mid ++ map f ys → new ≡ old ++ map f (xs ++ ys)
both-added f xs ys old mid new one two =
    two ∙ ap (λ zs. zs ++ map f ys) one ∙ append_assoc old (map f xs) (map f ys) ∙ ap (λ zs. old ++ zs) (sym (map-append f xs ys))

-- the elements that were made and the elements that are left, after one more step
pub made-step : {X Y : Type 0} (f : X → Y) (old rest : List X) (x : X) (out new all : List Y) → old ≡ x ∷ rest → new ≡ out ++ f x ∷ [] → out ++ map f old ≡ all → new ++ map f rest ≡ all
made-step f old rest x out new all steps made whole =
    ap (λ ys. ys ++ map f rest) made ∙ append_assoc out (f x ∷ []) (map f rest) ∙ ap (λ xs. out ++ map f xs) (sym steps) ∙ whole

---------------------------------------------------------------- where a value is

-- a value that is not there is past the end
pub index_past : (vs : List Value) (v : Value) → has_value vs v ≡ false → index_in vs v ≡ length vs
index_past [] v h = refl
index_past (w ∷ ws) v h =
    let both = or_parts (same_value v w) (has_value ws v) h in
    rw both.0 (ap suc (index_past ws v both.1))

pub site-past : (vs : List Value) (v : Value) → None ≡ first_in vs v → length vs ≡ index_in vs v
site-past vs v h =
    elim (has_value vs v) as (λ b. has_value vs v ≡ b → None ≡ (if b then Some (index_in vs v) else None) → length vs ≡ index_in vs v) [
      | true ↦ λ _ found. absurd (none-some (index_in vs v) found)
      | false ↦ λ out _. sym (index_past vs v out)
    ] refl h

---------------------------------------------------------------- the links of an end

-- the link of one more value
pub link_ends-step : (e : End) (vs : List Value) (k : ℕ) (out new all : List LinkEnd) → k < length vs → new ≡ out ++ option_to_list (option_map (link_end e) (slice_get vs k))
    → out ++ map (link_end e) (drop k vs) ≡ all → new ++ map (link_end e) (drop (k + 1) vs) ≡ all
link_ends-step e vs k out new all low made whole =
    let v = slice_index_or vs k value.Null in
    ap (λ (ts : List LinkEnd). ts ++ map (link_end e) (drop (k + 1) vs)) (made ∙ ap (λ (x : Option Value). out ++ option_to_list (option_map (link_end e) x)) (slice_get-get_or vs k value.Null low))
    ∙ append_assoc out (link_end e v ∷ []) (map (link_end e) (drop (k + 1) vs))
    ∙ ap (λ (ws : List Value). out ++ map (link_end e) ws) (sym (drop_more vs k value.Null low))
    ∙ whole

pub link_ends-end : (e : End) (vs : List Value) (k : ℕ) (out all : List LinkEnd) → length vs ≤ k → out ++ map (link_end e) (drop k vs) ≡ all → out ≡ all
link_ends-end e vs k out all past whole = sym (ap (λ (ws : List Value). out ++ map (link_end e) ws) (drop_all k vs past) ∙ append-nil out) ∙ whole

backwards-push : (e : End) (vs : List Value) (v : Value) → link_ends_backwards e (vs ++ v ∷ []) ≡ link_end e v ∷ link_ends_backwards e vs
backwards-push e [] v = refl
backwards-push e (w ∷ ws) v = ap (λ (ts : List LinkEnd). ts ++ link_end e w ∷ []) (backwards-push e ws v)

take-push : (vs : List Value) (k : ℕ) (d : Value) → k < length vs → take (suc k) vs ≡ take k vs ++ slice_index_or vs k d ∷ []
take-push [] k d h = absurd (omega (arith, h))
take-push (w ∷ ws) zero d h = refl
take-push (w ∷ ws) (suc k) d h = ap (λ (xs : List Value). w ∷ xs) (take-push ws k d (omega (arith, h)))

-- the link of one value before
pub backwards-step : (e : End) (vs : List Value) (k : ℕ) (out new all : List LinkEnd) → k < length vs → new ≡ out ++ option_to_list (option_map (link_end e) (slice_get vs k))
    → out ++ link_ends_backwards e (take (suc k) vs) ≡ all → new ++ link_ends_backwards e (take k vs) ≡ all
backwards-step e vs k out new all low made whole =
    let v = slice_index_or vs k value.Null in
    ap (λ (ts : List LinkEnd). ts ++ link_ends_backwards e (take k vs)) (made ∙ ap (λ (x : Option Value). out ++ option_to_list (option_map (link_end e) x)) (slice_get-get_or vs k value.Null low))
    ∙ append_assoc out (link_end e v ∷ []) (link_ends_backwards e (take k vs))
    ∙ ap (λ (ts : List LinkEnd). out ++ ts) (sym (ap (link_ends_backwards e) (take-push vs k value.Null low) ∙ backwards-push e (take k vs) v))
    ∙ whole

pub take-whole : (vs : List Value) → take (length vs) vs ≡ vs
take-whole [] = refl
take-whole (v ∷ vs) = ap (λ (ws : List Value). v ∷ ws) (take-whole vs)

one-less : (k : ℕ) → suc k - 1 ≡ k
one-less k = omega arith

-- the same, from the position after the value
pub backwards-before : (e : End) (vs : List Value) (k : ℕ) (out new all : List LinkEnd) → 0 < k → k ≤ length vs → new ≡ out ++ option_to_list (option_map (link_end e) (slice_get vs (k - 1)))
    → out ++ link_ends_backwards e (take k vs) ≡ all → new ++ link_ends_backwards e (take (k - 1) vs) ≡ all
backwards-before e vs zero out new all some low made whole = absurd (omega (arith, some))
backwards-before e vs (suc k) out new all some low made whole =
    let less = one-less k in
    subst (λ (i : ℕ). new ++ link_ends_backwards e (take i vs) ≡ all) (sym less)
    (backwards-step e vs k out new all (omega (arith, low)) (subst (λ (i : ℕ). new ≡ out ++ option_to_list (option_map (link_end e) (slice_get vs i))) less made) whole)

-- one more loss of a list
pub lost-before : {Y : Type 0} (f : FeatureChange → Y) (e : End) (k : ℕ) (out new all : List Y) → 0 < k → new ≡ out ++ f (feature_change e (LosesAt (k - 1))) ∷ [] → out ++ map f (all_lost e k) ≡ all → new ++ map f (all_lost e (k - 1)) ≡ all
lost-before f e zero out new all some made whole = absurd (omega (arith, some))
lost-before f e (suc k) out new all some made whole =
    let less = one-less k in
    subst (λ (i : ℕ). new ++ map f (all_lost e i) ≡ all) (sym less)
    (ap (λ ns. ns ++ map f (all_lost e k)) (subst (λ (i : ℕ). new ≡ out ++ f (feature_change e (LosesAt i)) ∷ []) less made) ∙ append_assoc out (f (feature_change e (LosesAt k)) ∷ []) (map f (all_lost e k)) ∙ whole)

pub lost-end : {Y : Type 0} (f : FeatureChange → Y) (e : End) (k : ℕ) (out all : List Y) → k ≤ 0 → out ++ map f (all_lost e k) ≡ all → out ≡ all
lost-end f e zero out all none whole = sym (append-nil out) ∙ whole
lost-end f e (suc k) out all none whole = absurd (omega (arith, none))

pub backwards-end : (e : End) (vs : List Value) (k : ℕ) (out all : List LinkEnd) → k ≤ 0 → out ++ link_ends_backwards e (take k vs) ≡ all → out ≡ all
backwards-end e vs zero out all none whole = sym (append-nil out) ∙ whole
backwards-end e vs (suc k) out all none whole = absurd (omega (arith, none))
