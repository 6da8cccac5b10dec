-- Finding an adapter by its number, and the refusals of a new number.
use Rattle.std.proofs.Common.{◌≡◌, ℕ, ◌<◌, Bool, filter, true, false, cond, ◌||◌, ◌++◌, if◌then◌else◌, nat_lt, nat_le, List, [], ◌∷◌, map, length, get_or, position, slice_get, Some, None, option_map, option_and_then, refl, subst, sym, ap, ◌∙◌, arith}
use Rattle.std.specs.List.{AllByRecursion, IsDistinct, find, list_any, position_or_len}
use Rattle.std.proofs.lemmas.List.Folds.{find_at}
use Rattle.std.proofs.lemmas.List.{map-append}
use Rattle.indexmap.specs.IndexSet.{insert_key}
use Rattle.std.proofs.lemmas.Option.{slice_get-map, slice_get_read, slice_get_past, none-some}
use Rattle.std.proofs.lemmas.Bool.{leb-false, ltb-false}
use Rattle.mm_types.specs.declared.limits.TheConstants.{TARGETS}
use Rattle.mm_types.specs.declared.numbers.AdapterNo.{AdapterNo}
use Rattle.mm_types.specs.declared.refused.Refused.TheVariants as refused
use Rattle.notice_chain.specs.View.{View}
use Rattle.notice_chain.specs.Listed.{HasDistinctNumbers, Listed, adapter, has_no, same_no, targets_len}
use Rattle.adapter_list.specs.declared.attached.Attached.{Attached}
use Rattle.adapter_list.specs.Attached.{listed_one, listed_adapters, numbers_of}
use Rattle.adapter_list.specs.Refusals.{list_refusal}
use Rattle.adapter_list.proofs.ListedLemmas.{position-map}

pub find-position : {X : Type 0} (p : X → Bool) (xs : List X) → find p xs ≡ option_and_then (slice_get xs) (position p xs)
find-position p xs =
    elim (nat_lt (position_or_len p xs) (length xs)) as (λ b. nat_lt (position_or_len p xs) (length xs) ≡ b → find p xs ≡ option_and_then (slice_get xs) (cond b (Some (position_or_len p xs)) None)) [
      | true ↦ λ h. find_at p xs
      | false ↦ λ h. find_at p xs ∙ slice_get_past xs (position_or_len p xs) (ltb-false _ _ h)
    ] refl

list_any-map : {X Y : Type 0} (f : X → Y) (p : Y → Bool) (xs : List X) → list_any p (map f xs) ≡ list_any (λ x. p (f x)) xs
list_any-map f p [] = refl
list_any-map f p (x ∷ xs) = ap (λ b. p (f x) || b) (list_any-map f p xs)

module _ {A : Type 0} (heard : A → View) (xs : List (Attached A)) where
  pub map-listed_adapters : (ys : List (Attached A)) → map (λ r. r.no) (listed_adapters heard ys) ≡ numbers_of ys
  map-listed_adapters [] = refl
  map-listed_adapters (y ∷ ys) = ap (λ ns. y.no ∷ ns) (map-listed_adapters ys)

  -- the numbers are in attach order, so the index of a number is the index of its adapter
  pub position-numbers : (keys : List AdapterNo) (number : AdapterNo) → keys ≡ numbers_of xs → position (same_no number) keys ≡ position (has_no number) (listed_adapters heard xs)
  position-numbers keys number e = ap (position (same_no number)) e ∙ position-map (λ (a : Attached A). a.no) (same_no number) xs ∙ sym (position-map (listed_one heard) (has_no number) xs)

  pub list_any-numbers : (keys : List AdapterNo) (number : AdapterNo) → keys ≡ numbers_of xs → list_any (same_no number) keys ≡ list_any (has_no number) (listed_adapters heard xs)
  list_any-numbers keys number e = ap (list_any (same_no number)) e ∙ list_any-map (λ (a : Attached A). a.no) (same_no number) xs ∙ sym (list_any-map (listed_one heard) (has_no number) xs)

  pub adapter-found : (number : AdapterNo) (i : ℕ) (x : Attached A) → Some i ≡ position (has_no number) (listed_adapters heard xs) → i < length xs → x ≡ get_or xs i x → Some (listed_one heard x) ≡ adapter number (listed_adapters heard xs)
  adapter-found number i x at h e =
      let there : slice_get (listed_adapters heard xs) i ≡ Some (listed_one heard x) = slice_get-map (listed_one heard) xs i ∙ ap (option_map (listed_one heard)) (slice_get_read xs (length xs) i x refl h e) in
      sym (find-position (has_no number) (listed_adapters heard xs) ∙ ap (option_and_then (slice_get (listed_adapters heard xs))) (sym at) ∙ there)

  pub adapter-absent : (number : AdapterNo) → None ≡ position (has_no number) (listed_adapters heard xs) → None ≡ adapter number (listed_adapters heard xs)
  adapter-absent number at = sym (find-position (has_no number) (listed_adapters heard xs) ∙ ap (option_and_then (slice_get (listed_adapters heard xs))) (sym at))

pub below : (n : ℕ) → n < TARGETS → nat_le TARGETS n ≡ false
below n h = grind (arith, h)

pub list_refusal-taken : (rs : List Listed) (number : AdapterNo) → targets_len rs < TARGETS → true ≡ list_any (has_no number) rs → Some refused.AdapterTaken ≡ list_refusal rs number
list_refusal-taken rs number few taken = rw (below (targets_len rs) few, ← taken) refl

pub list_refusal-none : (rs : List Listed) (number : AdapterNo) → targets_len rs < TARGETS → false ≡ list_any (has_no number) rs → None ≡ list_refusal rs number
list_refusal-none rs number few taken = rw (below (targets_len rs) few, ← taken) refl

-- a number that the list takes: there is capacity for one more, and it is new
pub allowed_from_none : (rs : List Listed) (number : AdapterNo) → None ≡ list_refusal rs number → (targets_len rs < TARGETS) × (list_any (has_no number) rs ≡ false)
allowed_from_none rs number none = by (nat_le TARGETS (targets_len rs)) refl (list_any (has_no number) rs) refl none
  where
    by : (b : Bool) → nat_le TARGETS (targets_len rs) ≡ b → (d : Bool) → list_any (has_no number) rs ≡ d → None ≡ (cond b (Some refused.Limit) (cond d (Some refused.AdapterTaken) None)) → (targets_len rs < TARGETS) × (list_any (has_no number) rs ≡ false)
    by true h d k e = absurd (none-some _ e)
    by false h true k e = absurd (none-some _ e)
    by false h false k e = (leb-false _ _ h, k)

-- a new number is last, as its adapter is
pub numbers_of-push : {A : Type 0} (xs after : List (Attached A)) (x : Attached A) (keys new : List AdapterNo) → keys ≡ numbers_of xs → list_any (same_no x.no) keys ≡ false → new ≡ insert_key same_no keys x.no → after ≡ xs ++ (x ∷ []) → new ≡ numbers_of after
numbers_of-push xs after x keys new e absent inserted pushed =
    inserted ∙ ap (λ b. if b then keys else (keys ++ (x.no ∷ []))) absent ∙ ap (λ ks. ks ++ (x.no ∷ [])) e ∙ sym (ap numbers_of pushed ∙ map-append (λ a. a.no) xs (x ∷ []))

pub distinct-numbers : {A : Type 0} (heard : A → View) (xs : List (Attached A)) (keys : List AdapterNo) → keys ≡ numbers_of xs → IsDistinct same_no keys → HasDistinctNumbers (listed_adapters heard xs)
distinct-numbers heard xs keys is distinct = subst (IsDistinct same_no) (is ∙ sym (map-listed_adapters heard xs xs)) distinct

----------------------------------------------------------------- some of them

-- distinct keys stay distinct if some are removed
module _ {X K : Type 0} (eq : K → K → Bool) (f : X → K) (p : X → Bool) where
  apart-filter : (k : K) (xs : List X) → AllByRecursion (λ j. eq k j ≡ false) (map f xs) → AllByRecursion (λ j. eq k j ≡ false) (map f (filter p xs))
  apart-filter k [] h = tt
  apart-filter k (x ∷ xs) h = elim (p x) as (λ b. AllByRecursion (λ j. eq k j ≡ false) (map f (cond b (x ∷ filter p xs) (filter p xs)))) [ true ↦ (h.0, apart-filter k xs h.1) | false ↦ apart-filter k xs h.1 ]

  pub distinct-filter : (xs : List X) → IsDistinct eq (map f xs) → IsDistinct eq (map f (filter p xs))
  unfolding IsDistinct
  distinct-filter [] h = tt
  distinct-filter (x ∷ xs) h = elim (p x) as (λ b. IsDistinct eq (map f (cond b (x ∷ filter p xs) (filter p xs)))) [ true ↦ (apart-filter (f x) xs h.0, distinct-filter xs h.1) | false ↦ distinct-filter xs h.1 ]
