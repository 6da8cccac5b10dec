-- `end` is the list that `IsEnd` describes, and a scan of any list of the same links finds this list too.
use Rattle.std.proofs.Common.{◌≡◌, ℕ, zero, suc, ◌+◌, ◌<◌, ◌≤◌, true, false, eqb, List, [], ◌∷◌, length, Option, Some, None, if◌then◌else◌, refl, sym, ap, ◌∙◌, subst, inl, inr, arith}
use Rattle.std.specs.Prelude.{◌⊎◌}
use Rattle.std.specs.List.{slice_get, list_any}
use Rattle.std.specs.Ordering.{eq_by_cmp}
use Rattle.std.specs.FinSet as set
use Rattle.std.proofs.lemmas.Bool.{false≢true, eqb-true, eqb-false, or_cases, or_left, or_right, cases_lt}
use Rattle.std.proofs.lemmas.Option.{slice_get_within, same_Some, none-some}
use Rattle.std.specs.Cmp.{tied_itself, Equal-is}
use Rattle.std.specs.Ordering.{is_eq}
use Rattle.links.specs.LegalSets.{IsEnd}
use Rattle.links.specs.Links.{In, Links, at_indexed, end, length_at, past, value_at, values_from}
use Rattle.links.specs.Order.{link_cmp, link_cmp_exact, link_cmp_total}
use Rattle.links.specs.Indexed.{indexed_value}
use Rattle.links.specs.declared.link.Link.{Link}
use Rattle.mm_types.specs.declared.end.End.{End}
use Rattle.mm_types.specs.declared.value.Value.{Value}

-- l is one of the links of a list, stated like a look-up in a set
abbrev pub Among : Link → List Link → Type 0
Among l ls = list_any (eq_by_cmp link_cmp l) ls ≡ true

-- a list of the links of s
pub record HasLinks (ls : List Link) (s : Links) : Type 0 where
  pub has : (l : Link) → In l s → Among l ls
  pub only : (l : Link) → Among l ls → In l s

pub items_HasLinks : (s : Links) → HasLinks (set.items s) s
items_HasLinks s = record { has = λ l h. sym (set.contains-items s l) ∙ h; only = λ l h. set.contains-items s l ∙ h }

pub from_list_HasLinks : (ls : List Link) → HasLinks ls (set.from_list {R = link_cmp} ls)
from_list_HasLinks ls = record { has = λ l h. sym (set.contains-from_list link_cmp_total ls l) ∙ h; only = λ l h. set.contains-from_list link_cmp_total ls l ∙ h }

pub same_link : (l m : Link) → eq_by_cmp link_cmp l m ≡ true → l ≡ m
same_link l m h = link_cmp_exact l m ((Equal-is (link_cmp l m)).0 h)

pub same_itself : (l : Link) → eq_by_cmp link_cmp l l ≡ true
same_itself l = ap is_eq (tied_itself link_cmp_total l)

pub Among_head : (l : Link) (ls : List Link) → Among l (l ∷ ls)
Among_head l ls = or_left _ _ (same_itself l)

pub Among_tail : (l m : Link) (ls : List Link) → Among l ls → Among l (m ∷ ls)
Among_tail l m ls h = or_right _ _ h

pub Among_cases : (l m : Link) (ls : List Link) → Among l (m ∷ ls) → (l ≡ m) ⊎ Among l ls
Among_cases l m ls h = elim (or_cases (eq_by_cmp link_cmp l m) (list_any (eq_by_cmp link_cmp l) ls) h) [ inl p ↦ inl (same_link l m p) | inr p ↦ inr p ]

---------------------------------------------------------------- a scan of a list of links

-- the value of p if it is at k
at_indexed-some : (o : Option (ℕ × Value)) (k : ℕ) (other : Option Value) (v : Value) → at_indexed o k other ≡ Some v → (o ≡ Some (k, v)) ⊎ (other ≡ Some v)
at_indexed-some None k other v h = inr h
at_indexed-some (Some p) k other v h =
    elim (eqb p.0 k) as (λ b. eqb p.0 k ≡ b → (if b then Some p.1 else other) ≡ Some v → (◌≡◌ {A = Option (ℕ × Value)} (Some p) (Some (k, v))) ⊎ (other ≡ Some v)) [
      | true ↦ λ e q. let at = eqb-true p.0 k e in let is = same_Some p.1 v q in inl (λ i. Some (at i, is i))
      | false ↦ λ e q. inr q
    ] refl h

at_indexed-none : (o : Option (ℕ × Value)) (k : ℕ) (other : Option Value) → at_indexed o k other ≡ None → ((v : Value) → o ≡ Some (k, v) → ⊥) × (other ≡ None)
at_indexed-none None k other h = (λ v e. none-some _ e, h)
at_indexed-none (Some p) k other h =
    elim (eqb p.0 k) as (λ b. eqb p.0 k ≡ b → (if b then Some p.1 else other) ≡ None → ((v : Value) → ◌≡◌ {A = Option (ℕ × Value)} (Some p) (Some (k, v)) → ⊥) × (other ≡ None)) [
      | true ↦ λ e q. absurd (none-some p.1 (sym q))
      | false ↦ λ e q. (λ v is. eqb-false p.0 k e (ap (λ (x : ℕ × Value). x.0) (same_Some p (k, v) is)), q)
    ] refl h

pub value_at-some : (ls : List Link) (e : End) (k : ℕ) (v : Value) → value_at ls e k ≡ Some v → (l : Link) × Among l ls × (indexed_value l e ≡ Some (k, v))
value_at-some [] e k v h = absurd (none-some v h)
value_at-some (l ∷ ls) e k v h = elim (at_indexed-some (indexed_value l e) k (value_at ls e k) v h) [
  | inl here ↦ (l, Among_head l ls, here)
  | inr later ↦ let found = value_at-some ls e k v later in (found.0, Among_tail found.0 l ls found.1, found.2)
]

pub value_at-none : (ls : List Link) (e : End) (k : ℕ) → value_at ls e k ≡ None → (m : Link) (v : Value) → Among m ls → indexed_value m e ≡ Some (k, v) → ⊥
value_at-none [] e k h m v among at = false≢true among
value_at-none (l ∷ ls) e k h m v among at =
    let parts = at_indexed-none (indexed_value l e) k (value_at ls e k) h in
    elim (Among_cases m l ls among) [
      | inl same ↦ parts.0 v (subst (λ (x : Link). indexed_value x e ≡ Some (k, v)) same at)
      | inr later ↦ value_at-none ls e k parts.1 m v later at
    ]

-- each position is below the length
pub length_at-above : (ls : List Link) (e : End) (m : Link) (k : ℕ) (v : Value) → Among m ls → indexed_value m e ≡ Some (k, v) → k < length_at ls e
length_at-above [] e m k v among at = absurd (false≢true among)
length_at-above (l ∷ ls) e m k v among at = elim (Among_cases m l ls among) [
  | inl same ↦
      let here : past (indexed_value l e) ≡ suc k = ap past (subst (λ (x : Link). indexed_value x e ≡ Some (k, v)) same at) in
      omega (arith, here)
  | inr later ↦ omega (arith, length_at-above ls e m k v later at)
]

-- the length is the least number that is above all positions
pub length_at-below : (ls : List Link) (e : End) (n : ℕ) → ((m : Link) (k : ℕ) (v : Value) → Among m ls → indexed_value m e ≡ Some (k, v) → k < n) → length_at ls e ≤ n
length_at-below [] e n h = omega arith
length_at-below (l ∷ ls) e n h =
    let later = length_at-below ls e n (λ m k v among at. h m k v (Among_tail m l ls among) at) in
    let here : past (indexed_value l e) ≤ n = elim (indexed_value l e) as (λ o. indexed_value l e ≡ o → past o ≤ n) [ None ↦ λ _. omega arith | Some p ↦ λ at. omega (arith, h l p.0 p.1 (Among_head l ls) at) ] refl in
    omega (arith, later, here)

-- a position without a value is past the end
pub not_within : {X : Type 0} (xs : List X) (k : ℕ) → slice_get xs k ≡ None → length xs ≤ k
not_within [] k h = omega arith
not_within (x ∷ xs) zero h = absurd (none-some x (sym h))
not_within (x ∷ xs) (suc k) h = omega (arith, not_within xs k h)

values_all : (ls : List Link) (e : End) (xs : List Value) (a : ℕ) → ((k : ℕ) → value_at ls e (a + k) ≡ slice_get xs k) → values_from ls e a (length xs) ≡ xs
values_all ls e [] a h = refl
values_all ls e (x ∷ xs) a h =
    let here : value_at ls e a ≡ Some x = subst (λ n. value_at ls e n ≡ Some x) {x = a + 0} (omega arith) (h 0) in
    let later = values_all ls e xs (suc a) (λ k. subst (λ n. value_at ls e n ≡ slice_get xs k) {x = a + suc k} (omega arith) (h (suc k))) in
    rw here (ap (λ (ys : List Value). x ∷ ys) later)

module _ (ls : List Link) (s : Links) (e : End) (xs : List Value) (of : HasLinks ls s) (is : IsEnd s e xs) where
  -- a scan of the list finds the value at each position
  pub value_at_end : (k : ℕ) → value_at ls e k ≡ slice_get xs k
  value_at_end k =
      elim (value_at ls e k) as (λ o. value_at ls e k ≡ o → o ≡ slice_get xs k) [
        | None ↦ λ h. elim (slice_get xs k) as (λ o. slice_get xs k ≡ o → None ≡ o) [
          | None ↦ λ _. refl
          | Some v ↦ λ got. let found = is.only k v got in absurd (value_at-none ls e k h found.0 v (of.has found.0 found.1) found.2)
        ] refl
        | Some v ↦ λ h. let found = value_at-some ls e k v h in sym (is.has k v (found.0, of.only found.0 found.1, found.2))
      ] refl

  -- a scan of the list finds the length
  pub length_at_end : length_at ls e ≡ length xs
  length_at_end =
      let below = length_at-below ls e (length xs) (λ m k v among at. slice_get_within xs k v (is.has k v (m, of.only m among, at))) in
      let above : length xs ≤ length_at ls e = elim (cases_lt (length_at ls e) (length xs)) [
        | inr le ↦ le
        | inl lt ↦ elim (slice_get xs (length_at ls e)) as (λ o. slice_get xs (length_at ls e) ≡ o → length xs ≤ length_at ls e) [
          | None ↦ λ h. not_within xs (length_at ls e) h
          | Some v ↦ λ h. let found = is.only _ v h in absurd (omega (arith, length_at-above ls e found.0 _ v (of.has found.0 found.1) found.2))
        ] refl
      ] in
      omega (arith, below, above)

-- the list that has each value at its position is the end
pub end_is : (s : Links) (e : End) (xs : List Value) → IsEnd s e xs → end s e ≡ xs
unfolding end
end_is s e xs is =
    let of = items_HasLinks s in
    let n = length_at_end (set.items s) s e xs of is in
    rw n (values_all (set.items s) e xs 0 (λ k. subst (λ m. value_at (set.items s) e m ≡ slice_get xs k) {x = k} (omega arith) (value_at_end (set.items s) s e xs of is k)))
