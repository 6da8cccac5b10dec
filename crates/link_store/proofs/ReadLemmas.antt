-- Reads of the set of links by a scan of rows.
use Rattle.std.proofs.Common.{◌≡◌, ℕ, true, false, List, [], ◌∷◌, length, Option, Some, None, MatchOption, if◌then◌else◌, refl, sym, ap, ◌∙◌, subst, inl, inr}
use Rattle.std.specs.Prelude.{◌==◌, option_and_then}
use Rattle.std.specs.List.{slice_get}
use Rattle.std.specs.FinSet as set
use Rattle.std.proofs.lemmas.Bool.{true≢false, false≢true}
use Rattle.std.proofs.lemmas.Option.{none-some, same_Some}
use Rattle.links.proofs.EndLemmas.{Among, Among_cases, Among_head, Among_tail, from_list_HasLinks, items_HasLinks, length_at_end, value_at_end}
use Rattle.link_store.proofs.RowLemmas.{of_rows}
use Rattle.links.proofs.ScanLemmas.{is_value_at-indexed, is_value_at-true, same_first_holding}
use Rattle.links.specs.Holders.{first_holding, holder}
use Rattle.links.specs.LegalSets.{IsHeldOnce, IsPlaced}
use Rattle.links.specs.Links.{at_indexed, end, length_at, object_at, object_of, proxy_at, text_of, value_at}
use Rattle.links.specs.Indexed.{has_value, indexed_value}
use Rattle.links.specs.Plans.{Lacks}
use Rattle.link_store.specs.Rows.{first_object, first_text, index_of, is_index, object_on, position_in, text_on}
use Rattle.links.specs.declared.link.Link.{Link}
use Rattle.mm_types.specs.declared.end.End.{End}
use Rattle.mm_types.specs.declared.numbers.Node.{Node}
use Rattle.mm_types.specs.declared.numbers.ObjectNo.{ObjectNo}
use Rattle.mm_types.specs.declared.value.Value.{Value}

module _ (rows : List Link) (placed : IsPlaced (of_rows rows)) (e : End) where
  pub rows_len : length_at rows e ≡ length (end (of_rows rows) e)
  rows_len = length_at_end rows (of_rows rows) e (end (of_rows rows) e) (from_list_HasLinks rows) (placed.ends e)

  pub rows_at : (k : ℕ) → value_at rows e k ≡ slice_get (end (of_rows rows) e) k
  rows_at k = value_at_end rows (of_rows rows) e (end (of_rows rows) e) (from_list_HasLinks rows) (placed.ends e) k

-- the object at a position, or what the rest has
object_step : (o : Option (ℕ × Value)) (k : ℕ) (rest : Option Value) → (if is_index k o then object_on o else option_and_then object_of rest) ≡ option_and_then object_of (at_indexed o k rest)
object_step None k rest = refl
object_step (Some p) k rest = elim (p.0 == k) as (λ b. (if b then object_of p.1 else option_and_then object_of rest) ≡ option_and_then object_of (if b then Some p.1 else rest)) [ true ↦ refl | false ↦ refl ]

first_object-value : (rows : List Link) (e : End) (k : ℕ) → first_object rows e k ≡ option_and_then object_of (value_at rows e k)
first_object-value [] e k = refl
first_object-value (l ∷ ls) e k = ap (λ (r : Option ObjectNo). if is_index k (indexed_value l e) then object_on (indexed_value l e) else r) (first_object-value ls e k) ∙ object_step (indexed_value l e) k (value_at ls e k)

pub rows_object : (rows : List Link) → IsPlaced (of_rows rows) → (e : End) (k : ℕ) → first_object rows e k ≡ object_at (of_rows rows) e k
rows_object rows placed e k = first_object-value rows e k ∙ ap (λ (o : Option Value). option_and_then object_of o) (rows_at rows placed e k)

-- the text at a position, or what the rest has
text_step : (o : Option (ℕ × Value)) (k : ℕ) (rest : Option Value) → (if is_index k o then text_on o else option_and_then text_of rest) ≡ option_and_then text_of (at_indexed o k rest)
text_step None k rest = refl
text_step (Some p) k rest = elim (p.0 == k) as (λ b. (if b then text_of p.1 else option_and_then text_of rest) ≡ option_and_then text_of (if b then Some p.1 else rest)) [ true ↦ refl | false ↦ refl ]

first_text-value : (rows : List Link) (e : End) (k : ℕ) → first_text rows e k ≡ option_and_then text_of (value_at rows e k)
first_text-value [] e k = refl
first_text-value (l ∷ ls) e k = ap (λ (r : Option (List ℕ)). if is_index k (indexed_value l e) then text_on (indexed_value l e) else r) (first_text-value ls e k) ∙ text_step (indexed_value l e) k (value_at ls e k)

pub rows_text : (rows : List Link) → IsPlaced (of_rows rows) → (e : End) (k : ℕ) → first_text rows e k ≡ proxy_at (of_rows rows) e k
rows_text rows placed e k = first_text-value rows e k ∙ ap (λ (o : Option Value). option_and_then text_of o) (rows_at rows placed e k)

---------------------------------------------------------------- where a value is

position_in-some : (ls : List Link) (e : End) (v : Value) (k : ℕ) → position_in ls e v ≡ Some k → (l : Link) × Among l ls × (indexed_value l e ≡ Some (k, v))
position_in-some [] e v k h = absurd (none-some k h)
position_in-some (l ∷ ls) e v k h =
    elim (has_value e v l) as (λ b. has_value e v l ≡ b → (if b then index_of (indexed_value l e) else position_in ls e v) ≡ Some k → (m : Link) × Among m (l ∷ ls) × (indexed_value m e ≡ Some (k, v))) [
      | true ↦ λ q s.
          let at = is_value_at-true (indexed_value l e) v q in
          let n = same_Some at.0 k (sym (ap index_of at.1) ∙ s) in
          (l, Among_head l ls, at.1 ∙ (λ i. Some (n i, v)))
      | false ↦ λ q s. let found = position_in-some ls e v k s in (found.0, Among_tail found.0 l ls found.1, found.2)
    ] refl h

position_in-none : (ls : List Link) (e : End) (v : Value) → position_in ls e v ≡ None → (m : Link) (k : ℕ) → Among m ls → indexed_value m e ≡ Some (k, v) → ⊥
position_in-none [] e v h m k among at = false≢true among
position_in-none (l ∷ ls) e v h m k among at =
    elim (has_value e v l) as (λ b. has_value e v l ≡ b → (if b then index_of (indexed_value l e) else position_in ls e v) ≡ None → ⊥) [
      | true ↦ λ q s. let here = is_value_at-true (indexed_value l e) v q in none-some here.0 (sym s ∙ ap index_of here.1)
      | false ↦ λ q s. elim (Among_cases m l ls among) [
        | inl same ↦ true≢false (sym (is_value_at-indexed (indexed_value l e) k v (subst (λ (x : Link). indexed_value x e ≡ Some (k, v)) same at)) ∙ q)
        | inr later ↦ position_in-none ls e v s m k later at
      ]
    ] refl h

pub rows_position : (rows : List Link) → IsPlaced (of_rows rows) → (e : End) (v : Value) → MatchOption (position_in rows e v) (Lacks (of_rows rows) e v) (λ k. slice_get (end (of_rows rows) e) k ≡ Some v)
rows_position rows placed e v =
    let of = from_list_HasLinks rows in
    elim (position_in rows e v) as (λ o. position_in rows e v ≡ o → MatchOption o (Lacks (of_rows rows) e v) (λ k. slice_get (end (of_rows rows) e) k ≡ Some v)) [
      | None ↦ λ h k at. let st = (placed.ends e).only k v at in position_in-none rows e v h st.0 k (of.has st.0 st.1) st.2
      | Some k ↦ λ h. let found = position_in-some rows e v k h in (placed.ends e).has k v (found.0, of.only found.0 found.1, found.2)
    ] refl

---------------------------------------------------------------- what contains a node

pub rows_holder : (rows : List Link) (n : Node) → IsHeldOnce (of_rows rows) → first_holding rows n ≡ holder (of_rows rows) n
unfolding holder
rows_holder rows n once = same_first_holding n (of_rows rows) rows (set.items (of_rows rows)) (from_list_HasLinks rows) (items_HasLinks (of_rows rows)) (λ l m x y. once l m n x y)
