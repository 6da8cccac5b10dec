-- What a scan of any list of the links of a set finds: the link that has a value in an end, and the end that contains a node.
use Rattle.std.proofs.Common.{◌≡◌, ℕ, true, false, List, [], ◌∷◌, Option, Some, None, if◌then◌else◌, refl, sym, ap, ◌∙◌, subst, inl, inr}
use Rattle.std.specs.Prelude.{find}
use Rattle.std.specs.FinSet as set
use Rattle.std.specs.Option.{option_or}
use Rattle.std.proofs.lemmas.Bool.{true≢false, false≢true}
use Rattle.std.proofs.lemmas.Option.{none-some, same_Some}
use Rattle.links.proofs.EndLemmas.{Among, Among_cases, Among_head, Among_tail, HasLinks, items_HasLinks}
use Rattle.mm_types.specs.SameValues.{same_value-self, same_value-true}
use Rattle.links.specs.Holders.{first_holding, holding_end}
use Rattle.links.specs.LegalSets.{IsPlaced}
use Rattle.links.specs.Links.{In, Links, cut, cut_some, cut_value}
use Rattle.links.specs.Order.{link_cmp_exact, link_cmp_total}
use Rattle.links.specs.Indexed.{has_value, is_value_at, indexed_value}
use Rattle.links.specs.declared.link.Link.{Link}
use Rattle.links.proofs.RankLemmas.{same-tests}
use Rattle.mm_types.specs.declared.end.End.{End}
use Rattle.mm_types.specs.declared.numbers.Node.{Node}
use Rattle.mm_types.specs.declared.value.Value.{Value}

pub same_links : (s t : Links) → ((l : Link) → In l s → In l t) → ((l : Link) → In l t → In l s) → s ≡ t
same_links s t f g = set.same_set link_cmp_total link_cmp_exact s t (λ l. same-tests _ _ (f l) (g l))

pub is_value_at-true : (o : Option (ℕ × Value)) (v : Value) → is_value_at v o ≡ true → (k : ℕ) × (o ≡ Some (k, v))
is_value_at-true None v h = absurd (false≢true h)
is_value_at-true (Some p) v h = let same = same_value-true p.1 v h in (p.0, λ i. Some (p.0, same i))

pub is_value_at-indexed : (o : Option (ℕ × Value)) (k : ℕ) (v : Value) → o ≡ Some (k, v) → is_value_at v o ≡ true
is_value_at-indexed o k v h = ap (λ (p : Option (ℕ × Value)). is_value_at v p) h ∙ same_value-self v

-- in a placed set at most one link has v in e
pub one_with : (s : Links) (l m : Link) (e : End) (v : Value) (j k : ℕ) → IsPlaced s → In l s → In m s → indexed_value l e ≡ Some (j, v) → indexed_value m e ≡ Some (k, v) → l ≡ m
one_with s l m e v j k placed hl hm at_l at_m =
    let same = placed.distinct e j k v ((placed.ends e).has j v (l, hl, at_l)) ((placed.ends e).has k v (m, hm, at_m)) in
    placed.once l m e k v v hl hm (subst (λ n. indexed_value l e ≡ Some (n, v)) same at_l) at_m

pub find-some : (ls : List Link) (e : End) (v : Value) (l : Link) → find (has_value e v) ls ≡ Some l → Among l ls × ((k : ℕ) × (indexed_value l e ≡ Some (k, v)))
find-some [] e v l h = absurd (none-some l h)
find-some (m ∷ ls) e v l h =
    elim (is_value_at v (indexed_value m e)) as (λ b. is_value_at v (indexed_value m e) ≡ b → (if b then Some m else find (has_value e v) ls) ≡ Some l → Among l (m ∷ ls) × ((k : ℕ) × (indexed_value l e ≡ Some (k, v)))) [
      | true ↦ λ q s.
          let same = same_Some m l s in
          subst (λ (x : Link). Among x (m ∷ ls) × ((k : ℕ) × (indexed_value x e ≡ Some (k, v)))) same (Among_head m ls, is_value_at-true (indexed_value m e) v q)
      | false ↦ λ q s. let rest = find-some ls e v l s in (Among_tail l m ls rest.0, rest.1)
    ] refl h

pub find-none : (ls : List Link) (e : End) (v : Value) (l : Link) (k : ℕ) → find (has_value e v) ls ≡ None → Among l ls → indexed_value l e ≡ Some (k, v) → ⊥
find-none [] e v l k h among at = false≢true among
find-none (m ∷ ls) e v l k h among at =
    elim (is_value_at v (indexed_value m e)) as (λ b. is_value_at v (indexed_value m e) ≡ b → (if b then Some m else find (has_value e v) ls) ≡ None → ⊥) [
      | true ↦ λ q s. none-some m (sym s)
      | false ↦ λ q s. elim (Among_cases l m ls among) [
        | inl same ↦ true≢false (sym (is_value_at-indexed (indexed_value m e) k v (subst (λ (x : Link). indexed_value x e ≡ Some (k, v)) same at)) ∙ q)
        | inr later ↦ find-none ls e v l k s later at
      ]
    ] refl h

-- a scan of any list of the links of a placed set finds the link
pub find_is : (s : Links) (ls : List Link) (e : End) (v : Value) (l : Link) (k : ℕ) → IsPlaced s → HasLinks ls s → In l s → indexed_value l e ≡ Some (k, v) → find (has_value e v) ls ≡ Some l
find_is s ls e v l k placed of within at =
    elim (find (has_value e v) ls) as (λ o. find (has_value e v) ls ≡ o → o ≡ Some l) [
      | None ↦ λ h. absurd (find-none ls e v l k h (of.has l within) at)
      | Some m ↦ λ h. let found = find-some ls e v m h in ap Some (one_with s m l e v found.1.0 k placed (of.only m found.0) within found.1.1 at)
    ] refl

pub same_find : (s : Links) (ls ms : List Link) (e : End) (v : Value) → IsPlaced s → HasLinks ls s → HasLinks ms s → find (has_value e v) ls ≡ find (has_value e v) ms
same_find s ls ms e v placed of_l of_m =
    elim (find (has_value e v) ls) as (λ o. find (has_value e v) ls ≡ o → o ≡ find (has_value e v) ms) [
      | None ↦ λ h. elim (find (has_value e v) ms) as (λ o. find (has_value e v) ms ≡ o → None ≡ o) [
        | None ↦ λ _. refl
        | Some m ↦ λ g. let found = find-some ms e v m g in absurd (find-none ls e v m found.1.0 h (of_l.has m (of_m.only m found.0)) found.1.1)
      ] refl
      | Some l ↦ λ h. let found = find-some ls e v l h in sym (find_is s ms e v l found.1.0 placed of_m (of_l.only l found.0) found.1.1)
    ] refl

-- a cut by name is the cut of the link that has the name
pub cut_value_is : (s : Links) (e : End) (v : Value) (l : Link) (k : ℕ) → IsPlaced s → In l s → indexed_value l e ≡ Some (k, v) → cut_value s e v ≡ cut s l
unfolding cut_value
cut_value_is s e v l k placed within at = ap (cut_some s) (find_is s (set.items s) e v l k placed (items_HasLinks s) within at)

---------------------------------------------------------------- the first that contains a node

module _ (n : Node) where
  pub first_holding-some : (ls : List Link) (x : End) → first_holding ls n ≡ Some x → (l : Link) × Among l ls × (holding_end l n ≡ Some x)
  first_holding-some [] x h = absurd (none-some x h)
  first_holding-some (l ∷ ls) x h =
      elim (holding_end l n) as (λ o. holding_end l n ≡ o → option_or o (first_holding ls n) ≡ Some x → (m : Link) × Among m (l ∷ ls) × (holding_end m n ≡ Some x)) [
        | None ↦ λ q s. let found = first_holding-some ls x s in (found.0, Among_tail found.0 l ls found.1, found.2)
        | Some y ↦ λ q s. (l, Among_head l ls, q ∙ s)
      ] refl h

  pub first_holding-none : (ls : List Link) (m : Link) (x : End) → first_holding ls n ≡ None → Among m ls → holding_end m n ≡ Some x → ⊥
  first_holding-none [] m x h among at = false≢true among
  first_holding-none (l ∷ ls) m x h among at =
      elim (holding_end l n) as (λ o. holding_end l n ≡ o → option_or o (first_holding ls n) ≡ None → ⊥) [
        | None ↦ λ q s. elim (Among_cases m l ls among) [
          | inl same ↦ none-some x (sym q ∙ subst (λ (y : Link). holding_end y n ≡ Some x) same at)
          | inr later ↦ first_holding-none ls m x s later at
        ]
        | Some y ↦ λ q s. none-some y (sym s)
      ] refl h

  -- if all links that give a holder give the same holder, the order of the links does not matter
  pub same_first_holding : (s : Links) (ls ms : List Link) → HasLinks ls s → HasLinks ms s → ((l m : Link) (x y : End) → In l s → In m s → holding_end l n ≡ Some x → holding_end m n ≡ Some y → x ≡ y) → first_holding ls n ≡ first_holding ms n
  same_first_holding s ls ms of_l of_m one =
      elim (first_holding ls n) as (λ o. first_holding ls n ≡ o → o ≡ first_holding ms n) [
        | None ↦ λ h. elim (first_holding ms n) as (λ o. first_holding ms n ≡ o → None ≡ o) [
          | None ↦ λ _. refl
          | Some y ↦ λ g. let m = first_holding-some ms y g in absurd (first_holding-none ls m.0 y h (of_l.has m.0 (of_m.only m.0 m.1)) m.2)
        ] refl
        | Some x ↦ λ h.
            let l = first_holding-some ls x h in
            elim (first_holding ms n) as (λ o. first_holding ms n ≡ o → Some x ≡ o) [
              | None ↦ λ g. absurd (first_holding-none ms l.0 x g (of_m.has l.0 (of_l.only l.0 l.1)) l.2)
              | Some y ↦ λ g. let m = first_holding-some ms y g in ap Some (one l.0 m.0 x y (of_l.only l.0 l.1) (of_m.only m.0 m.1) l.2 m.2)
            ] refl
      ] refl
