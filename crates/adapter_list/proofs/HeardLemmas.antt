-- Whether an adapter gets the notifications of a node.
use Rattle.std.proofs.Common.{◌≡◌, ◌∙◌, ◌||◌, ℕ, suc, Bool, true, false, not, cond, List, [], ◌∷◌, length, nat_eq, Option, Some, None, option_map, refl, sym, ap, arith}
use Rattle.std.proofs.lemmas.Bool.{ne_eqb}
use Rattle.std.specs.List.{AllByRecursion, cons_option, find, list_any}
use Rattle.std.specs.Option.{option_map_or}
use Rattle.mm_types.specs.declared.numbers.Node.{Node}
use Rattle.notice_chain.specs.Listed.{Above, Listed, is_at}
use Rattle.notice_chain.specs.declared.target.Target.{Target}
use Rattle.adapter_list.specs.Hearing.{is_heard, ordinals_from}
use Rattle.adapter_list.specs.Targets.{IsOnce, entries, is_attached}
use Rattle.adapter_list.specs.declared.target_lists.Entry.{Entry}
use Rattle.adapter_list.proofs.PlaceLemmas.{heard-is, none-any, shuffled}

list_any-or : {X : Type 0} (p q : X → Bool) (xs : List X) → list_any (λ x. p x || q x) xs ≡ (list_any p xs || list_any q xs)
list_any-or p q [] = refl
list_any-or p q (x ∷ xs) = ap (λ b. (p x || q x) || b) (list_any-or p q xs) ∙ shuffled (p x) (q x) (list_any p xs) (list_any q xs)

-- an adapter is notified of changes at a node if it is attached there, or deep above
pub heard-anywhere : (up : Above) (x : Node) (rs : List Listed) → AllByRecursion IsOnce rs → is_heard up x rs ≡ (list_any (is_attached x false) rs || list_any (λ a. list_any (is_attached a true) rs) (up x))
heard-anywhere up x [] once = sym (none-any (up x))
heard-anywhere up x (r ∷ rs) once =
    ap (λ b. b || is_heard up x rs) (heard-is up x (Some r) once.0)
    ∙ ap (λ b. (is_attached x false r || list_any (λ a. is_attached a true r) (up x)) || b) (heard-anywhere up x rs once.1)
    ∙ shuffled (is_attached x false r) (list_any (λ a. is_attached a true r) (up x)) (list_any (is_attached x false) rs) (list_any (λ a. list_any (is_attached a true) rs) (up x))
    ∙ ap (λ b. (is_attached x false r || list_any (is_attached x false) rs) || b) (sym (list_any-or (λ a. is_attached a true r) (λ a. list_any (is_attached a true) rs) (up x)))

-- the entries of a node that count are of the adapters that are attached there
pub any-entries : (x : Node) (only_deep : Bool) (rs : List Listed) → list_any (λ e. not only_deep || e.deep) (entries x rs) ≡ list_any (is_attached x only_deep) rs
any-entries x only_deep [] = refl
any-entries x only_deep (r ∷ rs) = by (find (is_at x) r.targets) (any-entries x only_deep rs)
  where
    by : (o : Option Target) → list_any (λ e. not only_deep || e.deep) (entries x rs) ≡ list_any (is_attached x only_deep) rs
        → list_any (λ e. not only_deep || e.deep) (cons_option (option_map (λ t. let e : Entry = record { no = r.no; deep = t.deep } in e) o) (entries x rs)) ≡ (option_map_or (λ t. not only_deep || t.deep) o false || list_any (is_attached x only_deep) rs)
    by None rest = rest
    by (Some t) rest = ap (λ b. (not only_deep || t.deep) || b) rest

-- there is an index exactly if an adapter passes the test
pub some-ordinal : (p : Listed → Bool) (k : ℕ) (rs : List Listed) → not (nat_eq (length (ordinals_from p k rs)) 0) ≡ list_any p rs
some-ordinal p k [] = refl
some-ordinal p k (r ∷ rs) =
    elim (p r) as (λ b. not (nat_eq (length (cond b (k ∷ ordinals_from p (suc k) rs) (ordinals_from p (suc k) rs))) 0) ≡ (b || list_any p rs)) [
      | true ↦ ap not (ne_eqb (suc (length (ordinals_from p (suc k) rs))) 0 (λ (e : suc (length (ordinals_from p (suc k) rs)) ≡ 0). omega (arith, e)))
      | false ↦ some-ordinal p (suc k) rs
    ]
