-- The targets of the adapters after one more adapter is attached.
use Rattle.std.proofs.Common.{◌≡◌, ◌+◌, ℕ, true, false, cond, List, [], ◌∷◌, ◌++◌, length, map, insert, Option, Some, None, option_map, if◌then◌else◌, refl, sym, ap, subst, ◌∙◌}
use Rattle.std.specs.List.{IsDistinct, cons_option, find, fold}
use Rattle.std.proofs.lemmas.List.{append-nil}
use Rattle.std.proofs.lemmas.List.Elements.{All-push}
use Rattle.mm_types.proofs.SameLemmas.{same_node-self, same_node-true}
use Rattle.mm_types.specs.Same.{same_node}
use Rattle.mm_types.specs.declared.numbers.Node.{Node}
use Rattle.notice_chain.specs.Listed.{HasDistinctTargets, Listed, is_at, targets_len}
use Rattle.notice_chain.specs.declared.target.Target.{Target}
use Rattle.adapter_list.specs.Targets.{IsOnce, entries, entry_of}
use Rattle.adapter_list.specs.declared.target_lists.Entry.{Entry}

cons_append : {X : Type 0} (o : Option X) (xs ys : List X) → cons_option o (xs ++ ys) ≡ cons_option o xs ++ ys
cons_append None xs ys = refl
cons_append (Some x) xs ys = refl

entries-push : (y : Node) (rs : List Listed) (r : Listed) → entries y (rs ++ r ∷ []) ≡ entries y rs ++ cons_option (entry_of y r) []
entries-push y [] r = refl
entries-push y (q ∷ rs) r = ap (cons_option (entry_of y q)) (entries-push y rs r) ∙ cons_append (entry_of y q) (entries y rs) (cons_option (entry_of y r) [])

insert-last : {X : Type 0} (xs : List X) (i : ℕ) (x : X) → i ≡ length xs → insert xs i x ≡ xs ++ x ∷ []
insert-last [] i x e = by i e
  where
    by : (k : ℕ) → k ≡ 0 → insert [] k x ≡ x ∷ []
    by k e = ap (λ (j : ℕ). insert [] j x) e
insert-last (y ∷ ys) i x e = ap (λ (j : ℕ). insert (y ∷ ys) j x) e ∙ ap (λ zs. y ∷ zs) (insert-last ys (length ys) x refl)

-- the table after the new adapter's entry is put last in the list of its target
pub tied-push : (rs : List Listed) (r : Listed) (x : Node) (t : Target) (e : Entry) (old : Node → List Entry) (i : ℕ) (y : Node) → r.targets ≡ t ∷ [] → t.node ≡ x → entry_of x r ≡ Some e → old y ≡ entries y rs → i ≡ length (old x)
    → (if same_node x y then insert (old y) i e else old y) ≡ entries y (rs ++ r ∷ [])
tied-push rs r x t e old i y only at mine tied last =
    elim (same_node x y) as (λ b. same_node x y ≡ b → (if b then insert (old y) i e else old y) ≡ entries y (rs ++ r ∷ [])) [
      | true ↦ λ same.
          let is : x ≡ y = same_node-true x y same in
          insert-last (old y) i e (last ∙ ap (λ (z : Node). length (old z)) is) ∙ ap (λ es. es ++ e ∷ []) tied
          ∙ ap (λ (o : Option Entry). entries y rs ++ cons_option o []) (sym (ap (λ (z : Node). entry_of z r) (sym is) ∙ mine)) ∙ sym (entries-push y rs r)
      | false ↦ λ other.
          let none : find (is_at y) r.targets ≡ None = ap (find (is_at y)) only ∙ ap (λ b. cond b (Some t) None) (ap (λ (z : Node). same_node z y) at ∙ other) in
          tied ∙ sym (append-nil (entries y rs)) ∙ ap (λ (o : Option Target). entries y rs ++ cons_option (option_map (λ q. let d : Entry = record { no = r.no; deep = q.deep } in d) o) []) (sym none) ∙ sym (entries-push y rs r)
    ] refl

len-from : (m : ℕ) (rs : List Listed) (r : Listed) → fold (λ a (q : Listed). a + length q.targets) m (rs ++ r ∷ []) ≡ fold (λ a (q : Listed). a + length q.targets) m rs + length r.targets
len-from m [] r = refl
len-from m (q ∷ rs) r = len-from (m + length q.targets) rs r

pub targets_len-push : (rs : List Listed) (r : Listed) (t : Target) → r.targets ≡ t ∷ [] → targets_len (rs ++ r ∷ []) ≡ targets_len rs + 1
targets_len-push rs r t only = len-from 0 rs r ∙ ap (λ (ts : List Target). targets_len rs + length ts) only

pub once-push : (rs : List Listed) (r : Listed) (t : Target) → r.targets ≡ t ∷ [] → HasDistinctTargets rs → HasDistinctTargets (rs ++ r ∷ [])
unfolding IsDistinct
once-push rs r t only h = All-push IsOnce rs r h (subst (λ (ts : List Target). IsDistinct same_node (map (λ q. q.node) ts)) (sym only) (tt, tt))

pub first-entry : (x : Node) (r : Listed) (t : Target) → r.targets ≡ t ∷ [] → t.node ≡ x → entry_of x r ≡ Some (record { no = r.no; deep = t.deep })
first-entry x r t only at =
    let mine : same_node t.node x ≡ true = ap (λ (z : Node). same_node z x) at ∙ same_node-self x in
    ap (λ (o : Option Target). option_map (λ q. let d : Entry = record { no = r.no; deep = q.deep } in d) o) (ap (find (is_at x)) only ∙ ap (λ b. cond b (Some t) None) mine)
