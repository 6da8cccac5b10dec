-- A table after a write to the list of one node.
use Rattle.std.proofs.Common.{◌≡◌, ◌≤◌, ◌<◌, ℕ, zero, suc, Bool, true, false, cond, List, [], ◌∷◌, Option, Some, None, Result, Ok, Err, Vec, Global, insert, remove, length, IfSome, IsSome, if◌then◌else◌, refl, sym, ap, subst, ◌∙◌, arith}
use Rattle.std.specs.Option.{option_map_or}
use Rattle.std.specs.Result.{OnErr}
use Rattle.indexmap.specs.IndexMap.{get}
use Rattle.mm_types.proofs.SameLemmas.{same_node-true}
use Rattle.mm_types.specs.Same.{same_node}
use Rattle.mm_types.specs.declared.numbers.Node.{Node}
use Rattle.mm_types.specs.declared.numbers.Node.TheVariants as node
use Rattle.adapter_list.specs.Targets.{HasNoEmpty, entries_in, is_any, key, same_key}
use Rattle.adapter_list.specs.declared.target_lists.Entry.{Entry}
use Rattle.adapter_list.specs.declared.target_lists.NodeKey.{NodeKey}
use Rattle.adapter_list.specs.declared.target_lists.TargetLists.{TargetLists}

same_key-node : (x y : Node) → same_key (key x) (key y) ≡ same_node x y
same_key-node (node.Object x) (node.Object y) = refl
same_key-node (node.Object x) (node.Resource y) = refl
same_key-node (node.Resource x) (node.Object y) = refl
same_key-node (node.Resource x) (node.Resource y) = refl

abbrev pub items_of : Option (Vec Entry Global) → List Entry
items_of o = option_map_or (λ v. v.items) o []

module _ (old new : TargetLists) (x : Node) (k : NodeKey) (is : k ≡ key x) (w : Option (Vec Entry Global)) (updates : (q : NodeKey) → get same_key new.lists q ≡ cond (same_key k q) w (get same_key old.lists q)) where
  pub written : (change : List Entry → List Entry) → items_of w ≡ change (entries_in old x) → (y : Node) → entries_in new y ≡ (if same_node x y then change (entries_in old y) else entries_in old y)
  written change made y =
      ap items_of (updates (key y) ∙ ap (λ (q : NodeKey). cond (same_key q (key y)) w (get same_key old.lists (key y))) is)
      ∙ ap (λ (b : Bool). items_of (cond b w (get same_key old.lists (key y)))) (same_key-node x y)
      ∙ elim (same_node x y) as (λ b. same_node x y ≡ b → items_of (cond b w (get same_key old.lists (key y))) ≡ (if b then change (entries_in old y) else entries_in old y)) [
        | true ↦ λ yes. made ∙ ap (λ (z : Node). change (entries_in old z)) (same_node-true x y yes)
        | false ↦ λ _. refl
      ] refl

  -- a list that is written has entries, or is removed
  pub none_empty-written : IfSome w (λ v. 0 < length v.items) → HasNoEmpty old → HasNoEmpty new
  none_empty-written some all q =
      subst (λ (o : Option (Vec Entry Global)). IfSome o (λ v. 0 < length v.items)) (sym (updates q))
      (elim (same_key k q) as (λ b. IfSome (cond b w (get same_key old.lists q)) (λ v. 0 < length v.items)) [ true ↦ some | false ↦ all q ])

pub found : (t : TargetLists) (x : Node) (k : NodeKey) (v : Vec Entry Global) → k ≡ key x → Some v ≡ get same_key t.lists k → entries_in t x ≡ v.items
found t x k v is at = ap (λ (q : NodeKey). items_of (get same_key t.lists q)) (sym is) ∙ ap items_of (sym at)

pub found-none : (t : TargetLists) (x : Node) (k : NodeKey) → k ≡ key x → None ≡ get same_key t.lists k → entries_in t x ≡ []
found-none t x k is at = ap (λ (q : NodeKey). items_of (get same_key t.lists q)) (sym is) ∙ ap items_of (sym at)

-- a list that is found has entries
pub some-found : (t : TargetLists) (k : NodeKey) (v : Vec Entry Global) → Some v ≡ get same_key t.lists k → HasNoEmpty t → 0 < length v.items
some-found t k v at all = subst (λ (o : Option (Vec Entry Global)). IfSome o (λ w. 0 < length w.items)) (sym at) (all k)

-- a list that is found is in the table
pub is-there : (o : Option (Vec Entry Global)) (v : Vec Entry Global) → Some v ≡ o → IsSome o
is-there o v at = subst (λ (q : Option (Vec Entry Global)). IsSome q) at refl

-- a list that is written as it was
pub written-same : (old new : TargetLists) (x : Node) (k : NodeKey) → k ≡ key x → (w : Vec Entry Global) → ((q : NodeKey) → get same_key new.lists q ≡ cond (same_key k q) (Some w) (get same_key old.lists q)) → w.items ≡ entries_in old x → (y : Node) → entries_in new y ≡ entries_in old y
written-same old new x k is w updates made y = written old new x k is (Some w) updates (λ es. es) made y ∙ both (same_node x y)
  where
    both : (b : Bool) → (if b then entries_in old y else entries_in old y) ≡ entries_in old y
    both true = refl
    both false = refl

pub on_err-all : {X E P : Type 0} (r : Result X E) → P → OnErr r P
on_err-all (Ok x) p = tt
on_err-all (Err e) p = p

----------------------------------------------------------------- lists of entries

pub insert-none : (es : List Entry) (i : ℕ) (e : Entry) → es ≡ [] → i ≤ length es → e ∷ [] ≡ insert es i e
insert-none es zero e none low = ap (λ (ds : List Entry). insert ds 0 e) (sym none)
insert-none es (suc i) e none low = absurd (let long = ap (λ (ds : List Entry). length ds) none in omega (arith, low, long))

pub insert-some : (es : List Entry) (i : ℕ) (e : Entry) → 0 < length (insert es i e)
insert-some [] zero e = omega arith
insert-some [] (suc i) e = omega arith
insert-some (d ∷ es) zero e = omega arith
insert-some (d ∷ es) (suc i) e = omega arith

pub remove-some : (es : List Entry) (i : ℕ) → i < length es → 1 < length es → 0 < length (remove es i)
remove-some [] i low more = absurd (omega (arith, more))
remove-some (e ∷ []) i low more = absurd (omega (arith, more))
remove-some (e ∷ d ∷ es) zero low more = omega arith
remove-some (e ∷ d ∷ es) (suc i) low more = omega arith

-- if there is only one entry, removing it leaves none
pub remove-only : (es : List Entry) (i : ℕ) → i < length es → length es ≤ 1 → [] ≡ remove es i
remove-only [] i low few = absurd (omega (arith, low))
remove-only (e ∷ []) zero low few = refl
remove-only (e ∷ []) (suc i) low few = absurd (omega (arith, low))
remove-only (e ∷ d ∷ es) i low few = absurd (omega (arith, few))

pub is_any-some : (es : List Entry) → 0 < length es → true ≡ is_any es
is_any-some [] some = absurd (omega (arith, some))
is_any-some (e ∷ es) some = refl
