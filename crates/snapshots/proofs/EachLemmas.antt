-- A snapshot has each existing node that is its target or below it.
use Rattle.std.proofs.Common.{◌≡◌, ◌≤◌, ◌<◌, ◌+◌, ◌&&◌, ◌||◌, ℕ, zero, suc, Bool, true, false, IsTrue, nat_eq, List, [], ◌∷◌, ◌++◌, map, filter, length, Some, if◌then◌else◌, refl, ap, ◌∙◌, arith}
use Rattle.std.specs.List.{list_any, range_with_len}
use Rattle.std.proofs.lemmas.Bool.{and_parts, ltb-true}
use Rattle.std.proofs.lemmas.Bool.Decides.{nat_tests}
use Rattle.mm_types.specs.Same.{same_node}
use Rattle.mm_types.proofs.SameLemmas.{same_node-true}
use Rattle.mm_types.specs.declared.numbers.Node.{Node}
use Rattle.mm_types.specs.declared.numbers.Node.TheVariants as node
use Rattle.containment.proofs.PartLemmas.{live-made}
use Rattle.models.specs.Model.{Model, reading}
use Rattle.models.specs.Reading.{Reading, is_live, is_node_live, is_resource_there, is_within, object_node, resource_node}
use Rattle.snapshots.specs.Replayed.{state_at}
use Rattle.snapshots.specs.Snapshots.{is_taken, node_state, nodes, snapshot_of}

-- a node exists
abbrev pub IsThere : Model → Node → Type 0
IsThere s n = IsTrue (is_node_live (reading s) n && is_resource_there (reading s) n)

is_among : Node → List Node → Bool
is_among n ns = list_any (λ x. same_node x n) ns

range-has : (k a m : ℕ) → a ≤ m → m < a + k → list_any (λ x. nat_eq x m) (range_with_len a k) ≡ true
range-has zero a m low high = absurd (omega arith)
range-has (suc k) a m low high =
    elim (nat_eq a m) as (λ b. nat_eq a m ≡ b → (b || list_any (λ x. nat_eq x m) (range_with_len (a + 1) k)) ≡ true) [
      | true ↦ λ _. refl
      | false ↦ λ e. range-has k (a + 1) m (grind (arith, nat_tests)) (omega arith)
    ] refl

any-map : (q : Node → Bool) (f : ℕ → Node) (xs : List ℕ) → list_any q (map f xs) ≡ list_any (λ x. q (f x)) xs
any-map q f [] = refl
any-map q f (x ∷ xs) = ap (λ b. q (f x) || b) (any-map q f xs)

any-front : (q : Node → Bool) (xs ys : List Node) → list_any q xs ≡ true → list_any q (xs ++ ys) ≡ true
any-front q [] ys h = absurd (cc)
any-front q (x ∷ xs) ys h =
    elim (q x) as (λ b. (b || list_any q xs) ≡ true → (b || list_any q (xs ++ ys)) ≡ true) [ true ↦ λ e. refl | false ↦ λ e. any-front q xs ys e ] h

any-back : (q : Node → Bool) (xs ys : List Node) → list_any q ys ≡ true → list_any q (xs ++ ys) ≡ true
any-back q [] ys h = h
any-back q (x ∷ xs) ys h = elim (q x) as (λ b. (b || list_any q (xs ++ ys)) ≡ true) [ true ↦ refl | false ↦ any-back q xs ys h ]

among-filter : (p : Node → Bool) (n : Node) (ns : List Node) → p n ≡ true → is_among n ns ≡ true → is_among n (filter p ns) ≡ true
unfolding is_among
among-filter p n [] h among = among
among-filter p n (x ∷ xs) h among =
    elim (same_node x n) as (λ b. same_node x n ≡ b → (b || is_among n xs) ≡ true → is_among n (filter p (x ∷ xs)) ≡ true) [
      | true ↦ λ same _.
          let here : p x ≡ true = ap p (same_node-true x n same) ∙ h in
          rw (here, same) refl
      | false ↦ λ other more. elim (p x) as (λ b. is_among n (if b then x ∷ filter p xs else filter p xs) ≡ true) [
        | true ↦ rw other (among-filter p n xs h more)
        | false ↦ among-filter p n xs h more
      ]
    ] refl among

among-nodes : (s : Model) (n : Node) → IsThere s n → is_among n (nodes (reading s)) ≡ true
unfolding is_among
among-nodes s (node.Resource k) there =
    any-front (λ x. same_node x (node.Resource k)) (map resource_node (range_with_len 0 (length s.values.uris))) (map object_node (range_with_len 0 (length s.values.objects))) (any-map (λ x. same_node x (node.Resource k)) resource_node (range_with_len 0 (length s.values.uris)) ∙ range-has (length s.values.uris) 0 k.0 (omega arith) (omega (arith, ltb-true k.0 (length s.values.uris) there)))
among-nodes s (node.Object o) there =
    let live : is_live (reading s) o ≡ true = (and_parts _ _ there).0 in
    any-back (λ x. same_node x (node.Object o)) (map resource_node (range_with_len 0 (length s.values.uris))) (map object_node (range_with_len 0 (length s.values.objects)))
    (any-map (λ x. same_node x (node.Object o)) object_node (range_with_len 0 (length s.values.objects)) ∙ range-has (length s.values.objects) 0 o.0 (omega arith) (omega (arith, live-made s o live)))

state_at-map : (r : Reading) (n : Node) (ns : List Node) → is_among n ns ≡ true → state_at n (map (node_state r) ns) ≡ Some (node_state r n)
unfolding is_among
state_at-map r n [] among = absurd (cc)
state_at-map r n (x ∷ xs) among =
    elim (same_node x n) as (λ b. same_node x n ≡ b → (b || is_among n xs) ≡ true → (if b then Some (node_state r x) else state_at n (map (node_state r) xs)) ≡ Some (node_state r n)) [
      | true ↦ λ same _. ap (λ y. Some (node_state r y)) (same_node-true x n same)
      | false ↦ λ _ more. state_at-map r n xs more
    ] refl among

pub state_at-snapshot : (s : Model) (target n : Node) → IsThere s n → is_within (reading s) target n ≡ true → state_at n (snapshot_of (reading s) target) ≡ Some (node_state (reading s) n)
state_at-snapshot s target n there within =
    let taken : is_taken (reading s) target n ≡ true = rw ((and_parts (is_node_live (reading s) n) (is_resource_there (reading s) n) there).0, within) refl in
    state_at-map (reading s) n (filter (is_taken (reading s) target) (nodes (reading s))) (among-filter (is_taken (reading s) target) n (nodes (reading s)) taken (among-nodes s n there))
