-- The states that are collected of a node and of the objects below it are the snapshot of the node.
use Rattle.std.proofs.Common.{◌≡◌, ◌<◌, ◌≤◌, ◌+◌, ◌&&◌, ◌||◌, ℕ, zero, suc, Bool, true, false, nat_eq, nat_lt, length, List, [], ◌∷◌, ◌++◌, map, filter, drop, append_assoc, if◌then◌else◌, refl, sym, ap, ◌∙◌, subst, arith}
use Rattle.std.specs.Prelude.{slice_index_or}
use Rattle.std.specs.List.{AllByRecursion, IsDistinct, list_any, range_with_len}
use Rattle.std.specs.List.Sorted.{IsNonDecreasingBy, IsPermutation}
use Rattle.std.proofs.lemmas.Bool.{false≢true, or_cases, or_left, or_right}
use Rattle.std.proofs.lemmas.Bool.Decides.{nat_tests}
use Rattle.std.proofs.lemmas.List.{append-nil, drop_all, drop_more, map-append}
use Rattle.std.proofs.lemmas.List.Elements.{filter-append}
use Rattle.std.proofs.lemmas.List.Sorted.{list_any-IsPermutation}
use Rattle.std.proofs.lemmas.Map.Keys.{IsDistinct-IsPermutation}
use Rattle.mm_types.specs.Same.{same_node, same_object}
use Rattle.mm_types.specs.declared.numbers.Node.{Node}
use Rattle.mm_types.specs.declared.numbers.Node.TheVariants as node
use Rattle.mm_types.specs.declared.numbers.ObjectNo.{ObjectNo}
use Rattle.mm_types.specs.declared.numbers.ResourceNo.{ResourceNo}
use Rattle.containment.proofs.AboveLemmas.{above-root, parent-resource}
use Rattle.containment.proofs.DistinctLemmas.{node-distinct}
use Rattle.containment.proofs.MemberLemmas.{objects-below}
use Rattle.containment.proofs.PartLemmas.{live-made}
use Rattle.containment.specs.Forest.{node_subtree}
use Rattle.models.specs.Legal.{IsLegal}
use Rattle.models.specs.Model.{Model, reading}
use Rattle.models.specs.Reading.{Reading, has_resource, is_live, is_node_live, is_within, object_node, resource_node}
use Rattle.snapshots.specs.declared.snapshot.NodeState.{NodeState}
use Rattle.snapshots.specs.Snapshots.{AreAscending, AreBelow, is_taken, live_states, node_state, nodes, objects_as_nodes, own_resource, snapshot_of}
use Rattle.mm_meta.proofs.OwnerLemmas.{nat_eq-turned}

---------------------------------------------------------------- sorted, and each once

-- objects that are sorted by number, none twice, are ascending
pub ascending : (os : List ObjectNo) → IsNonDecreasingBy (λ (o : ObjectNo). o.0) os → IsDistinct same_object os → AreAscending os
unfolding IsDistinct
ascending [] up apart = tt
ascending (o ∷ []) up apart = tt
ascending (o ∷ p ∷ ps) up apart = (
  above (up 0 1 o (omega arith) (omega arith)) apart.0.0,
  ascending (p ∷ ps) (λ i j d le lt. up (suc i) (suc j) d (omega (arith, le)) (omega (arith, lt))) apart.1,
)
  where
    above : {m n : ℕ} → m ≤ n → nat_eq m n ≡ false → m < n
    above {m} {n} le other = grind (arith, nat_tests)

abbrev AreFrom : ℕ → List ObjectNo → Type 0
AreFrom a os = AllByRecursion (λ (o : ObjectNo). a ≤ o.0) os

lower : (a b : ℕ) (os : List ObjectNo) → a ≤ b → AreFrom b os → AreFrom a os
lower a b [] le from = tt
lower a b (o ∷ os) le from = (omega (arith, le, from.0), lower a b os le from.1)

rest-ascends : (o : ObjectNo) (os : List ObjectNo) → AreAscending (o ∷ os) → AreAscending os
rest-ascends o [] up = tt
rest-ascends o (p ∷ ps) up = up.1

rest-from : (o : ObjectNo) (os : List ObjectNo) → AreAscending (o ∷ os) → AreFrom (o.0 + 1) os
rest-from o [] up = tt
rest-from o (p ∷ ps) up = let low = up.0 in (omega (arith, low), lower (o.0 + 1) (p.0 + 1) ps (omega (arith, low)) (rest-from p ps up.1))

not-among : (a : ℕ) (os : List ObjectNo) (o : ObjectNo) → o.0 < a → AreFrom a os → list_any (same_object o) os ≡ false
not-among a [] o low from = refl
not-among a (p ∷ ps) o low from = rw (other o.0 p.0 low from.0) (not-among a ps o low from.1)
  where
    other : (m n : ℕ) → m < a → a ≤ n → nat_eq m n ≡ false
    other m n low high = grind (arith, nat_tests)

---------------------------------------------------------------- objects

abbrev mk : ℕ → ObjectNo
mk k = record { 0 = k }

module _ (r : Reading) (t : Node) where
  abbrev AreMade : ℕ → Type 0
  AreMade b = (o : ObjectNo) → is_live r o ≡ true → o.0 < b

  none-live : (a : ℕ) (os : List ObjectNo) → AreFrom a os → AreMade a → filter (is_node_live r) (objects_as_nodes os) ≡ []
  none-live a [] from made = refl
  none-live a (o ∷ os) from made =
      elim (is_live r o) as (λ b. is_live r o ≡ b → (if b then node.Object o ∷ filter (is_node_live r) (objects_as_nodes os) else filter (is_node_live r) (objects_as_nodes os)) ≡ []) [
        | true ↦ λ q. absurd (omega (arith, made o q, from.0))
        | false ↦ λ q. none-live a os from.1 made
      ] refl

  untaken : (k : ℕ) (rest : List Node) → is_within r t (object_node k) ≡ false → filter (is_taken r t) (object_node k ∷ rest) ≡ filter (is_taken r t) rest
  untaken k rest h =
      let no : is_taken r t (object_node k) ≡ false = ap (λ (b : Bool). is_live r (mk k) && b) h ∙ off (is_live r (mk k)) in
      ap (λ (b : Bool). if b then object_node k ∷ filter (is_taken r t) rest else filter (is_taken r t) rest) no
    where
      off : (b : Bool) → (b && false) ≡ false
      off true = refl
      off false = refl

  -- the live objects below a node whose numbers are at least n are those that are found among the numbers from n on
  collected : (n a : ℕ) (os : List ObjectNo) → AreAscending os → AreFrom a os → AreMade (a + n) → ((o : ObjectNo) → a ≤ o.0 → list_any (same_object o) os ≡ is_within r t (node.Object o))
      → filter (is_node_live r) (objects_as_nodes os) ≡ filter (is_taken r t) (map object_node (range_with_len a n))
  collected zero a os up from made below = none-live a os from (λ o q. (let low = made o q in omega (arith, low)))
  collected (suc n) a [] up from made below =
      collected n (a + 1) [] tt tt (λ o q. (let low = made o q in omega (arith, low))) (λ o le. below o (omega (arith, le)))
      ∙ sym (untaken a (map object_node (range_with_len (a + 1) n)) (sym (below (mk a) (omega arith))))
  collected (suc n) a (o ∷ os) up from made below =
      elim (nat_eq o.0 a) as (λ b. nat_eq o.0 a ≡ b → filter (is_node_live r) (objects_as_nodes (o ∷ os)) ≡ filter (is_taken r t) (map object_node (range_with_len a (suc n)))) [
        | true ↦ λ q.
            let here : o.0 ≡ a = same q in
            let among : is_within r t (node.Object o) ≡ true = sym (below o from.0) ∙ or_left _ _ (itself o.0) in
            let more : AreFrom (a + 1) os = subst (λ (k : ℕ). AreFrom (k + 1) os) here (rest-from o os up) in
            let rest = collected n (a + 1) os (rest-ascends o os up) more (λ p q. (let low = made p q in omega (arith, low))) (λ p le. sym (ap (λ (b : Bool). b || list_any (same_object p) os) (apart p.0 o.0 a here le)) ∙ below p (omega (arith, le))) in
            first o os (map object_node (range_with_len (a + 1) n)) among rest ∙ ap (λ (k : ℕ). filter (is_taken r t) (object_node k ∷ map object_node (range_with_len (a + 1) n))) here
        | false ↦ λ q.
            let past : AreFrom (a + 1) (o ∷ os) = (beyond from.0 q, lower (a + 1) (o.0 + 1) os (omega (arith, from.0)) (rest-from o os up)) in
            collected n (a + 1) (o ∷ os) up past (λ p q. (let low = made p q in omega (arith, low))) (λ p le. below p (omega (arith, le)))
            ∙ sym (untaken a (map object_node (range_with_len (a + 1) n)) (sym (below (mk a) (omega arith)) ∙ not-among (a + 1) (o ∷ os) (mk a) (omega arith) past))
      ] refl
    where
      same : {m n : ℕ} → nat_eq m n ≡ true → m ≡ n
      same {m} {n} h = grind (arith, nat_tests)

      itself : (m : ℕ) → nat_eq m m ≡ true
      itself m = grind (arith, nat_tests)

      apart : (m n b : ℕ) → n ≡ b → b + 1 ≤ m → nat_eq m n ≡ false
      apart m n b here le = grind (arith, nat_tests)

      beyond : {b m : ℕ} → b ≤ m → nat_eq m b ≡ false → b + 1 ≤ m
      beyond {b} {m} le h = grind (arith, nat_tests)

      first : (o : ObjectNo) (os : List ObjectNo) (ns : List Node) → is_within r t (node.Object o) ≡ true → filter (is_node_live r) (objects_as_nodes os) ≡ filter (is_taken r t) ns
          → filter (is_node_live r) (objects_as_nodes (o ∷ os)) ≡ filter (is_taken r t) (node.Object o ∷ ns)
      first o os ns among rest =
          elim (is_live r o) as (λ b. (if b then node.Object o ∷ filter (is_node_live r) (objects_as_nodes os) else filter (is_node_live r) (objects_as_nodes os)) ≡ (if (b && is_within r t (node.Object o)) then node.Object o ∷ filter (is_taken r t) ns else filter (is_taken r t) ns)) [
            | true ↦ rw among (ap (λ xs. node.Object o ∷ xs) rest)
            | false ↦ rest
          ]

---------------------------------------------------------------- resources

no-resource : (p : Node → Bool) (a n : ℕ) → ((j : ℕ) → p (resource_node j) ≡ false) → filter p (map resource_node (range_with_len a n)) ≡ []
no-resource p a zero h = refl
no-resource p a (suc n) h = rw (h a) (no-resource p (a + 1) n h)

past-resource : (p : Node → Bool) (k a n : ℕ) → k < a → ((j : ℕ) → p (resource_node j) ≡ nat_eq k j) → filter p (map resource_node (range_with_len a n)) ≡ []
past-resource p k a zero low h = refl
past-resource p k a (suc n) low h = rw (h a ∙ other) (past-resource p k (a + 1) n (omega (arith, low)) h)
  where
    other : nat_eq k a ≡ false
    other = grind (arith, nat_tests)

one-resource : (p : Node → Bool) (k a n : ℕ) → a ≤ k → ((j : ℕ) → p (resource_node j) ≡ nat_eq k j) → filter p (map resource_node (range_with_len a n)) ≡ (if nat_lt k (a + n) then resource_node k ∷ [] else [])
one-resource p k a zero le h = rw (none k a le) refl
  where
    none : (k a : ℕ) → a ≤ k → nat_lt k (a + 0) ≡ false
    none k a le = grind (arith, nat_tests)
one-resource p k a (suc n) le h =
    elim (nat_eq k a) as (λ b. nat_eq k a ≡ b → filter p (map resource_node (range_with_len a (suc n))) ≡ (if nat_lt k (a + suc n) then resource_node k ∷ [] else [])) [
      | true ↦ λ q.
          let here : k ≡ a = same q in
          rw (h a ∙ q, below q) (ap (λ (xs : List Node). resource_node a ∷ xs) (past-resource p k (a + 1) n (omega (arith, here)) h) ∙ ap (λ (m : ℕ). resource_node m ∷ []) (sym here))
      | false ↦ λ q.
          let more : a + suc n ≡ (a + 1) + n = omega arith in
          rw (h a ∙ q, more) (one-resource p k (a + 1) n (beyond le q) h)
    ] refl
  where
    same : {m n : ℕ} → nat_eq m n ≡ true → m ≡ n
    same {m} {n} h = grind (arith, nat_tests)

    below : nat_eq k a ≡ true → nat_lt k (a + suc n) ≡ true
    below q = grind (arith, nat_tests)

    beyond : {b m : ℕ} → b ≤ m → nat_eq m b ≡ false → b + 1 ≤ m
    beyond {b} {m} le h = grind (arith, nat_tests)

---------------------------------------------------------------- both

module _ (s : Model) (legal : IsLegal s) where
  -- no node is above a resource
  resource-taken : (t : Node) (j : ℕ) → is_taken (reading s) t (resource_node j) ≡ same_node t (resource_node j)
  resource-taken t j =
      ap (λ (ns : List Node). same_node t (resource_node j) || list_any (same_node t) ns) (above-root s.links (resource_node j) legal.links.set legal.links.forest (parent-resource s.links (resource_node j) (record { 0 = j }) legal.links.set refl))
      ∙ alone (same_node t (resource_node j))
    where
      alone : (b : Bool) → (b || false) ≡ b
      alone true = refl
      alone false = refl

  resources-taken : (t : Node) → filter (is_taken (reading s) t) (map resource_node (range_with_len 0 (length (reading s).uris))) ≡ own_resource (reading s) t
  resources-taken (node.Object o) = no-resource (is_taken (reading s) (node.Object o)) 0 (length (reading s).uris) (resource-taken (node.Object o))
  resources-taken (node.Resource k) = one-resource (is_taken (reading s) (node.Resource k)) k.0 0 (length (reading s).uris) (omega arith) (resource-taken (node.Resource k))
      ∙ ap (λ (m : ℕ). if nat_lt k.0 m then node.Resource k ∷ [] else []) (none-more (length (reading s).uris))
    where
      none-more : (n : ℕ) → 0 + n ≡ n
      none-more n = omega arith

  objects-taken : (t : Node) (os : List ObjectNo) → AreBelow (reading s) t os → filter (is_node_live (reading s)) (objects_as_nodes os) ≡ filter (is_taken (reading s) t) (map object_node (range_with_len 0 (reading s).next))
  objects-taken t os are = collected (reading s) t (reading s).next 0 os are.ascending (all-from os) (λ o q. made (live-made s o q)) (λ o le. are.below o)
    where
      made : {m n : ℕ} → m < n → m < 0 + n
      made low = omega (arith, low)

      all-from : (os : List ObjectNo) → AreFrom 0 os
      all-from [] = tt
      all-from (o ∷ os) = (omega arith, all-from os)

  pub taken : (t : Node) (os : List ObjectNo) (xs : List NodeState) → AreBelow (reading s) t os → xs ≡ map (node_state (reading s)) (own_resource (reading s) t) ++ live_states (reading s) os → xs ≡ snapshot_of (reading s) t
  taken t os xs are is =
      let r = reading s in
      is
      ∙ (λ i. map (node_state r) (sym (resources-taken t) i) ++ map (node_state r) (objects-taken t os are i))
      ∙ sym (map-append (node_state r) (filter (is_taken r t) (map resource_node (range_with_len 0 (length r.uris)))) (filter (is_taken r t) (map object_node (range_with_len 0 r.next))))
      ∙ ap (map (node_state r)) (sym (filter-append (is_taken r t) (map resource_node (range_with_len 0 (length r.uris))) (map object_node (range_with_len 0 r.next))))

---------------------------------------------------------------- what a sort makes of all objects of a node

pub is-below : (s : Model) → IsLegal s → (t : Node) (os sorted : List ObjectNo) → os ≡ node_subtree (reading s) t → IsNonDecreasingBy (λ (o : ObjectNo). o.0) sorted → IsPermutation os sorted → AreBelow (reading s) t sorted
is-below s legal t os sorted is up moved =
    let apart = IsDistinct-IsPermutation same_object (λ x y. nat_eq-turned x.0 y.0) os sorted moved (subst (IsDistinct same_object) (sym is) (node-distinct s legal t)) in
    record {
      ascending = ascending sorted up apart;
      below = λ o. sym (list_any-IsPermutation (same_object o) os sorted moved) ∙ ap (list_any (same_object o)) is ∙ objects-below s legal t o;
    }

---------------------------------------------------------------- one object after another

live-first : (r : Reading) (o : ObjectNo) (os : List ObjectNo) → live_states r (o ∷ os) ≡ live_states r (o ∷ []) ++ live_states r os
live-first r o os =
    elim (is_live r o) as (λ b. map (node_state r) (if b then node.Object o ∷ filter (is_node_live r) (objects_as_nodes os) else filter (is_node_live r) (objects_as_nodes os)) ≡ map (node_state r) (if b then node.Object o ∷ [] else []) ++ live_states r os) [
      | true ↦ refl
      | false ↦ refl
    ]

pub live-step : (r : Reading) (os : List ObjectNo) (i : ℕ) (d : ObjectNo) (out new all : List NodeState) → i < length os → new ≡ out ++ live_states r (slice_index_or os i d ∷ []) → out ++ live_states r (drop i os) ≡ all
    → new ++ live_states r (drop (i + 1) os) ≡ all
live-step r os i d out new all low is whole =
    let o = slice_index_or os i d in
    ap (λ xs. xs ++ live_states r (drop (i + 1) os)) is
    ∙ append_assoc out (live_states r (o ∷ [])) (live_states r (drop (i + 1) os))
    ∙ ap (λ xs. out ++ xs) (sym (live-first r o (drop (i + 1) os)))
    ∙ ap (λ ps. out ++ live_states r ps) (sym (drop_more os i d low))
    ∙ whole

pub live-end : (r : Reading) (os : List ObjectNo) (i : ℕ) (out all : List NodeState) → length os ≤ i → out ++ live_states r (drop i os) ≡ all → out ≡ all
live-end r os i out all past whole = sym (ap (λ ps. out ++ live_states r ps) (drop_all i os past) ∙ append-nil out) ∙ whole
