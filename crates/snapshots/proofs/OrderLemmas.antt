-- The nodes of a snapshot are in order.
use Rattle.std.proofs.Common.{◌≡◌, ◌<◌, ◌+◌, ℕ, zero, suc, Bool, true, false, IsTrue, List, [], ◌∷◌, ◌++◌, map, filter, if◌then◌else◌, refl, arith}
use Rattle.std.specs.List.{AllByRecursion, range_with_len}
use Rattle.std.proofs.lemmas.Bool.{lt-ltb}
use Rattle.mm_types.specs.declared.numbers.Node.{Node}
use Rattle.models.specs.Reading.{Reading, object_node, resource_node}
use Rattle.snapshots.specs.Order.{AreInOrder, is_before}
use Rattle.snapshots.specs.declared.snapshot.NodeState.{NodeState}
use Rattle.snapshots.specs.Snapshots.{is_taken, node_state, nodes, snapshot_of}

Before : Node → List Node → Type 0
Before n ns = AllByRecursion (λ (m : Node). IsTrue (is_before n m)) ns

Ordered : List Node → Type 0
unfolding Before
Ordered [] = Unit {0}
Ordered (n ∷ ns) = Before n ns × Ordered ns

before-filter : (p : Node → Bool) (n : Node) (ns : List Node) → Before n ns → Before n (filter p ns)
unfolding Before
before-filter p n [] h = tt
before-filter p n (m ∷ ns) h = elim (p m) as (λ b. Before n (if b then m ∷ filter p ns else filter p ns)) [ true ↦ (h.0, before-filter p n ns h.1) | false ↦ before-filter p n ns h.1 ]

ordered-filter : (p : Node → Bool) (ns : List Node) → Ordered ns → Ordered (filter p ns)
unfolding Ordered
ordered-filter p [] h = tt
ordered-filter p (n ∷ ns) h = elim (p n) as (λ b. Ordered (if b then n ∷ filter p ns else filter p ns)) [ true ↦ (before-filter p n ns h.0, ordered-filter p ns h.1) | false ↦ ordered-filter p ns h.1 ]

before-states : (r : Reading) (n : Node) (ns : List Node) → Before n ns → AllByRecursion (λ (y : NodeState). IsTrue (is_before n y.node)) (map (node_state r) ns)
unfolding Before
before-states r n [] h = tt
before-states r n (m ∷ ns) h = (h.0, before-states r n ns h.1)

ordered-states : (r : Reading) (ns : List Node) → Ordered ns → AreInOrder (map (node_state r) ns)
unfolding Ordered
ordered-states r [] h = tt
ordered-states r (n ∷ ns) h = (before-states r n ns h.0, ordered-states r ns h.1)

resources-above : (b a k : ℕ) → b < a → Before (resource_node b) (map resource_node (range_with_len a k))
unfolding Before
resources-above b a zero h = tt
resources-above b a (suc k) h = (lt-ltb b a h, resources-above b (a + 1) k (omega arith))

objects-above : (b a k : ℕ) → b < a → Before (object_node b) (map object_node (range_with_len a k))
unfolding Before
objects-above b a zero h = tt
objects-above b a (suc k) h = (lt-ltb b a h, objects-above b (a + 1) k (omega arith))

objects-ordered : (a k : ℕ) → Ordered (map object_node (range_with_len a k))
unfolding Ordered
objects-ordered a zero = tt
objects-ordered a (suc k) = (objects-above a (a + 1) k (omega arith), objects-ordered (a + 1) k)

objects-later : (n : ℕ) (zs : List ℕ) → Before (resource_node n) (map object_node zs)
unfolding Before
objects-later n [] = tt
objects-later n (z ∷ zs) = (refl, objects-later n zs)

before-append : (n : Node) (xs ys : List Node) → Before n xs → Before n ys → Before n (xs ++ ys)
unfolding Before
before-append n [] ys a b = b
before-append n (x ∷ xs) ys a b = (a.0, before-append n xs ys a.1 b)

nodes-ordered : (a k : ℕ) (zs : List ℕ) → Ordered (map object_node zs) → Ordered (map resource_node (range_with_len a k) ++ map object_node zs)
unfolding Ordered
nodes-ordered a zero zs h = h
nodes-ordered a (suc k) zs h = (before-append (resource_node a) (map resource_node (range_with_len (a + 1) k)) (map object_node zs) (resources-above a (a + 1) k (omega arith)) (objects-later a zs), nodes-ordered (a + 1) k zs h)

pub snapshot-ordered : (r : Reading) (target : Node) → AreInOrder (snapshot_of r target)
snapshot-ordered r target = ordered-states r (filter (is_taken r target) (nodes r)) (ordered-filter (is_taken r target) (nodes r) (nodes-ordered 0 _ (range_with_len 0 r.next) (objects-ordered 0 r.next)))
