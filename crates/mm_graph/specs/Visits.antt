-- How far the search for an order has come.
use Rattle.std.specs.Prelude.{ℕ, ◌≡◌, ◌<◌, ◌≤◌, Bool, true, false, List, length}
use Rattle.std.specs.List.{All, Contains, count_by, slice_index_or}
use Rattle.mm_types.specs.Graph.{Reaches, by_class}
use Rattle.mm_graph.specs.Order.{HasCycle, IsBefore}
use Rattle.mm_graph.specs.declared.order.Mark.{Mark}
use Rattle.mm_graph.specs.declared.order.Mark.TheVariants.{Unseen, Open, Done}

abbrev pub is_done : Mark → Bool
is_done Unseen = false
is_done Open = false
is_done Done = true

abbrev pub is_unseen : Mark → Bool
is_unseen Unseen = true
is_unseen Open = false
is_unseen Done = false

abbrev pub mark : List Mark → ℕ → Mark
mark ms c = slice_index_or ms c Unseen

-- the order has exactly the classes that are done, each once and after its direct supertypes
pub record IsBegun (g : List (List ℕ)) (ms : List Mark) (order : List ℕ) : Type 0 where
  pub long : length ms ≡ length g
  pub within : All (λ (c : ℕ). c < length g) order
  pub done : (c : ℕ) → mark ms c ≡ Done → Contains order c
  pub behind : (j : ℕ) → j < length order → All (IsBefore order j) (by_class g (slice_index_or order j 0))
  pub counted : length order ≡ count_by is_done ms

-- c is reached from every class that is open
abbrev pub OpenReach : List (List ℕ) → List Mark → ℕ → Type 0
OpenReach g ms c = (k : ℕ) → mark ms k ≡ Open → Reaches g k c

-- the same classes are open as before, each class that was done is still done, and no more classes are unseen than before
pub record Goes (old new : List Mark) : Type 0 where
  pub same_length : length new ≡ length old
  pub opened : (k : ℕ) → mark new k ≡ Open → mark old k ≡ Open
  pub stays_open : (k : ℕ) → mark old k ≡ Open → mark new k ≡ Open
  pub stays_done : (k : ℕ) → mark old k ≡ Done → mark new k ≡ Done
  pub fewer : count_by is_unseen new ≤ count_by is_unseen old

pub record IsVisited (g : List (List ℕ)) (c : ℕ) (old new : List Mark) (order : List ℕ) : Type 0 where
  pub begun : IsBegun g new order
  pub done : mark new c ≡ Done
  pub goes : Goes old new

-- the result of a visit of c: true only if c was visited, and false only if there is a cycle
abbrev pub Visits : Bool → List (List ℕ) → ℕ → List Mark → List Mark → List ℕ → Type 0
Visits true g c old new order = IsVisited g c old new order
Visits false g c old new order = HasCycle g
