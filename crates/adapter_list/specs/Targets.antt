-- For each node, the adapters that have the node as a target. A table (`TargetLists`) has an entry for each of these adapters. This file
-- says which entries a table has for a node, and which entries it must have according to the list of adapters.
use Rattle.std.specs.Prelude.{◌≡◌, ℕ, ◌<◌, ◌&&◌, ◌||◌, not, Bool, true, false, List, [], ◌∷◌, get_or, slice_get, length, map, nat_eq, slice_index, Option, option_map, IfSome, ⊤, if◌then◌else◌}
use Rattle.std.specs.List.{IsDistinct, filter_map, find}
use Rattle.std.specs.Option.{option_map_or}
use Rattle.indexmap.specs.IndexMap.{get}
use Rattle.mm_types.specs.Same.{same_node}
use Rattle.mm_types.specs.declared.numbers.AdapterNo.{AdapterNo}
use Rattle.mm_types.specs.declared.numbers.Node.{Node}
use Rattle.mm_types.specs.declared.numbers.Node.TheVariants as node
use Rattle.mm_types.specs.declared.numbers.ObjectNo.{ObjectNo}
use Rattle.notice_chain.specs.Listed.{Listed, has_no, is_at}
use Rattle.adapter_list.specs.declared.target_lists.Entry.{Entry}
use Rattle.adapter_list.specs.declared.target_lists.NodeKey.{NodeKey}
use Rattle.adapter_list.specs.declared.target_lists.TargetLists.{TargetLists}

abbrev pub key : Node → NodeKey
key (node.Object o) = record { is_resource = false; number = o.0 }
key (node.Resource k) = record { is_resource = true; number = k.0 }

abbrev pub same_bool : Bool → Bool → Bool
same_bool true true = true
same_bool true false = false
same_bool false true = false
same_bool false false = true

abbrev pub same_key : NodeKey → NodeKey → Bool
same_key j k = same_bool j.is_resource k.is_resource && nat_eq j.number k.number

-- the entries that a table has for a node
abbrev pub entries_in : TargetLists → Node → List Entry
entries_in t x = option_map_or (λ v. v.items) (get same_key t.lists (key x)) []

-- no list of a table is empty
abbrev pub HasNoEmpty : TargetLists → Type 0
HasNoEmpty t = (q : NodeKey) → IfSome (get same_key t.lists q) (λ v. 0 < length v.items)

-- the entry of an adapter for a node, if the node is a target of the adapter
abbrev pub entry_of : Node → Listed → Option Entry
entry_of x r = option_map (λ t. record { no = r.no; deep = t.deep }) (find (is_at x) r.targets)

-- the entries of the adapters that have a node as a target, in attach order
abbrev pub entries : Node → List Listed → List Entry
entries x rs = filter_map (entry_of x) rs

-- for each node, a table has the entries of exactly the adapters that have the node as a target, in attach order
abbrev pub AreTied : TargetLists → List Listed → Type 0
AreTied t rs = (x : Node) → entries_in t x ≡ entries x rs

---------------------------------------------------------------- marks

abbrev pub is_any : List Entry → Bool
is_any [] = false
is_any (e ∷ es) = true

-- an object is marked exactly if a table has adapters for it
abbrev pub AreMarked : List Bool → TargetLists → Type 0
AreMarked bs t = (o : ObjectNo) → get_or bs o.0 false ≡ is_any (entries_in t (node.Object o))

-- whether a node is marked; a resource always counts as marked
abbrev pub is_marked : List Bool → Node → Bool
is_marked bs (node.Object o) = get_or bs o.0 false
is_marked bs (node.Resource k) = true

abbrev pub AreSameMarks : List Bool → List Bool → Type 0
AreSameMarks old new = (i : ℕ) → get_or new i false ≡ get_or old i false

-- the new marks are the old marks, except that the mark of x is b if the node x is an object
abbrev pub AreSetAt : List Bool → Node → Bool → List Bool → Type 0
AreSetAt old x b new = (o : ObjectNo) → get_or new o.0 false ≡ (if same_node x (node.Object o) then b else get_or old o.0 false)

-- the list of marks is long enough to have a mark for a node; a resource needs no mark
abbrev pub HasMarkRoom : List Bool → Node → Type 0
HasMarkRoom bs (node.Object o) = o.0 < length bs
HasMarkRoom bs (node.Resource k) = ⊤

---------------------------------------------------------------- indexes in attach order

-- whether the adapter at index k has a given number
abbrev pub has_number_at : List Listed → AdapterNo → ℕ → Bool
has_number_at rs number k = option_map_or (has_no number) (slice_get rs k) false

-- whether an adapter has the node x as a target; if `only_deep` is true, only deep targets count
abbrev pub is_attached : Node → Bool → Listed → Bool
is_attached x only_deep r = option_map_or (λ t. not only_deep || t.deep) (find (is_at x) r.targets) false

-- whether the adapter at index k has the node x as a target; if `only_deep` is true, only deep targets count
abbrev pub is_attached_at : List Listed → Node → Bool → ℕ → Bool
is_attached_at rs x only_deep k = option_map_or (is_attached x only_deep) (slice_get rs k) false

-- how many targets the adapter at index k has; 0 if no adapter is at k
abbrev pub targets_at : List Listed → ℕ → ℕ
targets_at rs k = slice_index (map (λ r. length r.targets) rs) k

-- whether an entry is of the adapter at index k; if `only_deep` is true, only entries of deep targets count
abbrev pub finds : List Listed → Bool → ℕ → Entry → Bool
finds rs only_deep k e = (not only_deep || e.deep) && has_number_at rs e.no k

-- an adapter has no target twice
abbrev pub IsOnce : Listed → Type 0
IsOnce r = IsDistinct same_node (map (λ t. t.node) r.targets)
