-- The attached adapters in attach order, each with its targets and its view; which adapters get a notification; and the adapters with their
-- views after a chain is delivered.
use Rattle.std.specs.Prelude.{ℕ, ◌+◌, ◌<◌, Bool, ◌&&◌, ◌||◌, nat_eq, nat_lt, nat_le, List, [], ◌∷◌, ◌++◌, map, filter, length, ◌^◌, Option, if◌then◌else◌, All, sum_by}
use Rattle.std.specs.List.{IsDistinct, list_any, find}
use Rattle.mm_types.specs.declared.numbers.AdapterNo.{AdapterNo}
use Rattle.mm_types.specs.declared.numbers.Node.{Node}
use Rattle.mm_types.specs.Same.{same_node}
use Rattle.notice_chain.specs.View.{View, hear_all}
use Rattle.notice_chain.specs.declared.notice.Notice.{Notice}
use Rattle.notice_chain.specs.declared.target.Target.{Target}

-- one attached adapter: its number, its targets in the order in which it got them, and its view
pub record Listed : Type 0 where
  pub no : AdapterNo
  pub targets : List Target
  pub view : View

-- whether two numbers of adapters are the same
abbrev pub same_no : AdapterNo → AdapterNo → Bool
same_no x y = nat_eq x.0 y.0

abbrev pub has_no : AdapterNo → Listed → Bool
has_no number r = same_no number r.no

abbrev pub is_at : Node → Target → Bool
is_at x t = same_node t.node x

abbrev pub has_target : Node → Listed → Bool
has_target x r = list_any (is_at x) r.targets

-- no two adapters have the same number
abbrev pub HasDistinctNumbers : List Listed → Type 0
HasDistinctNumbers rs = IsDistinct same_no (map (λ r. r.no) rs)

-- no adapter has a node as a target twice
abbrev pub HasDistinctTargets : List Listed → Type 0
HasDistinctTargets rs = All (λ r. IsDistinct same_node (map (λ t. t.node) r.targets)) rs

-- each adapter has at least one target
abbrev pub HaveTargets : List Listed → Type 0
HaveTargets rs = All (λ r. 0 < length r.targets) rs

-- how many targets all adapters have together
abbrev pub targets_len : List Listed → ℕ
targets_len rs = sum_by (λ r. length r.targets) rs

-- the adapter with a given number, if there is one
abbrev pub adapter : AdapterNo → List Listed → Option Listed
adapter number rs = find (has_no number) rs

-- whether the adapter with a given number has a node as a target
abbrev pub is_target : AdapterNo → Node → List Listed → Bool
is_target number x rs = list_any (λ r. has_no number r && has_target x r) rs

-- the adapters after a change of the first adapter with a given number; unchanged if no adapter has the number
abbrev pub with_changed : AdapterNo → (Listed → Listed) → List Listed → List Listed
with_changed number change [] = []
with_changed number change (r ∷ rs) = if has_no number r then (change r ∷ rs) else r ∷ with_changed number change rs

-- an adapter with one more target, the last in order
abbrev pub with_target : Target → Listed → Listed
with_target t r = record { no = r.no; targets = r.targets ++ t ∷ []; view = r.view }

-- the adapters after the adapter with a given number got one more target
abbrev pub adapters_after_watch : AdapterNo → Target → List Listed → List Listed
adapters_after_watch number t rs = with_changed number (with_target t) rs

----------------------------------------------------------------- notifying

-- the nodes above each node, the nearest first
abbrev pub Above : Type 0
Above = Node → List Node

-- whether a target notifies its adapter of changes at a node: the target is the node, or the target is deep and the node is below the
-- target
abbrev pub brings_in : Above → Node → Target → Bool
brings_in up x t = same_node t.node x || (t.deep && list_any (same_node t.node) (up x))

-- whether an adapter gets a notification: whether at least one of its targets notifies it of changes at the notifier. However many targets
-- do so, the adapter gets the notification once.
abbrev pub hears : Above → Listed → Notice → Bool
hears up r n = list_any (brings_in up n.notifier) r.targets

-- the notifications of a chain that an adapter gets, in order
abbrev pub heard_of : Above → List Notice → Listed → List Notice
heard_of up ns r = filter (λ n. hears up r n) ns

-- the adapters that get a notification
abbrev pub audience : Above → Notice → List Listed → List Listed
audience up n rs = filter (λ r. hears up r n) rs

-- the numbers of the adapters that get a notification
abbrev pub audience_numbers : Above → Notice → List Listed → List AdapterNo
audience_numbers up n rs = map (λ r. r.no) (audience up n rs)

-- an adapter after it got some notifications, one after another
abbrev pub adapter_after_notices : Listed → List Notice → Listed
adapter_after_notices r ns = record { no = r.no; targets = r.targets; view = hear_all r.view ns }

-- the adapters after a chain is delivered: each adapter has got its notifications of the chain (`heard_of`), whatever the other adapters
-- get
abbrev pub tell_chain : Above → List Notice → List Listed → List Listed
tell_chain up ns rs = map (λ r. adapter_after_notices r (heard_of up ns r)) rs

-- the number of each adapter that gets a notification, with the notification
abbrev pub told_of : Above → Notice → List Listed → List (AdapterNo × Notice)
told_of up n rs = map (λ r. (r.no, n)) (audience up n rs)

-- which adapter is notified of what: for each notification of the chain, in order, the numbers of the adapters that get it, in attach order
abbrev pub told_list : Above → List Notice → List Listed → List (AdapterNo × Notice)
told_list up [] rs = []
told_list up (n ∷ ns) rs = told_of up n rs ++ told_list up ns rs

----------------------------------------------------------------- full adapters

-- whether an adapter with t targets is too full for k notifications: k is above 0, and the adapter, whose count is a u64, can't count k
-- more notifications and then a last notification from each target
abbrev pub is_full : ℕ → ℕ → View → Bool
is_full k t v = nat_lt 0 k && nat_le (2 ^ 64) (v.told + (k + t))

-- whether some adapter gets notifications of a chain, and can't count them and then a last notification from each of its targets
abbrev pub is_chain_full : Above → List Notice → List Listed → Bool
is_chain_full up ns rs = list_any (λ r. is_full (length (heard_of up ns r)) (length r.targets) r.view) rs
