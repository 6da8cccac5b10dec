-- How the ends of other nodes are found: among all ends at which a destroyed object is a value, they are the ends whose nodes are not
-- destroyed. A destroyed object is recognised by its number.
use Rattle.std.specs.Prelude.{ℕ, ◌≡◌, Bool, false, not, List, filter}
use Rattle.std.specs.BTreeSet as set
use Rattle.std.specs.Ordering.{nat_cmp}
use Rattle.mm_types.specs.Ends.{has_value}
use Rattle.mm_types.specs.declared.end.End.{End}
use Rattle.mm_types.specs.declared.numbers.Node.{Node}
use Rattle.mm_types.specs.declared.numbers.Node.TheVariants as node
use Rattle.mm_types.specs.declared.numbers.ObjectNo.{ObjectNo}
use Rattle.mm_types.specs.declared.value.Value.TheVariants as value
use Rattle.links.specs.Links.{Links, end}
use Rattle.models.specs.Reading.{Reading}
use Rattle.removal.specs.Outer.{is_in_subtree}
use Rattle.removal.specs.declared.numbers.Numbers.{Numbers}

-- whether a node is an object whose number is in a set
abbrev pub is_in : Numbers → Node → Bool
is_in s (node.Object o) = set.contains nat_cmp s.0 o.0
is_in s (node.Resource k) = false

-- the set has the numbers of exactly the objects that are destroyed with an object
abbrev pub HasGone : Reading → ObjectNo → Numbers → Type 0
HasGone r o s = (n : Node) → is_in s n ≡ is_in_subtree r o n

-- whether an end has an object as a value
abbrev pub holds : Links → End → ObjectNo → Bool
holds s e x = has_value (end s e) (value.Object x)

-- the ends whose nodes are not objects with a number in a set
abbrev pub staying_ends : Numbers → List End → List End
staying_ends s es = filter (λ e. not (is_in s e.node)) es
