use Rattle.std.proofs.Common.{◌≡◌, ℕ, nat_eq, take}
use Rattle.std.specs.BTreeSet as set
use Rattle.std.specs.List.{list_any}
use Rattle.std.specs.Ordering.{nat_cmp}
use Rattle.mm_types.specs.declared.numbers.ObjectNo.{ObjectNo}
use Rattle.removal.proofs.numbers.Numbers.of.Given as goal

-- the numbers of the objects so far
abbrev pub invariant-loop-object : goal.invariant-loop-object
invariant-loop-object l = (q : ℕ) → set.contains nat_cmp l.numbers q ≡ list_any (λ (o : ObjectNo). nat_eq q o.0) (take l.object-index l.objects)
