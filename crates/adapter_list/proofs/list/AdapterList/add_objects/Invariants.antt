use Rattle.std.proofs.Common.{◌≡◌, ◌||◌, false, ℕ, drop}
use Rattle.std.specs.BTreeSet.{contains}
use Rattle.std.specs.List.{list_any}
use Rattle.std.specs.Ordering.{nat_cmp}
use Rattle.mm_types.specs.declared.numbers.Node.TheVariants as node
use Rattle.adapter_list.specs.Targets.{is_attached_at}
use Rattle.adapter_list.proofs.list.AdapterList.add_objects.Given as goal

abbrev pub invariant-loop-object : goal.invariant-loop-object
invariant-loop-object g l = (k : ℕ) → (contains nat_cmp l.ordinals k || list_any (λ o. is_attached_at l.self.0 (node.Object o) false k) (drop l.object-index l.objects)) ≡ (contains nat_cmp l.fn.ordinals k || list_any (λ o. is_attached_at l.self.0 (node.Object o) false k) l.objects)
