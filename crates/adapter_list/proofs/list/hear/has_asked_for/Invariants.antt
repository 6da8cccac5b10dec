use Rattle.std.proofs.Common.{◌≡◌, ◌||◌, not, drop}
use Rattle.std.specs.List.{list_any}
use Rattle.adapter_list.specs.declared.target_lists.Entry.{Entry}
use Rattle.adapter_list.proofs.list.hear.has_asked_for.Given as goal

abbrev pub invariant-loop-entry : goal.invariant-loop-entry
invariant-loop-entry l = list_any (λ (e : Entry). not l.only_deep || e.deep) (drop l.entry-index l.entries) ≡ list_any (λ (e : Entry). not l.only_deep || e.deep) l.entries
