use Rattle.std.proofs.Common.{◌≡◌, ◌≤◌, ◌+◌, ◌++◌, length, map, vec_len, vec_capacity}
use Rattle.std.specs.Vec.Iter.{into_iter_items}
use Rattle.repository.specs.Run.{AllExecuted}
use Rattle.repository.specs.Views.{command_view, outcome_view}
use Rattle.repository.proofs.repository.Repository.run_all.Given as goal

abbrev pub invariant-commands : goal.invariant-commands
invariant-commands g l =
    (goal.iterator-commands g).can_next l.command-iterator ×
    (goal.iterator-commands g).is_finite l.command-iterator ×
    (vec_len l.outcomes + length (into_iter_items l.command-iterator) ≤ vec_capacity l.outcomes) ×
    (length l.outcomes.items ≡ length l.yielded) ×
    (l.yielded ++ into_iter_items l.command-iterator ≡ l.fn.commands.items) ×
    AllExecuted l.initial.self (map (command_view g.A.Adapter.heard) l.yielded) (map (outcome_view g.A.Adapter.heard) l.outcomes.items) l.self
