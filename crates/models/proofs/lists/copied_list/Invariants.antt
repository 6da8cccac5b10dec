use Rattle.std.proofs.Common.{◌≡◌, ◌≤◌, ◌++◌, drop, length, vec_len, vec_capacity}
use Rattle.models.specs.Model.{reading}
use Rattle.models.proofs.lists.copied_list.Given as goal

abbrev pub invariant-loop-index : goal.invariant-loop-index
invariant-loop-index g l =
    let vs = (reading l.model).values l.end in
    (l.values.items ++ drop l.index vs ≡ vs) × (vec_len l.values ≡ l.index) × (length vs ≤ vec_capacity l.values)
