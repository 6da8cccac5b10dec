-- What the ends of other nodes lose when an object and all objects below it are destroyed.
use Rattle.std.specs.Prelude.{ℕ, suc, ◌&&◌, Bool, false, not, List, [], ◌∷◌, ◌++◌, filter, flat_map, if◌then◌else◌}
use Rattle.std.specs.Option.{option_map_or}
use Rattle.mm_types.specs.Ends.{index_in}
use Rattle.mm_types.specs.Same.{same_end, same_value}
use Rattle.mm_types.specs.declared.end.End.{End}
use Rattle.mm_types.specs.declared.numbers.Node.TheVariants as node
use Rattle.mm_types.specs.declared.numbers.ObjectNo.{ObjectNo}
use Rattle.mm_types.specs.declared.value.Value.{Value}
use Rattle.mm_types.specs.declared.value.Value.TheVariants as value
use Rattle.links.specs.Laws.{goes}
use Rattle.models.specs.Reading.{Reading}
use Rattle.removal.specs.Outer.{is_in_subtree, touched_ends}
use Rattle.removal.specs.declared.loss.Loss.{Loss}

-- whether e is the end that contains the object o
abbrev pub is_held_by : Reading → ObjectNo → End → Bool
is_held_by r o e = option_map_or (same_end e) (r.holder (node.Object o)) false

-- when the object o is deleted: whether the end e loses the value v before the last step. The last step takes o itself out of the end that
-- contains it
abbrev pub is_lost : Reading → ObjectNo → End → Value → Bool
is_lost r o e v = goes (is_in_subtree r o) v && not (is_held_by r o e && same_value v (value.Object o))

abbrev pub loss : End → Value → ℕ → Loss
loss e v k = record { end = e; value = v; position = k }

-- the losses of the end e, for its values from some index on. `lost` says which values e loses; k is how many values before that index
-- stay. Each lost value is taken out before the next loss, so the position of a loss is the number of earlier values that stay
abbrev pub losses_from : (Value → Bool) → End → List Value → ℕ → List Loss
losses_from lost e [] k = []
losses_from lost e (v ∷ vs) k = if lost v then loss e v k ∷ losses_from lost e vs k else losses_from lost e vs (suc k)

abbrev pub losses_at : Reading → ObjectNo → End → List Loss
losses_at r o e = losses_from (is_lost r o e) e (r.values e) 0

-- the values that the end e keeps until the object o itself is taken out
abbrev pub values_kept : Reading → ObjectNo → End → List Value
values_kept r o e = filter (λ v. not (is_lost r o e v)) (r.values e)

-- the loss of the object o itself, at the end that contains it; none if no end contains it
abbrev pub last_loss : Reading → ObjectNo → List Loss
last_loss r o = option_map_or (λ e. loss e (value.Object o) (index_in (values_kept r o e) (value.Object o)) ∷ []) (r.holder (node.Object o)) []

-- the losses in order: by feature number, then by the number of the end's node, then by position; the loss of o itself comes last
abbrev pub losses : Reading → ObjectNo → List Loss
losses r o = flat_map (losses_at r o) (touched_ends r o) ++ last_loss r o
