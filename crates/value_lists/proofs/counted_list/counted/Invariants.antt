-- The values up to here are counted, and there is capacity for the others.
use Rattle.std.proofs.Common.{◌≡◌, ℕ, ◌+◌, ◌≤◌, length, take}
use Rattle.std.specs.List.{count_by}
use Rattle.indexmap.specs.IndexMap.{spare}
use Rattle.value_lists.specs.Hashes.{count_in, has_hash}
use Rattle.value_lists.proofs.counted_list.counted.Given as goal

abbrev pub invariant-loop-index : goal.invariant-loop-index
invariant-loop-index l =
    ((h : ℕ) → count_in l.hashes h ≡ count_by (has_hash h) (take l.index l.list.items)) ×
    (length l.list.items + l.list.spare ≤ spare l.hashes.counts + l.index)
