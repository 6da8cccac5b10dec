-- Labels change no count.
use Rattle.std.proofs.Common.{◌≡◌, ℕ}
use Rattle.indexmap.specs.IndexMap.{spare}
use Rattle.value_lists.specs.Hashes.{count_in}
use Rattle.value_lists.proofs.counted_list.CountedList.label_all.Given as goal

abbrev pub invariant-loop-index : goal.invariant-loop-index
invariant-loop-index l =
    ((h : ℕ) → count_in l.self-inside.hashes h ≡ count_in l.initial.self-inside.hashes h) ×
    (spare l.self-inside.hashes.counts ≡ spare l.initial.self-inside.hashes.counts) ×
    (l.self-inside.list ≡ l.initial.self-inside.list)
