use Rattle.std.proofs.Common.{◌≡◌, drop}
use Rattle.std.specs.Prelude.{flat_map}
use Rattle.std.specs.List.{enumerate_from}
use Rattle.std.specs.Option.{option_or}
use Rattle.doc_loader.specs.ListIndexes.{last_index, index_at, key_and_index}
use Rattle.models.specs.declared.reference_key.ReferenceKey.{ReferenceKey}
use Rattle.doc_loader.proofs.indexes.ListIndexes.add_values.Given as goal

-- what is noted, and then what is left to note
abbrev pub invariant-values : goal.invariant-values
invariant-values l =
    let made = key_and_index l.object l.feature in
    (k : ReferenceKey) → option_or (last_index (flat_map made (enumerate_from l.i (drop l.i l.values))) k) (index_at l.self k) ≡ option_or (last_index (flat_map made (enumerate_from 0 l.values)) k) (index_at l.initial.self k)
