use Rattle.std.proofs.Common.{◌≡◌, drop}
use Rattle.std.specs.Prelude.{flat_map}
use Rattle.std.specs.List.{enumerate_from}
use Rattle.std.specs.Option.{option_or}
use Rattle.doc_loader.specs.Loading.{of_object}
use Rattle.doc_loader.specs.ListIndexes.{content_indexes, last_index, index_at}
use Rattle.models.specs.declared.reference_key.ReferenceKey.{ReferenceKey}
use Rattle.doc_loader.proofs.indexes.ListIndexes.of.Given as goal

-- what is noted, and then what is left to note
abbrev pub invariant-objects : goal.invariant-objects
invariant-objects l =
    let made = of_object (content_indexes l.meta) in
    (k : ReferenceKey) → option_or (last_index (flat_map made (enumerate_from l.i (drop l.i l.objects))) k) (index_at l.indexes k) ≡ last_index (flat_map made (enumerate_from 0 l.objects)) k
