use Rattle.std.proofs.Common.{◌≡◌, drop}
use Rattle.std.specs.Prelude.{flat_map}
use Rattle.std.specs.Option.{option_or}
use Rattle.doc_loader.specs.ListIndexes.{content_indexes, last_index, index_at}
use Rattle.models.specs.declared.reference_key.ReferenceKey.{ReferenceKey}
use Rattle.doc_loader.proofs.indexes.ListIndexes.add_object.Given as goal

-- what is noted, and then what is left to note
abbrev pub invariant-contents : goal.invariant-contents
invariant-contents l =
    let made = content_indexes l.meta l.object in
    (k : ReferenceKey) → option_or (last_index (flat_map made (drop l.content-index l.contents)) k) (index_at l.self k) ≡ option_or (last_index (flat_map made l.contents) k) (index_at l.initial.self k)
