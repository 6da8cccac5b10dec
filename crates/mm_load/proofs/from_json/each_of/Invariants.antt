use Rattle.std.proofs.Common.{◌≡◌, length}
use Rattle.std.specs.Vec.Iter.{into_iter_items, into_iter_len}
use Rattle.serde_json.specs.View.{items_view}
use Rattle.json_fields.specs.Fields.{each}
use Rattle.json_fields.proofs.FieldLemmas.{with_front}
use Rattle.mm_load.proofs.from_json.each_of.Given as goal

abbrev pub invariant-values : goal.invariant-values
invariant-values g l =
    (with_front l.items.items (each g.T.FromJson.reads (items_view (into_iter_items l.value-iterator))) ≡ each g.T.FromJson.reads (items_view (into_iter_items l.initial.value-iterator)))
    × (into_iter_len l.value-iterator ≡ length (into_iter_items l.value-iterator))
