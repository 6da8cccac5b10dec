-- The positions that a scan of rows finds.
use Rattle.std.proofs.Common.{◌≡◌, List, map}
use Rattle.link_store.proofs.IncomingLemmas.{rows_incoming}
use Rattle.links.proofs.EntriesLemmas.{incoming-same, entries_all}
use Rattle.link_store.proofs.ReadLemmas.{rows_position}
use Rattle.link_store.proofs.RowLemmas.{of_rows}
use Rattle.links.specs.LegalSets.{IsPlaced}
use Rattle.links.specs.Plans.{AreInOrder, AreEntriesOf, has_end, incoming_end}
use Rattle.link_store.specs.Rows.{ends_with, places_in, position_in}
use Rattle.links.specs.declared.link.Link.{Link}
use Rattle.mm_types.specs.declared.end.End.{End}
use Rattle.mm_types.specs.declared.numbers.Node.TheVariants as node
use Rattle.mm_types.specs.declared.numbers.ObjectNo.{ObjectNo}
use Rattle.mm_types.specs.declared.value.Value.TheVariants as value

pub rows_places_all : (rows : List Link) → IsPlaced (of_rows rows) → (o : ObjectNo) → (es : List End) → AreInOrder es → ((e : End) → has_end es e ≡ has_end (ends_with rows (node.Object o)) e) → (let is = places_in rows es (value.Object o) in AreEntriesOf (of_rows rows) o is × AreInOrder (map incoming_end is))
rows_places_all rows placed o es order same =
    let v = value.Object o in
    entries_all (of_rows rows) placed.distinct o (λ e. position_in rows e v) (λ e. rows_position rows placed e v) es (incoming-same (of_rows rows) o (ends_with rows (node.Object o)) es same (rows_incoming rows placed o)) order
