use Rattle.std.proofs.Common.{◌≡◌, List, map, take}
use Rattle.std.specs.List.{filter_map}
use Rattle.borrowed_json.specs.View.{view}
use Rattle.mm_types.specs.Resolved.{Metamodel}
use Rattle.doc_parts.specs.FoundParts.{Knows, roots_from}
use Rattle.doc_parts.specs.Parts.{Part}
use Rattle.resource_docs.specs.Read.{root_number}
use Rattle.resource_docs.proofs.roots.read_roots.Given as goal

abbrev pub invariant-roots : goal.invariant-roots
invariant-roots l = (m : Metamodel) (ps : List Part) → Knows m l.found ps → l.numbers ≡ filter_map (λ p. root_number ps p.path) (roots_from (map view (take l.i l.roots)))
