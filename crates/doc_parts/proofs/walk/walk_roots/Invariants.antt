use Rattle.std.proofs.Common.{◌++◌, List, flat_map, map, take}
use Rattle.borrowed_json.specs.View.{view}
use Rattle.doc_parts.specs.FoundParts.{Knows, roots_from}
use Rattle.doc_parts.specs.Parts.{Part, parts_from}
use Rattle.doc_parts.proofs.walk.walk_roots.Given as goal

abbrev pub invariant-roots : goal.invariant-roots
invariant-roots l = (ps : List Part) → Knows l.meta l.initial.found ps → Knows l.meta l.found (ps ++ flat_map (parts_from l.meta l.levels) (roots_from (map view (take l.i l.roots))))
