use Rattle.std.proofs.Common.{ap, map}
use Rattle.doc_parts.specs.FoundParts.{part_seen}
use Rattle.doc_parts.proofs.FindLemmas.{finds_none}
use Rattle.doc_parts.proofs.found.FoundParts.new.Goals as goal

pub returns : goal.returns
returns c = λ m. record { parts = ap (map part_seen) c.new.ensures.items; finds = finds_none c.new-2.result c.new-2.ensures }
