use Rattle.web_uris.proofs.OnlyLemmas.{Writes-parse}
use Rattle.web_uris.proofs.PathFacts.{parse-Writes}
use Rattle.web_uris.proofs.laws.fragments_are_read_as_written.Goals as goal

pub returns-clause-finds : goal.returns-clause-finds
returns-clause-finds c = parse-Writes

pub returns-clause-only : goal.returns-clause-only
returns-clause-only c = Writes-parse
