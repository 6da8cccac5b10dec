use Rattle.std.proofs.Common.{sym}
use Rattle.borrowed_json.specs.View.{view}
use Rattle.resource_docs.specs.Texts.{base_of}
use Rattle.resource_docs.proofs.CauseLemmas.{no_top}
use Rattle.resource_docs.proofs.reading.read_value.Goals as goal

pub returns-in-Some : goal.returns-in-Some
returns-in-Some c = c.read_top.ensures (view c.args.json.now) c.requires (sym c.in-Some.ensures)

pub returns-in-None : goal.returns-in-None
returns-in-None c = no_top c.args.meta.now (base_of c.args.uri.now) (view c.args.json.now) (sym c.in-None.ensures)
