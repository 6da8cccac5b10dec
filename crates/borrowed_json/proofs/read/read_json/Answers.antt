use Rattle.std.proofs.Common.{◌≡◌, [], rules}
use Rattle.json.specs.Lex.{tokens}
use Rattle.json.specs.Json.{value}
use Rattle.serde_json.proofs.Nesting.{depth-read}
use Rattle.borrowed_json.proofs.ReadingLemmas.{whole_read}
use Rattle.borrowed_json.proofs.read.read_json.Goals as goal

pub returns-clause-nests : goal.returns-clause-nests
returns-clause-nests c =
    let none : c.read.new.reader ≡ [] = search rules in
    depth-read c.args.text.now _ (whole_read (value 127 (tokens c.args.text.now)) _ (rw (c.in_ok-reader.ensures.ok, none) at c.in_ok-value.ensures.value))
