use Rattle.std.proofs.Common.{rules}
use Rattle.web_uris.proofs.JoinFacts.{given-web}
use Rattle.web_uris.proofs.joining.text_of.Goals as goal

pub returns-clause-web : goal.returns-clause-web
returns-clause-web c = given-web c.args.url.now c.map_err.result c.as_str.ensures.valid (search rules)
