use Rattle.web_uris.proofs.JoinFacts.{web-serialize}
use Rattle.web_uris.proofs.laws.urls_of_the_web_are_web_uris.Goals as goal

pub returns : goal.returns
returns c = web-serialize
