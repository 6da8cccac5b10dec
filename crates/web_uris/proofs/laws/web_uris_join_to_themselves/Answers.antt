use Rattle.web_uris.proofs.JoinFacts.{joined_uri-web}
use Rattle.web_uris.proofs.laws.web_uris_join_to_themselves.Goals as goal

pub returns : goal.returns
returns c = joined_uri-web
