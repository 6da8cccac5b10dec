use Rattle.std.proofs.Common.{refl}
use Rattle.web_uris.specs.Joined.{is_mark}
use Rattle.web_uris.proofs.CutLemmas.{after_around, before_around}
use Rattle.web_uris.proofs.laws.addresses_are_their_parts.Goals as goal

pub returns-clause-uri : goal.returns-clause-uri
returns-clause-uri c = λ uri fragment none. before_around is_mark uri 35 fragment none refl

pub returns-clause-fragment : goal.returns-clause-fragment
returns-clause-fragment c = λ uri fragment none. after_around is_mark uri 35 fragment none refl
