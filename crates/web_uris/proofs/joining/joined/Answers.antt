use Rattle.std.proofs.Common.{◌∙◌, ap, sym}
use Rattle.std.specs.Prelude.{option_and_then}
use Rattle.web_uris.specs.Joined.{joined_uri, web_text}
use Rattle.web_uris.proofs.joining.joined.Goals as goal

pub returns-in-Some-clause-joins : goal.returns-in-Some-clause-joins
unfolding joined_uri
returns-in-Some-clause-joins c =
    let e = sym c.in-Some.is ∙ c.in_ok-url.ensures in
    rw (← e) c.text_of.ensures.text

pub returns-in-None-clause-joins : goal.returns-in-None-clause-joins
unfolding joined_uri
returns-in-None-clause-joins c = ap (option_and_then web_text) (sym (c.in_ok-url.ensures) ∙ c.in-None.is)
