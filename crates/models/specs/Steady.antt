-- Models whose URIs are normalised. A result of joining is normalised if the crate `url` reads the result as a URL and writes this URL as
-- the same text.
use Rattle.std.specs.List.{All}
use Rattle.web_uris.specs.Addresses.{IsSteadyProxy}
use Rattle.web_uris.specs.Joined.{IsWebUri}
use Rattle.models.specs.Legal.{OfProxies}
use Rattle.models.specs.Model.{Model}

-- the URIs of resources and of proxies are normalised
pub record HasSteadyTexts (s : Model) : Type 0 where
  pub uris : All IsWebUri s.values.uris
  pub proxies : OfProxies IsSteadyProxy s.links
