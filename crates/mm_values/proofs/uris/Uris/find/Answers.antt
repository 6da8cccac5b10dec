use Rattle.std.proofs.Common.{rules}
use Rattle.std.specs.Str.{bytes_eq}
use Rattle.mm_values.proofs.UriLemmas.{position-map}
use Rattle.mm_values.proofs.uris.Uris.find.Goals as goal

pub returns-in_err-index : goal.returns-in_err-index
returns-in_err-index c = rw (← c.self.view_is, position-map (λ u. u.text) (bytes_eq c.args.uri.now) c.self.inside.set.keys, ← c.in_err-index.ensures.index) (search rules)

pub returns : goal.returns
returns c = rw (← c.self.view_is, position-map (λ u. u.text) (bytes_eq c.args.uri.now) c.self.inside.set.keys, ← c.in_ok-index.ensures.index)
