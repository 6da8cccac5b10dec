use Rattle.mm_values.proofs.UriLemmas.{list_any-map, added-map}
use Rattle.mm_values.proofs.uris.Uris.add.Goals as goal

pub returns-clause-uris : goal.returns-clause-uris
returns-clause-uris c = rw (c.in-Ok.ensures.keys, ← c.self.view_is, ← c.new.ensures, list_any-map) (added-map (λ u. u.text) c.self.inside.set.keys c.new.result _)
