use Rattle.std.proofs.Common.{◌≡◌, sym, ◌∙◌}
use Rattle.std.specs.Prelude.{None}
use Rattle.links.specs.Links.{object_at}
use Rattle.models.proofs.PlaceLemmas.{value_in-proxy}
use Rattle.models.proofs.model_ref.ModelRef.target_in.Goals as goal

pub returns-in-None : goal.returns-in-None
returns-in-None g c =
    let none : object_at c.args.self.now.links c.args.end c.args.index ≡ None = rw (← c.store.ensures.links) (sym c.in-None.ensures) in
    c.found_proxy.ensures ∙ rw (c.proxy_at.ensures, c.store-in-None.ensures.links) (value_in-proxy c.args.self.now c.args.end c.args.index c.lemma_is_legal.ensures c.requires.reference none)
