use Rattle.std.proofs.Common.{◌∙◌}
use Rattle.repository.specs.Repository.{state}
use Rattle.repository.proofs.LegalAdapterLemmas.{all-adapters_at_close}
use Rattle.repository.proofs.repository.Repository.close.Goals as goal

pub returns : goal.returns
returns g c = rw (← c.self.view_is) (c.close.ensures ∙ all-adapters_at_close (state g.L.LinkStore.links c.self.inside) c.self.invariant.legal)
