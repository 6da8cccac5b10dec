use Rattle.models.specs.Model.{reading}
use Rattle.proxies.specs.Resolving.{leads_to}
use Rattle.proxies.proofs.PositionLemmas.{NonePass}
use Rattle.proxies.proofs.resolving.first_to.Given as goal

abbrev pub invariant-loop-index : goal.invariant-loop-index
invariant-loop-index g l = NonePass (leads_to (reading l.model) l.node) ((reading l.model).values l.end) l.index
