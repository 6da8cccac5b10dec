use Rattle.adapters.specs.contracts.counter.CounterAdapter.TheImpl.{ghosts}
use Rattle.mmrepo_c.proofs.CallLemmas.{begins}
use Rattle.mmrepo_c.proofs.session.Session.new.Goals as goal

pub returns : goal.returns
returns c =
    begins ghosts.heard c.args.meta c.args.boxes.items (record { interpreter = c.in_ok-new.field-0 }) c.in_ok-new.ensures.begin c.requires c.in_ok-new.ensures.text
