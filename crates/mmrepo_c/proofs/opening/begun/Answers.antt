use Rattle.mmrepo_c.proofs.CallLemmas.{accepts}
use Rattle.mmrepo_c.proofs.opening.begun.Goals as goal

pub returns-in-Ok-new-2-clause-ok : goal.returns-in-Ok-new-2-clause-ok
returns-in-Ok-new-2-clause-ok c =
    rw c.in-Ok-new-2.ensures.ok (accepts c.args.document.now c.in_ok-meta.meta c.in-Ok-new.session c.in_ok-meta.ensures c.in-Ok-new.ensures)
