use Rattle.std.proofs.Common.{◌≡◌, IfOk, List, subst}
use Rattle.mm_types.specs.declared.numbers.ObjectNo.{ObjectNo}
use Rattle.containment.proofs.TreeLemmas.{one-waits}
use Rattle.containment.proofs.tree.subtree.Goals as goal

pub returns : goal.returns
returns g c =
    let is = one-waits c.args.model.now c.in_ok-waiting.waiting.items c.args.object c.in_ok-waiting.ensures.items in
    subst (λ (xs : List ObjectNo). IfOk c.all_below.result (λ r. r.items ≡ xs)) is c.all_below.ensures
