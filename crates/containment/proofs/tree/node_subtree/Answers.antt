use Rattle.std.proofs.Common.{◌≡◌, IfOk, List, subst}
use Rattle.mm_types.specs.declared.numbers.ObjectNo.{ObjectNo}
use Rattle.containment.proofs.TreeLemmas.{roots-wait}
use Rattle.containment.proofs.tree.node_subtree.Goals as goal

pub returns-in_ok-roots-in-Resource : goal.returns-in_ok-roots-in-Resource
returns-in_ok-roots-in-Resource g c =
    let is = roots-wait c.args.model.now c.args.node _ c.reverse.new.self.items c.in_ok-roots-in-Resource.roots.items c.in-Resource.is c.reverse.ensures.items c.in_ok-roots-in-Resource.ensures in
    subst (λ (xs : List ObjectNo). IfOk c.all_below.result (λ r. r.items ≡ xs)) is c.all_below.ensures
