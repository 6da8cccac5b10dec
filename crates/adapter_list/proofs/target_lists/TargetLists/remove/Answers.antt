use Rattle.std.proofs.Common.{◌≡◌, ◌≤◌, List, [], true, false, ap, arith, length, remove, refl, ◌∙◌, if◌then◌else◌}
use Rattle.mm_types.proofs.SameLemmas.{same_node-true}
use Rattle.mm_types.specs.Same.{same_node}
use Rattle.mm_types.specs.declared.numbers.Node.{Node}
use Rattle.adapter_list.specs.Targets.{entries_in}
use Rattle.adapter_list.specs.declared.target_lists.Entry.{Entry}
use Rattle.adapter_list.proofs.TableLemmas.{remove-only}
use Rattle.adapter_list.proofs.target_lists.TargetLists.remove.Goals as goal

pub returns-else-many-gt1-clause-removed : goal.returns-else-many-gt1-clause-removed
returns-else-many-gt1-clause-removed c = λ x.
    let old = c.args.self.now in
    let few : length (entries_in old c.args.node) ≤ 1 = let long = ap (λ (es : List Entry). length es) c.at-many.ensures in omega (arith, long, c.if-many-gt1.false) in
    c.drop_list.ensures.dropped x
    ∙ elim (same_node c.args.node x) as (λ b. same_node c.args.node x ≡ b → (if b then [] else entries_in old x) ≡ (if b then remove (entries_in old x) c.args.index else entries_in old x)) [
      | true ↦ λ same. remove-only (entries_in old c.args.node) c.args.index c.requires few ∙ ap (λ (z : Node). remove (entries_in old z) c.args.index) (same_node-true c.args.node x same)
      | false ↦ λ _. refl
    ] refl
