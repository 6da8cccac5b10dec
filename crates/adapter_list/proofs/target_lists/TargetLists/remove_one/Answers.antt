use Rattle.std.proofs.Common.{List, Some, ◌<◌, arith, ap, length, remove, subst, sym, ◌∙◌}
use Rattle.adapter_list.specs.Targets.{entries_in}
use Rattle.adapter_list.specs.declared.target_lists.Entry.{Entry}
use Rattle.adapter_list.proofs.TableLemmas.{found, is-there, none_empty-written, remove-some, written}
use Rattle.adapter_list.proofs.target_lists.TargetLists.remove_one.Goals as goal

pub remove-requires : goal.remove-requires
remove-requires c = let is = found c.args.self.now c.args.node c.key.result c.in-Some.list.now c.key.ensures c.in-Some.ensures.value in let long = ap (λ es. length es) is in omega (arith, c.requires.within, long)

pub returns-in-Some-clause-removed : goal.returns-in-Some-clause-removed
returns-in-Some-clause-removed c =
    let is = found c.args.self.now c.args.node c.key.result c.in-Some.list.now c.key.ensures c.in-Some.ensures.value in
    let updates = ((c.get_mut.follows.holds c.remove.new.self).3 (is-there _ _ c.in-Some.ensures.value)).0 in
    written c.args.self.now (record { alloc = c.args.self.now.alloc; lists = c.get_mut.follows.lender c.remove.new.self }) c.args.node c.key.result c.key.ensures (Some c.remove.new.self) updates (λ es. remove es c.args.index) (c.remove.ensures.items ∙ ap (λ es. remove es c.args.index) (sym is))

pub returns-in-Some-clause-none_empty : goal.returns-in-Some-clause-none_empty
returns-in-Some-clause-none_empty c =
    let is = found c.args.self.now c.args.node c.key.result c.in-Some.list.now c.key.ensures c.in-Some.ensures.value in
    let updates = ((c.get_mut.follows.holds c.remove.new.self).3 (is-there _ _ c.in-Some.ensures.value)).0 in
    let left : 0 < length c.remove.new.self.items = subst (λ (es : List Entry). 0 < length es) (ap (λ es. remove es c.args.index) is ∙ sym c.remove.ensures.items) (remove-some (entries_in c.args.self.now c.args.node) c.args.index c.requires.within c.requires.more) in
    none_empty-written c.args.self.now (record { alloc = c.args.self.now.alloc; lists = c.get_mut.follows.lender c.remove.new.self }) c.args.node c.key.result c.key.ensures (Some c.remove.new.self) updates left
