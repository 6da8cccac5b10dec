use Rattle.std.proofs.Common.{◌≡◌, ◌<◌, ◌++◌, ◌∷◌, [], Some, List, cond, arith, ap, length, insert, subst, sym, ◌∙◌}
use Rattle.indexmap.specs.IndexMap.{get}
use Rattle.adapter_list.specs.Targets.{entries_in, same_key}
use Rattle.adapter_list.specs.declared.target_lists.Entry.{Entry}
use Rattle.adapter_list.specs.declared.target_lists.NodeKey.{NodeKey}
use Rattle.adapter_list.proofs.TableLemmas.{found, found-none, insert-none, insert-some, is-there, none_empty-written, on_err-all, some-found, written, written-same}
use Rattle.adapter_list.proofs.target_lists.TargetLists.insert.Goals as goal

pub insert-requires : goal.insert-requires
insert-requires c = let is = found c.args.self.now c.args.node c.key.result c.in-Some.list.now c.key.ensures c.in-Some.ensures.value in let long = ap (λ es. length es) is in omega (arith, c.requires, long)

pub returns-in-Some-clause-ok : goal.returns-in-Some-clause-ok
returns-in-Some-clause-ok c =
    let is = found c.args.self.now c.args.node c.key.result c.in-Some.list.now c.key.ensures c.in-Some.ensures.value in
    let updates = ((c.get_mut.follows.holds c.insert.new.self).3 (is-there _ _ c.in-Some.ensures.value)).0 in
    written c.args.self.now (record { alloc = c.args.self.now.alloc; lists = c.get_mut.follows.lender c.insert.new.self }) c.args.node c.key.result c.key.ensures (Some c.insert.new.self) updates (λ es. insert es c.args.index c.args.entry) (c.in_ok-insert.ensures.items ∙ ap (λ es. insert es c.args.index c.args.entry) (sym is))

pub returns-in_err-insert-clause-err : goal.returns-in_err-insert-clause-err
returns-in_err-insert-clause-err c =
    let is = found c.args.self.now c.args.node c.key.result c.in-Some.list.now c.key.ensures c.in-Some.ensures.value in
    let updates = ((c.get_mut.follows.holds c.insert.new.self).3 (is-there _ _ c.in-Some.ensures.value)).0 in
    on_err-all c.from_residual.result (written-same c.args.self.now (record { alloc = c.args.self.now.alloc; lists = c.get_mut.follows.lender c.insert.new.self }) c.args.node c.key.result c.key.ensures c.insert.new.self updates (c.in_err-insert.ensures.items ∙ sym is))

pub returns-clause-ok : goal.returns-clause-ok
returns-clause-ok c =
    let old = c.args.self.now in
    let w = c.push_reserved.new.self in
    let none = found-none old c.args.node c.key.result c.key.ensures c.in_default.ensures.value in
    let made : w.items ≡ c.args.entry ∷ [] = c.push_reserved.ensures.items ∙ ap (λ (es : List Entry). es ++ c.args.entry ∷ []) c.in_ok-list.ensures.items in
    let updates = subst (λ m. (q : NodeKey) → get same_key c.insert-2.new.self q ≡ cond (same_key c.key-2.result q) (Some w) (get same_key m q)) c.get_mut.follows.holds-at-none c.in_ok-insert-2.ensures.updates.0 in
    written old (record { alloc = old.alloc; lists = c.insert-2.new.self }) c.args.node c.key-2.result c.key-2.ensures (Some w) updates (λ es. insert es c.args.index c.args.entry) (made ∙ insert-none (entries_in old c.args.node) c.args.index c.args.entry none c.requires)

pub returns-in-Some-clause-none_empty : goal.returns-in-Some-clause-none_empty
returns-in-Some-clause-none_empty c =
    let updates = ((c.get_mut.follows.holds c.insert.new.self).3 (is-there _ _ c.in-Some.ensures.value)).0 in
    none_empty-written c.args.self.now (record { alloc = c.args.self.now.alloc; lists = c.get_mut.follows.lender c.insert.new.self }) c.args.node c.key.result c.key.ensures (Some c.insert.new.self) updates (subst (λ (es : List Entry). 0 < length es) (sym c.in_ok-insert.ensures.items) (insert-some c.in-Some.list.now.items c.args.index c.args.entry))

pub returns-in_err-insert-clause-none_empty : goal.returns-in_err-insert-clause-none_empty
returns-in_err-insert-clause-none_empty c =
    λ all.
    let updates = ((c.get_mut.follows.holds c.insert.new.self).3 (is-there _ _ c.in-Some.ensures.value)).0 in
    let some = subst (λ (es : List Entry). 0 < length es) (sym c.in_err-insert.ensures.items) (some-found c.args.self.now c.key.result c.in-Some.list.now c.in-Some.ensures.value all) in
    none_empty-written c.args.self.now (record { alloc = c.args.self.now.alloc; lists = c.get_mut.follows.lender c.insert.new.self }) c.args.node c.key.result c.key.ensures (Some c.insert.new.self) updates some all

pub returns-clause-none_empty : goal.returns-clause-none_empty
returns-clause-none_empty c =
    let w = c.push_reserved.new.self in
    let made : w.items ≡ c.args.entry ∷ [] = c.push_reserved.ensures.items ∙ ap (λ (es : List Entry). es ++ c.args.entry ∷ []) c.in_ok-list.ensures.items in
    let updates = subst (λ m. (q : NodeKey) → get same_key c.insert-2.new.self q ≡ cond (same_key c.key-2.result q) (Some w) (get same_key m q)) c.get_mut.follows.holds-at-none c.in_ok-insert-2.ensures.updates.0 in
    none_empty-written c.args.self.now (record { alloc = c.args.self.now.alloc; lists = c.insert-2.new.self }) c.args.node c.key-2.result c.key-2.ensures (Some w) updates (subst (λ (es : List Entry). 0 < length es) (sym made) (omega arith))
