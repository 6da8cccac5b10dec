use Rattle.std.proofs.Common.{None, [], refl}
use Rattle.adapter_list.proofs.TableLemmas.{none_empty-written, written}
use Rattle.adapter_list.proofs.target_lists.TargetLists.drop_list.Goals as goal

pub returns-clause-dropped : goal.returns-clause-dropped
returns-clause-dropped c = written c.args.self.now (record { alloc = c.args.self.now.alloc; lists = c.swap_remove.new.self }) c.args.node c.key.result c.key.ensures None c.swap_remove.ensures.updates.0 (λ _. []) refl

pub returns-clause-none_empty : goal.returns-clause-none_empty
returns-clause-none_empty c = none_empty-written c.args.self.now (record { alloc = c.args.self.now.alloc; lists = c.swap_remove.new.self }) c.args.node c.key.result c.key.ensures None c.swap_remove.ensures.updates.0 tt
