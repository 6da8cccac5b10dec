use Rattle.slot_store.proofs.ApplyLemmas.{kinds_same}
use Rattle.slot_store.proofs.StoreLemmas.{grown_kept, grown_links}
use Rattle.slot_store.proofs.slot_store.SlotStoreLinkStore.reserve_for.Goals as goal

pub invariant_of-self : goal.invariant_of-self
invariant_of-self c = record { kept = grown_kept c.args.self.now.rows c.reserve_for.new.self c.reserve_for.ensures.cells c.args.self.now.kept }

pub returns-clause-links : goal.returns-clause-links
returns-clause-links c = grown_links c.args.self.now.rows c.reserve_for.new.self c.reserve_for.ensures.cells

pub returns-clause-kinds : goal.returns-clause-kinds
returns-clause-kinds c = λ m of. kinds_same c.args.self.now.rows c.reserve_for.new.self (grown_links c.args.self.now.rows c.reserve_for.new.self c.reserve_for.ensures.cells) m of
