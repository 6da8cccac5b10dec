use Rattle.slot_store.proofs.ApplyLemmas.{kinds_applied}
use Rattle.slot_store.proofs.slot_store.SlotStoreLinkStore.apply.Goals as goal

pub returns-clause-kinds : goal.returns-clause-kinds
returns-clause-kinds c = kinds_applied c.args.self.now.rows c.apply_rows.new.rows c.args.plan c.apply_rows.ensures.links
