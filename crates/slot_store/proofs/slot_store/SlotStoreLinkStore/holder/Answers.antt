use Rattle.std.proofs.Common.{◌∙◌}
use Rattle.mm_types.specs.declared.numbers.Node.TheVariants as node
use Rattle.slot_store.proofs.StoreLemmas.{holder_kept}
use Rattle.slot_store.proofs.slot_store.SlotStoreLinkStore.holder.Goals as goal

pub returns : goal.returns
returns c = c.holder.ensures ∙ holder_kept c.args.self.now.rows c.args.self.now.kept (node.Object c.args.object)
