use Rattle.std.proofs.Common.{◌∙◌, List, length, sym, ap}
use Rattle.mm_types.specs.declared.value.Value.{Value}
use Rattle.slot_store.proofs.StoreLemmas.{ends_kept}
use Rattle.slot_store.proofs.slot_store.SlotStoreLinkStore.len.Goals as goal

pub returns : goal.returns
returns c = c.len.ensures ∙ ap (λ (xs : List Value). length xs) (sym (ends_kept c.args.self.now.rows c.args.self.now.kept c.args.end))
