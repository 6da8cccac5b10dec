use Rattle.std.proofs.Common.{◌∙◌, List, ap}
use Rattle.std.specs.Prelude.{option_and_then}
use Rattle.std.specs.List.{slice_get}
use Rattle.mm_types.specs.declared.value.Value.{Value}
use Rattle.links.specs.Links.{text_of}
use Rattle.slot_store.proofs.StoreLemmas.{ends_kept}
use Rattle.slot_store.proofs.slot_store.SlotStoreLinkStore.proxy_start.Goals as goal

pub returns : goal.returns
returns c = λ k lt.
    ap (λ (xs : List Value). option_and_then text_of (slice_get xs k)) (ends_kept c.args.self.now.rows c.args.self.now.kept c.args.end)
    ∙ c.proxy_start.ensures k lt
