use Rattle.std.proofs.Common.{ap, sym, ◌∙◌, unwrap_or}
use Rattle.std.specs.Option.{option_map}
use Rattle.std.specs.List.{insert, remove}
use Rattle.std.proofs.lemmas.Option.{slice_get_read}
use Rattle.slot_lists.proofs.slot_list.move_in_block.Goals as goal

pub returns-clause-items : goal.returns-clause-items
returns-clause-items g c =
    let xs = c.args.values.now.items in
    let read = slice_get_read xs _ c.args.from c.remove-value.result c.args.values.now.ok.0 c.requires.from c.remove-value.ensures.value in
    c.in-Ok.ensures.items
    ∙ ap (λ q. insert q c.args.to c.remove-value.result) c.remove-value.ensures.items
    ∙ ap (λ o. unwrap_or (option_map (insert (remove xs c.args.from) c.args.to) o) xs) (sym read)
