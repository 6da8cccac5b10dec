use Rattle.std.proofs.Common.{◌≡◌, ◌∙◌, ap, length, sym}
use Rattle.std.specs.List.{insert}
use Rattle.std.proofs.lemmas.List.Edits.{insert_end}
use Rattle.mm_values.proofs.attribute_lists.insert_entry.Goals as goal

pub returns-in_ok-push-clause-ok : goal.returns-in_ok-push-clause-ok
returns-in_ok-push-clause-ok c =
    let l = c.args.entries.now.items in
    let end : c.args.at ≡ length l = search in
    c.in_ok-push.ensures.items ∙ sym (ap (λ i. insert l i c.args.entry) end ∙ insert_end l c.args.entry)
