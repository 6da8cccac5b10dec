use Rattle.std.proofs.Common.{ℕ, ◌∙◌, sym, ap, arith, Option}
use Rattle.mm_types.specs.declared.numbers.FeatureNo.{FeatureNo}
use Rattle.links.specs.Links.{end, far_end, joined_link, new_link}
use Rattle.links.proofs.EndLemmas.{from_list_HasLinks, length_at_end}
use Rattle.link_store.proofs.RowLemmas.{of_rows}
use Rattle.link_store.proofs.row_edits.new_row.Goals as goal

pub overflow_cast-len_of : goal.overflow_cast-len_of
overflow_cast-len_of c =
    let rows = c.args.rows.now in
    let far = far_end c.args.link.object c.in-Some.feature in
    let same = length_at_end rows (of_rows rows) far (end (of_rows rows) far) (from_list_HasLinks rows) (c.requires.placed.ends far) in
    omega (arith, c.len_of.ensures, same, c.requires.placed.few far)

pub returns-in-Some : goal.returns-in-Some
returns-in-Some c =
    let rows = c.args.rows.now in
    let far = far_end c.args.link.object c.in-Some.feature in
    let same = length_at_end rows (of_rows rows) far (end (of_rows rows) far) (from_list_HasLinks rows) (c.requires.placed.ends far) in
    c.join.ensures
    ∙ ap (λ (j : ℕ). joined_link c.args.link.end c.args.link.index far j c.args.link.container) (c.len_of.ensures ∙ same)
    ∙ ap (λ (g : Option FeatureNo). new_link (of_rows rows) c.args.link.end c.args.link.index c.args.link.object g c.args.link.container) (sym c.in-Some.is)
