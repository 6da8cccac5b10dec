use Rattle.std.proofs.Common.{◌∙◌, sym, ap, List}
use Rattle.std.specs.Prelude.{find}
use Rattle.std.specs.Option.{option_map}
use Rattle.links.specs.declared.link.Link.{Link}
use Rattle.links.specs.Indexed.{has_value}
use Rattle.link_store.specs.Rows.{positions}
use Rattle.link_store.proofs.RowLemmas.{spot_cut_far, spot_cut_near, spot_cut_none}
use Rattle.link_store.proofs.row_edits.cut_row.Goals as goal

pub returns-in-Some-far-clause-cut : goal.returns-in-Some-far-clause-cut
returns-in-Some-far-clause-cut c =
    let found = ap (λ (ls : List Link). option_map positions (find (has_value c.args.end c.args.value.now) ls)) (sym c.deref.ensures.value) ∙ sym c.positions_of.ensures ∙ c.in-Some.is in
    spot_cut_far c.args.rows.now.items _ _ c.args.end c.args.value.now c.in-Some.positions c.requires.placed found c.take_out.ensures.rows c.renumber.ensures.rows _ c.in-Some-far.d c.in-Some-far.j c.in-Some-far.is c.renumber-in-Some-far.ensures.rows

pub returns-in_default-far-clause-cut : goal.returns-in_default-far-clause-cut
returns-in_default-far-clause-cut c =
    let found = ap (λ (ls : List Link). option_map positions (find (has_value c.args.end c.args.value.now) ls)) (sym c.deref.ensures.value) ∙ sym c.positions_of.ensures ∙ c.in-Some.is in
    spot_cut_near c.args.rows.now.items _ _ c.args.end c.args.value.now c.in-Some.positions c.requires.placed found c.take_out.ensures.rows c.renumber.ensures.rows c.in_default-far.is

pub returns-in_default-clause-cut : goal.returns-in_default-clause-cut
returns-in_default-clause-cut c =
    spot_cut_none c.args.rows.now.items c.args.end c.args.value.now c.requires.placed (ap (λ (ls : List Link). option_map positions (find (has_value c.args.end c.args.value.now) ls)) (sym c.deref.ensures.value) ∙ sym c.positions_of.ensures ∙ c.in_default.is)
