use Rattle.std.proofs.Common.{◌∙◌, sym, ap}
use Rattle.std.specs.List.{position}
use Rattle.mm_types.specs.Same.{same_value}
use Rattle.mm_types.specs.declared.value.Value.{Value}
use Rattle.links.specs.Links.{far_end}
use Rattle.node_slots.specs.Cells.{cells}
use Rattle.slot_store.proofs.PositionLemmas.{none_of}
use Rattle.slot_store.proofs.StoreLemmas.{alone_absent, far_absent, kept_once}
use Rattle.slot_store.proofs.slot_store.far_lacks.Goals as goal

pub found-requires : goal.found-requires
found-requires c = (kept_once c.args.rows.now c.requires).values _

pub entry_found-requires : goal.entry_found-requires
entry_found-requires c = (kept_once c.args.rows.now c.requires).entries _

pub returns-then-len : goal.returns-then-len
returns-then-len c = λ lacks at.
    let t = c.args.rows.now in
    let g = c.in-Some.feature in
    let found = c.found.ensures ∙ ap (λ (v : Value). position (same_value v) ((cells t).vals (far_end c.args.object g))) c.value_of.ensures in
    far_absent t c.requires c.args.end c.args.object g ((λ i. (sym c.pairing.ensures i).opposite) ∙ c.in-Some.is) (sym found ∙ none_of c.found.result c.is_none.result c.is_none.ensures lacks) at

pub returns-then-entered_len-len : goal.returns-then-entered_len-len
returns-then-entered_len-len c = λ lacks at.
    alone_absent c.args.rows.now c.requires c.args.end c.args.object ((λ i. (sym c.pairing.ensures i).opposite) ∙ c.in-None.is)
    (sym c.entry_found.ensures ∙ none_of c.entry_found.result c.is_none-then-entered_len-len.result c.is_none-then-entered_len-len.ensures lacks) at
