use Rattle.std.proofs.Common.{◌∙◌, sym}
use Rattle.mm_meta.proofs.TableLemmas.{found_at, none_at}
use Rattle.mm_meta.proofs.name_table.position_at.Goals as goal

pub returns-in_err-get : goal.returns-in_err-get
returns-in_err-get c lists tables = c.from_residual.ensures ∙ sym (none_at c.args.tables.now lists c.args.index c.args.name.now tables c.in_err-get.ensures.lookup.3)

pub returns : goal.returns
returns c lists tables =
    found_at c.args.tables.now lists c.args.index c.in_ok-get.field-0.now c.args.name.now c.position.result tables c.in_ok-get.ensures.lookup.3.0 c.in_ok-get.ensures.lookup.1 c.position.ensures
