use Rattle.std.proofs.Common.{◌≡◌, length, arith}
use Rattle.node_slots.proofs.RowLemmas.{row_made}
use Rattle.node_slots.proofs.TableLemmas.{place_made, pushed_grown, pushed_places}
use Rattle.node_slots.proofs.row_table.RowTable.push_row.Goals as goal

pub invariant_of-self-2 : goal.invariant_of-self-2
invariant_of-self-2 c =
    let rs = c.self.inside.rows.items in
    let last : c.len-row_index.result ≡ length rs = omega (arith, c.len-row_index.ensures) in
    rw c.in_ok-push.ensures.items (pushed_places c.self.inside.places.items rs c.args.number c.len-row_index.result c.new.result c.args.self.now c.self.view_is c.self.invariant c.requires.in_range c.requires.none last)

pub returns-clause-grown : goal.returns-clause-grown
returns-clause-grown c =
    let rs = c.self.inside.rows.items in
    let last : c.len-row_index.result ≡ length rs = omega (arith, c.len-row_index.ensures) in
    let made = row_made c.new.result c.new.ensures.slots c.new.ensures.holder c.new.ensures.entered in
    rw (c.in_ok-push.ensures.items, ← c.self.view_is) (pushed_grown c.self.inside.places.items rs c.args.number c.len-row_index.result c.new.result c.args.self.now c.self.view_is c.self.invariant c.requires.in_range c.requires.none last made)

pub returns-clause-ok : goal.returns-clause-ok
returns-clause-ok c =
    let rs = c.self.inside.rows.items in
    let last : c.len-row_index.result ≡ length rs = omega (arith, c.len-row_index.ensures) in
    place_made c.self.inside.places.items rs c.args.number c.len-row_index.result c.new.result c.args.self.now c.self.view_is c.self.invariant c.requires.in_range c.requires.none last
