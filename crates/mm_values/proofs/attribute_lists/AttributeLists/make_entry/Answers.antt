use Rattle.std.proofs.Common.{false, refl}
use Rattle.mm_values.proofs.Place.{stored_in-made, index-insert, is_at_made, holds_nothing}
use Rattle.mm_values.proofs.attribute_lists.AttributeLists.make_entry.Goals as goal

pub returns-in_ok-insert_entry-in-Err-clause-stored : goal.returns-in_ok-insert_entry-in-Err-clause-stored
returns-in_ok-insert_entry-in-Err-clause-stored c = rw (c.in_ok-insert_entry-in-Err.ensures.ok, c.self.view_is, c.grow.ensures) (stored_in-made _ _ _ c.in-Err.ensures.absent _ refl (holds_nothing (record { feature = c.args.feature; list = c.new.result; flag = false }) c.new.ensures refl))

pub returns-in_ok-insert_entry-in-Err-clause-kept : goal.returns-in_ok-insert_entry-in-Err-clause-kept
returns-in_ok-insert_entry-in-Err-clause-kept c f n index = rw (c.in_ok-insert_entry-in-Err.ensures.ok, c.self.view_is, c.grow.ensures) (index-insert _ _ _ c.in-Err.ensures.absent _ refl f n index)

pub returns-in_ok-insert_entry-in-Err-clause-ok : goal.returns-in_ok-insert_entry-in-Err-clause-ok
returns-in_ok-insert_entry-in-Err-clause-ok c = rw (c.in_ok-insert_entry-in-Err.ensures.ok, c.self.view_is, c.grow.ensures) (is_at_made _ _ _ c.in-Err.ensures.absent _ refl)
