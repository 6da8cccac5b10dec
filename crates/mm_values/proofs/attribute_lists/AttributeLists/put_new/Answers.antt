use Rattle.std.proofs.Common.{refl}
use Rattle.mm_values.proofs.Place.{stored_in-put_new}
use Rattle.mm_values.proofs.attribute_lists.AttributeLists.put_new.Goals as goal

pub returns-clause-ok : goal.returns-clause-ok
returns-clause-ok c =
    rw (c.in_ok-insert_entry.ensures.ok, c.self.view_is, c.grow.ensures) (stored_in-put_new _ _ _ c.requires (record { feature = c.args.feature; list = c.list_of.result; flag = c.args.flag }) refl _ _ c.list_of.ensures refl)
