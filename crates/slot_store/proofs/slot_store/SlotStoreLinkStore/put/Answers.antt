use Rattle.std.proofs.Common.{is_ok}
use Rattle.links.specs.declared.plan.Edit.TheVariants as edit
use Rattle.slot_store.specs.CellLinks.{store_links}
use Rattle.slot_store.proofs.RoomLemmas.{fits_object}
use Rattle.slot_store.proofs.ApplyLemmas.{tried_kept, tried_kinds, tried_links}
use Rattle.slot_store.proofs.slot_store.SlotStoreLinkStore.put.Goals as goal

pub put_with_room-requires : goal.put_with_room-requires
put_with_room-requires c = fits_object (store_links c.args.self.now.rows) (edit.Put c.args.link) c.requires.fits

pub invariant_of-self : goal.invariant_of-self
invariant_of-self c =
    let x = edit.Put c.args.link in
    record { kept = tried_kept c.args.self.now.rows c.put_with_room.new.rows c.args.self.now.kept x c.requires.fits c.requires.of_kind (is_ok c.put_with_room.result) c.put_with_room.ensures }

pub returns-clause-links : goal.returns-clause-links
returns-clause-links c =
    let x = edit.Put c.args.link in
    tried_links c.args.self.now.rows c.put_with_room.new.rows c.args.self.now.kept x c.requires.fits c.requires.of_kind (is_ok c.put_with_room.result) c.put_with_room.ensures

pub returns-clause-kinds : goal.returns-clause-kinds
returns-clause-kinds c =
    let x = edit.Put c.args.link in
    tried_kinds c.args.self.now.rows c.put_with_room.new.rows x c.put_with_room.result (returns-clause-links c)
