use Rattle.std.proofs.Common.{ap}
use Rattle.slot_lists.specs.Places.{Places}
use Rattle.slot_lists.proofs.ShortLemmas.{lone-list_after_move}
use Rattle.slot_lists.proofs.short_list.ShortList.move_to.Goals as goal

pub returns-in_default : goal.returns-in_default
returns-in_default g c = record {
  items = lone-list_after_move c.self.inside.layout c.args.self.now.items c.args.to c.args.from c.in_default.not-Many (ap (λ (p : Places g.row.T.Denot). p.items) c.self.view_is) c.requires.to c.requires.from;
  spare = ap (λ (p : Places g.row.T.Denot). p.spare) c.self.view_is;
}
