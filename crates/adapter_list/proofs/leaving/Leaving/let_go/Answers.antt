use Rattle.std.proofs.Common.{List, ap, arith, length}
use Rattle.mm_types.specs.declared.numbers.AdapterNo.{AdapterNo}
use Rattle.notice_chain.specs.declared.notice.Notice.{Notice}
use Rattle.adapter_list.proofs.LeavingLemmas.{told-few}
use Rattle.adapter_list.proofs.leaving.Leaving.let_go.Goals as goal

pub move_all-requires-2 : goal.move_all-requires-2
move_all-requires-2 g c =
    let few = told-few c.args.self.release c.args.adapters.now.0 in
    let last = ap (λ (ns : List (AdapterNo × Notice)). length ns) c.release-last.ensures.told in
    omega (arith, few, last, c.move_all.ensures.room.0, c.move_all.ensures.room.1, c.requires.room.nothing_told, c.requires.room.told)
