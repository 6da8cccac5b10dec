use Rattle.std.proofs.Common.{◌∙◌}
use Rattle.adapter_list.proofs.NumberLemmas.{position-numbers}
use Rattle.adapter_list.proofs.list.AdapterList.ordinal_of.Goals as goal

pub returns-clause-ordinal : goal.returns-clause-ordinal
returns-clause-ordinal g c = rw (← c.self.view_is) (c.get_index_of.ensures.index ∙ position-numbers g.A.Adapter.heard c.self.inside.attached.items c.self.inside.numbers.keys c.args.no c.self.invariant.sound.numbered)
