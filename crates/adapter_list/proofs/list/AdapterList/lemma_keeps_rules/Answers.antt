use Rattle.std.proofs.Common.{subst, sym, ◌∙◌}
use Rattle.std.specs.List.{IsDistinct}
use Rattle.notice_chain.specs.Listed.{same_no}
use Rattle.adapter_list.proofs.ListedLemmas.{HasReserve-from_ready, countable-from_ready}
use Rattle.adapter_list.proofs.NumberLemmas.{map-listed_adapters}
use Rattle.adapter_list.proofs.list.AdapterList.lemma_keeps_rules.Goals as goal

pub returns-clause-distinct : goal.returns-clause-distinct
returns-clause-distinct g c = rw (← c.self.view_is) (subst (IsDistinct same_no) (c.self.invariant.sound.numbered ∙ sym (map-listed_adapters g.A.Adapter.heard c.self.inside.attached.items c.self.inside.attached.items)) c.self.invariant.sound.distinct)

pub returns-clause-countable : goal.returns-clause-countable
returns-clause-countable g c = rw (← c.self.view_is) (countable-from_ready g.A.Adapter.heard g.A.Adapter.places c.self.inside.attached.items c.self.invariant.sound.ready)

pub returns-clause-reserve : goal.returns-clause-reserve
returns-clause-reserve g c = rw (← c.self.view_is) (HasReserve-from_ready g.A.Adapter.heard g.A.Adapter.places c.self.inside.attached.items c.self.invariant.sound.ready)
