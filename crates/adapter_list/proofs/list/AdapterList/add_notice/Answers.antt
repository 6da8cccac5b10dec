use Rattle.std.proofs.Common.{◌++◌, ◌∙◌, List, ℕ, ap}
use Rattle.links.specs.Holders.{above}
use Rattle.mm_types.specs.declared.numbers.AdapterNo.{AdapterNo}
use Rattle.notice_chain.specs.declared.notice.Notice.{Notice}
use Rattle.adapter_list.proofs.HearingLemmas.{copies_at-hearers, told_by-hearers, within-hearers}
use Rattle.adapter_list.proofs.list.AdapterList.add_notice.Goals as goal

pub add_copies-requires : goal.add_copies-requires
add_copies-requires g c =
    record { within = within-hearers (above (g.L.LinkStore.links c.args.store.now)) c.args.notice.notifier c.deref.result.now c.args.self.now.0 (c.deref.ensures.value ∙ c.in_ok-find_hearers.ensures.found) }

pub returns-clause-copies : goal.returns-clause-copies
returns-clause-copies g c =
    c.in_ok-add_copies.ensures.copies
    ∙ ap (λ (cs : List (ℕ × Notice)). c.args.round.now.copies ++ cs) (copies_at-hearers (above (g.L.LinkStore.links c.args.store.now)) c.args.notice c.deref.result.now c.args.self.now.0 (c.deref.ensures.value ∙ c.in_ok-find_hearers.ensures.found))

pub returns-clause-told : goal.returns-clause-told
returns-clause-told g c =
    c.in_ok-add_copies.ensures.told
    ∙ ap (λ (ts : List (AdapterNo × Notice)). c.args.round.now.told ++ ts) (told_by-hearers (above (g.L.LinkStore.links c.args.store.now)) c.args.notice c.deref.result.now c.args.self.now.0 (c.deref.ensures.value ∙ c.in_ok-find_hearers.ensures.found))
