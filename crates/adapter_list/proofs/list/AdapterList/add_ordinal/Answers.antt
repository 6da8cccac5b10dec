use Rattle.std.proofs.Common.{◌≡◌, true}
use Rattle.std.specs.BTreeSet.{contains}
use Rattle.std.specs.Ordering.{nat_cmp}
use Rattle.notice_chain.specs.Listed.{has_no}
use Rattle.adapter_list.proofs.PlaceLemmas.{is-added, none-added, number-absent, passes-at}
use Rattle.adapter_list.proofs.ReserveLemmas.{there}
use Rattle.adapter_list.proofs.list.AdapterList.add_ordinal.Goals as goal

pub returns-in_default : goal.returns-in_default
returns-in_default g c = λ k. none-added _ _ (number-absent c.args.self.now.0 c.args.no k c.in_default.ensures.ordinal)

pub returns-in_ok-insert : goal.returns-in_ok-insert
returns-in_ok-insert g c = λ k.
    let rs = c.args.self.now.0 in
    let one = there rs c.in-Some.ordinal c.in-Some.ensures.within in
    let has : has_no c.args.no one.0 ≡ true = passes-at (has_no c.args.no) rs c.in-Some.ordinal one.0 c.in-Some.ensures.ordinal one.1 in
    is-added rs c.args.no c.in-Some.ordinal one.0 c.lemma_keeps_rules.ensures.distinct one.1 has (contains nat_cmp c.args.ordinals.now k) (contains nat_cmp c.insert.new.self k) k (c.in_ok-insert.ensures.updates.0 k)
