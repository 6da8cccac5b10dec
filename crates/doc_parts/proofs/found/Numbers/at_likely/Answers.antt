use Rattle.std.proofs.Common.{◌≡◌, rules, sym, true}
use Rattle.doc_parts.specs.contracts.found.PartKeyPartialEq.TheImpl.{ghosts}
use Rattle.doc_parts.proofs.PlaceLemmas.{found_by_equal}
use Rattle.doc_parts.proofs.found.Numbers.at_likely.Goals as goal

pub returns-in-Some : goal.returns-in-Some
returns-in-Some c =
    let same : ghosts.eq c.in-Some.found.now c.args.key ≡ true = search rules in
    sym (found_by_equal c.args.self.now.numbers.entries c.in-Some.found.now c.args.key c.in-Some.number.now c.in-Some.ensures.value same)
