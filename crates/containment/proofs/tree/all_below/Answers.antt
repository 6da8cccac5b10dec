use Rattle.std.proofs.Common.{rules, ◌≡◌, []}
use Rattle.containment.proofs.TreeLemmas.{walk-ends, walk-falls, walk-on, walk-starts}
use Rattle.containment.proofs.tree.all_below.Goals as goal

pub loop-next-init : goal.loop-next-init
loop-next-init g c = walk-starts c.args.model.now c.new-found.result.items c.args.waiting.items c.new-found.ensures.items

pub loop-next-smaller : goal.loop-next-smaller
loop-next-smaller g c =
    walk-falls c.args.model.now c.lemma_is_legal.ensures c.loop-next.waiting.items c.pop.new.self.items c.in_ok-parts.parts.items c.reverse.new.self.items c.append.new.self.items c.in-Some.next c.in-Some.ensures.items
    c.in_ok-append.ensures.items c.reverse.ensures.items c.in_ok-parts.ensures

pub loop-next-preserved : goal.loop-next-preserved
loop-next-preserved g c =
    walk-on c.args.model.now c.lemma_is_legal.ensures c.loop-next.waiting.items c.pop.new.self.items c.in_ok-parts.parts.items c.reverse.new.self.items c.append.new.self.items c.loop-next.found.items c.push.new.self.items _
    c.in-Some.next c.in-Some.ensures.items c.in_ok-append.ensures.items c.reverse.ensures.items c.in_ok-parts.ensures c.in_ok-push.ensures.items c.loop-next.invariant

pub returns : goal.returns
returns g c =
    let none : c.loop-next.waiting.items ≡ [] = search rules in
    walk-ends c.args.model.now c.loop-next.found.items c.loop-next.waiting.items _ none c.loop-next.invariant
