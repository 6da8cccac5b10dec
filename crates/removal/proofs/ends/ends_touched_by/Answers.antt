use Rattle.removal.proofs.HoldLemmas.{touched-found}
use Rattle.removal.proofs.ends.ends_touched_by.Goals as goal

pub returns : goal.returns
returns g c =
    touched-found c.args.model.now c.lemma_is_legal.ensures c.args.object c.requires.live c.args.objects.now c.args.numbers.now c.in_ok-ends.ends.items c.put_in_order.new.ends.items c.requires.objects
    c.requires.numbers c.in_ok-ends.ensures c.put_in_order.ensures.order c.put_in_order.ensures.same
