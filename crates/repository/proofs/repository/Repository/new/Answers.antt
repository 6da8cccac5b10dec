use Rattle.std.proofs.Common.{arith, rules}
use Rattle.std.specs.List.{IsDistinct}
use Rattle.models.specs.Legal.{kinds_of}
use Rattle.models.proofs.EmptyLemmas.{empty-legal, empty-steady}
use Rattle.containment.proofs.PartLemmas.{kinds-are}
use Rattle.repository.proofs.RememberedLemmas.{none-at}
use Rattle.repository.proofs.repository.Repository.new.Goals as goal

pub invariant_of-result : goal.invariant_of-result
unfolding IsDistinct
invariant_of-result g c =
    let accepted = c.lemma_is_of_document.ensures in
    record {
      legal = rw (c.new.ensures, c.new-2.ensures, c.empty.ensures.links) (record { model = empty-legal c.args.meta accepted; few = omega arith; distinct = tt; adapters = search rules });
      steady = rw (c.new.ensures, c.empty.ensures.links) (empty-steady c.args.meta);
      kinds_are = c.empty.ensures.kinds (kinds_of c.args.meta) (kinds-are c.args.meta accepted);
      paths = rw c.new-3.ensures (λ o t h. none-at _ o t h);
      hearers = rw c.new-4.ensures tt;
    }
