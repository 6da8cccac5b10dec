use Rattle.doc_parts.specs.Keys.{number_at}
use Rattle.doc_parts.proofs.PathLemmas.{descended_none}
use Rattle.doc_parts.proofs.found.Numbers.descend.Goals as goal

pub returns-in-None : goal.returns-in-None
returns-in-None c =
    let at = number_at c.args.self.now in
    descended_none at c.steps.part c.args.steps.now c.steps.step-index c.step-item.result c.as_str.result.now _ c.steps-test.true c.step-item.is c.as_str.ensures
    c.in-None.ensures c.steps.invariant
