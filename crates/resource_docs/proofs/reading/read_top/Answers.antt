use Rattle.resource_docs.proofs.CauseLemmas.{found_parts}
use Rattle.resource_docs.proofs.reading.read_top.Goals as goal

pub returns-in-Ok : goal.returns-in-Ok
returns-in-Ok c = λ d deep here.
    c.read_parts.ensures d
    (found_parts c.args.meta.now c.in-Ok.found 127 d c.args.top.format c.args.top.roots.now deep here c.in-Ok.ensures) here
