use Rattle.resource_docs.proofs.ReferenceLemmas.{led_nowhere, led_some}
use Rattle.resource_docs.proofs.references.object_at.Goals as goal

pub returns-in-Some-clause-value : goal.returns-in-Some-clause-value
returns-in-Some-clause-value c =
    led_some c.args.meta.now c.args.class c.args.found.now c.args.path.now c.in-Some.number c.object_of_number.result c.in-Some.ensures c.object_of_number.ensures.value

pub returns-in-None-clause-value : goal.returns-in-None-clause-value
returns-in-None-clause-value c = led_nowhere c.args.meta.now c.args.class c.args.found.now c.args.path.now c.in-None.ensures
