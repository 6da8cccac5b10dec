use Rattle.models.proofs.PlaceLemmas.{object_in-is, value_in-objects}
use Rattle.models.proofs.model_ref.ModelRef.object_in.Goals as goal

pub returns-clause-object : goal.returns-clause-object
returns-clause-object g c = rw (c.at.ensures, c.store.ensures.links) (object_in-is c.args.self.now c.args.end c.args.index c.requires.reference)

pub returns-clause-objects : goal.returns-clause-objects
returns-clause-objects g c never = rw (c.at.ensures, c.store.ensures.links) (value_in-objects c.args.self.now c.args.end c.args.index c.lemma_is_legal.ensures c.requires.reference never)
