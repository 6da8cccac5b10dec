use Rattle.handshake.specs.declared.change.Change.TheVariants.{At}
use Rattle.handshake.specs.declared.act.Act.TheVariants.{Add}
use Rattle.change_plans.proofs.LonePutLemmas.{found-planned}
use Rattle.change_plans.proofs.link_planning.lone_add.Goals as goal

pub returns-clause-plan : goal.returns-clause-plan
returns-clause-plan g c =
    found-planned c.args.model.now (At c.args.end (Add c.args.value.now c.args.index)) c.put_of_add.result c.lemma_is_legal.ensures c.requires.asked c.put_of_add.ensures
