use Rattle.mm_types.specs.declared.refused.Refused.TheVariants.{NotSingle}
use Rattle.handshake.specs.declared.change.Change.TheVariants.{At}
use Rattle.handshake.specs.declared.act.Act.TheVariants.{Set}
use Rattle.handshake.proofs.KnownLemmas.{none-else_by, none-unless}
use Rattle.change_plans.proofs.LonePutLemmas.{found-planned}
use Rattle.change_plans.proofs.link_planning.lone_set.Goals as goal

-- a feature that is set is single
pub put_of_set-requires : goal.put_of_set-requires
put_of_set-requires g c = record { single = none-unless NotSingle _ (none-else_by _ _ c.requires.asked).1 }

pub returns-clause-plan : goal.returns-clause-plan
returns-clause-plan g c =
    found-planned c.args.model.now (At c.args.end (Set c.args.value.now)) c.put_of_set.result c.lemma_is_legal.ensures c.requires.asked c.put_of_set.ensures
