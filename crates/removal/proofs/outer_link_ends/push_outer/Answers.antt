use Rattle.models.specs.Model.{reading}
use Rattle.removal.specs.Ranks.{is_in}
use Rattle.removal.specs.TreeLinkEnds.{outer_link_ends}
use Rattle.removal.proofs.PushLemmas.{flat-end, flat-step}
use Rattle.removal.proofs.outer_link_ends.push_outer.Goals as goal

pub push_alone-requires : goal.push_alone-requires
push_alone-requires g c = record { reference = c.requires.references c.loop-end.end-index _ c.loop-end-test.true }

pub loop-end-preserved : goal.loop-end-preserved
loop-end-preserved g c =
    flat-step (outer_link_ends (reading c.args.model.now) (is_in c.args.numbers.now)) c.args.ends.now c.loop-end.end-index _ c.loop-end.link_ends.items c.push_alone.new.link_ends.items _ c.loop-end-test.true c.in_ok-push_alone.ensures c.loop-end.invariant

pub returns : goal.returns
returns g c =
    flat-end (outer_link_ends (reading c.args.model.now) (is_in c.args.numbers.now)) c.args.ends.now c.loop-end.end-index c.loop-end.link_ends.items _ c.loop-end-test.false c.loop-end.invariant
