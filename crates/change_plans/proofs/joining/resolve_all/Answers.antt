use Rattle.models.specs.Model.{reading}
use Rattle.change_plans.proofs.UnderwayLemmas.{loop-end, loop-init, loop-step}
use Rattle.change_plans.proofs.joining.resolve_all.Goals as goal

pub leads-init : goal.leads-init
leads-init g c = loop-init (reading c.args.model.now) c.new-progress.result c.args.leads.now c.requires.all c.new-progress.ensures

pub leads-preserved : goal.leads-preserved
leads-preserved g c =
    loop-step c.args.model.now c.lemma_is_legal.ensures c.in_ok-first.first c.args.leads.now c.in_ok-first.ensures c.requires.all c.leads.lead-index _ _ _ c.leads-test.true c.leads.invariant c.in_ok-resolve.ensures

pub returns : goal.returns
returns g c = loop-end (reading c.args.model.now) c.args.leads.now c.leads.lead-index _ c.leads-test.false c.leads.invariant
