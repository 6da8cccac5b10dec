use Rattle.std.proofs.Common.{◌∙◌, [], refl, sym, if◌then◌else◌}
use Rattle.models.specs.Model.{reading}
use Rattle.handshake.specs.FeatureChanges.{chain}
use Rattle.change_plans.proofs.RefusalLemmas.{late-refused}
use Rattle.change_plans.proofs.ValueLemmas.{is-plain-link, links-planned, plain-allowed}
use Rattle.change_plans.proofs.link_planning.plan_links.Goals as goal

pub late_refusal-requires : goal.late_refusal-requires
late_refusal-requires g c = record { found = (is-plain-link (reading c.args.model.now) c.args.change.now c.requires.links).found }

pub returns-in-Some-clause-refused : goal.returns-in-Some-clause-refused
returns-in-Some-clause-refused g c = late-refused (reading c.args.model.now) c.args.change.now c.in-Some.refused (sym c.late_refusal.ensures ∙ c.in-Some.is)

pub links_and_notices-requires : goal.links_and_notices-requires
links_and_notices-requires g c = plain-allowed (reading c.args.model.now) c.args.change.now (is-plain-link (reading c.args.model.now) c.args.change.now c.requires.links) c.requires.asked (sym c.late_refusal.ensures ∙ c.in_default.is)

pub returns-clause-planned : goal.returns-clause-planned
returns-clause-planned g c =
    let ns = if c.args.is_heard then chain (reading c.args.model.now) c.args.change.now else [] in
    (ns, c.in_ok-edits.ensures.chain, links-planned c.args.is_heard c.args.model.now c.args.change.now _ ns c.requires.links c.lemma_is_legal.ensures c.requires.asked (sym c.late_refusal.ensures ∙ c.in_default.is) c.in_ok-edits.ensures.edits refl)
