use Rattle.std.proofs.Common.{◌≡◌, ◌∙◌, ◌++◌, [], append-nil, ap, refl, sym, Bool, if◌then◌else◌}
use Rattle.models.specs.Model.{reading}
use Rattle.handshake.specs.FeatureChanges.{chain}
use Rattle.change_plans.proofs.RefusalLemmas.{late-refused}
use Rattle.change_plans.proofs.ValueLemmas.{is-plain, no-cuts, plain-allowed, values-planned}
use Rattle.change_plans.proofs.value_planning.plan_values.Goals as goal
use Rattle.change_plans.proofs.value_planning.plan_values.Goals.{then-is_heard+in_ok-add_notices, else-is_heard}

pub late_refusal-requires : goal.late_refusal-requires
late_refusal-requires g c = record { found = (is-plain (reading c.args.model.now) c.args.change c.requires.values).found }

pub returns-in-Some-clause-refused : goal.returns-in-Some-clause-refused
returns-in-Some-clause-refused g c = late-refused (reading c.args.model.now) c.args.change c.in-Some.refused (sym c.late_refusal.ensures ∙ c.in-Some.is)

pub add_notices-requires : goal.add_notices-requires
add_notices-requires g c =
    let r = reading c.args.model.now in
    record {
      allowed = plain-allowed r c.args.change (is-plain r c.args.change c.requires.values) c.requires.asked (sym c.late_refusal.ensures ∙ c.in_default.is);
      cut = no-cuts r c.args.change c.requires.values;
    }

pub value_edits-requires : goal.value_edits-requires
value_edits-requires g c =
    let plain = is-plain (reading c.args.model.now) c.args.change c.requires.values in
    record { removal = record { whose = plain.whose; found = tt }; fits = plain.fits }

pub returns-clause-planned : goal.returns-clause-planned
returns-clause-planned g c =
    let r = reading c.args.model.now in
    let added = λ (b : Bool). c.args.chain.now ++ (if b then chain r c.args.change else []) in
    let told : c.if-is_heard.chain ≡ added c.args.is_heard = elim c.if-is_heard.branch [
      | then-is_heard+in_ok-add_notices w ↦ w.chain-is ∙ w.in_ok-add_notices.ensures ∙ sym (ap added w.if-is_heard.true)
      | else-is_heard w ↦ w.chain-is ∙ sym (append-nil c.args.chain.now) ∙ sym (ap added w.if-is_heard.false)
    ] in
    (_, told, values-planned c.args.is_heard c.args.model.now c.args.change _ _ c.requires.values c.lemma_is_legal.ensures c.requires.asked (sym c.late_refusal.ensures ∙ c.in_default.is) c.in_ok-values.ensures refl)
