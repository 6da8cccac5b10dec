use Rattle.std.proofs.Common.{◌∙◌, ◌++◌, Bool, [], ap, flat_map, length, map, refl, sym, ℕ, if◌then◌else◌}
use Rattle.models.specs.Model.{reading}
use Rattle.change_plans.specs.Joining.{told_by}
use Rattle.handshake.specs.FeatureChange.{notice_at}
use Rattle.change_plans.specs.declared.planned.Finding.TheVariants.{Counts}
use Rattle.change_plans.proofs.AllPlannedLemmas.{all-planned}
use Rattle.change_plans.proofs.resolving_all.planned.Goals as goal
use Rattle.change_plans.proofs.resolving_all.planned.Goals.{then-is_heard+in_ok-resolved_notices, else-is_heard}

pub returns : goal.returns
returns g c =
    let r = reading c.args.model.now in
    let js = c.as_slice-joints.result.now in
    let told = map (notice_at r) (flat_map told_by js) in
    let counts = ap (λ (n : ℕ). Counts (record { done = length js; left = n })) c.left.ensures in
    all-planned c.args.is_heard c.args.model.now _ c.lemma_is_legal.ensures c.args.progress.now c.requires.done c.args.leads.now c.requires.all js c.as_slice-joints.ensures.value counts
    c.in_ok-edits.ensures c.none.ensures
    (elim c.if-is_heard.branch [
      | then-is_heard+in_ok-resolved_notices w ↦ w.chain-is ∙ w.in_ok-resolved_notices.ensures ∙ ap (λ ns. ns ++ told) c.none-chain.ensures ∙ sym (ap (λ (b : Bool). if b then told else []) w.if-is_heard.true)
      | else-is_heard w ↦ w.chain-is ∙ c.none-chain.ensures ∙ sym (ap (λ (b : Bool). if b then told else []) w.if-is_heard.false)
    ])
