use Rattle.std.proofs.Common.{◌≡◌, [], ◌∷◌, ◌∙◌, true, not, if◌then◌else◌, ap, sym}
use Rattle.mm_types.specs.Shapes.{shape}
use Rattle.mm_types.specs.declared.value.Value.{Value}
use Rattle.models.specs.Model.{reading}
use Rattle.change_plans.specs.Plans.{IsPlanOf, of_values}
use Rattle.handshake.specs.Effects.{put_values}
use Rattle.handshake.specs.FeatureChange.{feature_change, notice_at}
use Rattle.handshake.specs.declared.act.Act.TheVariants.{Set}
use Rattle.handshake.specs.declared.change.Change.TheVariants.{At}
use Rattle.handshake.specs.declared.change_kind.ChangeKind.TheVariants.{Gains}
use Rattle.change_plans.proofs.ValueLemmas.{set-told, values-planned}
use Rattle.change_plans.proofs.value_planning.plan_set.Goals as goal

pub returns : goal.returns
returns g c =
    let m = c.args.model.now in
    let e = c.args.end in
    let v = c.args.value in
    let told : c.in_ok-notice.notice ≡ notice_at (reading m) (feature_change e (Gains v)) = c.in_ok-notice.ensures ∙ ap (λ (x : Value). notice_at (reading m) (feature_change e (Gains x))) c.in_ok-clone.ensures.cases in
    values-planned true m (At e (Set v)) _ _ (ap not c.requires.attribute) c.lemma_is_legal.ensures c.requires.asked c.requires.allowed
    (c.set_edits.ensures ∙ (λ i. if sym c.requires.attribute i then [] else put_values e (v ∷ []) (shape m.metamodel e.feature).is_unsettable))
    (c.one.ensures ∙ (λ i. told i ∷ []) ∙ set-told (reading m) e v c.requires.attribute)
