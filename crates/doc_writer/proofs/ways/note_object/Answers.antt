use Rattle.std.proofs.Common.{◌≡◌, ◌∙◌, List, [], Option, ap, filter, subst, sym, true, unwrap_or}
use Rattle.std.specs.Prelude.{not, option_and_then}
use Rattle.std.specs.List.{All, list_any}
use Rattle.std.proofs.lemmas.List.Elements.{filter_passes}
use Rattle.std.proofs.lemmas.Result.{IfOk-weaker}
use Rattle.mm_types.specs.Lookups as lookups
use Rattle.mm_types.specs.Resolved.{Metamodel}
use Rattle.mm_types.specs.Shapes.{is_containment}
use Rattle.mm_types.specs.declared.numbers.ClassNo.{ClassNo}
use Rattle.mm_types.specs.declared.numbers.FeatureNo.{FeatureNo}
use Rattle.mm_types.specs.declared.numbers.Node.TheVariants as node
use Rattle.models.specs.Legal.{IsLegal}
use Rattle.models.specs.Model.{Model, reading}
use Rattle.models.specs.Reading.{all_features_of}
use Rattle.doc_writer.specs.References.{may_refer}
use Rattle.doc_writer.specs.Saved.{dangles_by, is_dangling, targets_under}
use Rattle.doc_writer.specs.Written.{is_written}
use Rattle.doc_writer.proofs.ListLemmas.{two-tests}
use Rattle.doc_writer.proofs.ReferLemmas.{dangling-left}
use Rattle.doc_writer.proofs.ways.note_object.Goals as goal

pub note_features-requires : goal.note_features-requires
note_features-requires g c =
    let m = c.args.positions.now.metamodel in
    let class = c.class-class.result in
    let metas : c.meta.result.now ≡ m = c.meta.ensures ∙ ap (λ (s : Model). s.metamodel) c.model-3.ensures in
    let is = subst (λ (n : Metamodel). c.as_slice.result.now ≡ filter (may_refer n) (unwrap_or (option_and_then (lookups.features n) class) [])) metas (c.as_slice.ensures ∙ c.in_ok-turn_to.ensures.1) in
    record { refer = subst (λ (xs : List FeatureNo). All (λ f. may_refer m f ≡ true) xs) (sym is) (filter_passes (may_refer m) (unwrap_or (option_and_then (lookups.features m) class) [])) }

pub returns-clause-dangling : goal.returns-clause-dangling
returns-clause-dangling g c =
    let s = c.args.positions.now in
    let r = reading s in
    let m = s.metamodel in
    let o = c.args.object in
    let class = c.class-class.result in
    let legal = subst IsLegal c.model.ensures c.lemma_is_legal.ensures in
    let metas : c.meta.result.now ≡ m = c.meta.ensures ∙ ap (λ (t : Model). t.metamodel) c.model-3.ensures in
    let is = subst (λ (n : Metamodel). c.as_slice.result.now ≡ filter (may_refer n) (unwrap_or (option_and_then (lookups.features n) class) [])) metas (c.as_slice.ensures ∙ c.in_ok-turn_to.ensures.1) in
    let of_object = subst (λ (t : Model). class ≡ (reading t).class o) c.model-2.ensures c.class-class.ensures in
    let all = is ∙ ap (λ (k : Option ClassNo). filter (may_refer m) (unwrap_or (option_and_then (lookups.features m) k) [])) of_object in
    IfOk-weaker c.note_features.result _ _
    (λ b got.
    got
    ∙ ap (λ (fs : List FeatureNo). list_any (dangles_by r o) fs) all
    ∙ dangling-left s legal o (all_features_of r (node.Object o))
    ∙ two-tests (is_written r o) (λ f. not (is_containment m f)) (λ f. list_any (is_dangling r) (targets_under r o f)) _)
    c.note_features.ensures.dangling
