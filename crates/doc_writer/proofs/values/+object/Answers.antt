use Rattle.std.proofs.Common.{◌≡◌, ◌∙◌, ◌++◌, ◌∷◌, ◌-◌, ℕ, Bool, OnOk, ◌<◌, [], ap, codes, filter, length, map, refl, suc, sym, subst, arith, rules, unwrap_or}
use Rattle.std.specs.Prelude.{option_and_then}
use Rattle.std.proofs.lemmas.Option.{unwrap_or-slice_get}
use Rattle.std.proofs.lemmas.Result.{on_ok_weaker}
use Rattle.json.specs.Token.{begin_object, key}
use Rattle.serde_json.specs.Data.{object as object_of, string}
use Rattle.mm_types.specs.Ends.{value_in}
use Rattle.mm_types.specs.Lookups as lookups
use Rattle.mm_types.specs.Lookups.{feature_name}
use Rattle.mm_types.specs.declared.numbers.FeatureNo.{FeatureNo}
use Rattle.mm_types.specs.declared.numbers.Node.TheVariants as node
use Rattle.mm_types.specs.declared.value.Value.TheVariants as value
use Rattle.models.specs.Legal.{IsLegal}
use Rattle.models.specs.Model.{Model, reading}
use Rattle.models.specs.Reading.{at_end, is_set}
use Rattle.doc_writer.specs.Added.{Adds, IsInOrder, by_name}
use Rattle.doc_writer.specs.Document.{class_name, content_data, feature_member, members, object_data, value_data}
use Rattle.doc_writer.specs.Written.{is_writable, written_features}
use Rattle.doc_writer.proofs.AddedLemmas.{elements-on, keyed, passed-close, passed-on, two_members-added}
use Rattle.doc_writer.proofs.ClassOrderLemmas.{set-left}
use Rattle.doc_writer.proofs.OrderLemmas.{puts-in_order}
use Rattle.doc_writer.proofs.values.+object.Goals as goal

pub write_list-values-preserved : goal.write_list-values-preserved
write_list-values-preserved g t c =
    let r = reading c.args.source.now.positions.now in
    let vs = r.values c.args.end in
    let made = value_data r c.args.source.now.resource (object_data r c.args.source.now.resource c.args.levels) c.args.end.feature in
    let counted = subst (λ (s : Model). c.len-index-end.result ≡ length ((reading s).values c.args.end)) c.model.ensures c.len-index-end.ensures in
    elements-on made vs c.values.index value.Null (value_in vs c.values.index) c.args.out.now c.values.out c.write_item.new.out
    (subst (λ (n : ℕ). c.values.index < n) counted c.values-test.true) (unwrap_or-slice_get vs c.values.index value.Null) c.values.invariant c.in_ok-write_item.ensures

pub write_features-features-preserved : goal.write_features-features-preserved
write_features-features-preserved g t c =
    let r = reading c.args.source.now.positions.now in
    let name = feature_name r.metamodel in
    let held = content_data r c.args.source.now.resource (object_data r c.args.source.now.resource c.args.levels) c.args.object in
    let set : FeatureNo → Bool = λ f. is_set r (at_end (node.Object c.args.object) f) in
    let fs = c.as_slice-features.result.now in
    let all = filter (is_writable r.metamodel) (unwrap_or (option_and_then (lookups.features r.metamodel) c.args.order.now.class) []) in
    let ordered = subst (IsInOrder name) (sym (c.as_slice-features.ensures ∙ c.requires.order.1)) (puts-in_order name all [] tt) in
    passed-on name held set fs c.features.feature-index c.args.out.now c.features.out _ c.write_if_set.new.out (omega arith) ordered c.features.invariant c.in_ok-write_if_set.ensures

pub write_features-returns : goal.write_features-returns
write_features-returns g t c =
    let s = c.args.source.now.positions.now in
    let r = reading s in
    let name = feature_name r.metamodel in
    let held = content_data r c.args.source.now.resource (object_data r c.args.source.now.resource c.args.levels) c.args.object in
    let set : FeatureNo → Bool = λ f. is_set r (at_end (node.Object c.args.object) f) in
    let fs = c.as_slice-features.result.now in
    let legal = subst IsLegal c.model.ensures c.lemma_is_legal.ensures in
    let of_class = c.as_slice-features.ensures ∙ c.requires.order.1 ∙ ap (λ k. by_name r.metamodel (filter (is_writable r.metamodel) (unwrap_or (option_and_then (lookups.features r.metamodel) k) []))) c.requires.class in
    passed-close name held set fs c.features.feature-index c.args.out.now c.features.out c.end_object.result (written_features r c.args.object) c.end_object.new.self (omega arith) (set-left s legal c.args.object fs of_class) c.features.invariant
    c.end_object.ensures

pub write_members-returns-then-is_of : goal.write_members-returns-then-is_of
write_members-returns-then-is_of g t c =
    let named : c.key.new.self.tokens ≡ c.args.out.now.tokens ++ key (codes "features") ∷ [] = search rules in
    on_ok_weaker c.write_features.result (keyed (codes "features") _ c.args.out.now c.key.new.self c.write_features.new.out c.key.ensures.room.0 named) c.write_features.ensures

pub write_members-returns : goal.write_members-returns
write_members-returns g t c =
    let named : c.key.new.self.tokens ≡ c.args.out.now.tokens ++ key (codes "features") ∷ [] = search rules in
    on_ok_weaker c.write_features-2.result (keyed (codes "features") _ c.args.out.now c.key.new.self c.write_features-2.new.out c.key.ensures.room.0 named) c.write_features-2.ensures

pub write_object-returns : goal.write_object-returns
write_object-returns g t c =
    let r = reading c.args.source.now.positions.now in
    let k = c.args.source.now.resource in
    let n = c.args.levels - 1 in
    let d = string (class_name r c.args.object) in
    let e = object_of (members (map (feature_member r k (object_data r k n) c.args.object) (written_features r c.args.object))) in
    let opened : c.begin_object.new.self.tokens ≡ c.args.out.now.tokens ++ begin_object ∷ [] = search rules in
    let one : suc n ≡ c.args.levels = omega (arith, c.if-levels-eq0.false) in
    let whole = two_members-added c.end_object.result (codes "class") (codes "features") d e c.args.out.now c.begin_object.new.self c.write_class.new.out c.write_members.new.out c.end_object.new.self refl
    c.begin_object.ensures.room.0 opened c.in_ok-write_class.ensures c.in_ok-write_members.ensures c.end_object.ensures in
    subst (λ (l : ℕ). OnOk c.end_object.result (Adds (object_data r k l c.args.object) c.args.out.now c.end_object.new.self)) one whole
