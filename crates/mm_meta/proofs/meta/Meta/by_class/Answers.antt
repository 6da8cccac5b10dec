use Rattle.std.proofs.Common.{◌≡◌, ◌∙◌, ◌∷◌, [], List, Option, ap, arith, length, subst, sym}
use Rattle.std.proofs.lemmas.List.{length-append}
use Rattle.mm_types.specs.Lookups.{feature_by_name, feature_name}
use Rattle.mm_types.specs.Resolved.{Metamodel, class_no, feature_no}
use Rattle.mm_types.specs.declared.numbers.FeatureNo.{FeatureNo}
use Rattle.mm_meta.specs.FeatureNames.{IsRow}
use Rattle.mm_meta.specs.Meta.{metamodel}
use Rattle.mm_meta.proofs.ByNameLemmas.{row_more}
use Rattle.mm_meta.proofs.MetaLemmas.{few_classes, few_features}
use Rattle.mm_meta.proofs.meta.Meta.by_class.Goals as goal

pub overflow_cast-feature : goal.overflow_cast-feature
overflow_cast-feature c = omega (arith, c.requires, ap (λ (m : Metamodel). length m.features) c.self.view_is, few_features (metamodel c.self.inside) c.self.invariant.of_document)

pub overflow_cast-c : goal.overflow_cast-c
overflow_cast-c c = omega (arith, c.classes-test.true, c.len-c-end.ensures, few_classes (metamodel c.self.inside) c.self.invariant.of_document)

pub classes-preserved : goal.classes-preserved
classes-preserved c =
    let m : Metamodel = c.args.self.now in
    let is : c.feature_by_name.result ≡ feature_by_name m (class_no c.classes.c) (feature_name m (feature_no c.args.feature)) =
    c.feature_by_name.ensures ∙ ap (feature_by_name m (class_no c.classes.c)) c.feature_name-name.ensures in
    record {
      long = omega (arith, ap length c.in_ok-push.ensures.items, length-append c.classes.by_class.items (c.feature_by_name.result ∷ []), c.classes.invariant.long);
      made = subst (λ (by_class : List (Option FeatureNo)). IsRow m (feature_name m (feature_no c.args.feature)) by_class) (sym c.in_ok-push.ensures.items)
          (row_more m (feature_name m (feature_no c.args.feature)) c.classes.by_class.items c.classes.c c.feature_by_name.result c.classes.invariant.long is c.classes.invariant.made);
    }
