use Rattle.std.proofs.Common.{◌∷◌, [], List, Option, ap, arith, length, subst, sym}
use Rattle.std.proofs.lemmas.List.{length-append}
use Rattle.mm_types.specs.declared.numbers.FeatureNo.{FeatureNo}
use Rattle.mm_meta.specs.FeatureNames.{AreRows}
use Rattle.mm_meta.proofs.ByNameLemmas.{rows_more}
use Rattle.mm_meta.proofs.meta.Meta.rows.Goals as goal

pub features-preserved : goal.features-preserved
features-preserved c = record {
  long = omega (arith, ap length c.in_ok-push.ensures.items, length-append c.features.rows.items (c.in_ok-by_class.field-0 ∷ []), c.features.invariant.long);
  made = subst (λ (rows : List (List (Option FeatureNo))). AreRows c.args.self.now rows) (sym c.in_ok-push.ensures.items)
      (rows_more c.args.self.now c.features.rows.items c.features.f c.in_ok-by_class.field-0 c.features.invariant.long c.in_ok-by_class.ensures c.features.invariant.made);
}
