use Rattle.std.proofs.Common.{◌≡◌, ◌∷◌, [], Bool, List, ap, arith, length, subst, sym}
use Rattle.std.proofs.lemmas.List.{length-append}
use Rattle.mm_types.specs.Resolved.{class_no}
use Rattle.mm_meta.specs.Containments.{AreContainments, has_containment}
use Rattle.mm_meta.specs.Meta.{metamodel}
use Rattle.mm_meta.proofs.ByNameLemmas.{one_more}
use Rattle.mm_meta.proofs.MetaLemmas.{few_classes}
use Rattle.mm_meta.proofs.meta.Meta.all_containments.Goals as goal

pub overflow_cast-c : goal.overflow_cast-c
overflow_cast-c c = omega (arith, c.classes-test.true, c.len-c-end.ensures, few_classes (metamodel c.self.inside) c.self.invariant.of_document)

pub classes-preserved : goal.classes-preserved
classes-preserved c = record {
  long = omega (arith, ap length c.in_ok-push.ensures.items, length-append c.classes.found.items (c.finds_containment.result ∷ []), c.classes.invariant.long);
  made = subst (λ (found : List Bool). AreContainments c.args.self.now found) (sym c.in_ok-push.ensures.items)
      (one_more (λ k b. b ≡ has_containment c.args.self.now (class_no k)) c.classes.found.items c.classes.c c.finds_containment.result c.classes.invariant.long c.finds_containment.ensures c.classes.invariant.made);
}
