use Rattle.std.proofs.Common.{arith, subst}
use Rattle.mm_types.specs.OfDocument.{IsOfDocument}
use Rattle.mm_meta.proofs.MetaLemmas.{few_features}
use Rattle.mm_meta.proofs.meta.Meta.begins_common.Goals as goal

pub overflow_cast-feature : goal.overflow_cast-feature
overflow_cast-feature c = omega (arith, c.requires, few_features c.args.self.now (subst IsOfDocument c.self.view_is c.self.invariant.of_document))
