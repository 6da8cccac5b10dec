use Rattle.std.proofs.Common.{sym}
use Rattle.models.specs.Model.{reading}
use Rattle.models.specs.Reading.{all_features_of}
use Rattle.containment.proofs.LeafLemmas.{no-parts-at}
use Rattle.containment.proofs.tree.has_parts.Goals as goal

pub returns-then-not-may_contain : goal.returns-then-not-may_contain
returns-then-not-may_contain g c =
    sym (no-parts-at (reading c.args.model.now) c.args.node (all_features_of (reading c.args.model.now) c.args.node) (c.may_contain.ensures c.if-not-may_contain.true))
