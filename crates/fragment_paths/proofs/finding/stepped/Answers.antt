use Rattle.std.proofs.Common.{sym}
use Rattle.models.specs.Model.{reading}
use Rattle.fragment_paths.proofs.ObjectLemmas.{by-containment}
use Rattle.fragment_paths.proofs.finding.stepped.Goals as goal

pub object_in-requires : goal.object_in-requires
object_in-requires g c = record { contains = by-containment (reading c.args.model.now) c.args.object c.args.step.now c.in_ok-feature.feature (sym c.in_ok-feature.ensures) }
