use Rattle.std.proofs.Common.{◌∙◌}
use Rattle.models.specs.Model.{values_at}
use Rattle.containment.proofs.PartLemmas.{contains-itself, contains-reference}
use Rattle.mm_types.specs.Shapes.{shape}
use Rattle.fragment_paths.proofs.ObjectLemmas.{all-objects, objects-get}
use Rattle.fragment_paths.proofs.ends.object_in.Goals as goal

pub object_in-requires : goal.object_in-requires
object_in-requires g c =
    let m = c.args.model.now.metamodel in
    let f = c.args.end.feature in
    record { reference = contains-reference m f f (contains-itself f (shape m f).containing c.requires.contains) }

pub returns : goal.returns
returns g c = c.object_in.ensures.object ∙ objects-get (values_at c.args.model.now c.args.end) c.args.index (all-objects c.args.model.now c.args.end c.lemma_is_legal.ensures c.requires.contains)
