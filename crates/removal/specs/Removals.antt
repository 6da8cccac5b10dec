-- What a deletion of an object concerns, as one search of a model finds it.
use Rattle.std.specs.Prelude.{◌≡◌}
use Rattle.containment.specs.Forest.{subtree}
use Rattle.models.specs.Reading.{Reading}
use Rattle.removal.specs.Outer.{touched_ends}
use Rattle.removal.specs.Ranks.{HasGone}
use Rattle.removal.specs.declared.gone.Removal.{Removal}

-- the objects are the subtree of the object that is deleted, the numbers are the numbers of these objects, and the ends are the ends of
-- other nodes that have some of these objects as values
pub record IsRemoval (r : Reading) (x : Removal) : Type 0 where
  pub objects : x.objects.items ≡ subtree r x.object
  pub numbers : HasGone r x.object x.numbers
  pub ends : x.ends.items ≡ touched_ends r x.object
