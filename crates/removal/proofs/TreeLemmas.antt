-- The names of the links that go with an object name all of them, each once.
use Rattle.std.proofs.Common.{◌≡◌, true}
use Rattle.mm_types.specs.declared.numbers.ObjectNo.{ObjectNo}
use Rattle.models.specs.Legal.{IsLegal}
use Rattle.models.specs.Model.{Model, reading}
use Rattle.models.specs.Reading.{is_live}
use Rattle.removal.proofs.OuterLemmas.{touched-all, touched-in_order}
use Rattle.removal.proofs.NameLemmas.{tree-links}
use Rattle.removal.specs.Laws.{NameTreeLinks}

pub tree-named : (s : Model) → IsLegal s → (o : ObjectNo) → is_live (reading s) o ≡ true → NameTreeLinks s o
tree-named s legal o live = tree-links s legal o (record { order = touched-in_order s o; all = touched-all s legal o live })
