-- Laws on the links that are cut when an object is deleted.
use Rattle.std.specs.Prelude.{List, map}
use Rattle.mm_types.specs.declared.end.End.{End}
use Rattle.mm_types.specs.declared.value.Value.{Value}
use Rattle.mm_types.specs.declared.numbers.ObjectNo.{ObjectNo}
use Rattle.links.specs.Laws.{AreOnce, AreThere, NameLinksOf}
use Rattle.models.specs.Legal.{kinds_of}
use Rattle.models.specs.Model.{Model, reading}
use Rattle.removal.specs.Outer.{is_in_subtree}
use Rattle.removal.specs.TreeLinkEnds.{tree_link_ends}
use Rattle.removal.specs.declared.link_end.LinkEnd.{LinkEnd}

-- the names of links as pairs of an end and a value
abbrev pub names_of : List LinkEnd → List (End × Value)
names_of ts = map (λ t. (t.end, t.value)) ts

-- each name is of a link, no link is named twice, and exactly the links of the nodes that are destroyed are named
pub record NameTreeLinks (s : Model) (o : ObjectNo) : Type 0 where
  pub there : AreThere s.links (names_of (tree_link_ends (reading s) o))
  pub once : AreOnce (kinds_of s.metamodel) (names_of (tree_link_ends (reading s) o))
  pub all : NameLinksOf (kinds_of s.metamodel) s.links (is_in_subtree (reading s) o) (names_of (tree_link_ends (reading s) o))
