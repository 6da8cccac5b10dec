-- The ends that have an object as a value, found from the object's own lists and its entries; and the object's position in each of these
-- ends. The entries of an object are the ends without opposite that have the object as a value.
use Rattle.std.specs.Prelude.{ℕ, ◌≤◌, List, [], ◌∷◌, ◌++◌, length, position, Option, Some, None}
use Rattle.mm_types.specs.Same.{same_value}
use Rattle.mm_types.specs.declared.numbers.FeatureNo.{FeatureNo}
use Rattle.mm_types.specs.declared.numbers.Node.TheVariants as node
use Rattle.mm_types.specs.declared.numbers.ObjectNo.{ObjectNo}
use Rattle.mm_types.specs.declared.end.End.{End}
use Rattle.mm_types.specs.declared.value.Value.{Value}
use Rattle.links.specs.LegalSets.{most}
use Rattle.links.specs.Links.{far_end, object_of}
use Rattle.node_slots.specs.declared.slot.Slot.{Slot}
use Rattle.node_slots.specs.Cells.{Cells}

-- the end of the feature f at an object; no end if there is no object
abbrev pub far_of : FeatureNo → Option ObjectNo → List End
far_of f None = []
far_of f (Some o) = far_end o f ∷ []

abbrev pub far_ends : FeatureNo → List Value → List End
far_ends f [] = []
far_ends f (v ∷ vs) = far_of f (object_of v) ++ far_ends f vs

abbrev pub far_ends_of : Option FeatureNo → List Value → List End
far_ends_of None vs = []
far_ends_of (Some f) vs = far_ends f vs

-- the far ends of the links of the end e; no end if e's feature has no opposite
abbrev pub ends_at : Cells → End → List End
ends_at c e = far_ends_of (c.pairing e).opposite (c.vals e)

-- the far ends of the links of the object o under the features of the slots ss; no end for a feature with no opposite
abbrev pub paired_ends : Cells → ObjectNo → List Slot → List End
paired_ends c o [] = []
paired_ends c o (s ∷ ss) = ends_at c (far_end o s.feature) ++ paired_ends c o ss

-- the ends that have the object o as a value; ss are the slots of o
abbrev pub entering_ends : Cells → ObjectNo → List Slot → List End
entering_ends c o ss = paired_ends c o ss ++ c.entered (node.Object o)

-- the first index of a value in an end
abbrev pub found_in : Cells → Value → End → Option ℕ
found_in c v e = position (same_value v) (c.vals e)

-- each end has at most `most` values
abbrev pub AreFew : Cells → Type 0
AreFew c = (e : End) → length (c.vals e) ≤ most
