-- How much capacity a plan needs, and how much a reservation adds.
use Rattle.std.specs.Prelude.{◌≡◌, ℕ, ◌+◌, ◌≤◌, Bool, true, false, List, [], ◌∷◌, sum_by, Option, Some, None}
use Rattle.mm_types.specs.Same.{same_end, same_node}
use Rattle.mm_types.specs.declared.numbers.FeatureNo.{FeatureNo}
use Rattle.mm_types.specs.declared.numbers.ObjectNo.{ObjectNo}
use Rattle.mm_types.specs.declared.numbers.Node.{Node}
use Rattle.mm_types.specs.declared.numbers.Node.TheVariants as node
use Rattle.mm_types.specs.declared.end.End.{End}
use Rattle.links.specs.declared.plan.Edit.{Edit}
use Rattle.links.specs.declared.plan.Edit.TheVariants as edit
use Rattle.links.specs.Links.{far_end}
use Rattle.node_slots.specs.Cells.{Room}

abbrev pub one_if : Bool → ℕ
one_if true = 1
one_if false = 0

abbrev pub far_gain : ObjectNo → Option FeatureNo → End → ℕ
far_gain o None x = 0
far_gain o (Some g) x = one_if (same_end (far_end o g) x)

-- how many values an edit adds to the end x
abbrev pub gain : End → Edit → ℕ
gain x (edit.Cut e v) = 0
gain x (edit.Put l) = one_if (same_end l.end x) + far_gain l.object l.opposite x
gain x (edit.Shift e to from) = 0
gain x (edit.PutProxy e i t) = one_if (same_end e x)

abbrev pub lone_entry : ObjectNo → Option FeatureNo → Node → ℕ
lone_entry o None n = one_if (same_node (node.Object o) n)
lone_entry o (Some g) n = 0

-- how many entries an edit adds to the node n. The entries of a node are the ends with no opposite that have the node as a value
abbrev pub entry : Node → Edit → ℕ
entry n (edit.Cut e v) = 0
entry n (edit.Put l) = lone_entry l.object l.opposite n
entry n (edit.Shift e to from) = 0
entry n (edit.PutProxy e i t) = 0

abbrev pub gains : List Edit → End → ℕ
gains plan x = sum_by (gain x) plan

abbrev pub entries : List Edit → Node → ℕ
entries plan n = sum_by (entry n) plan

-- if an edit puts a proxy into an end, the capacity r allows values other than objects at this end
abbrev pub Takes : Room → Edit → Type 0
Takes r (edit.Cut e v) = Unit {0}
Takes r (edit.Put l) = Unit {0}
Takes r (edit.Shift e to from) = Unit {0}
Takes r (edit.PutProxy e i t) = r.mixed e ≡ true

abbrev pub TakesAll : Room → List Edit → Type 0
TakesAll r [] = Unit {0}
TakesAll r (x ∷ xs) = Takes r x × TakesAll r xs

-- there is capacity for all that a plan adds
pub record HasRoom (r : Room) (plan : List Edit) : Type 0 where
  pub places : (e : End) → gains plan e ≤ r.places e
  pub takes : TakesAll r plan
  pub entries : (n : Node) → entries plan n ≤ r.entries n

-- the capacity has grown: by at least `values e` values for each end e, and by at least `ends n` entries for each node n. The entries of a
-- node are the ends with no opposite that have the node as a value. An end that could have values other than objects still can
pub record HasGained (values : End → ℕ) (ends : Node → ℕ) (old new : Room) : Type 0 where
  pub places : (e : End) → old.places e + values e ≤ new.places e
  pub mixed : (e : End) → old.mixed e ≡ true → new.mixed e ≡ true
  pub entries : (n : Node) → old.entries n + ends n ≤ new.entries n

abbrev pub no_values : End → ℕ
no_values e = 0

abbrev pub no_ends : Node → ℕ
no_ends n = 0
