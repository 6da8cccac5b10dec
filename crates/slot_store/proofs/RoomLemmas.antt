-- A store with capacity for a put has the rows that the put names.
use Rattle.std.proofs.Common.{◌≡◌, ℕ, Bool, true, false, IfSome, List, [], ◌∷◌, Option, Some, None, if◌then◌else◌, sym, ap, subst, arith}
use Rattle.mm_types.specs.Same.{node_value, same_end, same_feature}
use Rattle.mm_types.specs.declared.numbers.FeatureNo.{FeatureNo}
use Rattle.mm_types.specs.declared.numbers.Node.{Node}
use Rattle.mm_types.specs.declared.numbers.Node.TheVariants as node
use Rattle.mm_types.specs.declared.numbers.ObjectNo.{ObjectNo}
use Rattle.mm_types.specs.declared.end.End.{End}
use Rattle.mm_types.specs.declared.value.Value.{Value}
use Rattle.mm_types.proofs.SameLemmas.{same_end-self, same_node-self}
use Rattle.links.specs.declared.plan.Edit.{Edit}
use Rattle.links.specs.declared.plan.Edit.TheVariants as edit
use Rattle.links.specs.LegalSets.{IsObject}
use Rattle.links.specs.Links.{Links, far_end}
use Rattle.links.specs.Plans.{EditFits, FarFitsIn, put_of}
use Rattle.end_values.specs.EndValues.{CanHave}
use Rattle.node_slots.specs.declared.node_slots.NodeSlots.{NodeSlots}
use Rattle.node_slots.specs.declared.node_slots.growth.PutPlaces.{PutPlaces}
use Rattle.node_slots.specs.Cells.{room, row_index_of}
use Rattle.node_slots.specs.Growth.{HasRoom, far_gain, lone_entry, one_if}
use Rattle.node_slots.proofs.KeyLemmas.{known_entries, known_places}
use Rattle.slot_store.specs.EditedCells.{HasHeldRow, PairsObject, PutsObject, held_far, held_node, held_row_index}

-- an end can have an object, even if it can have only objects
pub can_have_node : (mixed : Bool) (n : Node) (v : Value) → IsObject n → v ≡ node_value n → CanHave mixed v
can_have_node mixed (node.Object o) v is same = subst (CanHave mixed) (sym same) tt
can_have_node mixed (node.Resource r) v is same = absurd is

-- an edit that fits puts no resource into an end
pub fits_object : (s : Links) (x : Edit) → EditFits s x → PutsObject x
fits_object s (edit.Cut e v) fits = tt
fits_object s (edit.Put l) fits = by l.opposite fits.1
  where
    by : (g : Option FeatureNo) → FarFitsIn s l.end l.object g → PairsObject l.end g
    by None far = tt
    by (Some g) far = far.object
fits_object s (edit.Shift e to from) fits = tt
fits_object s (edit.PutProxy e i t) fits = tt

-- the end into which a value is put has a row
pub near_row : (t : NodeSlots) (e : End) (i : ℕ) (o : ObjectNo) (g h : Option FeatureNo) → HasRoom (room t) (put_of e i o g h ∷ []) → (room t).rows e.node ≡ true
near_row t e i o g h has =
    let one : one_if (same_end e e) ≡ 1 = ap one_if (same_end-self e) in
    known_places t e (omega (arith, has.places e, one))

-- an end into which a proxy is put has a row too
pub proxy_row : (t : NodeSlots) (e : End) (i : ℕ) (text : List ℕ) → HasRoom (room t) (edit.PutProxy e i text ∷ []) → (room t).rows e.node ≡ true
proxy_row t e i text has =
    let one : one_if (same_end e e) ≡ 1 = ap one_if (same_end-self e) in
    known_places t e (omega (arith, has.places e, one))

-- the object has a row too
pub far_row : (t : NodeSlots) (e : End) (i : ℕ) (o : ObjectNo) (g h : Option FeatureNo) → HasRoom (room t) (put_of e i o g h ∷ []) → (room t).rows (node.Object o) ≡ true
far_row t e i o None h has =
    let one : lone_entry o None (node.Object o) ≡ 1 = ap one_if (same_node-self (node.Object o)) in
    known_entries t (node.Object o) (omega (arith, has.entries (node.Object o), one))
far_row t e i o (Some g) h has =
    let one : far_gain o (Some g) (far_end o g) ≡ 1 = ap one_if (same_end-self (far_end o g)) in
    known_places t (far_end o g) (omega (arith, has.places (far_end o g), one))

pub held_row : (t : NodeSlots) (x : Edit) (e : End) (i : ℕ) (o : ObjectNo) (g h : Option FeatureNo) → x ≡ put_of e i o g h → HasRoom (room t) (x ∷ []) → HasHeldRow (held_node e o g h) (room t)
held_row t x e i o g h is has = row h (subst (λ (y : Edit). HasRoom (room t) (y ∷ [])) is has)
  where
    row_far : (k : Option FeatureNo) (f : FeatureNo) → HasRoom (room t) (put_of e i o g h ∷ []) → HasHeldRow (held_far e o k f) (room t)
    row_far None f has = tt
    row_far (Some k) f has = elim (same_feature k f) as (λ b. HasHeldRow (if b then Some (e.node, far_end o k) else None) (room t)) [
      | true ↦ near_row t e i o g h has
      | false ↦ tt
    ]

    row : (c : Option FeatureNo) → HasRoom (room t) (put_of e i o g h ∷ []) → HasHeldRow (held_node e o g c) (room t)
    row None has = tt
    row (Some f) has = elim (same_feature e.feature f) as (λ b. HasHeldRow (if b then Some (node.Object o, e) else held_far e o g f) (room t)) [
      | true ↦ far_row t e i o g h has
      | false ↦ row_far g f has
    ]

-- the contained node has its row at the index that was looked up
pub held_at : (t : NodeSlots) (p : PutPlaces) (e : End) (o : ObjectNo) (g h : Option FeatureNo) → row_index_of t e.node ≡ Some p.near → row_index_of t (node.Object o) ≡ Some p.far → IfSome {T = Node × End} (held_node e o g h) (λ q. row_index_of t q.0 ≡ Some (held_row_index p e h))
held_at t p e o g None near far = tt
held_at t p e o g (Some f) near far = elim (same_feature e.feature f) as (λ b. IfSome {T = Node × End} (if b then Some (node.Object o, e) else held_far e o g f) (λ q. row_index_of t q.0 ≡ Some (if b then p.far else p.near))) [
  | true ↦ far
  | false ↦ by g
]
  where
    by : (k : Option FeatureNo) → IfSome {T = Node × End} (held_far e o k f) (λ q. row_index_of t q.0 ≡ Some p.near)
    by None = tt
    by (Some k) = elim (same_feature k f) as (λ b. IfSome {T = Node × End} (if b then Some (e.node, far_end o k) else None) (λ q. row_index_of t q.0 ≡ Some p.near)) [ true ↦ near | false ↦ tt ]
