-- An object whose containing ends are empty is above no node.
use Rattle.std.proofs.Common.{◌≡◌, ◌∙◌, ◌&&◌, ◌||◌, ◌++◌, nat_lt, Bool, true, false, List, [], ◌∷◌, cond, flat_map, length, arith, refl, sym, ap}
use Rattle.std.specs.List.{list_any}
use Rattle.std.proofs.lemmas.Bool.{true≢false, or_parts}
use Rattle.std.proofs.lemmas.Bool.Decides.{nat_tests}
use Rattle.mm_types.specs.Same.{same_node}
use Rattle.mm_types.specs.Shapes.{is_containment}
use Rattle.mm_types.specs.declared.numbers.FeatureNo.{FeatureNo}
use Rattle.mm_types.specs.declared.numbers.Node.{Node}
use Rattle.mm_types.specs.declared.numbers.Node.TheVariants as node
use Rattle.mm_types.specs.declared.numbers.ObjectNo.{ObjectNo}
use Rattle.mm_types.specs.declared.value.Value.{Value}
use Rattle.models.specs.Legal.{IsLegal}
use Rattle.models.specs.Model.{Model, reading}
use Rattle.models.specs.Reading.{Reading, all_features_of, at_end, objects_of}
use Rattle.containment.specs.Forest.{has_parts, has_parts_at, parts}
use Rattle.containment.proofs.BelowLemmas.{nothing-waits, parts-have}
use Rattle.containment.proofs.ForestLemmas.{parts-first}

empty : (vs : List Value) → nat_lt 0 (length vs) ≡ false → vs ≡ []
empty [] h = refl
empty (v ∷ vs) h = absurd (let some : nat_lt 0 (length (v ∷ vs)) ≡ true = grind (arith, nat_tests) in true≢false (sym some ∙ h))

none-at : (r : Reading) (n : Node) (f : FeatureNo) → has_parts_at r n f ≡ false → parts r n (f ∷ []) ≡ []
none-at r n f h = by (is_containment r.metamodel f) h
  where
    by : (b : Bool) → (b && nat_lt 0 (length (r.values (at_end n f)))) ≡ false → flat_map (λ g. objects_of (r.values (at_end n g))) (cond b (f ∷ []) []) ≡ []
    by true none = ap (λ (vs : List Value). objects_of vs ++ []) (empty (r.values (at_end n f)) none)
    by false none = refl

none-in : (r : Reading) (n : Node) (fs : List FeatureNo) → list_any (has_parts_at r n) fs ≡ false → parts r n fs ≡ []
none-in r n [] h = refl
none-in r n (f ∷ fs) h =
    let both = or_parts (has_parts_at r n f) (list_any (has_parts_at r n) fs) h in
    parts-first r n f fs ∙ (λ i. none-at r n f both.0 i ++ none-in r n fs both.1 i)

-- a node without a containment contains nothing
pub no-parts-at : (r : Reading) (n : Node) (fs : List FeatureNo) → list_any (is_containment r.metamodel) fs ≡ false → list_any (has_parts_at r n) fs ≡ false
no-parts-at r n [] h = refl
no-parts-at r n (f ∷ fs) h =
    let both = or_parts (is_containment r.metamodel f) (list_any (is_containment r.metamodel) fs) h in
    (λ i. (both.0 i && nat_lt 0 (length (r.values (at_end n f)))) || no-parts-at r n fs both.1 i)

-- an object that contains nothing is above no other node
pub leaf-above : (s : Model) → IsLegal s → (o : ObjectNo) (n : Node) → same_node (node.Object o) n ≡ false → has_parts (reading s) (node.Object o) ≡ false → list_any (same_node (node.Object o)) ((reading s).above n) ≡ false
leaf-above s legal o n apart none =
    sym (parts-have s legal o n apart) ∙ nothing-waits s legal _ n (none-in (reading s) (node.Object o) (all_features_of (reading s) (node.Object o)) none)
