-- The roots of a resource are the objects of its end, in order, and they live.
use Rattle.std.proofs.Common.{◌≡◌, ℕ, true, List, [], ◌∷◌, ◌++◌, length, slice_get, Option, option_to_list, arith, refl, ap, ◌∙◌}
use Rattle.std.specs.Prelude.{IsTrue, option_and_then}
use Rattle.std.specs.List.{list_all}
use Rattle.std.specs.Option.{option_map_or}
use Rattle.std.proofs.lemmas.Bool.{and_parts}
use Rattle.std.proofs.lemmas.Option.{slice_get_past}
use Rattle.mm_types.specs.Lookups as lookups
use Rattle.mm_types.specs.Resolved.{Metamodel}
use Rattle.mm_types.specs.Shapes.{contents_shape, shape, shape_of}
use Rattle.mm_types.specs.declared.feature.Feature.{Feature}
use Rattle.mm_types.specs.declared.end.End.{End}
use Rattle.mm_types.specs.declared.numbers.ObjectNo.{ObjectNo}
use Rattle.mm_types.specs.declared.value.Value.{Value}
use Rattle.mm_types.specs.declared.value.Value.TheVariants as value
use Rattle.mm_values.specs.Values.{class_of}
use Rattle.links.specs.Links as links
use Rattle.links.specs.Links.{end}
use Rattle.models.specs.Legal.{IsLegal, is_legal_end, is_legal_target}
use Rattle.models.specs.Model.{Model, reading, values_at}
use Rattle.models.specs.Reading.{is_live, objects_of, roots_end}
use Rattle.mm_types.specs.declared.numbers.ResourceNo.{ResourceNo}
use Rattle.fragment_paths.specs.Finding.{roots}
use Rattle.containment.proofs.PartLemmas.{taken-live, values-linked}

-- an object that is pushed is the object at its index
pub pushed-at : (vs : List Value) (k : ℕ) (x : Option ObjectNo) (out new : List ObjectNo) → x ≡ option_and_then links.object_of (slice_get vs k) → new ≡ out ++ option_to_list x → new ≡ out ++ option_to_list (option_and_then links.object_of (slice_get vs k))
pushed-at vs k x out new at made = made ∙ ap (λ (y : Option ObjectNo). out ++ option_to_list y) at

---------------------------------------------------------------- who lives

live-objects : (m : Model) (e : End) (vs : List Value) → list_all (is_legal_target (reading m) e.feature) vs ≡ true → list_all (is_live (reading m)) (objects_of vs) ≡ true
live-objects m e [] h = refl
live-objects m e (value.Object o ∷ vs) h =
    let both = and_parts (is_legal_target (reading m) e.feature (value.Object o)) (list_all (is_legal_target (reading m) e.feature) vs) h in
    rw (taken-live m.metamodel (class_of m.values) e.feature o both.0) (live-objects m e vs both.1)
live-objects m e (v ∷ vs) h = live-objects m e vs (and_parts (is_legal_target (reading m) e.feature v) _ h).1

live-end : (m : Model) (e : End) (vs : List Value) → IsTrue (is_legal_end (reading m) e vs) → list_all (is_live (reading m)) (objects_of vs) ≡ true
live-end m e [] h = refl
live-end m e (v ∷ vs) h = live-objects m e (v ∷ vs) (and_parts _ _ (and_parts _ _ h).1).0

-- an object at an end of a reference lives
pub all-live : (s : Model) (e : End) → IsLegal s → (shape s.metamodel e.feature).is_reference ≡ true → list_all (is_live (reading s)) (objects_of (values_at s e)) ≡ true
all-live s e legal reference = ap (λ (vs : List Value). list_all (is_live (reading s)) (objects_of vs)) (values-linked s e reference) ∙ live-end s e (end s.links e) (legal.links.ends e)

contents-refers : (m : Metamodel) → (shape m (lookups.contents m)).is_reference ≡ true
contents-refers m = ap (λ (x : Option Feature). (option_map_or (λ g. shape_of m (lookups.contents m) g g.kind) x (contents_shape m)).is_reference) (slice_get_past m.features (length m.features) (omega arith))

-- the roots of a resource live
pub roots-live : (s : Model) (k : ResourceNo) → IsLegal s → list_all (is_live (reading s)) (roots (reading s) k) ≡ true
roots-live s k legal = all-live s (roots_end (reading s) k) legal (contents-refers s.metamodel)
