-- What a node contains, feature by feature.
use Rattle.std.proofs.Common.{◌≡◌, ◌<◌, ◌≤◌, ◌+◌, ℕ, Option, slice_get, option_and_then, option_to_list, true, false, cond, length, drop, slice_index_or, append_assoc, List, [], ◌∷◌, ◌++◌, filter, flat_map, refl, ap, sym, ◌∙◌}
use Rattle.std.specs.List.{list_any}
use Rattle.std.proofs.lemmas.Bool.{false≢true, false_from_ne_true, or_left, or_right}
use Rattle.std.proofs.lemmas.List.{append-nil, drop_all, drop_more}
use Rattle.std.proofs.lemmas.Option.{slice_get-get_or}
use Rattle.mm_types.specs.Shapes.{is_containment}
use Rattle.mm_types.specs.declared.numbers.FeatureNo.{FeatureNo}
use Rattle.mm_types.specs.declared.numbers.ObjectNo.{ObjectNo}
use Rattle.mm_types.specs.declared.numbers.Node.{Node}
use Rattle.mm_types.specs.declared.value.Value.{Value}
use Rattle.mm_types.specs.declared.value.Value.TheVariants as value
use Rattle.links.specs.Links as links
use Rattle.models.specs.Reading.{Reading, at_end, objects_of}
use Rattle.containment.specs.Forest.{parts}

-- the parts by the first feature come before the parts by the others
pub parts-first : (r : Reading) (n : Node) (f : FeatureNo) (fs : List FeatureNo) → parts r n (f ∷ fs) ≡ parts r n (f ∷ []) ++ parts r n fs
parts-first r n f fs =
    let m = r.metamodel in
    let held = λ (g : FeatureNo). objects_of (r.values (at_end n g)) in
    elim (is_containment m f) as (λ c. flat_map held (cond c (f ∷ filter (is_containment m) fs) (filter (is_containment m) fs)) ≡ flat_map held (cond c (f ∷ []) []) ++ parts r n fs) [
      | true ↦ ap (λ (os : List ObjectNo). os ++ parts r n fs) (sym (append-nil (held f)))
      | false ↦ refl
    ]

-- without a containment there are no parts
pub no-parts : (r : Reading) (n : Node) (fs : List FeatureNo) → list_any (is_containment r.metamodel) fs ≡ false → parts r n fs ≡ []
no-parts r n [] plain = refl
no-parts r n (f ∷ fs) plain =
    let m = r.metamodel in
    let held = λ (g : FeatureNo). objects_of (r.values (at_end n g)) in
    let here = false_from_ne_true (is_containment m f) (λ q. false≢true (sym plain ∙ or_left (is_containment m f) (list_any (is_containment m) fs) q)) in
    let later = false_from_ne_true (list_any (is_containment m) fs) (λ q. false≢true (sym plain ∙ or_right (is_containment m f) (list_any (is_containment m) fs) q)) in
    ap (λ c. flat_map held (cond c (f ∷ filter (is_containment m) fs) (filter (is_containment m) fs))) here ∙ no-parts r n fs later

-- one feature further
pub parts-step : (r : Reading) (n : Node) (fs : List FeatureNo) (i : ℕ) (d : FeatureNo) (out new all : List ObjectNo) → i < length fs
    → new ≡ out ++ parts r n (slice_index_or fs i d ∷ []) → out ++ parts r n (drop i fs) ≡ all → new ++ parts r n (drop (i + 1) fs) ≡ all
parts-step r n fs i d out new all low made whole =
    ap (λ os. os ++ parts r n (drop (i + 1) fs)) made
    ∙ append_assoc out (parts r n (slice_index_or fs i d ∷ [])) (parts r n (drop (i + 1) fs))
    ∙ ap (λ os. out ++ os) (sym (parts-first r n (slice_index_or fs i d) (drop (i + 1) fs)) ∙ ap (parts r n) (sym (drop_more fs i d low)))
    ∙ whole

---------------------------------------------------------------- the objects of one end

objects-first : (v : Value) (vs : List Value) → objects_of (v ∷ vs) ≡ option_to_list (links.object_of v) ++ objects_of vs
objects-first (value.Object o) vs = refl
objects-first _ vs = refl

-- one index further
pub objects-step : (vs : List Value) (k : ℕ) (out new all : List ObjectNo) → k < length vs → new ≡ out ++ option_to_list (option_and_then links.object_of (slice_get vs k))
    → out ++ objects_of (drop k vs) ≡ all → new ++ objects_of (drop (k + 1) vs) ≡ all
objects-step vs k out new all low made whole =
    let v = slice_index_or vs k value.Null in
    ap (λ os. os ++ objects_of (drop (k + 1) vs)) (made ∙ ap (λ (x : Option Value). out ++ option_to_list (option_and_then links.object_of x)) (slice_get-get_or vs k value.Null low))
    ∙ append_assoc out (option_to_list (links.object_of v)) (objects_of (drop (k + 1) vs))
    ∙ ap (λ os. out ++ os) (sym (objects-first v (drop (k + 1) vs)) ∙ ap objects_of (sym (drop_more vs k value.Null low)))
    ∙ whole

pub objects-end : (vs : List Value) (k : ℕ) (out all : List ObjectNo) → length vs ≤ k → out ++ objects_of (drop k vs) ≡ all → out ≡ all
objects-end vs k out all past whole = sym (ap (λ (ws : List Value). out ++ objects_of ws) (drop_all k vs past) ∙ append-nil out) ∙ whole
