-- All features of a class, by those of its direct supertypes.
use Rattle.std.proofs.Common.{◌≡◌, ◌∙◌, ◌<◌, List, [], ◌∷◌, ℕ, suc, ap, arith, get_or, length, refl, sym}
use Rattle.std.specs.List.{flat_map}
use Rattle.std.proofs.lemmas.List.{get_or_default}
use Rattle.mm_types.specs.Graph.{by_class}
use Rattle.mm_types.specs.Features.{all_features, first_occurrences, listed_features, with_new}
use Rattle.mm_graph.specs.Order.{IsOrder}
use Rattle.mm_graph.specs.Rows.{from_supers}
use Rattle.mm_graph.proofs.Merging.{same_listed, with_new-append, with_new_firsts}

-- each of the lists may be replaced by its first occurrences
flat_firsts : (f : ℕ → List ℕ) (seen es : List ℕ)
    → with_new seen (flat_map (λ e. first_occurrences (f e)) es) ≡ with_new seen (flat_map f es)
flat_firsts f seen [] = refl
flat_firsts f seen (e ∷ es) =
    with_new-append seen (first_occurrences (f e)) (flat_map (λ e. first_occurrences (f e)) es)
    ∙ (ap (λ s. with_new s (flat_map (λ e. first_occurrences (f e)) es)) (with_new_firsts seen (f e))
    ∙ (flat_firsts f (with_new seen (f e)) es ∙ sym (with_new-append seen (f e) (flat_map f es))))

at_place : (g own : List (List ℕ)) (order : List ℕ) (j : ℕ) → IsOrder g order → j < length order
    → all_features g own (get_or order j 0) ≡ from_supers g own (get_or order j 0)
unfolding all_features
at_place g own order j o within =
    let c = get_or order j 0 in
    let n = length g in
    ap first_occurrences (same_listed g own order o n (suc n) j (omega (arith, o.long)) (omega (arith, o.long)) within)
    ∙ (with_new-append [] (flat_map (listed_features g own n) (by_class g c)) (by_class own c)
    ∙ (ap (λ s. with_new s (by_class own c)) (sym (flat_firsts (listed_features g own n) [] (by_class g c)))
    ∙ sym (with_new-append [] (flat_map (λ e. first_occurrences (listed_features g own n e)) (by_class g c)) (by_class own c))))

pub all_features_is : (g own : List (List ℕ)) (order : List ℕ) → IsOrder g order → (c : ℕ) → c < length g
    → all_features g own c ≡ from_supers g own c
all_features_is g own order o c low =
    let p = o.every c low in
    let at : get_or order p.0 0 ≡ c = get_or_default order p.0 0 c p.1 ∙ p.2 in
    rw (← at) (at_place g own order p.0 o p.1)
