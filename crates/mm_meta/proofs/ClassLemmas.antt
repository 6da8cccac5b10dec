-- The rows of classes: their lengths, and that their numbers are small.
use Rattle.std.proofs.Common.{◌≡◌, ◌∙◌, ◌+◌, ◌<◌, ◌≤◌, ◌^◌, ℕ, suc, List, [], ◌∷◌, Option, Some, None, ap, arith, get_or, length, refl, subst, sym}
use Rattle.std.specs.Prelude.{IsTrue}
use Rattle.std.specs.List.{All, cons_option, filter_map}
use Rattle.std.specs.Str.{bytes_eq}
use Rattle.std.proofs.lemmas.Bool.Decides.{nat_tests}
use Rattle.std.proofs.lemmas.List.{length-map}
use Rattle.std.proofs.lemmas.List.Elements.{All-cons, All-map, All-nil}
use Rattle.std.proofs.lemmas.List.Quantifiers.{position-Some}
use Rattle.mm_types.specs.Graph.{by_class}
use Rattle.mm_types.specs.Raw.{RawMetamodel, is_within_limits}
use Rattle.mm_types.specs.Resolved.{class_named, graph_of, own_from}
use Rattle.mm_types.specs.declared.raw.RawClass.{RawClass}
use Rattle.mm_graph.specs.Order.{InRange}

named_within : (cs : List RawClass) (n : List ℕ) (c : ℕ) → class_named cs n ≡ Some c → c < length cs
named_within [] n c h = cc
named_within (d ∷ ds) n c h = (position-Some (λ x. bytes_eq x.name n) (d ∷ ds) c d h).0

named_more : (cs : List RawClass) (n : List ℕ) (rest : List ℕ) (o : Option ℕ) → class_named cs n ≡ o → All (λ (c : ℕ). c < length cs) rest
    → All (λ (c : ℕ). c < length cs) (cons_option o rest)
named_more cs n rest None is h = h
named_more cs n rest (Some c) is h = All-cons (λ (c : ℕ). c < length cs) c rest (named_within cs n c is) h

all_named : (cs : List RawClass) (ns : List (List ℕ)) → All (λ (c : ℕ). c < length cs) (filter_map (class_named cs) ns)
all_named cs [] = All-nil (λ (c : ℕ). c < length cs)
all_named cs (n ∷ ns) = named_more cs n (filter_map (class_named cs) ns) (class_named cs n) refl (all_named cs ns)

-- each supertype that is named is a class
pub graph_in_range : (cs : List RawClass) → InRange (graph_of cs)
graph_in_range cs k d low =
    let supers : RawClass → List ℕ = λ (c : RawClass). filter_map (class_named cs) c.supers in
    subst (λ (n : ℕ). All (λ (e : ℕ). e < n) (get_or (graph_of cs) k d)) (sym (length-map cs supers))
    (All-map (λ (es : List ℕ). All (λ (e : ℕ). e < length cs) es) supers cs (λ i x less. all_named cs (get_or cs i x).supers) k d low)

pub length-own_from : (first : ℕ) (cs : List RawClass) → length (own_from first cs) ≡ length cs
length-own_from first [] = refl
length-own_from first (c ∷ cs) = ap suc (length-own_from (first + length c.features) cs)

-- a number of 32 bits
abbrev pub IsSmall : ℕ → Type 0
IsSmall n = n < 2 ^ 32

pub few_classes : (raw : RawMetamodel) → IsTrue (is_within_limits raw) → length raw.classes ≤ 1000
few_classes raw within = grind (arith, nat_tests)

pub small_supers : (raw : RawMetamodel) (c : ℕ) → IsTrue (is_within_limits raw) → c < length raw.classes → All IsSmall (by_class (graph_of raw.classes) c)
small_supers raw c within inside k d low =
    let supers : RawClass → List ℕ = λ (c : RawClass). filter_map (class_named raw.classes) c.supers in
    let long : length (graph_of raw.classes) ≡ length raw.classes = length-map raw.classes supers in
    let few : length raw.classes ≤ 1000 = few_classes raw within in
    let below : get_or (by_class (graph_of raw.classes) c) k d < length (graph_of raw.classes) = graph_in_range raw.classes c [] (omega arith) k d low in
    omega arith

pub long_graph : (cs : List RawClass) (g : List (List ℕ)) → g ≡ graph_of cs → length g ≡ length cs
long_graph cs g is = ap length is ∙ length-map cs (λ c. filter_map (class_named cs) c.supers)
