-- Look-ups in the tables of a resolver.
use Rattle.std.proofs.Common.{◌≡◌, ◌∙◌, ◌<◌, ◌≤◌, ◌&&◌, ◌^◌, ℕ, zero, suc, Bool, true, false, List, [], ◌∷◌, length, map, Option, Some, None, ap, arith, get_or, refl, subst, sym, codes, Bor}
use Rattle.std.specs.Prelude.{option_and_then, option_map, position, slice_get, IsTrue}
use Rattle.std.specs.List.{ItemBy, list_all}
use Rattle.std.specs.Option.{option_copied}
use Rattle.std.specs.Str.{bytes_eq}
use Rattle.std.proofs.lemmas.Bool.Decides.{nat_tests}
use Rattle.std.proofs.lemmas.List.{get_or_default}
use Rattle.std.proofs.lemmas.List.Quantifiers.{position-Some}
use Rattle.std.proofs.lemmas.Option.{slice_get-map, slice_get_past, slice_get_read}
use Rattle.mm_types.specs.Raw.{RawMetamodel, class_fits, enum_fits, is_within_limits}
use Rattle.mm_types.specs.Graph.{by_class}
use Rattle.mm_types.specs.Resolved.{data_type_named, enum_named, own_position}
use Rattle.mm_types.specs.declared.class.Enumeration.{Enumeration}
use Rattle.mm_types.specs.declared.feature.DataType.TheVariants.{Enum}
use Rattle.mm_types.specs.declared.raw.RawClass.{RawClass}
use Rattle.mm_meta.proofs.NameLemmas.{position-map}

-- a name that no data type has is at most the name of an enumeration
pub not_primitive : (enums : List Enumeration) (name : List ℕ) → bytes_eq name (codes "EString") ≡ false → bytes_eq name (codes "EInt") ≡ false → bytes_eq name (codes "ELong") ≡ false
    → bytes_eq name (codes "EBoolean") ≡ false → data_type_named enums name ≡ option_map Enum (enum_named enums name)
not_primitive enums name a b c d = rw (a, b, c, d) refl

and_then-map : {X Y Z : Type 0} (f : Y → Option Z) (g : X → Y) (o : Option X) → option_and_then f (option_map g o) ≡ option_and_then (λ x. f (g x)) o
and_then-map f g None = refl
and_then-map f g (Some x) = refl

-- a name among the names of the item at an index
pub named_at : {X : Type 0} (names_of : X → List (List ℕ)) (xs : List X) (i : ℕ) (name : List ℕ)
    → option_and_then (position (λ n. bytes_eq n name)) (slice_get (map names_of xs) i) ≡ option_and_then (λ x. position (λ n. bytes_eq n name) (names_of x)) (slice_get xs i)
named_at names_of xs i name = ap (option_and_then (position (λ n. bytes_eq n name))) (slice_get-map names_of xs i) ∙ and_then-map (position (λ n. bytes_eq n name)) names_of (slice_get xs i)

-- `get` borrows the item at the index
pub got : {X : Type 0} (xs : List X) (i : ℕ) (r : Option (Bor X)) → ItemBy (λ (x : Bor X). x.now) xs i i r → option_copied r ≡ slice_get xs i
got xs i None is = sym (slice_get_past xs i is.3)
got xs i (Some x) is = sym (slice_get_read xs (length xs) i x.now refl is.3.0 is.1)

-- the position of a name among the names that a class declares is that among its features
pub own_at : (classes : List RawClass) (c : ℕ) (name : List ℕ)
    → option_and_then (position (λ n. bytes_eq n name)) (slice_get (map (λ k. map (λ f. f.name) k.features) classes) c) ≡ own_position classes c name
own_at classes c name = named_at (λ k. map (λ f. f.name) k.features) classes c name ∙ shown (slice_get classes c)
  where
    shown : (o : Option RawClass)
        → option_and_then (λ k. position (λ n. bytes_eq n name) (map (λ f. f.name) k.features)) o ≡ option_and_then (λ k. position (λ f. bytes_eq f.name name) k.features) o
    shown None = refl
    shown (Some k) = position-map (λ n. bytes_eq n name) (λ f. f.name) k.features

both : (a b : Bool) → (a && b) ≡ true → (a ≡ true) × (b ≡ true)
both true b h = (refl, h)
both false b h = cc

pub few_features : (k : RawClass) → class_fits k ≡ true → length k.features ≤ 256
few_features k h = grind (arith, nat_tests)

all_at : {X : Type 0} (p : X → Bool) (xs : List X) (i : ℕ) (x : X) → list_all p xs ≡ true → slice_get xs i ≡ Some x → p x ≡ true
all_at p [] i x all is = cc
all_at p (y ∷ ys) zero x all is = let e : y ≡ x = cc in subst (λ z. p z ≡ true) e (both _ _ all).0
all_at p (y ∷ ys) (suc i) x all is = all_at p ys i x (both _ _ all).1 is

-- the number of a literal is small
pub literal_low : (raw : RawMetamodel) (e : ℕ) (name : List ℕ) (i : ℕ) → IsTrue (is_within_limits raw)
    → option_and_then (λ en. position (λ n. bytes_eq n name) en.literals) (slice_get raw.enums e) ≡ Some i → i < 2 ^ 32
literal_low raw e name i within is = few (slice_get raw.enums e) refl is
  where
    few : (o : Option Enumeration) → slice_get raw.enums e ≡ o → option_and_then (λ en. position (λ n. bytes_eq n name) en.literals) o ≡ Some i → i < 2 ^ 32
    few None at found = cc
    few (Some en) at found =
        let all : list_all enum_fits raw.enums ≡ true = grind (arith, nat_tests) in
        let fit : enum_fits en ≡ true = all_at enum_fits raw.enums e en all at in
        let small : length en.literals ≤ 1000 = grind (arith, nat_tests) in
        let low : i < length en.literals = (position-Some (λ n. bytes_eq n name) en.literals i [] found).0 in
        omega arith

-- the row that was read
pub row_read : (table rows : List (List ℕ)) (c : ℕ) (r : List ℕ) → rows ≡ table → c < length rows → r ≡ get_or rows c r → by_class table c ≡ r
row_read table rows c r same low is = rw (← same) (get_or_default rows c [] r low ∙ sym is)
