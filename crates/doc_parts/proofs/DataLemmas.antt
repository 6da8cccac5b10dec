-- Lists of JSON values, and tests of mapped lists.
use Rattle.std.proofs.Common.{◌≡◌, ◌∙◌, Bool, List, [], ◌∷◌, Option, Some, None, ap, map, refl}
use Rattle.std.specs.Prelude.{◌&&◌, ◌||◌, false, unwrap_or}
use Rattle.std.specs.List.{cons_option, filter_map, list_all, list_any}
use Rattle.std.specs.Option.{option_map_or}
use Rattle.serde_json.specs.Data.{Data, Members}
use Rattle.serde_json.specs.View.{items_of}
use Rattle.mm_types.specs.Lookups as lookups
use Rattle.mm_types.specs.Resolved.{Metamodel}
use Rattle.mm_types.specs.declared.numbers.ClassNo.{ClassNo}
use Rattle.mm_types.specs.declared.numbers.FeatureNo.{FeatureNo}
use Rattle.doc_parts.specs.Parts.{entries_in, entry_at, list_of}

pub list_of-items_of : (ds : List Data) → list_of (items_of ds) ≡ ds
list_of-items_of [] = refl
list_of-items_of (d ∷ ds) = ap (λ xs. d ∷ xs) (list_of-items_of ds)

pub list_all-map : {X Y : Type 0} (f : X → Y) (p : Y → Bool) (xs : List X) → list_all p (map f xs) ≡ list_all (λ x. p (f x)) xs
list_all-map f p [] = refl
list_all-map f p (x ∷ xs) = ap (λ b. p (f x) && b) (list_all-map f p xs)

pub list_any-map : {X Y : Type 0} (f : X → Y) (p : Y → Bool) (xs : List X) → list_any p (map f xs) ≡ list_any (λ x. p (f x)) xs
list_any-map f p [] = refl
list_any-map f p (x ∷ xs) = ap (λ b. p (f x) || b) (list_any-map f p xs)

any_at : {Y : Type 0} (p : Y → Bool) (o : Option Y) (ys : List Y) → list_any p (cons_option o ys) ≡ option_map_or p o false || list_any p ys
any_at p None ys = refl
any_at p (Some y) ys = refl

---------------------------------------------------------------- what is written under the features of a class

-- the entries of an object whose class exists
pub entries_of_known : (m : Metamodel) (o : Option (ClassNo × Members)) (c : ClassNo) (ms : Members) (fs : List FeatureNo) → Some (c, ms) ≡ o → Some fs ≡ lookups.features m c
    → filter_map (entry_at m ms) fs ≡ option_map_or (λ k. entries_in m k.0 k.1) o []
entries_of_known m o c ms fs is features = ap (λ x. filter_map (entry_at m ms) (unwrap_or x [])) features ∙ ap (λ x. option_map_or (λ k. entries_in m k.0 k.1) x []) is
