-- Within a class no two features have one name, if no names clash.
use Rattle.std.proofs.Common.{◌≡◌, ◌∙◌, ◌<◌, ◌⊎◌, ℕ, zero, suc, List, [], ◌∷◌, Some, ap, arith, map, refl, sym, ⊎_elim, inr}
use Rattle.std.specs.Prelude.{option_and_then, option_map, slice_get}
use Rattle.std.specs.List.{slice_index_or}
use Rattle.std.proofs.lemmas.Bool.{cases_order}
use Rattle.std.proofs.lemmas.Option.{slice_get-map}
use Rattle.mm_types.specs.Clashes.{Clash}
use Rattle.mm_types.specs.Raw.{RawMetamodel}
use Rattle.mm_types.specs.Resolved.{graph_of}
use Rattle.mm_types.specs.WellFormed.{WellFormed, feature_at, own_names}
use Rattle.mm_types.specs.declared.meta_fault.Condition.TheVariants.{DuplicateName}
use Rattle.mm_types.specs.declared.meta_fault.Place.TheVariants.{Class}
use Rattle.mm_types.specs.declared.raw.RawClass.{RawClass}
use Rattle.mm_types.specs.declared.raw.RawFeature.{RawFeature}
use Rattle.mm_types.specs.Opposites.{NamesAreUnique}

names_from : (ks : List RawClass) (c i : ℕ)
    → slice_get (slice_index_or (map (λ k. map (λ f. f.name) k.features) ks) c []) i ≡ option_map (λ f. f.name) (option_and_then (λ k. slice_get k.features i) (slice_get ks c))
names_from [] c i = refl
names_from (k ∷ ks) zero i = slice_get-map (λ f. f.name) k.features i
names_from (k ∷ ks) (suc c) i = names_from ks c i

-- the names that a class declares are those of its features
pub names_at : (raw : RawMetamodel) (c i : ℕ) → slice_get (slice_index_or (own_names raw) c []) i ≡ option_map (λ f. f.name) (feature_at raw c i)
names_at raw c i = names_from raw.classes c i

name_here : (raw : RawMetamodel) (c i : ℕ) (f : RawFeature) → feature_at raw c i ≡ Some f → slice_get (slice_index_or (own_names raw) c []) i ≡ Some f.name
name_here raw c i f at = names_at raw c i ∙ ap (option_map (λ (g : RawFeature). g.name)) at

apart_clash : (raw : RawMetamodel) (c i j : ℕ) (f g : RawFeature) → feature_at raw c i ≡ Some f → feature_at raw c j ≡ Some g → f.name ≡ g.name → i < j
    → Clash (graph_of raw.classes) (own_names raw) c
apart_clash raw c i j f g at_i at_j same below = record {
  one = c;
  index = i;
  other = c;
  other_index = j;
  name = f.name;
  one_reached = (0, refl);
  other_reached = (0, refl);
  here = name_here raw c i f at_i;
  there = name_here raw c j g at_j ∙ ap Some (sym same);
  apart = λ e. (let h : i ≡ j = e.1 in omega arith);
}

pub unique : (raw : RawMetamodel) → ((c : ℕ) → Clash (graph_of raw.classes) (own_names raw) c → ⊥) → NamesAreUnique raw
unique raw none c i j f g at_i at_j same = ⊎_elim
    (λ (e : i ≡ j). e)
    (λ (s : (i < j) ⊎ (j < i)). ⊎_elim
    (λ (h : i < j). absurd (none c (apart_clash raw c i j f g at_i at_j same h)))
    (λ (h : j < i). absurd (none c (apart_clash raw c j i g f at_j at_i (sym same) h))) s)
    (cases_order i j)

pub unique_names : (raw : RawMetamodel) → WellFormed raw → NamesAreUnique raw
unique_names raw well = unique raw (λ c clash. well DuplicateName (Class c) (inr clash))
