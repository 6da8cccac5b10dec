-- The values that are written under the features of a class are found under their names, since no two features share a name.
use Rattle.std.proofs.Common.{◌≡◌, ◌∙◌, ◌&&◌, ℕ, Bool, true, false, cond, not, List, [], ◌∷◌, Option, Some, None, map, filter, filter_map, option_map, refl, sym, ap, if◌then◌else◌}
use Rattle.std.specs.Prelude.{unwrap_or}
use Rattle.std.specs.List.{AllByRecursion, IsDistinct, cons_option}
use Rattle.serde_json.specs.Data.{Data, Members, no_members, put}
use Rattle.serde_json.specs.Find.{get_member}
use Rattle.serde_json.proofs.Views.{get_member-put, get_member-put_other}
use Rattle.mm_types.specs.Lookups as lookups
use Rattle.mm_types.specs.OfDocument.{IsOfDocument}
use Rattle.mm_types.specs.Resolved.{Metamodel}
use Rattle.mm_types.specs.Same.{same_feature}
use Rattle.mm_types.specs.declared.numbers.ClassNo.{ClassNo}
use Rattle.mm_types.specs.declared.numbers.FeatureNo.{FeatureNo}
use Rattle.doc_parts.specs.Parts.{Entry, content_at, entry_at, new_entry}
use Rattle.mm_meta.proofs.FeatureListLemmas.{class-features, one-name}
use Rattle.doc_writer.specs.Document.{members_with}
use Rattle.round_trip.proofs.PartsListLemmas.{all-both, all-more}

-- a name that no feature has
abbrev IsOther : (FeatureNo → List ℕ) → List ℕ → List FeatureNo → Type 0
IsOther name n fs = AllByRecursion (λ f. n ≡ name f → ⊥) fs

-- no two features share a name
abbrev pub NamesAreApart : (FeatureNo → List ℕ) → List FeatureNo → Type 0
NamesAreApart name [] = Unit {0}
NamesAreApart name (f ∷ fs) = IsOther name (name f) fs × NamesAreApart name fs

module _ (m : Metamodel) (d : IsOfDocument m) (c : ClassNo) where
  abbrev IsOwn : FeatureNo → Type 0
  IsOwn f = lookups.has_feature m c f ≡ true

  apart-names : (fs : List FeatureNo) → AllByRecursion IsOwn fs → IsDistinct same_feature fs → NamesAreApart (lookups.feature_name m) fs
  unfolding IsDistinct
  apart-names [] own distinct = tt
  apart-names (f ∷ fs) own distinct = (
    all-both (λ g. same_feature f g ≡ false) IsOwn (λ g. lookups.feature_name m f ≡ lookups.feature_name m g → ⊥) fs (λ g other b. one-name m d c f g own.0 other b) distinct.0 own.1,
    apart-names fs own.1 distinct.1,
  )

  -- no two features of a class share a name
  pub names-apart : IsDistinct same_feature (unwrap_or (lookups.features m c) []) → NamesAreApart (lookups.feature_name m) (unwrap_or (lookups.features m c) [])
  names-apart distinct = apart-names (unwrap_or (lookups.features m c) []) (class-features m c) distinct

---------------------------------------------------------------- members

module _ (name : FeatureNo → List ℕ) (content : FeatureNo → Data) (written : FeatureNo → Bool) where
  -- the members of the features that are written, put among other members
  abbrev filled : Members → List FeatureNo → Members
  filled old fs = members_with old (map (λ f. (name f, content f)) (filter written fs))

  other-kept : (n : List ℕ) (old : Members) (fs : List FeatureNo) → IsOther name n fs → get_member n (filled old fs) ≡ get_member n old
  other-kept n old [] other = refl
  other-kept n old (f ∷ fs) other = elim (written f) as (λ b. get_member n (members_with old (map (λ g. (name g, content g)) (cond b (f ∷ filter written fs) (filter written fs)))) ≡ get_member n old) [
    | true ↦ other-kept n (put (name f) (content f) old) fs other.1 ∙ get_member-put_other n (name f) (content f) old other.0
    | false ↦ other-kept n old fs other.1
  ]

  -- each feature that is written is found by its name, and no other
  all-found : (old : Members) (fs : List FeatureNo) → NamesAreApart name fs → AllByRecursion (λ f. get_member (name f) (filled old fs) ≡ cond (written f) (Some (content f)) (get_member (name f) old)) fs
  all-found old [] apart = tt
  all-found old (f ∷ fs) apart =
      let all = λ (b : Bool). members_with old (map (λ g. (name g, content g)) (cond b (f ∷ filter written fs) (filter written fs))) in
      let new = put (name f) (content f) old in
      elim (written f) as (λ b. (get_member (name f) (all b) ≡ cond b (Some (content f)) (get_member (name f) old)) × AllByRecursion (λ g. get_member (name g) (all b) ≡ cond (written g) (Some (content g)) (get_member (name g) old)) fs) [
        | true ↦ (
          other-kept (name f) new fs apart.0 ∙ get_member-put (name f) (content f) old,
          all-both (λ g. name f ≡ name g → ⊥) (λ g. get_member (name g) (filled new fs) ≡ cond (written g) (Some (content g)) (get_member (name g) new)) (λ g. get_member (name g) (filled new fs) ≡ cond (written g) (Some (content g)) (get_member (name g) old)) fs
              (λ g other is. is ∙ ap (cond (written g) (Some (content g))) (get_member-put_other (name g) (name f) (content f) old (λ e. other (sym e))))
              apart.0 (all-found new fs apart.1),
        )
        | false ↦ (other-kept (name f) old fs apart.0, all-found old fs apart.1)
      ]

  -- the entries are those of the features that are written
  entries-of : (m : Metamodel) (ms : Members) (fs : List FeatureNo) → AllByRecursion (λ f. content_at m ms f ≡ cond (written f) (Some (content f)) None) fs
      → filter_map (entry_at m ms) fs ≡ map (λ f. new_entry f (content f)) (filter written fs)
  entries-of m ms [] all = refl
  entries-of m ms (f ∷ fs) all =
      ap (λ (o : Option Data). cons_option (option_map (new_entry f) o) (filter_map (entry_at m ms) fs)) all.0
      ∙ elim (written f) as (λ b. cons_option (option_map (new_entry f) (cond b (Some (content f)) None)) (filter_map (entry_at m ms) fs) ≡ map (λ g. new_entry g (content g)) (cond b (f ∷ filter written fs) (filter written fs))) [
        | true ↦ ap (λ (es : List Entry). new_entry f (content f) ∷ es) (entries-of m ms fs all.1)
        | false ↦ entries-of m ms fs all.1
      ]

-- nothing is written under a container reference
no-container : (set container : Bool) (o : Option Data) (d : Data) → o ≡ cond (set && not container) (Some d) None → (if container then None else o) ≡ cond (set && not container) (Some d) None
no-container true true o d is = refl
no-container false true o d is = refl
no-container set false o d is = is

-- if the features of an object have different names, their values are read from its members
pub entries-read : (m : Metamodel) (content : FeatureNo → Data) (set : FeatureNo → Bool) (fs : List FeatureNo) → NamesAreApart (lookups.feature_name m) fs
    → filter_map (entry_at m (members_with no_members (map (λ f. (lookups.feature_name m f, content f)) (filter (λ f. set f && not (lookups.is_container m f)) fs)))) fs
    ≡ map (λ f. new_entry f (content f)) (filter (λ f. set f && not (lookups.is_container m f)) fs)
entries-read m content set fs apart =
    let name = lookups.feature_name m in
    let written = λ (f : FeatureNo). set f && not (lookups.is_container m f) in
    let ms = members_with no_members (map (λ f. (name f, content f)) (filter written fs)) in
    entries-of name content written m ms fs
    (all-more (λ f. get_member (name f) ms ≡ cond (written f) (Some (content f)) None) (λ f. content_at m ms f ≡ cond (written f) (Some (content f)) None) fs
    (λ f is. no-container (set f) (lookups.is_container m f) (get_member (name f) ms) (content f) is) (all-found name content written no_members fs apart))
