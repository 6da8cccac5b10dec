-- No other literal of its enumeration has the name of a literal, so the name leads back to the literal.
use Rattle.std.proofs.Common.{◌≡◌, ℕ, zero, suc, ◌++◌, ◌||◌, Bool, true, false, cond, List, [], ◌∷◌, nat_lt, position, slice_get, length, Option, Some, None, option_and_then, option_map, unwrap_or, take, refl, sym, ap, ◌∙◌, ltb-true}
use Rattle.std.specs.Option.{option_map_or}
use Rattle.std.specs.Str.{bytes_eq}
use Rattle.std.proofs.lemmas.Bool.{false_from_ne_true, false≢true, or_parts, or_right, true≢false}
use Rattle.std.proofs.lemmas.List.Folds.{list_any-append}
use Rattle.std.proofs.lemmas.Option.{none-some, same_Some, slice_get-get_or}
use Rattle.std.proofs.lemmas.Slice.Eq.{bytes_eq-Decides}
use Rattle.mm_types.specs.Lookups as lookups
use Rattle.mm_types.specs.Names.{is_among, repeats}
use Rattle.mm_types.specs.OfDocument.{IsOfDocument}
use Rattle.mm_types.specs.Raw.{RawMetamodel}
use Rattle.mm_types.specs.Resolved.{Metamodel, resolved_metamodel}
use Rattle.mm_types.specs.WellFormed.{enum_names, reserved_names}
use Rattle.mm_types.specs.declared.class.Enumeration.{Enumeration}
use Rattle.mm_types.specs.declared.meta_fault.Condition.TheVariants.{DuplicateName}
use Rattle.mm_types.specs.declared.meta_fault.Place.TheVariants as place
use Rattle.doc_parts.proofs.WayLemmas.{position_cons}

---------------------------------------------------------------- names that repeat none

-- none of the names is among the names seen before
not-seen : (seen names : List (List ℕ)) (i : ℕ) (w : List ℕ) → repeats seen names ≡ false → slice_get names i ≡ Some w → is_among seen w ≡ false
not-seen seen [] i w once at = absurd (none-some w at)
not-seen seen (n ∷ ns) zero w once at = ap (is_among seen) (sym (same_Some n w at)) ∙ (or_parts (is_among seen n) (repeats (seen ++ n ∷ []) ns) once).0
not-seen seen (n ∷ ns) (suc i) w once at =
    let later = not-seen (seen ++ n ∷ []) ns i w (or_parts (is_among seen n) (repeats (seen ++ n ∷ []) ns) once).1 at in
    (or_parts (is_among seen w) (is_among (n ∷ []) w) (sym (list_any-append (bytes_eq w) seen (n ∷ [])) ∙ later)).0

-- none of the names is the last name that was seen
not-last : (seen : List (List ℕ)) (n w : List ℕ) → is_among (seen ++ n ∷ []) w ≡ false → bytes_eq n w ≡ false
not-last seen n w none = false_from_ne_true (bytes_eq n w) (λ same.
    let here = (bytes_eq-Decides w n).1 (sym ((bytes_eq-Decides n w).0 same)) in
    true≢false (sym (or_right (is_among seen w) (is_among (n ∷ []) w) (ap (λ (b : Bool). b || false) here)) ∙ sym (list_any-append (bytes_eq w) seen (n ∷ [])) ∙ none))

-- so each name is found at its own index
found-at : (seen names : List (List ℕ)) (i : ℕ) (w : List ℕ) → repeats seen names ≡ false → slice_get names i ≡ Some w → position (λ l. bytes_eq l w) names ≡ Some i
found-at seen [] i w once at = absurd (none-some w at)
found-at seen (n ∷ ns) zero w once at =
    position_cons (λ l. bytes_eq l w) n ns ∙ ap (λ (b : Bool). cond b (Some 0) (option_map suc (position (λ l. bytes_eq l w) ns))) ((bytes_eq-Decides n w).1 (same_Some n w at))
found-at seen (n ∷ ns) (suc i) w once at =
    let rest = (or_parts (is_among seen n) (repeats (seen ++ n ∷ []) ns) once).1 in
    let other = not-last seen n w (not-seen (seen ++ n ∷ []) ns i w rest at) in
    let later = found-at (seen ++ n ∷ []) ns i w rest at in
    position_cons (λ l. bytes_eq l w) n ns ∙ (λ j. cond (other j) (Some 0) (option_map suc (later j)))

---------------------------------------------------------------- literals

enums-are : (raw : RawMetamodel) → (resolved_metamodel raw).enums ≡ raw.enums
unfolding resolved_metamodel
enums-are raw = refl

-- no enumeration of an accepted metamodel has a literal twice
literals-once : (m : Metamodel) → IsOfDocument m → (e : ℕ) (en : Enumeration) → slice_get m.enums e ≡ Some en → repeats [] en.literals ≡ false
literals-once m d e en at = false_from_ne_true (repeats [] en.literals) (λ twice.
    let test = λ (x : Enumeration). is_among (reserved_names ++ take e (enum_names d.raw)) x.name || repeats [] x.literals in
    let here : slice_get d.raw.enums e ≡ Some en = ap (λ (es : List Enumeration). slice_get es e) (sym (ap (λ (x : Metamodel). x.enums) d.is ∙ enums-are d.raw)) ∙ at in
    d.well_formed DuplicateName (place.Enum e) (ap (λ (o : Option Enumeration). option_map_or test o false) here ∙ or_right _ _ twice))

-- the name of a literal leads back to it
pub literal-read : (m : Metamodel) → IsOfDocument m → (e i : ℕ) → option_map_or (λ (en : Enumeration). nat_lt i (length en.literals)) (slice_get m.enums e) false ≡ true
    → lookups.literal_by_name m e (unwrap_or (lookups.literal m e i) []) ≡ Some i
literal-read m d e i = by (slice_get m.enums e) refl
  where
    by : (o : Option Enumeration) → slice_get m.enums e ≡ o → option_map_or (λ (en : Enumeration). nat_lt i (length en.literals)) o false ≡ true
        → option_and_then (λ (en : Enumeration). position (λ l. bytes_eq l (unwrap_or (option_and_then (λ (x : Enumeration). slice_get x.literals i) o) [])) en.literals) o ≡ Some i
    by None at low = absurd (false≢true low)
    by (Some en) at low =
        let there = slice_get-get_or en.literals i [] (ltb-true i (length en.literals) low) in
        found-at [] en.literals i (unwrap_or (slice_get en.literals i) []) (literals-once m d e en at) (there ∙ ap Some (sym (ap (λ (o : Option (List ℕ)). unwrap_or o []) there)))
