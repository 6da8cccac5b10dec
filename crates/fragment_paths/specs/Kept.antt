-- Fragments that are remembered: a finite map from the numbers of objects to texts.
use Rattle.std.specs.Prelude.{◌≡◌, ◌⊎◌, ℕ, ◌&&◌, Bool, not, List, nat_le, if◌then◌else◌}
use Rattle.std.specs.FinMap as map
use Rattle.std.specs.Ordering.{nat_cmp}
use Rattle.mm_types.specs.declared.numbers.ObjectNo.{ObjectNo}

abbrev pub Kept : Type 0
Kept = map.FinMap nat_cmp (List ℕ)

abbrev pub kept_map : List (ℕ × List ℕ) → Kept
kept_map = map.from_entries

-- whether the map is full, and has no text of the object
abbrev pub is_full_for : Kept → ObjectNo → Bool
is_full_for m o = nat_le 1024 (map.len m) && not (map.contains_key m o.0)

-- the map, prepared for a text of the object: if the map is full and has no text of the object, all texts are dropped
abbrev pub with_room : Kept → ObjectNo → Kept
with_room m o = if is_full_for m o then map.empty else m

-- the map n after a text t was to be kept for an object: n has this text, or memory was refused and the map was only prepared for the text
-- (`with_room`)
abbrev pub MayKeep : Kept → ObjectNo → List ℕ → Kept → Type 0
MayKeep m o t n = (n ≡ map.insert (with_room m o) o.0 t) ⊎ (n ≡ with_room m o)
