-- Fragments as texts: `/`, the root's segment, and a step `/@NAME` or `/@NAME.INDEX` for each object below the root, down to the addressed
-- object (EMF: the default fragment paths of Resource.getURIFragment).
use Rattle.std.specs.Prelude.{◌≡◌, ◌<◌, ◌⊎◌, IfSome, ℕ, ◌&&◌, ◌==◌, ◌++◌, Bool, true, false, List, [], ◌∷◌, flat_map, length, nat_eq, nat_le, Option, Some, None, option_and_then, option_map, decimal, if◌then◌else◌}
use Rattle.std.specs.List.{slice_split}
use Rattle.std.specs.Str.{bytes_eq}
use Rattle.std.specs.Str.Parse.{digits_value}
use Rattle.mm_types.specs.Integers.{is_decimal}
use Rattle.mm_types.specs.Names.{is_name}
use Rattle.web_uris.specs.declared.path.Path.{Path}
use Rattle.web_uris.specs.declared.path.Step.{Step}

abbrev pub new_step : List ℕ → Option ℕ → Step
new_step name index = record { name = name; index = index }

abbrev pub new_path : ℕ → List Step → Path
new_path root steps = record { root = root; steps = steps }

-- a path with one more step
abbrev pub with_step : Path → Step → Path
with_step p s = record p { steps = p.steps ++ s ∷ [] }

---------------------------------------------------------------- from paths to texts

abbrev pub index_text : Option ℕ → List ℕ
index_text None = []
index_text (Some i) = 46 ∷ decimal i

-- the text of a step, such as `/@books.0` or `/@cover`
abbrev pub step_text : Step → List ℕ
step_text s = 47 ∷ 64 ∷ (s.name ++ index_text s.index)

-- the text of a path; the root's segment is empty if `empty` is true, and is the index of the root otherwise
abbrev pub path_text : Bool → Path → List ℕ
path_text empty p = 47 ∷ ((if empty then [] else decimal p.root) ++ flat_map step_text p.steps)

---------------------------------------------------------------- from texts to paths

abbrev pub is_slash : ℕ → Bool
is_slash c = c == 47

abbrev pub is_dot : ℕ → Bool
is_dot c = c == 46

-- the index that a text writes as `0`, or as a digit 1 to 9 and at most six further digits; none for any other text
abbrev pub index_of : List ℕ → Option ℕ
index_of w = if is_decimal w && nat_le (length w) 7 then Some (digits_value 10 w) else None

-- the index of the root that a segment names: 0 for an empty segment, none for a segment that is neither empty nor an index
abbrev pub root_of : List ℕ → Option ℕ
root_of [] = Some 0
root_of (c ∷ cs) = index_of (c ∷ cs)

-- the step whose text after `@` has these parts between its dots: a name, or a name and an index; none for any other parts
abbrev pub step_of_parts : List (List ℕ) → Option Step
step_of_parts (name ∷ []) = if is_name name then Some (new_step name None) else None
step_of_parts (name ∷ digits ∷ []) = if is_name name then option_map (λ i. new_step name (Some i)) (index_of digits) else None
step_of_parts _ = None

-- the step that a segment writes as `@` and a name, or as `@`, a name, a dot and an index; none for any other segment
abbrev pub step_of : List ℕ → Option Step
step_of [] = None
step_of (c ∷ cs) = if c == 64 then step_of_parts (slice_split is_dot cs) else None

abbrev pub steps_of : List (List ℕ) → Option (List Step)
steps_of [] = Some []
steps_of (w ∷ ws) = option_and_then (λ s. option_map (λ ss. s ∷ ss) (steps_of ws)) (step_of w)

-- the path that the segments of a text write: an empty segment before the first `/`, the root's segment, and the steps; none if the text is
-- no fragment
abbrev pub path_of_segments : List (List ℕ) → Option Path
path_of_segments ([] ∷ root ∷ steps) = option_and_then (λ i. option_map (new_path i) (steps_of steps)) (root_of root)
path_of_segments _ = None

-- the segments into which slashes separate an optional text; no segments if there is no text
abbrev pub segments : Option (List ℕ) → List (List ℕ)
segments None = []
segments (Some text) = slice_split is_slash text

-- the path of a text; none if the text is no fragment
abbrev pub parse : List ℕ → Option Path
parse text = path_of_segments (slice_split is_slash text)

---------------------------------------------------------------- when two paths are the same

abbrev pub same_index : Option ℕ → Option ℕ → Bool
same_index None None = true
same_index (Some i) (Some j) = nat_eq i j
same_index _ _ = false

abbrev pub same_steps : List Step → List Step → Bool
same_steps [] [] = true
same_steps (s ∷ ss) (t ∷ ts) = bytes_eq s.name t.name && (same_index s.index t.index && same_steps ss ts)
same_steps _ _ = false

abbrev pub same_path : Path → Path → Bool
same_path p q = nat_eq p.root q.root && same_steps p.steps q.steps

---------------------------------------------------------------- what can be written

-- the step s can be written: its name has the form of a name (`is_name`), and its index, if it has one, has at most seven digits
abbrev pub IsWritten : Step → Type 0
IsWritten s = (is_name s.name ≡ true) × IfSome s.index (λ i. i < 10000000)

abbrev pub AreWritten : List Step → Type 0
AreWritten [] = Unit {0}
AreWritten (s ∷ ss) = IsWritten s × AreWritten ss

pub record IsWritable (p : Path) : Type 0 where
  pub root : p.root < 10000000
  pub steps : AreWritten p.steps

-- the path p can be written, and t is a text of p; the root's segment in t is the root's index, and may also be empty if this index is 0
abbrev pub Writes : List ℕ → Path → Type 0
Writes t p = IsWritable p × ((t ≡ path_text false p) ⊎ ((t ≡ path_text true p) × (p.root ≡ 0)))
