-- Numbers of parts by their keys. The number of a part is the index, in loading order, of the first part that has the same path.
use Rattle.std.specs.Prelude.{ℕ, ◌&&◌, Bool, false, List, [], ◌∷◌, Option, nat_eq, option_and_then, reverse}
use Rattle.std.specs.Map.{lookup}
use Rattle.std.specs.Str.{bytes_eq}
use Rattle.web_uris.specs.Paths.{same_index}
use Rattle.web_uris.specs.declared.path.Path.{Path}
use Rattle.web_uris.specs.declared.path.Step.{Step}
use Rattle.doc_parts.specs.declared.found.PartKey.{PartKey}
use Rattle.doc_parts.specs.declared.found.PartKey.TheVariants.{Root, Under}
use Rattle.doc_parts.specs.declared.found.Numbers.{Numbers}

-- the key of a part: for a root, the root's position; for any other part p, the number of the part directly above p, and the step from that
-- part to p
pub data Key : Type 0 where
  RootKey : ℕ → Key
  UnderKey : ℕ → List ℕ → Option ℕ → Key

abbrev pub key_of : PartKey → Key
key_of (Root i) = RootKey i
key_of (Under n w i) = UnderKey n w.now i

abbrev pub is_at : Key → PartKey → Bool
is_at (RootKey i) (Root j) = nat_eq i j
is_at (RootKey i) (Under k v j) = false
is_at (UnderKey n w i) (Root j) = false
is_at (UnderKey n w i) (Under k v j) = nat_eq n k && (bytes_eq w v.now && same_index i j)

-- the number of the part at a key
abbrev pub number_at : Numbers → Key → Option ℕ
number_at t k = lookup (is_at k) t.numbers.entries

-- the number of the part to which steps lead from the root at position i; none if they lead to no part. `at` gives the number at a key, and
-- the steps are given from the last to the first
abbrev pub way : (Key → Option ℕ) → ℕ → List Step → Option ℕ
way at i [] = at (RootKey i)
way at i (s ∷ ss) = option_and_then (λ n. at (UnderKey n s.name s.index)) (way at i ss)

abbrev pub way_of : (Key → Option ℕ) → Path → Option ℕ
way_of at p = way at p.root (reverse p.steps)

-- the number of the part to which steps lead from the part with the number o; none if they lead to no part, or if o is none. `at` gives the
-- number at a key, and the first step comes first
abbrev pub descend : (Key → Option ℕ) → Option ℕ → List Step → Option ℕ
descend at o [] = o
descend at o (s ∷ ss) = descend at (option_and_then (λ n. at (UnderKey n s.name s.index)) o) ss
