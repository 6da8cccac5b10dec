-- A list of URIs.
use Rattle.std.specs.Prelude.{ℕ, List}

-- the URIs in the order of their resources, and how many more can be added without taking memory
pub record UriRow : Type 0 where
  pub uris : List (List ℕ)
  pub room : ℕ
