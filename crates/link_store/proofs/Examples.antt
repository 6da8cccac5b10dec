-- The definitions of rows, computed on a library with two persons.
use Rattle.std.proofs.Common.{◌≡◌, ℕ, List, [], ◌∷◌, Option, Some, refl}
use Rattle.mm_types.specs.declared.end.End.{End}
use Rattle.mm_types.specs.declared.numbers.FeatureNo.{FeatureNo}
use Rattle.mm_types.specs.declared.numbers.Node.{Node}
use Rattle.mm_types.specs.declared.numbers.Node.TheVariants as node
use Rattle.mm_types.specs.declared.value.Value.TheVariants as value
use Rattle.links.specs.declared.link.Link.{Link}
use Rattle.links.specs.Links.{joined_link}
use Rattle.link_store.specs.Rows.{places_in}

abbrev object : ℕ → Node
object n = node.Object (record { 0 = n })

abbrev at_end : ℕ → ℕ → End
at_end n f = record { node = object n; feature = record { 0 = f } }

abbrev staff : FeatureNo
staff = record { 0 = 1 }

-- library 0 contains persons 1 and 2 by its feature 1, the opposite of feature 0
abbrev library : List Link
library = joined_link (at_end 0 1) 1 (at_end 2 0) 0 (Some staff) ∷ joined_link (at_end 0 1) 0 (at_end 1 0) 0 (Some staff) ∷ []

places_of_library : places_in library (at_end 1 0 ∷ at_end 2 0 ∷ at_end 3 0 ∷ []) (value.Object (record { 0 = 0 })) ≡ record { feature = record { 0 = 0 }; node = object 1; position = 0 } ∷ record { feature = record { 0 = 0 }; node = object 2; position = 0 } ∷ []
places_of_library = refl
