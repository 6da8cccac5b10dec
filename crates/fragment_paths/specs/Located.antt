-- The resource and the path of an object, as one walk up from the object finds them.
use Rattle.std.specs.Prelude.{ℕ, List, reverse, slice_get, Option, option_and_then, option_map}
use Rattle.mm_types.specs.declared.numbers.ObjectNo.{ObjectNo}
use Rattle.mm_types.specs.declared.end.End.{End}
use Rattle.models.specs.Reading.{Reading}
use Rattle.containment.specs.Above.{resource_of}
use Rattle.web_uris.specs.Addresses.{address_text}
use Rattle.web_uris.specs.Paths.{new_path, path_text}
use Rattle.web_uris.specs.declared.path.Path.{Path}
use Rattle.web_uris.specs.declared.path.Step.{Step}
use Rattle.fragment_paths.specs.Fragments.{has_one_root, path_of, position_in}
use Rattle.fragment_paths.specs.declared.paths.Located.{Located}

-- the path that begins at the root o and then takes the given steps, which are given in reverse order; e is the end that contains o
abbrev pub path_by : Reading → End → ObjectNo → List Step → Path
path_by r e o steps = new_path (position_in r e o) (reverse steps)

abbrev pub location_of : Reading → ObjectNo → Option Located
location_of r o = option_and_then (λ k. option_map (λ p. record { resource = k; path = p }) (path_of r o)) (resource_of r.above o)

-- the text of the path of a located object. The text leaves out the position of the root if the resource has one root
abbrev pub located_text : Reading → Located → List ℕ
located_text r x = path_text (has_one_root r x.resource) x.path

-- the address of a located object: its resource's URI, `#`, and the path's text
abbrev pub located_address : Reading → Located → Option (List ℕ)
located_address r x = option_map (λ u. address_text u (located_text r x)) (slice_get r.uris x.resource.0)
