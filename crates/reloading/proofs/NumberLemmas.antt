-- The numbers that the objects of a document get.
use Rattle.std.proofs.Common.{◌≡◌, ◌∙◌, ℕ, List, [], Option, Some, unwrap_or, sym, ap}
use Rattle.std.specs.Option.{option_map_or}
use Rattle.mm_types.specs.declared.numbers.ObjectNo.{ObjectNo}
use Rattle.mm_types.specs.declared.numbers.ResourceNo.{ResourceNo}
use Rattle.mm_types.specs.declared.value.Value.TheVariants as value
use Rattle.links.specs.Holders.{above}
use Rattle.models.specs.Legal.{IsLegal}
use Rattle.models.specs.Model.{Model, reading}
use Rattle.containment.specs.Above.{resource_of}
use Rattle.fragment_paths.specs.Fragments.{address}
use Rattle.doc_writer.specs.Written.{objects_in}
use Rattle.doc_loader.specs.Loading.{loaded_number, loaded_value}
use Rattle.round_trip.specs.Copied.{renamed_value}
use Rattle.round_trip.proofs.InsideLemmas.{inside-written}
use Rattle.round_trip.proofs.ValuesListLemmas.{IsAt, found-among, object-at}
use Rattle.reloading.specs.Images.{image, value_image}

module _ (s : Model) (legal : IsLegal s) (k : ResourceNo) where
  abbrev os : List ObjectNo
  os = objects_in (reading s) k

  -- an object of the resource has a number in its document
  pub place-in : (o : ObjectNo) → resource_of (above s.links) o ≡ Some k → IsAt os o
  place-in o inside = object-at os o (found-among os o (inside-written s legal k o inside))

  pub renamed_value-inside : (o : ObjectNo) (at : IsAt os o) → renamed_value (reading s) os (value.Object o) ≡ value.Object (record { 0 = at.number })
  renamed_value-inside o at = ap (λ (x : Option ℕ). option_map_or (λ i. value.Object (record { 0 = i })) x (value.Proxy (unwrap_or (address (reading s) o) []))) at.found

  module _ (n : ℕ) where
    pub image-is : (o : ObjectNo) (at : IsAt os o) → image (reading s) k n o ≡ loaded_number n (record { 0 = at.number })
    image-is o at = ap (λ (x : Option ℕ). loaded_number n (record { 0 = unwrap_or x 0 })) at.found

    -- as a value the object becomes its name
    pub value-inside : (o : ObjectNo) → resource_of (above s.links) o ≡ Some k → value_image (reading s) k n (value.Object o) ≡ value.Object (image (reading s) k n o)
    value-inside o inside = let at = place-in o inside in ap (loaded_value n) (renamed_value-inside o at) ∙ ap value.Object (sym (image-is o at))
