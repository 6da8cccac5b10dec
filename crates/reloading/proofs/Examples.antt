-- Folders in two resources: a folder contains another one, which likes the first and the folder of the other resource. If the first
-- resource is loaded alone, a proxy stands for the other folder.
use Rattle.std.specs.Prelude.{ℕ, [], ◌∷◌, codes, map, Some}
use Rattle.std.proofs.Common.{◌≡◌, refl}
use Rattle.std.specs.Fmt.{digits}
use Rattle.mm_types.specs.declared.numbers.ResourceNo.{ResourceNo}
use Rattle.mm_types.specs.declared.value.Value.TheVariants as value
use Rattle.models.specs.Reading.{Reading}
use Rattle.round_trip.proofs.Examples.{end_of, fid, o, two_resources, v, whole}
use Rattle.round_trip.specs.Copied.{copied_document}
use Rattle.proxies.specs.Proxies.{sites}
use Rattle.handshake.specs.declared.change.Change.TheVariants.{Load, NewResource}
use Rattle.reloading.specs.Addressed.{By, Plain, meant_value, named_value}
use Rattle.reloading.specs.Images.{image, value_image}
use Rattle.reloading.specs.Orders.{Fill, Make, changes}
use Rattle.reloading.specs.Proxies.{proxies_len}

abbrev rid : ℕ → ResourceNo
rid k = record { 0 = k }

-- the object of the other resource is still a proxy
abbrev halfway : Reading
halfway = two_resources (v 1 ∷ value.Proxy (codes "http://m.example/b#/") ∷ [])

---------------------------------------------------------------- names

-- a proxy means the object at its address
same-meaning : map (meant_value halfway) (halfway.values (end_of (o 2) 2)) ≡ By (Some (codes "http://m.example/a#/")) ∷ By (Some (codes "http://m.example/b#/")) ∷ []
unfolding digits
same-meaning = refl

meaning-of-objects : map (meant_value whole) (whole.values (end_of (o 2) 2)) ≡ map (meant_value halfway) (halfway.values (end_of (o 2) 2))
unfolding digits
meaning-of-objects = refl

-- the name of a proxy is not that of its object
other-name : map (named_value halfway) (halfway.values (end_of (o 2) 2)) ≡ By (Some (codes "http://m.example/a#/")) ∷ Plain (value.Proxy (codes "http://m.example/b#/")) ∷ []
unfolding digits
other-name = refl

---------------------------------------------------------------- proxies

one-place : sites halfway ≡ record { object = record { 0 = 2 }; feature = fid 2; index = 1 } ∷ []
one-place = refl

none-left : proxies_len whole ≡ 0
none-left = refl

---------------------------------------------------------------- images

-- the first object of the resource gets 10, and the other 11
first-image : image whole (rid 0) 10 (record { 0 = 1 }) ≡ record { 0 = 10 }
first-image = refl

second-image : image whole (rid 0) 10 (record { 0 = 2 }) ≡ record { 0 = 11 }
second-image = refl

values-loaded : map (value_image whole (rid 0) 10) (whole.values (end_of (o 2) 2)) ≡ v 10 ∷ value.Proxy (codes "http://m.example/b#/") ∷ []
unfolding digits
values-loaded = refl

---------------------------------------------------------------- orders

-- the resources get their numbers in the order in which they are made
by-turns : changes whole [] (Make (rid 1) ∷ Make (rid 0) ∷ Fill (rid 0) ∷ Fill (rid 1) ∷ [])
    ≡ NewResource (codes "http://m.example/b") ∷ NewResource (codes "http://m.example/a") ∷ Load (rid 1) (copied_document whole (rid 0)) ∷ Load (rid 0) (copied_document whole (rid 1)) ∷ []
by-turns = refl
