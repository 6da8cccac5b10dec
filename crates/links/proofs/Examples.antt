-- The definitions, computed on a library with two persons.
use Rattle.std.proofs.Common.{◌≡◌, ℕ, zero, suc, true, false, not, List, [], ◌∷◌, Option, Some, None, refl}
use Rattle.std.specs.List.{filter}
use Rattle.mm_types.specs.Same.{same_node}
use Rattle.mm_types.specs.declared.end.End.{End}
use Rattle.mm_types.specs.declared.numbers.FeatureNo.{FeatureNo}
use Rattle.mm_types.specs.declared.numbers.Node.{Node}
use Rattle.mm_types.specs.declared.numbers.Node.TheVariants as node
use Rattle.mm_types.specs.declared.value.Value.{Value}
use Rattle.mm_types.specs.declared.value.Value.TheVariants as value
use Rattle.links.specs.declared.link.Link.{Link}
use Rattle.links.specs.declared.plan.Edit.TheVariants as edit
use Rattle.links.specs.Holders.{end_containing, first_holding, node_contained}
use Rattle.links.specs.Laws.{cut_edits, goes, is_named, kept_holder, names}
use Rattle.links.specs.LegalSets.{Kinds}
use Rattle.links.specs.Links.{joined_link, new_proxy, values}
use Rattle.mm_types.specs.Lists.{values_after_move}

abbrev object : ℕ → Node
object n = node.Object (record { 0 = n })

abbrev object_value : ℕ → Value
object_value n = value.Object (record { 0 = n })

abbrev at_end : ℕ → ℕ → End
at_end n f = record { node = object n; feature = record { 0 = f } }

abbrev staff : FeatureNo
staff = record { 0 = 1 }

-- library 0 contains persons 1 and 2 by its feature 1, the opposite of feature 0; and has a proxy under feature 2
abbrev library : List Link
library =
    joined_link (at_end 0 1) 1 (at_end 2 0) 0 (Some staff)
    ∷ joined_link (at_end 0 1) 0 (at_end 1 0) 0 (Some staff)
    ∷ new_proxy (at_end 0 2) 0 (104 ∷ [])
    ∷ []

staff_of_library : values library (at_end 0 1) ≡ object_value 1 ∷ object_value 2 ∷ []
staff_of_library = refl

library_of_person : values library (at_end 2 0) ≡ object_value 0 ∷ []
library_of_person = refl

nothing : values library (at_end 3 0) ≡ []
nothing = refl

proxy : values library (at_end 0 2) ≡ value.Proxy (104 ∷ []) ∷ []
proxy = refl

holder_of_person : first_holding library (object 2) ≡ Some (at_end 0 1)
holder_of_person = refl

holder_of_library : first_holding library (object 0) ≡ None
holder_of_library = refl

contained_by_put : node_contained (at_end 0 1) (record { 0 = 3 }) (Some staff) ≡ Some (object 3)
contained_by_put = refl

contained_by_put_back : node_contained (at_end 3 0) (record { 0 = 0 }) (Some staff) ≡ Some (object 3)
contained_by_put_back = refl

moved_staff : values_after_move (object_value 1 ∷ object_value 2 ∷ object_value 3 ∷ []) 2 0 ≡ object_value 2 ∷ object_value 3 ∷ object_value 1 ∷ []
moved_staff = refl

---------------------------------------------------------------- names and puts

-- feature 0 of a person is the opposite of feature 1 of a library, which is a containment; feature 2 has no opposite
abbrev opposite_of : ℕ → Option FeatureNo
opposite_of zero = Some staff
opposite_of (suc zero) = Some (record { 0 = 0 })
opposite_of (suc (suc f)) = None

abbrev container_of : ℕ → Option FeatureNo
container_of zero = Some staff
container_of (suc zero) = Some staff
container_of (suc (suc f)) = None

abbrev kinds : Kinds
kinds = record { opposite = λ f. opposite_of f.0; container = λ f. container_of f.0 }

-- a link has a name at each of its ends
named_by_other_end : names kinds (at_end 0 1) (object_value 2) (at_end 2 0) (object_value 0) ≡ true
named_by_other_end = refl

named_back : names kinds (at_end 2 0) (object_value 0) (at_end 0 1) (object_value 2) ≡ true
named_back = refl

named_by_itself : names kinds (at_end 0 2) (value.Proxy (104 ∷ [])) (at_end 0 2) (value.Proxy (104 ∷ [])) ≡ true
named_by_itself = refl

other_person : names kinds (at_end 0 1) (object_value 1) (at_end 2 0) (object_value 0) ≡ false
other_person = refl

-- without person 2, the library keeps person 1
still_there : filter (λ w. not (is_named kinds ((at_end 2 0, object_value 0) ∷ []) (at_end 0 1) w)) (values library (at_end 0 1)) ≡ object_value 1 ∷ []
still_there = refl

still_held : kept_holder kinds ((at_end 2 0, object_value 0) ∷ []) (object 1) (Some (at_end 0 1)) ≡ Some (at_end 0 1)
still_held = refl

no_longer_held : kept_holder kinds ((at_end 2 0, object_value 0) ∷ []) (object 2) (Some (at_end 0 1)) ≡ None
no_longer_held = refl

cut_of_proxy : cut_edits ((at_end 0 2, value.Proxy (104 ∷ [])) ∷ []) ≡ edit.Cut (at_end 0 2) (value.Proxy (104 ∷ [])) ∷ []
cut_of_proxy = refl

containing_by_put : end_containing (at_end 0 1) (record { 0 = 3 }) (Some staff) ≡ Some (at_end 0 1)
containing_by_put = refl

containing_by_put_back : end_containing (at_end 3 0) (record { 0 = 0 }) (Some staff) ≡ Some (at_end 0 1)
containing_by_put_back = refl

person_goes : filter (λ v. not (goes (λ n. same_node n (object 2)) v)) (values library (at_end 0 1)) ≡ object_value 1 ∷ []
person_goes = refl
