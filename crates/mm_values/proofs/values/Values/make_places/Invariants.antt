use Rattle.std.proofs.Common.{◌≡◌, length, take}
use Rattle.std.specs.Prelude.{All}
use Rattle.mm_values.specs.Room.{values_of, HasPlaceFor, HasPlacesIn}
use Rattle.mm_values.proofs.values.Values.make_places.Given as goal

abbrev pub invariant-loop-edit : goal.invariant-loop-edit
invariant-loop-edit l =
    (values_of l.self ≡ values_of l.fn.self) ×
    (l.self.objects.next ≡ l.fn.self.objects.next) ×
    (length l.self.objects.lists ≡ length l.fn.self.objects.lists) ×
    All (HasPlaceFor l.self.objects l.plan) (take l.edit-index l.edits) ×
    HasPlacesIn l.self.objects l.plan l.made
