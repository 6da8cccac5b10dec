use Rattle.std.proofs.Common.{◌∙◌, sym, subst, take, get_or}
use Rattle.std.proofs.lemmas.List.{take_all}
use Rattle.std.proofs.lemmas.List.Elements.{All-more, All-weaker, All-same}
use Rattle.mm_values.specs.Room.{HasPlaceFor, HasPlacesIn}
use Rattle.mm_values.proofs.RoomLemmas.{kept_for, made_before, made_for, place_for_same}
use Rattle.mm_values.proofs.values.Values.make_places.Goals as goal

-- the list has its capacity
pub loop-edit-preserved-then-is_insert_in : goal.loop-edit-preserved-then-is_insert_in
loop-edit-preserved-then-is_insert_in c =
    let v = c.loop-edit.self.objects in
    let edits = c.args.edits.now in
    let plan = c.counted-plan.result.now in
    let has : HasPlaceFor v plan c.edit-item.result = made_before v plan c.loop-edit.made c.edit-item.result (sym c.is_insert_in.ensures ∙ c.if-is_insert_in.true) c.loop-edit.invariant.4 in
    let here : HasPlaceFor v plan (get_or edits c.loop-edit.edit-index c.edit-item.result) = subst (HasPlaceFor v plan) c.edit-item.is has in
    (c.loop-edit.invariant.0, c.loop-edit.invariant.1, c.loop-edit.invariant.2, All-more (HasPlaceFor v plan) edits c.loop-edit.edit-index c.edit-item.result c.loop-edit-test.true c.loop-edit.invariant.3 here, c.loop-edit.invariant.4)

-- the capacity is reserved
pub loop-edit-preserved : goal.loop-edit-preserved
loop-edit-preserved c =
    let v = c.loop-edit.self.objects in
    let w = c.make_place_for.new.self.objects in
    let edits = c.args.edits.now in
    let plan = c.counted-plan.result.now in
    let before = All-weaker (HasPlaceFor v plan) (HasPlaceFor w plan) (kept_for v w plan c.make_place_for.ensures.kept) (take c.loop-edit.edit-index edits) c.loop-edit.invariant.3 in
    let has : HasPlaceFor w plan c.edit-item.result = c.in_ok-make_place_for.ensures.ok in
    let here : HasPlaceFor w plan (get_or edits c.loop-edit.edit-index c.edit-item.result) = subst (HasPlaceFor w plan) c.edit-item.is has in
    let made : HasPlacesIn w plan c.inserted_in-made.result = subst (HasPlacesIn w plan) (sym c.inserted_in-made.ensures) (made_for w plan c.edit-item.result has) in
    (c.make_place_for.ensures.unchanged ∙ c.loop-edit.invariant.0, c.make_place_for.ensures.next ∙ c.loop-edit.invariant.1, c.make_place_for.ensures.kept.slots ∙ c.loop-edit.invariant.2, All-more (HasPlaceFor w plan) edits c.loop-edit.edit-index c.edit-item.result c.loop-edit-test.true before here, made)

pub returns-clause-ok : goal.returns-clause-ok
returns-clause-ok c =
    let v = c.loop-edit.self.objects in
    let edits = c.args.edits.now in
    let plan = c.counted-plan.result.now in
    let all = All-same (HasPlaceFor v plan) edits _ (sym (take_all c.loop-edit.edit-index edits c.loop-edit-test.false)) c.loop-edit.invariant.3 in
    All-weaker (HasPlaceFor v plan) (HasPlaceFor v edits) (place_for_same v plan edits c.counted-plan.ensures) edits all
