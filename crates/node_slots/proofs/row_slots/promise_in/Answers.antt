use Rattle.std.proofs.Common.{◌∙◌, ap, arith}
use Rattle.std.proofs.lemmas.Result.{on_ok_weaker}
use Rattle.node_slots.specs.Slots.{places_of}
use Rattle.node_slots.proofs.SlotLemmas.{first, grown, missing, mixed_now, places_now, was}
use Rattle.node_slots.proofs.row_slots.promise_in.Goals as goal

pub unreachable-requires : goal.unreachable-requires
unreachable-requires c = c.requires (missing c.args.slots.now.items c.deref.result.now c.args.feature c.slot_index.result c.deref.ensures.value c.slot_index.ensures c.in-None.is)

pub returns-clause-grown : goal.returns-clause-grown
returns-clause-grown c =
    let ss = c.args.slots.now.items in
    let s = c.index_mut.result.now in
    let at = first ss c.deref.result.now c.args.feature c.slot_index.result c.in-Some.index s c.deref.ensures.value c.slot_index.ensures c.in-Some.is in
    grown ss c.args.feature c.in-Some.index s c.promise.new.self at c.index_mut.ensures.value c.promise.ensures.feature c.promise.ensures.values c.promise.ensures.pairing c.promise.ensures.places c.promise.ensures.mixed

pub returns-clause-ok : goal.returns-clause-ok
returns-clause-ok c =
    let ss = c.args.slots.now.items in
    let s = c.index_mut.result.now in
    let at = first ss c.deref.result.now c.args.feature c.slot_index.result c.in-Some.index s c.deref.ensures.value c.slot_index.ensures c.in-Some.is in
    let old = ap places_of (was ss c.args.feature c.in-Some.index s s at c.index_mut.ensures.value) in
    let here = places_now ss c.args.feature c.in-Some.index s c.promise.new.self at c.index_mut.ensures.value c.promise.ensures.feature in
    on_ok_weaker c.promise.result (λ h. omega (arith, h, here, old)) c.promise.ensures.ok

pub returns-clause-takes : goal.returns-clause-takes
returns-clause-takes c =
    let ss = c.args.slots.now.items in
    let s = c.index_mut.result.now in
    let at = first ss c.deref.result.now c.args.feature c.slot_index.result c.in-Some.index s c.deref.ensures.value c.slot_index.ensures c.in-Some.is in
    let here = mixed_now ss c.args.feature c.in-Some.index s c.promise.new.self at c.index_mut.ensures.value c.promise.ensures.feature in
    on_ok_weaker c.promise.result (λ h q. here ∙ h q) c.promise.ensures.takes
