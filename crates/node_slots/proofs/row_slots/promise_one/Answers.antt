use Rattle.std.proofs.Common.{[], ◌∷◌, ◌∙◌, ap, arith, refl, sym}
use Rattle.std.proofs.lemmas.Result.{on_ok_weaker}
use Rattle.node_slots.specs.Slots.{places_of}
use Rattle.node_slots.proofs.SlotLemmas.{alone, grown, mixed_now, other, places_now, was}
use Rattle.node_slots.proofs.row_slots.promise_one.Goals as goal

pub unreachable-requires : goal.unreachable-requires
unreachable-requires c = c.requires (other c.args.slot.now c.args.feature (sym c.is_of.ensures ∙ c.if-is_of.false))

pub returns-clause-grown : goal.returns-clause-grown
returns-clause-grown c =
    let s = c.args.slot.now in
    let at = alone s c.args.feature (sym c.is_of.ensures ∙ c.if-is_of.true) in
    grown (s ∷ []) c.args.feature 0 s c.promise.new.self at refl c.promise.ensures.feature c.promise.ensures.values c.promise.ensures.pairing c.promise.ensures.places c.promise.ensures.mixed

pub returns-clause-ok : goal.returns-clause-ok
returns-clause-ok c =
    let s = c.args.slot.now in
    let at = alone s c.args.feature (sym c.is_of.ensures ∙ c.if-is_of.true) in
    let old = ap places_of (was (s ∷ []) c.args.feature 0 s s at refl) in
    let here = places_now (s ∷ []) c.args.feature 0 s c.promise.new.self at refl c.promise.ensures.feature in
    on_ok_weaker c.promise.result (λ h. omega (arith, h, here, old)) c.promise.ensures.ok

pub returns-clause-takes : goal.returns-clause-takes
returns-clause-takes c =
    let s = c.args.slot.now in
    let at = alone s c.args.feature (sym c.is_of.ensures ∙ c.if-is_of.true) in
    let here = mixed_now (s ∷ []) c.args.feature 0 s c.promise.new.self at refl c.promise.ensures.feature in
    on_ok_weaker c.promise.result (λ h q. here ∙ h q) c.promise.ensures.takes
