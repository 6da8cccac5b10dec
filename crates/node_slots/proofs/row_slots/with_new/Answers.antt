use Rattle.std.proofs.Common.{[], ◌∷◌, ◌++◌, ◌∙◌, List, ap}
use Rattle.node_slots.specs.declared.slot.Slot.{Slot}
use Rattle.node_slots.proofs.SlotLemmas.{joined, joined_there}
use Rattle.node_slots.proofs.row_slots.with_new.Goals as goal

pub returns-clause-grown : goal.returns-clause-grown
returns-clause-grown c =
    let first = c.push_reserved.ensures.items ∙ ap (λ (ss : List Slot). ss ++ c.replace.result ∷ []) c.in_ok-slots.ensures.items ∙ ap (λ (s : Slot). s ∷ []) c.replace.ensures.value in
    let all = c.push_reserved-2.ensures.items ∙ ap (λ (ss : List Slot). ss ++ c.new-2.result ∷ []) first in
    joined c.args.slot.now c.new-2.result c.push_reserved-2.new.self.items c.new-2.ensures.values c.new-2.ensures.pairing all

pub returns-clause-ok : goal.returns-clause-ok
returns-clause-ok c =
    let first = c.push_reserved.ensures.items ∙ ap (λ (ss : List Slot). ss ++ c.replace.result ∷ []) c.in_ok-slots.ensures.items ∙ ap (λ (s : Slot). s ∷ []) c.replace.ensures.value in
    let all = c.push_reserved-2.ensures.items ∙ ap (λ (ss : List Slot). ss ++ c.new-2.result ∷ []) first in
    joined_there c.args.slot.now c.new-2.result c.push_reserved-2.new.self.items c.args.feature c.new-2.ensures.feature all
