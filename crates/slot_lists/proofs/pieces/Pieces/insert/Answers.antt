use Rattle.std.proofs.Common.{arith, ap, ◌∙◌, ◌≤◌, ◌+◌, ◌*◌, length}
use Rattle.std.specs.List.{insert}
use Rattle.slot_lists.proofs.LayoutLemmas.{len-view, spare-view, has_place, put_as}
use Rattle.slot_lists.proofs.pieces.Pieces.insert.Goals as goal

pub move_hole-requires-clause-to : goal.move_hole-requires-clause-to
move_hole-requires-clause-to g c =
    omega (arith, len-view _ _ _ c.self.invariant c.self.view_is)

pub insert-requires-clause-in_range : goal.insert-requires-clause-in_range
insert-requires-clause-in_range g c =
    let len = len-view _ _ _ c.self.invariant c.self.view_is in
    let room : c.self.inside.len + 1 ≤ 1024 * length c.move_hole.new.pieces.items = omega (arith, spare-view _ _ _ c.self.view_is, c.move_hole.ensures.count) in
    let place = has_place (c.self.inside.len + 1) _ _ _ c.move_hole.ensures.hole room (omega (arith, len)) c.index_mut.ensures.value in
    place.place

pub returns-clause-items : goal.returns-clause-items
returns-clause-items g c =
    let len = len-view _ _ _ c.self.invariant c.self.view_is in
    let room : c.self.inside.len + 1 ≤ 1024 * length c.move_hole.new.pieces.items = omega (arith, spare-view _ _ _ c.self.view_is, c.move_hole.ensures.count) in
    let put = put_as (c.self.inside.len + 1) _ _ _ _ _ c.move_hole.ensures.hole room (omega (arith, len)) c.index_mut.ensures.value c.insert.ensures in
    put.values ∙ ap (λ q. insert q c.args.index c.args.value) (c.move_hole.ensures.values ∙ ap (λ w. w.items) c.self.view_is)
