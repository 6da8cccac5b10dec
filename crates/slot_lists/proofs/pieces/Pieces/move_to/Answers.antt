use Rattle.std.proofs.Common.{arith, ap, ◌∙◌, ◌<◌, ◌≤◌, ◌*◌, length, unwrap_or}
use Rattle.std.specs.Option.{option_map}
use Rattle.std.specs.List.{insert, remove}
use Rattle.slot_lists.proofs.LayoutLemmas.{len-view, in_piece, long_at, read_at, taken_as, has_place, put_as}
use Rattle.slot_lists.proofs.pieces.Pieces.move_to.Goals as goal

pub index_mut-requires : goal.index_mut-requires
index_mut-requires g c =
    let len = len-view _ _ _ c.self.invariant c.self.view_is in
    let lt : c.args.from < c.self.inside.len = omega (arith, len) in
    let at = in_piece _ _ _ c.self.invariant.filled c.self.invariant.in_range lt in
    omega (arith, at.piece, c.self.inside.pieces.ok.0)

pub remove-value-requires : goal.remove-value-requires
remove-value-requires g c =
    let len = len-view _ _ _ c.self.invariant c.self.view_is in
    let lt : c.args.from < c.self.inside.len = omega (arith, len) in
    long_at _ _ _ _ c.self.invariant lt c.index_mut.ensures.value

pub move_hole-requires-clause-from : goal.move_hole-requires-clause-from
move_hole-requires-clause-from g c =
    let len = len-view _ _ _ c.self.invariant c.self.view_is in
    let lt : c.args.from < c.self.inside.len = omega (arith, len) in
    let gone = taken_as _ _ _ _ _ c.self.invariant lt c.index_mut.ensures.value c.remove-value.ensures.items in
    gone.hole

pub move_hole-requires-clause-to : goal.move_hole-requires-clause-to
move_hole-requires-clause-to g c = omega (arith, len-view _ _ _ c.self.invariant c.self.view_is)

pub insert-requires-clause-in_range : goal.insert-requires-clause-in_range
insert-requires-clause-in_range g c =
    let len = len-view _ _ _ c.self.invariant c.self.view_is in
    let lt : c.args.from < c.self.inside.len = omega (arith, len) in
    let gone = taken_as _ _ _ _ _ c.self.invariant lt c.index_mut.ensures.value c.remove-value.ensures.items in
    let room : c.self.inside.len ≤ 1024 * length c.move_hole.new.pieces.items = omega (arith, c.self.invariant.in_range, gone.count, c.move_hole.ensures.count) in
    let place = has_place _ _ _ _ c.move_hole.ensures.hole room (omega (arith, len)) c.index_mut-2.ensures.value in
    place.place

pub invariant_of-self : goal.invariant_of-self
invariant_of-self g c =
    let len = len-view _ _ _ c.self.invariant c.self.view_is in
    let lt : c.args.from < c.self.inside.len = omega (arith, len) in
    let gone = taken_as _ _ _ _ _ c.self.invariant lt c.index_mut.ensures.value c.remove-value.ensures.items in
    let room : c.self.inside.len ≤ 1024 * length c.move_hole.new.pieces.items = omega (arith, c.self.invariant.in_range, gone.count, c.move_hole.ensures.count) in
    let put = put_as _ _ _ _ _ _ c.move_hole.ensures.hole room (omega (arith, len)) c.index_mut-2.ensures.value c.insert.ensures in
    record {
      filled = put.filled;
      in_range = omega (arith, put.count, room);
      countable = omega (arith, put.count, gone.count, c.move_hole.ensures.count, c.self.invariant.countable);
    }

pub returns-clause-items : goal.returns-clause-items
returns-clause-items g c =
    let len = len-view _ _ _ c.self.invariant c.self.view_is in
    let lt : c.args.from < c.self.inside.len = omega (arith, len) in
    let gone = taken_as _ _ _ _ _ c.self.invariant lt c.index_mut.ensures.value c.remove-value.ensures.items in
    let room : c.self.inside.len ≤ 1024 * length c.move_hole.new.pieces.items = omega (arith, c.self.invariant.in_range, gone.count, c.move_hole.ensures.count) in
    let put = put_as _ _ _ _ _ _ c.move_hole.ensures.hole room (omega (arith, len)) c.index_mut-2.ensures.value c.insert.ensures in
    let read = c.remove-value.ensures.value ∙ read_at _ _ _ _ _ c.self.invariant c.self.view_is lt c.index_mut.ensures.value in
    put.values
    ∙ ap (λ q. insert q c.args.to c.remove-value.result) (c.move_hole.ensures.values ∙ gone.values ∙ ap (λ w. remove w.items c.args.from) c.self.view_is)
    ∙ ap (λ o. unwrap_or (option_map (insert (remove c.args.self.now.items c.args.from) c.args.to) o) c.args.self.now.items) read
